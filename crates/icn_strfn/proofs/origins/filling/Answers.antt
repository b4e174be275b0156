use Rattle.std.proofs.Common.{◌≡◌, ◌∙◌, List, ℕ, ◌<◌, length, sym, ap, subst}
use Rattle.icn_defs.specs.Strings.{filling_text}
use Rattle.icn_strfn.specs.declared.text_arguments.TextArgument.{TextArgument}
use Rattle.icn_strfn.specs.TextArguments.{argument_bytes, default_bytes}
use Rattle.icn_strfn.proofs.MadePieces.{default_fills, default_some}
use Rattle.icn_strfn.proofs.origins.filling.Goals as goal

pub returns-in-Missing-clause-bytes : goal.returns-in-Missing-clause-bytes
returns-in-Missing-clause-bytes c all is =
    let chosen : filling_text (default_bytes c.in-Missing.default) ≡ filling_text (argument_bytes all c.args.fill) =
    ap (λ (fill : TextArgument). filling_text (argument_bytes all fill)) (sym c.in-Missing.is) in
    c.bytes.ensures ∙ (default_fills c.in-Missing.default ∙ chosen)

pub returns-in-Missing-clause-some : goal.returns-in-Missing-clause-some
returns-in-Missing-clause-some c = subst (λ (bytes : List ℕ). 0 < length bytes) (sym c.bytes.ensures) (default_some c.in-Missing.default)
