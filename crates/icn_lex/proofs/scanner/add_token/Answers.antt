use Rattle.std.proofs.Common.{sym, ◌∙◌}
use Rattle.icn_lex.proofs.OutsideLiterals.{at_opening}
use Rattle.icn_lex.proofs.ReadSoFar.{reads_same}
use Rattle.icn_lex.proofs.scanner.add_token.Goals as goal

pub returns-then-is_quote-clause-exact : goal.returns-then-is_quote-clause-exact
returns-then-is_quote-clause-exact c =
    λ later all r. c.rest_of_literal.ensures.exact later all
    (rw c.new.ensures.items (reads_same all c.args.tokens.now.items _ _ (at_opening c.args.line.now c.args.is_first c.args.first c.args.others.now
    c.args.bytes.now later c.requires.begins c.requires.no_space c.requires.no_comment
    (sym c.is_quote.ensures ∙ c.if-is_quote.true)) r))
