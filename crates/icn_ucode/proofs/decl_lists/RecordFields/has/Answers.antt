use Rattle.std.proofs.Common.{ℕ, Bool, List, ◌∙◌, ap}
use Rattle.icn_ucode.proofs.decl_lists.RecordFields.has.Goals as goal

pub returns : goal.returns
returns c = c.has.ensures ∙ ap (λ (names : List ℕ → Bool). names c.args.name.now) c.args.self.now.known
