use Rattle.std.proofs.Common.{ap, ◌∙◌, rules}
use Rattle.std.specs.Int.{w64}
use Rattle.std.specs.Int.RustNames.{FitsSigned}
use Rattle.std.proofs.lemmas.Int.{to_z-of_z}
use Rattle.icn_link.specs.FirstMentions.{with_integer}
use Rattle.icn_link.proofs.gathered.enter_integer.Goals as goal

pub returns : goal.returns
returns c = let fits : FitsSigned w64 c.args.n = search rules in
    c.in_ok-insert_full.ensures.keys ∙ ap (with_integer c.args.found.now.keys) (to_z-of_z w64 c.args.n fits)
