use Rattle.std.proofs.Common.{FitsSigned, ◌∙◌, ap, rules}
use Rattle.std.proofs.lemmas.Int.{to_z-of_z}
use Rattle.std.specs.Int.{w64}
use Rattle.icn_strfn.specs.Checks.{natural_in}
use Rattle.icn_machine.proofs.ToldSteps.{natural_below}
use Rattle.icn_machine.proofs.told.natural_told.Goals as goal

pub returns : goal.returns
returns g c =
    let n = c.in_ok-n.n in
    let fits : FitsSigned w64 n = search rules in
    natural_below c.args.world.now.globals.items c.args.frames.now.flat c.args.count n c.natural_number.result
    (c.natural_number.ensures ∙ ap natural_in (to_z-of_z w64 n fits)) c.in_ok-n.ensures
