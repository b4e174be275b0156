use Rattle.std.proofs.Common.{FitsSigned, arith, of_z, refl, rules, to_z}
use Rattle.std.proofs.lemmas.Int.{to_z-of_z}
use Rattle.std.specs.Int.{w64}
use Rattle.icn_ops.proofs.PlaceRows.{element_found, element_held}
use Rattle.icn_ops.proofs.positions.element_position.Goals as goal

pub returns-then-place-size-clause-place : goal.returns-then-place-size-clause-place
returns-then-place-size-clause-place c = λ next setting.
    let fits : FitsSigned w64 c.args.n = search rules in
    element_held c.args.n (to_z w64 (of_z w64 c.args.n)) c.args.size c.args.size next setting _ (to_z-of_z w64 c.args.n fits) refl
    (element_found (to_z w64 (of_z w64 c.args.n)) c.args.size c.in-Some.place next setting c.in-Some.ensures.place (omega arith))
