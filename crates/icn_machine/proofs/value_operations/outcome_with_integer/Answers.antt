use mir.Val.{of_z, to_z}
use Rattle.std.proofs.Common.{ℤ, FitsSigned, IfSome, ap, rules, sym, ◌∙◌, subst}
use Rattle.std.proofs.lemmas.Int.{to_z-of_z}
use Rattle.std.specs.Int.{w64}
use Rattle.icn_value.specs.declared.val.Val.{Val}
use Rattle.icn_value.specs.declared.val.Val.TheVariants as Vals
use Rattle.icn_machine.specs.ValueOperations.{ComesOnValues}
use Rattle.icn_machine.proofs.value_operations.outcome_with_integer.Goals as goal

pub returns-in-Integer-clause-row : goal.returns-in-Integer-clause-row
returns-in-Integer-clause-row c = λ w.
    let first : FitsSigned w64 c.args.m = search rules in
    let second : FitsSigned w64 c.in-Integer.n = search rules in
    subst (λ (b : Val). IfSome c.outcome_of_integers.result (ComesOnValues w c.args.op (Vals.Integer c.args.m) b))
    (ap (λ (i : ℤ). Vals.Integer i) (to_z-of_z w64 c.in-Integer.n second) ∙ sym c.in-Integer.is)
    (subst (λ (i : ℤ). IfSome c.outcome_of_integers.result
    (ComesOnValues w c.args.op (Vals.Integer i) (Vals.Integer (to_z w64 (of_z w64 c.in-Integer.n))))) (to_z-of_z w64 c.args.m first)
    (c.outcome_of_integers.ensures.row w))
