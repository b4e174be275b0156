use mir.Val.{of_z, to_z}
use Rattle.std.proofs.Common.{◌≡◌, ℤ, FitsSigned, Some, ap, int_cmp, rules, sym, ◌∙◌, subst}
use Rattle.std.proofs.lemmas.Int.{to_z-of_z}
use Rattle.std.specs.Int.{w64}
use Rattle.icn_value.specs.declared.val.Val.TheVariants as Vals
use Rattle.icn_machine.specs.declared.value_operations.ItemOutcome.{ItemOutcome}
use Rattle.icn_machine.specs.PlainOperations.{is_met}
use Rattle.icn_machine.specs.ValueOperations.{ComesOnValues, IsPlain, value_if}
use Rattle.icn_machine.proofs.ValueOperationSteps.{integer_plain, integers_compared, plain_if}
use Rattle.icn_machine.proofs.value_operations.outcome_of_integers.Goals as goal

pub returns-in-Some-clause-row : goal.returns-in-Some-clause-row
returns-in-Some-clause-row c = λ w.
    let first : FitsSigned w64 c.args.m = search rules in
    let second : FitsSigned w64 c.args.n = search rules in
    let is : is_met c.args.op (int_cmp c.args.m c.args.n) ≡ Some c.in-Some.met
    = sym (c.in-Some.ensures ∙ ap (is_met c.args.op) (c.cmp.ensures
    ∙ ap (λ (i : ℤ). int_cmp i (to_z w64 (of_z w64 c.args.n))) (to_z-of_z w64 c.args.m first)
    ∙ ap (λ (i : ℤ). int_cmp c.args.m i) (to_z-of_z w64 c.args.n second))) in
    subst (λ (given : ItemOutcome). ComesOnValues w c.args.op (Vals.Integer c.args.m) (Vals.Integer c.args.n) given) (sym c.value_if.ensures)
    (subst (λ (i : ℤ). ComesOnValues w c.args.op (Vals.Integer c.args.m) (Vals.Integer c.args.n) (value_if c.in-Some.met (Vals.Integer i)))
    (sym (to_z-of_z w64 c.args.n second)) (integers_compared w c.args.op c.args.m c.args.n c.in-Some.met is))

pub returns-in-Some-clause-plain : goal.returns-in-Some-clause-plain
returns-in-Some-clause-plain c = λ w.
    subst (λ (given : ItemOutcome). IsPlain w given) (sym c.value_if.ensures) (plain_if w c.in-Some.met _ (integer_plain w _))
