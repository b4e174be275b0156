use mir.Val.{of_z, to_z}
use Rattle.std.proofs.Common.{◌≡◌, ℤ, FitsSigned, Some, ap, rules, sym, ◌∙◌, subst}
use Rattle.std.proofs.lemmas.Int.{to_z-of_z}
use Rattle.std.specs.Int.{w64}
use Rattle.icn_value.specs.declared.item.Item.TheVariants as Items
use Rattle.icn_value.specs.declared.val.Val.TheVariants as Vals
use Rattle.icn_machine.specs.declared.value_operations.ItemOutcome.TheVariants as Answers
use Rattle.icn_machine.specs.PlainOperations.{integer_result}
use Rattle.icn_machine.specs.ValueOperations.{ComesOnValues}
use Rattle.icn_machine.proofs.ValueOperationSteps.{integer_plain, integers_computed}
use Rattle.icn_machine.proofs.value_operations.computed_outcome.Goals as goal

pub returns-in-Some-clause-row : goal.returns-in-Some-clause-row
returns-in-Some-clause-row c = λ w.
    let first : FitsSigned w64 c.args.m = search rules in
    let second : FitsSigned w64 c.args.n = search rules in
    let result : FitsSigned w64 c.in-Some.r = search rules in
    let is : integer_result c.args.op c.args.m c.args.n ≡ Some c.in-Some.r
    = sym (c.in-Some.ensures ∙ ap (λ (i : ℤ). integer_result c.args.op i (to_z w64 (of_z w64 c.args.n))) (to_z-of_z w64 c.args.m first)
    ∙ ap (λ (i : ℤ). integer_result c.args.op c.args.m i) (to_z-of_z w64 c.args.n second)) in
    subst (λ (i : ℤ). ComesOnValues w c.args.op (Vals.Integer c.args.m) (Vals.Integer c.args.n) (Answers.Gives (Items.Val (Vals.Integer i))))
    (sym (to_z-of_z w64 c.in-Some.r result)) (integers_computed w c.args.op c.args.m c.args.n c.in-Some.r is)

pub returns-in-Some-clause-plain : goal.returns-in-Some-clause-plain
returns-in-Some-clause-plain c = λ w. integer_plain w _
