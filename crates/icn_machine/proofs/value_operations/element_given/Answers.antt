use mir.Val.{of_z, to_z}
use Rattle.std.proofs.Common.{ℕ, ℤ, FitsSigned, ap, arith, rules, sym, ◌-◌, ◌∙◌, subst}
use Rattle.std.proofs.lemmas.Int.{to_z-of_z}
use Rattle.std.specs.Int.{w64}
use Rattle.icn_text.specs.declared.op.Op.TheVariants as Ops
use Rattle.icn_value.specs.declared.val.Val.TheVariants as Vals
use Rattle.icn_value.specs.Store.{list_at}
use Rattle.icn_value.specs.Values.{Item}
use Rattle.icn_defs.specs.Elements.{element_item}
use Rattle.icn_defs.specs.Rows.{Gives, gives}
use Rattle.icn_defs.specs.Variables.{element_position}
use Rattle.icn_heap.specs.Heaps.{heap_of}
use Rattle.icn_machine.specs.declared.value_operations.ItemOutcome.TheVariants as Answers
use Rattle.icn_machine.specs.ValueOperations.{ComesOnValues}
use Rattle.icn_machine.proofs.ValueOperationSteps.{element_nowhere, element_past, element_there, list_subscripted}
use Rattle.icn_machine.proofs.value_operations.element_given.Goals as goal

pub returns-then-place-size-clause-row : goal.returns-then-place-size-clause-row
returns-then-place-size-clause-row c =
    let held = list_at (heap_of c.args.world.now.heap) c.args.list in
    let n : ℤ = to_z w64 (of_z w64 c.args.n) in
    let fits : FitsSigned w64 c.args.n = search rules in
    subst (λ (i : ℤ). ComesOnValues c.args.world.now Ops.Subscript (Vals.List c.args.list) (Vals.Integer i) (Answers.Gives c.element_at.result))
    (to_z-of_z w64 c.args.n fits)
    (list_subscripted c.args.world.now c.args.list n (Answers.Gives c.element_at.result)
    (λ s. ap (λ (size : ℕ). element_position n size (λ place. gives (element_item c.args.list held (place - 1))) s) (sym c.list_count-size.ensures.count)
    ∙ element_there n c.list_count-size.result c.in-Some.place (λ place. gives (element_item c.args.list held (place - 1))) s c.in-Some.ensures.place (omega arith)
    ∙ ap (λ (item : Item). Gives item s) (sym c.element_at.ensures.item)))

pub returns-else-place-size-clause-row : goal.returns-else-place-size-clause-row
returns-else-place-size-clause-row c =
    let held = list_at (heap_of c.args.world.now.heap) c.args.list in
    let n : ℤ = to_z w64 (of_z w64 c.args.n) in
    let fits : FitsSigned w64 c.args.n = search rules in
    subst (λ (i : ℤ). ComesOnValues c.args.world.now Ops.Subscript (Vals.List c.args.list) (Vals.Integer i) Answers.Fails)
    (to_z-of_z w64 c.args.n fits)
    (list_subscripted c.args.world.now c.args.list n Answers.Fails
    (λ s. ap (λ (size : ℕ). element_position n size (λ place. gives (element_item c.args.list held (place - 1))) s) (sym c.list_count-size.ensures.count)
    ∙ element_past n c.list_count-size.result c.in-Some.place (λ place. gives (element_item c.args.list held (place - 1))) s c.in-Some.ensures.place (omega arith)))

pub returns-in-None-clause-row : goal.returns-in-None-clause-row
returns-in-None-clause-row c =
    let held = list_at (heap_of c.args.world.now.heap) c.args.list in
    let n : ℤ = to_z w64 (of_z w64 c.args.n) in
    let fits : FitsSigned w64 c.args.n = search rules in
    subst (λ (i : ℤ). ComesOnValues c.args.world.now Ops.Subscript (Vals.List c.args.list) (Vals.Integer i) Answers.Fails)
    (to_z-of_z w64 c.args.n fits)
    (list_subscripted c.args.world.now c.args.list n Answers.Fails
    (λ s. ap (λ (size : ℕ). element_position n size (λ place. gives (element_item c.args.list held (place - 1))) s) (sym c.list_count-size.ensures.count)
    ∙ element_nowhere n c.list_count-size.result (λ place. gives (element_item c.args.list held (place - 1))) s c.in-None.ensures.place))
