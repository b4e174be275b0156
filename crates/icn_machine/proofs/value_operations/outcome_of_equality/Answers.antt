use Rattle.std.proofs.Common.{◌≡◌, Some, sym, ap, ◌∙◌, subst}
use Rattle.icn_defs.specs.Conversions.{same}
use Rattle.icn_heap.specs.Extents.{value_in}
use Rattle.icn_heap.specs.Heaps.{extent_of}
use Rattle.icn_machine.specs.declared.value_operations.ItemOutcome.{ItemOutcome}
use Rattle.icn_machine.specs.ValueOperations.{ComesOnValues, IsPlain, is_equality_met}
use Rattle.icn_machine.proofs.ValueOperationSteps.{plain_if, value_plain, values_tested}
use Rattle.icn_machine.proofs.value_operations.outcome_of_equality.Goals as goal

pub returns-in-Some-clause-row : goal.returns-in-Some-clause-row
returns-in-Some-clause-row c =
    let w = c.args.world.now in
    let all = extent_of w.heap in
    let is : is_equality_met c.args.op (same (value_in all c.args.a) (value_in all c.args.b)) ≡ Some c.in-Some.met
    = sym (c.in-Some.ensures ∙ ap (is_equality_met c.args.op) c.same.ensures) in
    subst (λ (given : ItemOutcome). ComesOnValues w c.args.op c.args.a c.args.b given) (sym c.value_if.ensures)
    (values_tested w c.args.op c.args.a c.args.b c.in-Some.met is)

pub returns-in-Some-clause-plain : goal.returns-in-Some-clause-plain
returns-in-Some-clause-plain c =
    let w = c.args.world.now in
    subst (λ (given : ItemOutcome). IsPlain w given) (sym c.value_if.ensures)
    (plain_if w c.in-Some.met c.args.b (value_plain w c.args.b (sym c.is_nameless.ensures ∙ c.if-not-is_nameless.false) c.requires.second))
