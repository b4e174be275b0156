use Rattle.std.proofs.Common.{◌≡◌, ◌+◌, ◌∙◌, ℤ, FitsSigned, List, Option, ap, arith, refl, rules, subst, sym}
use Rattle.std.proofs.lemmas.Int.{to_z-of_z}
use Rattle.std.specs.Int.{w64}
use Rattle.icn_value.specs.declared.item.Item.TheVariants as Items
use Rattle.icn_value.specs.declared.val.Val.{Val}
use Rattle.icn_value.specs.declared.val.Val.TheVariants as Vals
use Rattle.icn_frames.specs.Stacks as held
use Rattle.icn_frames.specs.declared.slots.StackSlot.{StackSlot}
use Rattle.icn_control.specs.declared.machine.RunState.{RunState}
use Rattle.icn_machine.specs.PlainOperations.{Compares, OperatesInPlace}
use Rattle.icn_machine.proofs.PlainCallSteps.{operands_there}
use Rattle.icn_machine.proofs.PlainFunctionSteps.{fewer_operands}
use Rattle.icn_machine.proofs.DroppedOperands.{slots_dropped}
use Rattle.icn_machine.proofs.PlainOperands.{lower_named, upper_named}
use Rattle.icn_machine.proofs.PlainOperationSteps.{compares_at, meets, misses, stays}
use Rattle.icn_machine.proofs.plain_operations.compare.Goals as goal

pub slot_below-lower-requires : goal.slot_below-lower-requires
slot_below-lower-requires g c = operands_there 1 c.args.frames.now.flat c.requires.operands

pub slot_below-upper-requires : goal.slot_below-upper-requires
slot_below-upper-requires g c = fewer_operands (0 + 1) (1 + 1) _ (omega arith) (operands_there 1 c.args.frames.now.flat c.requires.operands)

pub comparison_of-requires-clause-lower : goal.comparison_of-requires-clause-lower
comparison_of-requires-clause-lower g c =
    lower_named c.requires.live.0 c.requires.live.1.0 c.args.frames.now.flat c.slot_below-lower.result c.requires.operands c.requires.live.1.1
    c.slot_below-lower.ensures

pub comparison_of-requires-clause-upper : goal.comparison_of-requires-clause-upper
comparison_of-requires-clause-upper g c =
    upper_named c.requires.live.0 c.requires.live.1.0 c.args.frames.now.flat c.slot_below-upper.result c.requires.operands c.requires.live.1.1
    c.slot_below-upper.ensures

pub returns-in_err-met : goal.returns-in_err-met
returns-in_err-met g c =
    let m = c.args.frames.now.flat in
    subst (λ (r : Option RunState). OperatesInPlace c.args.op m m r) (sym c.from_residual.ensures) (stays c.args.op m m refl)

pub drop_with-requires : goal.drop_with-requires
drop_with-requires g c = operands_there 1 c.args.frames.now.flat c.requires.operands

pub put_slot-requires-clause-room : goal.put_slot-requires-clause-room
put_slot-requires-clause-room g c = omega (arith, c.drop_with.ensures.spare)

pub returns-then-met : goal.returns-then-met
returns-then-met g c =
    let m = c.args.frames.now.flat in
    let k = c.drop_with.new.self.flat in
    let met = c.in_ok-met.met in
    let n = met.1 in
    let slots : StackSlot × StackSlot = (c.slot_below-lower.result, c.slot_below-upper.result) in
    let found = c.in_ok-met.ensures in
    let d = c.drop_with.ensures.drops in
    let fits : FitsSigned w64 n = search rules in
    let pushed : c.put_slot.new.frames.flat ≡ held.push (Items.Val (Vals.Integer n)) k
    = c.put_slot.ensures.flat _ refl ∙ ap (λ (i : ℤ). held.push (Items.Val (Vals.Integer i)) k) (to_z-of_z w64 n fits) in
    meets c.args.op m k c.put_slot.new.frames.flat slots n
    (slots_dropped m k slots found.of.lower.0 found.of.upper.0 d found.of.lower.1.0 found.of.upper.1.0 c.slot_below-lower.ensures c.slot_below-upper.ensures)
    c.local_count.ensures.same
    (compares_at c.args.op (held.locals k) slots met _ c.if-met.true (subst (λ (vs : List Val). Compares c.args.op vs slots met) d.locals_same found)) pushed

pub returns : goal.returns
returns g c =
    let m = c.args.frames.now.flat in
    let k = c.drop_with.new.self.flat in
    let met = c.in_ok-met.met in
    let slots : StackSlot × StackSlot = (c.slot_below-lower.result, c.slot_below-upper.result) in
    let found = c.in_ok-met.ensures in
    let d = c.drop_with.ensures.drops in
    misses c.args.op m k k slots met.1
    (slots_dropped m k slots found.of.lower.0 found.of.upper.0 d found.of.lower.1.0 found.of.upper.1.0 c.slot_below-lower.ensures c.slot_below-upper.ensures)
    c.local_count.ensures.same
    (compares_at c.args.op (held.locals k) slots met _ c.if-met.false (subst (λ (vs : List Val). Compares c.args.op vs slots met) d.locals_same found)) refl
