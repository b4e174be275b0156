use Rattle.std.proofs.Common.{◌≡◌, ◌+◌, ◌<◌, ◌∙◌, IsSome, List, Option, ap, arith, length, refl, subst, sym, ℕ}
use Rattle.icn_text.specs.declared.op.Op.TheVariants as Ops
use Rattle.icn_value.specs.declared.val.Val.{Val}
use Rattle.icn_frames.specs.Stacks as held
use Rattle.icn_frames.specs.declared.slots.StackSlot.{StackSlot}
use Rattle.icn_control.specs.declared.machine.RunState.{RunState}
use Rattle.icn_machine.specs.PlainOperations.{Assigns, HasValueOf, OperatesInPlace, local_item}
use Rattle.icn_machine.proofs.PlainCallSteps.{operands_there}
use Rattle.icn_machine.proofs.PlainFunctionSteps.{fewer_operands}
use Rattle.icn_machine.proofs.DroppedOperands.{slots_dropped}
use Rattle.icn_machine.proofs.PlainOperands.{lower_named, upper_named}
use Rattle.icn_machine.proofs.PlainOperationSteps.{assigns_local, length_set, stays}
use Rattle.icn_machine.proofs.plain_operations.assign.Goals as goal

pub slot_below-lower-requires : goal.slot_below-lower-requires
slot_below-lower-requires g c = operands_there 1 c.args.frames.now.flat c.requires.operands

pub slot_below-upper-requires : goal.slot_below-upper-requires
slot_below-upper-requires g c = fewer_operands (0 + 1) (1 + 1) _ (omega arith) (operands_there 1 c.args.frames.now.flat c.requires.operands)

pub assignment_of-requires-clause-upper : goal.assignment_of-requires-clause-upper
assignment_of-requires-clause-upper g c =
    upper_named c.requires.live.0 c.requires.live.1.0 c.args.frames.now.flat c.slot_below-upper.result c.requires.operands c.requires.live.1.1
    c.slot_below-upper.ensures

pub assignment_of-requires-clause-lower : goal.assignment_of-requires-clause-lower
assignment_of-requires-clause-lower g c =
    lower_named c.requires.live.0 c.requires.live.1.0 c.args.frames.now.flat c.slot_below-lower.result c.requires.operands c.requires.live.1.1
    c.slot_below-lower.ensures

pub returns-in_err-two : goal.returns-in_err-two
returns-in_err-two g c =
    let m = c.args.frames.now.flat in
    subst (λ (r : Option RunState). OperatesInPlace Ops.Assign m m r) (sym c.from_residual.ensures) (stays Ops.Assign m m refl)

pub drop_with-requires : goal.drop_with-requires
drop_with-requires g c = operands_there 1 c.args.frames.now.flat c.requires.operands

pub set_local_plain-requires-clause-there : goal.set_local_plain-requires-clause-there
set_local_plain-requires-clause-there g c =
    subst (λ (n : ℕ). c.in_ok-two.two.0 < n)
    (sym c.local_count.ensures.count ∙ c.local_count.ensures.all ∙ ap (λ (vs : List Val). length vs) c.drop_with.ensures.drops.locals_same
    ∙ sym c.local_count-2.ensures.all ∙ c.local_count-2.ensures.count) c.in_ok-two.ensures.within

pub set_local_plain-requires-clause-plain : goal.set_local_plain-requires-clause-plain
set_local_plain-requires-clause-plain g c =
    subst IsSome (sym c.in_ok-two.ensures.tells.gives) refl

pub put_slot-requires-clause-room : goal.put_slot-requires-clause-room
put_slot-requires-clause-room g c = omega (arith, c.drop_with.ensures.spare, c.set_local_plain.ensures.spare)

pub returns : goal.returns
returns g c =
    let m = c.args.frames.now.flat in
    let k = c.drop_with.new.self.flat in
    let l = c.set_local_plain.new.self.flat in
    let d = c.drop_with.ensures.drops in
    let slots : StackSlot × StackSlot = (c.slot_below-lower.result, c.slot_below-upper.result) in
    let found = c.in_ok-two.ensures in
    let index = c.in_ok-two.two.0 in
    let assigns : Assigns k slots c.in_ok-two.two = record {
      is = found.is;
      within = subst (λ (n : ℕ). index < n)
          (sym c.local_count.ensures.count ∙ c.local_count.ensures.all ∙ ap (λ (vs : List Val). length vs) d.locals_same
          ∙ sym c.local_count-2.ensures.all ∙ c.local_count-2.ensures.count) found.within;
      tells = subst (λ (vs : List Val). HasValueOf vs c.slot_below-upper.result c.in_ok-two.two.1) d.locals_same found.tells;
    } in
    let count : held.local_count l ≡ held.local_count k
    = sym c.local_count-3.ensures.count ∙ c.local_count-3.ensures.all
    ∙ ap (λ (vs : List Val). length vs) (c.set_local_plain.ensures.locals assigns.tells.is assigns.tells.gives)
    ∙ length_set (held.locals k) index _ ∙ sym c.local_count-2.ensures.all ∙ c.local_count-2.ensures.count in
    assigns_local m k l c.put_slot.new.frames.flat slots c.in_ok-two.two
    (slots_dropped m k slots (local_item index) found.tells.item d found.is found.tells.tells c.slot_below-lower.ensures c.slot_below-upper.ensures)
    assigns (c.set_local_plain.ensures.flat assigns.tells.is assigns.tells.gives) count (c.put_slot.ensures.flat _ refl)
