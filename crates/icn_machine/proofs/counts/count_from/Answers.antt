use Rattle.std.proofs.Common.{◌+◌, ◌∙◌, IsSome, Option, ap, arith, refl, subst, sym}
use Rattle.icn_text.specs.declared.op.Op.TheVariants as Ops
use Rattle.icn_frames.specs.Stacks as held
use Rattle.icn_frames.specs.Stacks.{FlatStack}
use Rattle.icn_control.specs.declared.machine.RunState.{RunState}
use Rattle.icn_machine.specs.PlainOperations.{OperatesInPlace}
use Rattle.icn_machine.proofs.BegunCounts.{begins, three_dropped}
use Rattle.icn_machine.proofs.PlainCallSteps.{operands_there}
use Rattle.icn_machine.proofs.PlainFunctionSteps.{fewer_operands}
use Rattle.icn_machine.proofs.PlainOperationSteps.{stays}
use Rattle.icn_machine.proofs.counts.count_from.Goals as goal

pub slot_below-first-requires : goal.slot_below-first-requires
slot_below-first-requires g c = operands_there 2 c.args.frames.now.flat c.requires

pub slot_below-last-requires : goal.slot_below-last-requires
slot_below-last-requires g c = fewer_operands (1 + 1) (2 + 1) _ (omega arith) (operands_there 2 c.args.frames.now.flat c.requires)

pub slot_below-step-requires : goal.slot_below-step-requires
slot_below-step-requires g c = fewer_operands (0 + 1) (2 + 1) _ (omega arith) (operands_there 2 c.args.frames.now.flat c.requires)

pub returns-in_err-count : goal.returns-in_err-count
returns-in_err-count g c =
    let m = c.args.frames.now.flat in
    subst (λ (r : Option RunState). OperatesInPlace Ops.ToBy m m r) (sym c.from_residual.ensures) (stays Ops.ToBy m m refl)

pub drop_with-requires : goal.drop_with-requires
drop_with-requires g c = operands_there 2 c.args.frames.now.flat c.requires

pub returns-in-Ok : goal.returns-in-Ok
returns-in-Ok g c =
    let m = c.args.frames.now.flat in
    let k = c.drop_with.new.self.flat in
    let three = three_dropped m k c.slot_below-first.result c.slot_below-last.result c.slot_below-step.result c.in_ok-count.count c.drop_with.ensures.drops
    c.in_ok-count.ensures c.slot_below-first.ensures c.slot_below-last.ensures c.slot_below-step.ensures in
    begins m k c.give_count.new.frames.flat c.slot_below-first.result c.slot_below-last.result c.slot_below-step.result c.in_ok-count.count c.in-Ok.stage
    three c.local_count.ensures.same c.in-Ok.ensures.gives c.in-Ok.ensures.live c.in-Ok.ensures.named

pub put_back-requires-clause-room : goal.put_back-requires-clause-room
put_back-requires-clause-room g c = omega (arith, c.drop_with.ensures.spare, c.in-Err.ensures.spare)

pub put_back-requires-clause-first : goal.put_back-requires-clause-first
put_back-requires-clause-first g c = subst IsSome (sym c.in_ok-count.ensures.from.1.0) refl

pub put_back-requires-clause-last : goal.put_back-requires-clause-last
put_back-requires-clause-last g c = subst IsSome (sym c.in_ok-count.ensures.to.1.0) refl

pub put_back-requires-clause-step : goal.put_back-requires-clause-step
put_back-requires-clause-step g c = subst IsSome (sym c.in_ok-count.ensures.by.1.0) refl

pub returns-in-Err : goal.returns-in-Err
returns-in-Err g c =
    let m = c.args.frames.now.flat in
    let k = c.drop_with.new.self.flat in
    let three = three_dropped m k c.slot_below-first.result c.slot_below-last.result c.slot_below-step.result c.in_ok-count.count c.drop_with.ensures.drops
    c.in_ok-count.ensures c.slot_below-first.ensures c.slot_below-last.ensures c.slot_below-step.ensures in
    let above : FlatStack → FlatStack = λ s. held.push three.z (held.push three.y (held.push three.x s)) in
    stays Ops.ToBy m c.put_back.new.frames.flat
    (c.put_back.ensures three.x three.y three.z three.first_is three.last_is three.step_is ∙ ap above c.in-Err.ensures.err ∙ three.back)
