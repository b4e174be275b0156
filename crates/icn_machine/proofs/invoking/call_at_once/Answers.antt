use Rattle.std.proofs.Common.{◌≡◌, suc, true, nat_lt, IsSome, [], refl, ap, ◌∙◌}
use Rattle.icn_value.specs.Limited.{Bounds}
use Rattle.icn_heap.specs.Heaps.{extent_of, heap_of}
use Rattle.icn_vars.specs.Worlds.{reach_of}
use Rattle.icn_frames.specs.Stacks.{FlatStack}
use Rattle.icn_code.specs.CodeTables.{tables_of}
use Rattle.icn_control.specs.TakenOperands.{take_operands}
use Rattle.icn_control.proofs.ExhaustSteps.{nat_lt_true}
use Rattle.icn_control.proofs.LiteralSteps.{running_live}
use Rattle.icn_machine.proofs.AtOnceSteps.{not_begun, nothing_done}
use Rattle.icn_machine.proofs.InPlaceSteps.{on_same}
use Rattle.icn_machine.proofs.OperateSteps.{named_running}
use Rattle.icn_machine.proofs.PlainCallSteps.{called_stands, sound_called}
use Rattle.icn_machine.proofs.invoking.call_at_once.Goals as goal

pub returns-then-m-clause-done : goal.returns-then-m-clause-done
returns-then-m-clause-done g c = not_begun (tables_of c.args.code.now) _ c.args.m.now

pub call_in_place-requires-clause-operands : goal.call_in_place-requires-clause-operands
call_in_place-requires-clause-operands g c =
    let m = c.args.m.now in
    let F : FlatStack → Type 0 = λ x. IsSome (take_operands (suc c.args.count) x) in
    on_same m c.frames.result.now c.frames.result.now.flat F c.frames.ensures.running refl c.requires.operands

pub call_in_place-requires-clause-bounds : goal.call_in_place-requires-clause-bounds
call_in_place-requires-clause-bounds g c = c.requires.stands.sound.1.bounds

pub call_in_place-requires-clause-stack : goal.call_in_place-requires-clause-stack
call_in_place-requires-clause-stack g c =
    let m = c.args.m.now in
    let t = c.requires.stands.sound.0 in
    (t, running_live t (reach_of m.world []) m.stacks.table c.frames.result.now.flat c.frames.ensures.running c.requires.stands.sound.1.stacks)

pub returns-then-call_in_place-clause-done : goal.returns-then-call_in_place-clause-done
returns-then-call_in_place-clause-done g c =
    let m = c.args.m.now in
    let t = tables_of c.args.code.now in
    let f = c.frames.result.now.flat in
    let calls = c.call_in_place.ensures.calls c.if-call_in_place.true in
    let more : nat_lt m.turns (heap_of m.world.heap).bounds.turns ≡ true
    = ap (λ (x : Bounds). nat_lt m.turns x.turns) c.requires.stands.sound.1.bounds ∙ nat_lt_true m.turns m.limits.turns c.if-m.false in
    record {
      done = λ outside. called_stands m c.call_in_place.new.frames t outside c.args.count f c.frames.ensures.running more calls.calls;
      sound = λ s. sound_called m c.call_in_place.new.frames t f c.frames.ensures.running calls.live s;
      stack = refl;
      limits = refl;
      not_done = λ q. cc;
    }

pub returns-then-call_in_place-clause-named : goal.returns-then-call_in_place-clause-named
returns-then-call_in_place-clause-named g c names h =
    let m = c.args.m.now in
    let calls = c.call_in_place.ensures.calls c.if-call_in_place.true in
    calls.named names (named_running names (extent_of m.world.heap) m.stacks.table c.frames.result.now.flat c.frames.ensures.running h)

pub returns-clause-done : goal.returns-clause-done
returns-clause-done g c =
    nothing_done (tables_of c.args.code.now) _ c.args.m.now c.call_in_place.new.frames c.frames.result.now.flat c.frames.ensures.running
    (c.call_in_place.ensures.not c.if-call_in_place.false)
