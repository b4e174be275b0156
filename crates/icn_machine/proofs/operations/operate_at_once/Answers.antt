use Rattle.std.proofs.Common.{◌≡◌, IsSome, [], ap, nat_lt, refl, true, ◌∙◌}
use Rattle.icn_value.specs.Limited.{Bounds}
use Rattle.icn_defs.specs.Arities.{arity}
use Rattle.icn_heap.specs.Heaps.{heap_of}
use Rattle.icn_vars.specs.Worlds.{reach_of}
use Rattle.icn_frames.specs.Stacks.{FlatStack}
use Rattle.icn_control.specs.TakenOperands.{take_operands}
use Rattle.icn_control.proofs.ExhaustSteps.{nat_lt_true}
use Rattle.icn_control.proofs.LiteralSteps.{running_live}
use Rattle.icn_machine.proofs.AtOnceSteps.{not_begun, nothing_done}
use Rattle.icn_machine.proofs.InPlaceSteps.{alone_runs, alone_stands, on_same}
use Rattle.icn_machine.proofs.PlainCallSteps.{sound_called}
use Rattle.icn_machine.proofs.operations.operate_at_once.Goals as goal

pub returns-then-m : goal.returns-then-m
returns-then-m g c tables = not_begun tables _ c.args.m.now

pub operate_in_world-requires-clause-operands : goal.operate_in_world-requires-clause-operands
operate_in_world-requires-clause-operands g c =
    let m = c.args.m.now in
    let F : FlatStack → Type 0 = λ x. IsSome (take_operands (arity c.args.op) x) in
    on_same m c.frames.result.now c.frames.result.now.flat F c.frames.ensures.running refl c.requires.operands

pub operate_in_world-requires-clause-live : goal.operate_in_world-requires-clause-live
operate_in_world-requires-clause-live g c =
    let m = c.args.m.now in
    let t = c.requires.stands.sound.0 in
    (t, running_live t (reach_of m.world []) m.stacks.table c.frames.result.now.flat c.frames.ensures.running c.requires.stands.sound.1.stacks)

pub returns-in-Some : goal.returns-in-Some
returns-in-Some g c tables =
    let m = c.args.m.now in
    let more : nat_lt m.turns (heap_of m.world.heap).bounds.turns ≡ true
    = ap (λ (x : Bounds). nat_lt m.turns x.turns) c.requires.stands.sound.1.bounds ∙ nat_lt_true m.turns m.limits.turns c.if-m.false in
    record {
      done = λ outside.
          alone_stands m c.operate_in_world.new.frames tables outside c.args.op c.frames.result.now.flat c.in-Some.stage c.frames.ensures.running more
          c.in-Some.ensures.done;
      sound = λ s. sound_called m c.operate_in_world.new.frames tables c.frames.result.now.flat c.frames.ensures.running (c.in-Some.ensures.live tables) s;
      stack = alone_runs m c.operate_in_world.new.frames tables c.args.op c.frames.result.now.flat c.in-Some.stage more c.in-Some.ensures.done;
      limits = refl;
      not_done = λ q. cc;
    }

pub returns-in-None : goal.returns-in-None
returns-in-None g c tables =
    nothing_done tables _ c.args.m.now c.operate_in_world.new.frames c.frames.result.now.flat c.frames.ensures.running
    (c.operate_in_world.ensures.not_done c.in-None.is)
