use Rattle.std.proofs.Common.{[], Option, IsSome, sym, subst}
use Rattle.icn_defs.specs.Arities.{arity}
use Rattle.icn_vars.specs.Worlds.{reach_of}
use Rattle.icn_frames.specs.Stacks.{FlatStack}
use Rattle.icn_control.specs.LiveStacks.{IsLiveStack}
use Rattle.icn_control.specs.TakenOperands.{take_operands}
use Rattle.icn_control.specs.declared.machine.RunState.{RunState}
use Rattle.icn_machine.specs.PlainOperations.{OperatesInWorld}
use Rattle.icn_machine.proofs.ValueOperationSteps.{performed_after}
use Rattle.icn_machine.proofs.plain_operations.operate_in_world.Goals as goal

pub returns-in-Some : goal.returns-in-Some
returns-in-Some g c =
    subst (λ (r : Option RunState). OperatesInWorld c.args.world.now c.args.op c.args.frames.now.flat c.operate_as_told.new.frames.flat r) c.in-Some.is
    c.operate_as_told.ensures

pub operate_as_held-requires-clause-operands : goal.operate_as_held-requires-clause-operands
operate_as_held-requires-clause-operands g c =
    subst (λ (x : FlatStack). IsSome (take_operands (arity c.args.op) x)) (sym (c.operate_as_told.ensures.not_done c.in-None.is)) c.requires.operands

pub operate_as_held-requires-clause-live : goal.operate_as_held-requires-clause-live
operate_as_held-requires-clause-live g c = (
  c.requires.live.0,
  subst (λ (x : FlatStack). IsLiveStack c.requires.live.0 (reach_of c.args.world.now []) x)
      (sym (c.operate_as_told.ensures.not_done c.in-None.is)) c.requires.live.1,
)

pub returns-in-None : goal.returns-in-None
returns-in-None g c =
    performed_after c.args.world.now c.args.op c.args.frames.now.flat c.operate_as_told.new.frames.flat c.operate_as_held.new.frames.flat
    c.operate_as_held.result (c.operate_as_told.ensures.not_done c.in-None.is) c.operate_as_held.ensures
