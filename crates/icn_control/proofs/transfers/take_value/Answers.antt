use Rattle.std.proofs.Common.{[], sym, subst}
use Rattle.icn_vars.specs.Worlds.{reach_of}
use Rattle.icn_frames.specs.Stacks.{FlatStack}
use Rattle.icn_control.specs.LiveStacks.{IsLiveStack}
use Rattle.icn_control.proofs.LiveCalls.{live_pop}
use Rattle.icn_control.proofs.OperandSteps.{top_taken}
use Rattle.icn_control.proofs.transfers.take_value.Goals as goal

pub value_of-requires-clause-stack : goal.value_of-requires-clause-stack
value_of-requires-clause-stack g c = (
  c.requires.stack.0,
  (live_pop c.requires.stack.0
      (reach_of c.args.world.now []) c.args.frames.now.flat c.pop-x.new.self.flat c.pop-x.result c.pop-x.ensures.flat c.requires.stack.1).rest,
)

pub value_of-requires-clause-item : goal.value_of-requires-clause-item
value_of-requires-clause-item g c =
    (live_pop c.requires.stack.0
    (reach_of c.args.world.now []) c.args.frames.now.flat c.pop-x.new.self.flat c.pop-x.result c.pop-x.ensures.flat c.requires.stack.1).item_live

pub returns-clause-step : goal.returns-clause-step
returns-clause-step g c =
    top_taken c.args.world.now c.args.frames.now.flat c.pop-x.new.self.flat c.value_of.new.frames.flat c.pop-x.result c.value_of.result c.pop-x.ensures.flat
    c.value_of.ensures.same c.value_of.ensures.value

pub returns-clause-live : goal.returns-clause-live
returns-clause-live g c t k =
    subst (λ (x : FlatStack). IsLiveStack t (reach_of c.args.world.now []) x) (sym c.value_of.ensures.same)
    (live_pop t (reach_of c.args.world.now []) c.args.frames.now.flat c.pop-x.new.self.flat c.pop-x.result c.pop-x.ensures.flat k).rest
