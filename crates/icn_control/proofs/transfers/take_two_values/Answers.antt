use Rattle.std.proofs.Common.{[], IsSome, Ok, Err, Option, sym, ◌∙◌, subst}
use Rattle.std.specs.Prelude.{IfSome}
use Rattle.icn_vars.specs.Worlds.{IsLiveItem, reach_of}
use Rattle.icn_value.specs.declared.item.Item.{Item}
use Rattle.icn_frames.specs.Stacks as held
use Rattle.icn_frames.specs.Stacks.{FlatStack}
use Rattle.icn_control.specs.LiveStacks.{IsLiveStack, with_locals}
use Rattle.icn_control.specs.Operands.{TakesTwo}
use Rattle.icn_control.proofs.ChargeSteps.{at_stop_with}
use Rattle.icn_control.proofs.OperandSteps.{finds_on, first_stops, second_stops, two_found, two_live}
use Rattle.icn_control.proofs.transfers.take_two_values.Goals as goal

pub pop-lower-requires : goal.pop-lower-requires
pop-lower-requires g c = subst (λ (o : Option (Item × FlatStack)). IfSome o (λ popped. IsSome (held.pop popped.1))) c.pop-upper.ensures.flat c.requires.lower

pub value_of-requires-clause-stack : goal.value_of-requires-clause-stack
value_of-requires-clause-stack g c = (
  c.requires.stack.0,
  (two_live c.requires.stack.0 (reach_of c.args.world.now []) c.args.frames.now.flat c.pop-upper.new.self.flat c.pop-lower.new.self.flat c.pop-upper.result
      c.pop-lower.result c.pop-upper.ensures.flat c.pop-lower.ensures.flat c.requires.stack.1).rest,
)

pub value_of-requires-clause-item : goal.value_of-requires-clause-item
value_of-requires-clause-item g c =
    (two_live c.requires.stack.0 (reach_of c.args.world.now []) c.args.frames.now.flat c.pop-upper.new.self.flat c.pop-lower.new.self.flat c.pop-upper.result
    c.pop-lower.result c.pop-upper.ensures.flat c.pop-lower.ensures.flat c.requires.stack.1).lower_live

pub returns-in_err-first-clause-step : goal.returns-in_err-first-clause-step
returns-in_err-first-clause-step g c =
    at_stop_with c.from_residual.result c.in_err-first.field-0.0
    (TakesTwo c.args.world.now c.args.frames.now.flat c.value_of.new.frames.flat) c.from_residual.ensures.1
    (first_stops c.args.world.now c.args.frames.now.flat c.pop-upper.new.self.flat c.pop-lower.new.self.flat c.value_of.new.frames.flat c.pop-upper.result
    c.pop-lower.result c.in_err-first.field-0.0
    c.pop-upper.ensures.flat c.pop-lower.ensures.flat c.value_of.ensures.same c.in_err-first.ensures.value)

pub returns-in_err-first-clause-live : goal.returns-in_err-first-clause-live
returns-in_err-first-clause-live g c t k =
    subst (λ (x : FlatStack). IsLiveStack t (reach_of c.args.world.now []) x) (sym c.value_of.ensures.same)
    (two_live t (reach_of c.args.world.now []) c.args.frames.now.flat c.pop-upper.new.self.flat c.pop-lower.new.self.flat c.pop-upper.result c.pop-lower.result
    c.pop-upper.ensures.flat c.pop-lower.ensures.flat k).rest

pub value_of-requires-2-clause-stack : goal.value_of-requires-2-clause-stack
value_of-requires-2-clause-stack g c = (
  c.requires.stack.0,
  subst (λ (x : FlatStack). IsLiveStack c.requires.stack.0 (reach_of c.args.world.now []) x) (sym c.value_of.ensures.same)
      (two_live c.requires.stack.0 (reach_of c.args.world.now []) c.args.frames.now.flat c.pop-upper.new.self.flat c.pop-lower.new.self.flat c.pop-upper.result
      c.pop-lower.result c.pop-upper.ensures.flat c.pop-lower.ensures.flat c.requires.stack.1).rest,
)

pub value_of-requires-2-clause-item : goal.value_of-requires-2-clause-item
value_of-requires-2-clause-item g c =
    subst (λ (x : FlatStack). IsLiveItem (with_locals (held.local_count x) (reach_of c.args.world.now [])) c.pop-upper.result) (sym c.value_of.ensures.same)
    (two_live c.requires.stack.0 (reach_of c.args.world.now []) c.args.frames.now.flat c.pop-upper.new.self.flat c.pop-lower.new.self.flat c.pop-upper.result
    c.pop-lower.result c.pop-upper.ensures.flat c.pop-lower.ensures.flat c.requires.stack.1).upper_live

pub returns-in_err-second-clause-step : goal.returns-in_err-second-clause-step
returns-in_err-second-clause-step g c =
    at_stop_with c.from_residual-in_err-second.result c.in_err-second.field-0.0
    (TakesTwo c.args.world.now c.args.frames.now.flat c.value_of-2.new.frames.flat) c.from_residual-in_err-second.ensures.1
    (second_stops c.args.world.now c.args.frames.now.flat c.pop-upper.new.self.flat c.pop-lower.new.self.flat c.value_of-2.new.frames.flat c.pop-upper.result
    c.pop-lower.result c.in_ok-first.first c.in_err-second.field-0.0
    c.pop-upper.ensures.flat c.pop-lower.ensures.flat (c.value_of-2.ensures.same ∙ c.value_of.ensures.same) c.in_ok-first.ensures.value
    (finds_on c.args.world.now c.value_of.new.frames.flat c.pop-lower.new.self.flat c.pop-upper.result
    (Err c.in_err-second.field-0.0) c.value_of.ensures.same c.in_err-second.ensures.value))

pub returns-in_err-second-clause-live : goal.returns-in_err-second-clause-live
returns-in_err-second-clause-live g c t k =
    subst (λ (x : FlatStack). IsLiveStack t (reach_of c.args.world.now []) x) (sym (c.value_of-2.ensures.same ∙ c.value_of.ensures.same))
    (two_live t (reach_of c.args.world.now []) c.args.frames.now.flat c.pop-upper.new.self.flat c.pop-lower.new.self.flat c.pop-upper.result c.pop-lower.result
    c.pop-upper.ensures.flat c.pop-lower.ensures.flat k).rest

pub returns-clause-step : goal.returns-clause-step
returns-clause-step g c =
    two_found c.args.world.now c.args.frames.now.flat c.pop-upper.new.self.flat c.pop-lower.new.self.flat c.value_of-2.new.frames.flat c.pop-upper.result
    c.pop-lower.result c.in_ok-first.first c.in_ok-second.second
    c.pop-upper.ensures.flat c.pop-lower.ensures.flat (c.value_of-2.ensures.same ∙ c.value_of.ensures.same) c.in_ok-first.ensures.value
    (finds_on c.args.world.now c.value_of.new.frames.flat c.pop-lower.new.self.flat c.pop-upper.result
    (Ok c.in_ok-second.second) c.value_of.ensures.same c.in_ok-second.ensures.value)

pub returns-clause-live : goal.returns-clause-live
returns-clause-live g c t k =
    subst (λ (x : FlatStack). IsLiveStack t (reach_of c.args.world.now []) x) (sym (c.value_of-2.ensures.same ∙ c.value_of.ensures.same))
    (two_live t (reach_of c.args.world.now []) c.args.frames.now.flat c.pop-upper.new.self.flat c.pop-lower.new.self.flat c.pop-upper.result c.pop-lower.result
    c.pop-upper.ensures.flat c.pop-lower.ensures.flat k).rest
