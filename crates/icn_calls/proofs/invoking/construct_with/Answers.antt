use Rattle.std.proofs.Common.{List, [], refl, sym, subst, rules}
use Rattle.icn_value.specs.Values.{Value}
use Rattle.icn_heap.specs.Heaps.{extent_of}
use Rattle.icn_vars.specs.Stops.{halt_of}
use Rattle.icn_vars.specs.Worlds.{reach_of}
use Rattle.icn_vars.proofs.KeptItems.{keeps_items_refl}
use Rattle.icn_frames.specs.Stacks.{FlatStack}
use Rattle.icn_run.specs.Stacks.{Frames, flat}
use Rattle.icn_run.specs.Step.{State, construct_record}
use Rattle.icn_control.specs.LiveStacks.{IsLiveStack}
use Rattle.icn_control.specs.StackAndWorld.{HaltsWith}
use Rattle.icn_control.specs.StackViews.{stack_in}
use Rattle.icn_control.specs.TakenOperands.{KeepsCounts, with_values_in}
use Rattle.icn_control.specs.declared.machine.RunState.{RunState}
use Rattle.icn_control.proofs.Halts.{unless_ended, unless_handed}
use Rattle.icn_control.proofs.StackAndWorldSteps.{match_halt}
use Rattle.icn_calls.proofs.InvokeSteps.{leaves_handed, values_halt, values_run}
use Rattle.icn_calls.proofs.invoking.construct_with.Goals as goal

pub returns-in_err-values_of-clause-step : goal.returns-in_err-values_of-clause-step
returns-in_err-values_of-clause-step g c entry at st same =
    let w = c.args.world.now in
    let m = c.args.frames.now.flat in
    let stop = c.in_err-values_of.field-0.0 in
    let next : List Value → State Frames Frames = λ values. construct_record flat c.args.kind entry values (stack_in (extent_of w.heap) m) st in
    match_halt c.from_residual.result (halt_of stop) _ _ c.from_residual.ensures.1
    (subst (λ (x : FlatStack). HaltsWith (with_values_in w m c.args.items.now st next) st w (stack_in (extent_of w.heap) x) (halt_of stop))
    (sym c.values_of.ensures.same) (c.in_err-values_of.ensures.values st next same))

pub returns-in_err-values_of-clause-leaves : goal.returns-in_err-values_of-clause-leaves
returns-in_err-values_of-clause-leaves g c = record {
  kept = keeps_items_refl (reach_of c.args.world.now []);
  counts = unless_ended c.from_residual.result (KeepsCounts c.args.world.now c.args.world.now) (record { bounds = refl; coexps = refl });
  halt = search rules;
}

pub returns-in_err-values_of-clause-live : goal.returns-in_err-values_of-clause-live
returns-in_err-values_of-clause-live g c t k =
    unless_ended c.from_residual.result (IsLiveStack t (reach_of c.args.world.now []) c.values_of.new.frames.flat)
    (subst (λ (x : FlatStack). IsLiveStack t (reach_of c.args.world.now []) x) (sym c.values_of.ensures.same) k)

pub construct-requires-clause-stack : goal.construct-requires-clause-stack
construct-requires-clause-stack g c = (
  c.requires.stack.0,
  subst (λ (x : FlatStack). IsLiveStack c.requires.stack.0 (reach_of c.args.world.now []) x) (sym c.values_of.ensures.same)
      c.requires.stack.1,
)

pub returns-in-Ok-clause-step : goal.returns-in-Ok-clause-step
returns-in-Ok-clause-step g c entry at =
    values_run c.args.world.now c.construct.new.world c.args.frames.now.flat c.values_of.new.frames.flat c.construct.new.frames.flat c.args.items.now
    c.values_of.new.vals.items (λ values a s. construct_record flat c.args.kind entry values a s)
    c.values_of.ensures.same c.in_ok-values_of.ensures.values (c.in-Ok.ensures.step entry at)

pub returns-in-Ok-clause-live : goal.returns-in-Ok-clause-live
returns-in-Ok-clause-live g c t k =
    c.in-Ok.ensures.live t (subst (λ (x : FlatStack). IsLiveStack t (reach_of c.args.world.now []) x) (sym c.values_of.ensures.same) k)

pub returns-in-Err-clause-step : goal.returns-in-Err-clause-step
returns-in-Err-clause-step g c entry at =
    values_halt c.args.world.now c.construct.new.world c.args.frames.now.flat c.values_of.new.frames.flat
    (stack_in (extent_of c.construct.new.world.heap) c.construct.new.frames.flat) c.args.items.now c.values_of.new.vals.items c.in-Err.halt (λ values a s. construct_record flat c.args.kind entry values a s)
    c.values_of.ensures.same c.in_ok-values_of.ensures.values (c.in-Err.ensures.step entry at)

pub returns-in-Err-clause-live : goal.returns-in-Err-clause-live
returns-in-Err-clause-live g c t k =
    unless_handed (Unit {0}) RunState c.in-Err.halt (IsLiveStack t (reach_of c.construct.new.world []) c.construct.new.frames.flat)
    (c.in-Err.ensures.live t (subst (λ (x : FlatStack). IsLiveStack t (reach_of c.args.world.now []) x) (sym c.values_of.ensures.same) k))

pub returns-in-Err-clause-leaves : goal.returns-in-Err-clause-leaves
returns-in-Err-clause-leaves g c = leaves_handed c.args.world.now c.construct.new.world c.in-Err.halt c.in-Err.ensures.leaves
