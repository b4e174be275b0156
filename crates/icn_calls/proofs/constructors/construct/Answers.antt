use Rattle.std.proofs.Common.{◌≡◌, ◌∙◌, [], length, sym, ap, subst, arith, rules}
use Rattle.std.proofs.lemmas.List.Elements.{All-same}
use Rattle.icn_value.specs.declared.val.Val.{Val}
use Rattle.icn_heap.specs.Extents.{IsLive}
use Rattle.icn_heap.specs.Heaps.{extent_of}
use Rattle.icn_vars.specs.Stops.{halt_of}
use Rattle.icn_vars.specs.Worlds.{Reach, reach_of}
use Rattle.icn_vars.proofs.KeptItems.{keeps_items_refl}
use Rattle.icn_frames.specs.Stacks.{FlatStack}
use Rattle.icn_control.specs.LiveStacks.{IsLiveStack}
use Rattle.icn_control.specs.TakenOperands.{KeepsCounts}
use Rattle.icn_control.proofs.Halts.{unless_ended, unless_stopped}
use Rattle.icn_control.proofs.KeptItems.{stack_stays}
use Rattle.icn_control.proofs.ListSteps.{list_live}
use Rattle.icn_control.proofs.StackAndWorldSteps.{match_halt}
use Rattle.icn_calls.proofs.ParameterSteps.{length_values_for, live_values_for}
use Rattle.icn_calls.proofs.RecordSteps.{record_halts, record_runs}
use Rattle.icn_calls.proofs.constructors.construct.Goals as goal

pub returns-in_default-clause-leaves : goal.returns-in_default-clause-leaves
returns-in_default-clause-leaves g c = record {
  kept = keeps_items_refl (reach_of c.args.world.now []);
  counts = search rules;
  halt = search rules;
}

pub record_of-requires-clause-fields : goal.record_of-requires-clause-fields
record_of-requires-clause-fields g c =
    let all = extent_of c.args.world.now.heap in
    All-same (IsLive all) _ _ (c.deref.ensures.value ∙ c.in-Ok.ensures) (live_values_for all c.field_count.result c.args.vals.now.items c.requires.vals)

pub record_of-requires-clause-few : goal.record_of-requires-clause-few
record_of-requires-clause-few g c =
    let count : length c.deref.result.now ≡ c.field_count.result
    = ap length (c.deref.ensures.value ∙ c.in-Ok.ensures) ∙ length_values_for c.field_count.result c.args.vals.now.items in
    omega (arith, count, c.field_count.ensures.few)

pub returns-in_err-rec-clause-step : goal.returns-in_err-rec-clause-step
returns-in_err-rec-clause-step g c entry at st same =
    let w = c.args.world.now in
    let v = c.record_of.new.world in
    let m = c.args.frames.now.flat in
    let stop = c.in_err-rec.field-0.0 in
    match_halt c.from_residual.result (halt_of stop) _ _ c.from_residual.ensures.1
    (record_halts w v m c.record_of.new.frames.flat c.args.kind c.kind_of.result c.field_count.result entry
    c.args.vals.now.items c.deref.result.now stop c.kind_of.ensures
    (c.field_count.ensures.count entry at) (c.deref.ensures.value ∙ c.in-Ok.ensures) c.in_err-rec.ensures.made c.record_of.ensures.same st same)

pub returns-in_err-rec-clause-live : goal.returns-in_err-rec-clause-live
returns-in_err-rec-clause-live g c t k =
    let old : Reach = reach_of c.args.world.now [] in
    let new : Reach = reach_of c.record_of.new.world [] in
    unless_ended c.from_residual.result (IsLiveStack t new c.record_of.new.frames.flat)
    (subst (λ (x : FlatStack). IsLiveStack t new x) (sym c.record_of.ensures.same)
    (stack_stays t old new c.args.frames.now.flat c.record_of.ensures.kept k))

pub returns-in_err-rec-clause-leaves : goal.returns-in_err-rec-clause-leaves
returns-in_err-rec-clause-leaves g c = record {
  kept = c.record_of.ensures.kept;
  counts = unless_stopped Val c.from_residual.result c.in_err-rec.field-0.0 (KeepsCounts c.args.world.now c.record_of.new.world)
      c.from_residual.ensures.1 c.in_err-rec.ensures.counts;
  halt = search rules;
}

pub returns-in-Ok-push-clause-step : goal.returns-in-Ok-push-clause-step
returns-in-Ok-push-clause-step g c entry at st same =
    let w = c.args.world.now in
    let v = c.record_of.new.world in
    let m = c.args.frames.now.flat in
    record_runs w v m c.record_of.new.frames.flat c.push.new.self.flat c.args.kind c.kind_of.result c.field_count.result entry c.args.vals.now.items
    c.deref.result.now c.in_ok-rec.rec c.kind_of.ensures (c.field_count.ensures.count entry at)
    (c.deref.ensures.value ∙ c.in-Ok.ensures) c.in_ok-rec.ensures.made c.record_of.ensures.same c.in-Ok-push.ensures.ok st same

pub returns-in-Ok-push-clause-live : goal.returns-in-Ok-push-clause-live
returns-in-Ok-push-clause-live g c t k =
    let here : IsLiveStack t (reach_of c.args.world.now []) c.record_of.new.frames.flat
    = subst (λ (x : FlatStack). IsLiveStack t (reach_of c.args.world.now []) x) (sym c.record_of.ensures.same) k in
    list_live t c.args.world.now c.record_of.new.world c.record_of.new.frames.flat c.push.new.self.flat c.in_ok-rec.rec c.in-Ok-push.ensures.ok
    c.record_of.ensures.kept c.in_ok-rec.ensures.live here
