use Rattle.std.proofs.Common.{[], List, Ok, Err, map, refl, sym, ◌∙◌, subst, rules}
use Rattle.icn_value.specs.declared.val.Val.{Val}
use Rattle.icn_defs.specs.StepRows.{list_row}
use Rattle.icn_heap.specs.Extents.{value_in}
use Rattle.icn_heap.specs.Heaps.{extent_of}
use Rattle.icn_control.specs.TakenOperands.{KeepsCounts, MakesValue}
use Rattle.icn_vars.proofs.KeptItems.{keeps_items_refl}
use Rattle.icn_vars.specs.Worlds.{Reach, reach_of}
use Rattle.icn_frames.specs.Stacks.{FlatStack}
use Rattle.icn_control.specs.LiveStacks.{IsLiveStack}
use Rattle.icn_control.proofs.Halts.{unless_ended, unless_stopped}
use Rattle.icn_control.proofs.KeptItems.{stack_stays}
use Rattle.icn_control.proofs.ListSteps.{list_live, list_runs, list_unfound, list_unmade}
use Rattle.icn_control.proofs.lists.push_list.Goals as goal

pub returns-in_err-values_of-clause-step : goal.returns-in_err-values_of-clause-step
returns-in_err-values_of-clause-step g c =
    list_unfound c.from_residual.result c.args.world.now c.args.frames.now.flat c.values_of.new.frames.flat c.args.items.now c.in_err-values_of.field-0.0
    c.from_residual.ensures.1 c.values_of.ensures.same c.in_err-values_of.ensures.values

pub returns-in_err-values_of-clause-live : goal.returns-in_err-values_of-clause-live
returns-in_err-values_of-clause-live g c t k =
    unless_ended c.from_residual.result (IsLiveStack t (reach_of c.args.world.now []) c.values_of.new.frames.flat)
    (subst (λ (x : FlatStack). IsLiveStack t (reach_of c.args.world.now []) x) (sym c.values_of.ensures.same) k)

pub returns-in_err-values_of-clause-leaves : goal.returns-in_err-values_of-clause-leaves
returns-in_err-values_of-clause-leaves g c = record {
  kept = keeps_items_refl (reach_of c.args.world.now []);
  counts = unless_ended c.from_residual.result (KeepsCounts c.args.world.now c.args.world.now) (record { bounds = refl; coexps = refl });
  halt = search rules;
}

pub list_of-requires-clause-stack : goal.list_of-requires-clause-stack
list_of-requires-clause-stack g c = (
  c.requires.stack.0,
  subst (λ (x : FlatStack). IsLiveStack c.requires.stack.0 (reach_of c.args.world.now []) x) (sym c.values_of.ensures.same) c.requires.stack.1,
)

pub returns-in_err-list-clause-step : goal.returns-in_err-list-clause-step
returns-in_err-list-clause-step g c =
    list_unmade c.from_residual-in_err-list.result c.args.world.now c.list_of.new.world c.args.frames.now.flat c.values_of.new.frames.flat
    c.list_of.new.frames.flat c.args.items.now c.values_of.new.vals.items c.in_err-list.field-0.0
    c.from_residual-in_err-list.ensures.1 c.in_ok-values_of.ensures.values c.values_of.ensures.same
    (subst (λ (xs : List Val). MakesValue (list_row (map (value_in (extent_of c.args.world.now.heap)) xs)) c.args.world.now c.values_of.new.frames.flat
    c.list_of.new.world (Err c.in_err-list.field-0.0)) c.deref.ensures.value c.in_err-list.ensures.made) c.list_of.ensures.same

pub returns-in_err-list-clause-live : goal.returns-in_err-list-clause-live
returns-in_err-list-clause-live g c t k =
    let old : Reach = reach_of c.args.world.now [] in
    let new : Reach = reach_of c.list_of.new.world [] in
    unless_ended c.from_residual-in_err-list.result (IsLiveStack t new c.list_of.new.frames.flat)
    (subst (λ (x : FlatStack). IsLiveStack t new x) (sym (c.list_of.ensures.same ∙ c.values_of.ensures.same))
    (stack_stays t old new c.args.frames.now.flat c.list_of.ensures.kept k))

pub returns-in_err-list-clause-leaves : goal.returns-in_err-list-clause-leaves
returns-in_err-list-clause-leaves g c = record {
  kept = c.list_of.ensures.kept;
  counts = unless_stopped Val c.from_residual-in_err-list.result c.in_err-list.field-0.0 (KeepsCounts c.args.world.now c.list_of.new.world)
      c.from_residual-in_err-list.ensures.1 c.in_err-list.ensures.counts;
  halt = search rules;
}

pub returns-in-Ok-clause-step : goal.returns-in-Ok-clause-step
returns-in-Ok-clause-step g c =
    list_runs c.args.world.now c.list_of.new.world c.args.frames.now.flat c.values_of.new.frames.flat c.list_of.new.frames.flat c.push.new.self.flat
    c.args.items.now c.values_of.new.vals.items c.in_ok-list.list c.in_ok-values_of.ensures.values
    c.values_of.ensures.same
    (subst (λ (xs : List Val). MakesValue (list_row (map (value_in (extent_of c.args.world.now.heap)) xs)) c.args.world.now c.values_of.new.frames.flat
    c.list_of.new.world (Ok c.in_ok-list.list)) c.deref.ensures.value c.in_ok-list.ensures.made)
    c.list_of.ensures.same c.in-Ok.ensures.ok

pub returns-in-Ok-clause-live : goal.returns-in-Ok-clause-live
returns-in-Ok-clause-live g c t k =
    let here : IsLiveStack t (reach_of c.args.world.now []) c.list_of.new.frames.flat
    = subst (λ (x : FlatStack). IsLiveStack t (reach_of c.args.world.now []) x) (sym (c.list_of.ensures.same ∙ c.values_of.ensures.same)) k in
    list_live t c.args.world.now c.list_of.new.world c.list_of.new.frames.flat c.push.new.self.flat c.in_ok-list.list c.in-Ok.ensures.ok c.list_of.ensures.kept
    c.in_ok-list.ensures.live here
