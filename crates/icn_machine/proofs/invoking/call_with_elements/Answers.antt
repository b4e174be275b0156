use Rattle.std.proofs.Common.{◌<◌, ◌^◌, [], List, Ok, Err, length, map, refl, sym, ◌∙◌, subst, rules}
use Rattle.icn_value.specs.declared.item.Item.{Item}
use Rattle.law_names.specs.NamedSettings.{ItemNamed}
use Rattle.std.specs.List.{All}
use Rattle.icn_heap.specs.Heaps.{extent_of}
use Rattle.icn_vars.specs.Worlds.{Reach, IsLiveItem, item_in, reach_of}
use Rattle.icn_vars.proofs.KeptItems.{keeps_items_refl}
use Rattle.icn_frames.specs.Stacks as held
use Rattle.icn_frames.specs.Stacks.{FlatStack}
use Rattle.icn_code.specs.CodeTables.{tables_of}
use Rattle.icn_run.specs.Step.{all_names}
use Rattle.law_steps.specs.StateNames.{StackNamed}
use Rattle.icn_control.specs.LiveStacks.{IsLiveStack, with_locals}
use Rattle.icn_control.specs.StackViews.{stack_in}
use Rattle.icn_control.proofs.TakenOperandSteps.{found_at}
use Rattle.icn_control.proofs.Halts.{unless_ended}
use Rattle.icn_machine.proofs.CallFacts.{elements_leave, unfound_leaves, unless_over, value_named}
use Rattle.icn_machine.proofs.ElementSteps.{callee_stops, elements_event, elements_stop, from_stops}
use Rattle.icn_machine.proofs.invoking.call_with_elements.Goals as goal

pub returns-in_err-callee-clause-step : goal.returns-in_err-callee-clause-step
returns-in_err-callee-clause-step g c =
    callee_stops (tables_of c.args.code.now) (all_names (tables_of c.args.code.now)) c.args.world.now c.args.frames.now.flat c.value_of.new.frames.flat
    c.args.callee c.args.from c.in_err-callee.field-0.0 _ c.from_residual.result
    c.from_residual.ensures.1 c.value_of.ensures.same c.in_err-callee.ensures.value

pub returns-in_err-callee-clause-leaves : goal.returns-in_err-callee-clause-leaves
returns-in_err-callee-clause-leaves g c = record {
  kept = keeps_items_refl (reach_of c.args.world.now []);
  counts = unless_ended c.from_residual.result _ (record { bounds = refl; coexps = refl });
  halt = search rules;
}

pub returns-in_err-callee-clause-live : goal.returns-in_err-callee-clause-live
returns-in_err-callee-clause-live g c live =
    unless_ended c.from_residual.result _
    (subst (λ (x : FlatStack). IsLiveStack (tables_of c.args.code.now) (reach_of c.args.world.now []) x) (sym c.value_of.ensures.same) live)

pub returns-in_err-callee-clause-named : goal.returns-in_err-callee-clause-named
returns-in_err-callee-clause-named g c =
    unfound_leaves c.steps_keep_names.ensures.kept (tables_of c.args.code.now) (g.N.Names.known c.args.names.now) c.args.world.now c.args.frames.now.flat
    c.value_of.new.frames.flat c.args.callee c.in_err-callee.field-0.0 c.from_residual.result c.from_residual.ensures.1 c.value_of.ensures.same
    c.requires.known c.requires.callee_named c.requires.here.stack_named c.requires.here.world_named c.in_err-callee.ensures.value

pub returns-in_err-callee-clause-sized : goal.returns-in_err-callee-clause-sized
returns-in_err-callee-clause-sized g c fits = unless_over c.args.world.now c.from_residual.result _ fits

pub value_of-requires-2-clause-stack : goal.value_of-requires-2-clause-stack
value_of-requires-2-clause-stack g c = (
  c.requires.here.stack.0,
  subst (λ (x : FlatStack). IsLiveStack c.requires.here.stack.0 (reach_of c.args.world.now []) x) (sym c.value_of.ensures.same)
      c.requires.here.stack.1,
)

pub value_of-requires-2-clause-item : goal.value_of-requires-2-clause-item
value_of-requires-2-clause-item g c =
    subst (λ (x : FlatStack). IsLiveItem (with_locals (held.local_count x) (reach_of c.args.world.now [])) c.args.from) (sym c.value_of.ensures.same)
    c.requires.from

pub returns-in_err-from-clause-step : goal.returns-in_err-from-clause-step
returns-in_err-from-clause-step g c =
    from_stops (tables_of c.args.code.now) (all_names (tables_of c.args.code.now)) c.args.world.now c.args.frames.now.flat c.value_of-2.new.frames.flat
    c.args.callee c.args.from c.in_ok-callee.callee c.in_err-from.field-0.0 _
    c.from_residual-in_err-from.result c.from_residual-in_err-from.ensures.1 (c.value_of-2.ensures.same ∙ c.value_of.ensures.same) c.in_ok-callee.ensures.value
    (found_at c.args.world.now c.args.frames.now.flat c.value_of.new.frames.flat c.args.from (Err c.in_err-from.field-0.0) c.value_of.ensures.same
    c.in_err-from.ensures.value)

pub returns-in_err-from-clause-leaves : goal.returns-in_err-from-clause-leaves
returns-in_err-from-clause-leaves g c = record {
  kept = keeps_items_refl (reach_of c.args.world.now []);
  counts = unless_ended c.from_residual-in_err-from.result _ (record { bounds = refl; coexps = refl });
  halt = search rules;
}

pub returns-in_err-from-clause-live : goal.returns-in_err-from-clause-live
returns-in_err-from-clause-live g c live =
    unless_ended c.from_residual-in_err-from.result _
    (subst (λ (x : FlatStack). IsLiveStack (tables_of c.args.code.now) (reach_of c.args.world.now []) x)
    (sym (c.value_of-2.ensures.same ∙ c.value_of.ensures.same)) live)

pub returns-in_err-from-clause-named : goal.returns-in_err-from-clause-named
returns-in_err-from-clause-named g c =
    unfound_leaves c.steps_keep_names.ensures.kept (tables_of c.args.code.now) (g.N.Names.known c.args.names.now) c.args.world.now c.args.frames.now.flat
    c.value_of-2.new.frames.flat c.args.from c.in_err-from.field-0.0 c.from_residual-in_err-from.result c.from_residual-in_err-from.ensures.1
    (c.value_of-2.ensures.same ∙ c.value_of.ensures.same) c.requires.known c.requires.from_named c.requires.here.stack_named c.requires.here.world_named
    (found_at c.args.world.now c.args.frames.now.flat c.value_of.new.frames.flat c.args.from (Err c.in_err-from.field-0.0) c.value_of.ensures.same
    c.in_err-from.ensures.value)

pub returns-in_err-from-clause-sized : goal.returns-in_err-from-clause-sized
returns-in_err-from-clause-sized g c fits = unless_over c.args.world.now c.from_residual-in_err-from.result _ fits

pub returns-in_err-elements_of-clause-step : goal.returns-in_err-elements_of-clause-step
returns-in_err-elements_of-clause-step g c =
    elements_stop (tables_of c.args.code.now) (all_names (tables_of c.args.code.now)) c.args.world.now c.args.frames.now.flat c.value_of-2.new.frames.flat
    c.args.callee c.args.from c.in_ok-callee.callee c.in_ok-from.from
    c.elements_of.new.items.items c.in_err-elements_of.field-0.0 _ c.from_residual-in_err-elements_of.result c.from_residual-in_err-elements_of.ensures.1
    (c.value_of-2.ensures.same ∙ c.value_of.ensures.same) c.in_ok-callee.ensures.value
    (found_at c.args.world.now c.args.frames.now.flat c.value_of.new.frames.flat c.args.from (Ok c.in_ok-from.from) c.value_of.ensures.same
    c.in_ok-from.ensures.value)
    c.in_err-elements_of.ensures.elements

pub returns-in_err-elements_of-clause-leaves : goal.returns-in_err-elements_of-clause-leaves
returns-in_err-elements_of-clause-leaves g c = record {
  kept = keeps_items_refl (reach_of c.args.world.now []);
  counts = unless_ended c.from_residual-in_err-elements_of.result _ (record { bounds = refl; coexps = refl });
  halt = search rules;
}

pub returns-in_err-elements_of-clause-live : goal.returns-in_err-elements_of-clause-live
returns-in_err-elements_of-clause-live g c live =
    unless_ended c.from_residual-in_err-elements_of.result _
    (subst (λ (x : FlatStack). IsLiveStack (tables_of c.args.code.now) (reach_of c.args.world.now []) x)
    (sym (c.value_of-2.ensures.same ∙ c.value_of.ensures.same)) live)

pub returns-in_err-elements_of-clause-named : goal.returns-in_err-elements_of-clause-named
returns-in_err-elements_of-clause-named g c =
    let names = g.N.Names.known c.args.names.now in
    elements_leave c.steps_keep_names.ensures.kept (tables_of c.args.code.now) names c.args.world.now c.args.frames.now.flat c.value_of-2.new.frames.flat
    c.in_ok-from.from c.elements_of.new.items.items c.in_err-elements_of.field-0.0 c.from_residual-in_err-elements_of.result
    c.from_residual-in_err-elements_of.ensures.1 (c.value_of-2.ensures.same ∙ c.value_of.ensures.same) c.requires.known
    (value_named c.steps_keep_names.ensures.kept (tables_of c.args.code.now) names c.args.world.now c.args.frames.now.flat c.args.from c.in_ok-from.from
    c.requires.known c.requires.from_named c.requires.here.stack_named c.requires.here.world_named
    (found_at c.args.world.now c.args.frames.now.flat c.value_of.new.frames.flat c.args.from (Ok c.in_ok-from.from) c.value_of.ensures.same
    c.in_ok-from.ensures.value))
    c.requires.here.stack_named c.requires.here.world_named c.in_err-elements_of.ensures.elements

pub returns-in_err-elements_of-clause-sized : goal.returns-in_err-elements_of-clause-sized
returns-in_err-elements_of-clause-sized g c fits = unless_over c.args.world.now c.from_residual-in_err-elements_of.result _ fits

pub call_value-requires-clause-callee_named : goal.call_value-requires-clause-callee_named
call_value-requires-clause-callee_named g c =
    value_named c.steps_keep_names.ensures.kept (tables_of c.args.code.now) (g.N.Names.known c.args.names.now) c.args.world.now c.args.frames.now.flat
    c.args.callee c.in_ok-callee.callee c.requires.known c.requires.callee_named c.requires.here.stack_named c.requires.here.world_named
    c.in_ok-callee.ensures.value

pub call_value-requires-clause-here : goal.call_value-requires-clause-here
call_value-requires-clause-here g c = record {
  stack = ((
    c.requires.here.stack.0,
    subst (λ (x : FlatStack). IsLiveStack c.requires.here.stack.0 (reach_of c.args.world.now []) x)
        (sym (c.value_of-2.ensures.same ∙ c.value_of.ensures.same)) c.requires.here.stack.1,
  ));
  stack_named = (
      subst (λ (x : FlatStack). StackNamed (g.N.Names.known c.args.names.now) (stack_in (extent_of c.args.world.now.heap) x))
      (sym (c.value_of-2.ensures.same ∙ c.value_of.ensures.same)) c.requires.here.stack_named);
  world_named = search rules;
}

pub call_value-requires-clause-given : goal.call_value-requires-clause-given
call_value-requires-clause-given g c = record {
  items = (
      let reach : Reach = with_locals (held.local_count c.value_of-2.new.frames.flat) (reach_of c.args.world.now []) in
      subst (λ (xs : List Item). All (IsLiveItem reach) xs) (sym c.deref.ensures.value) (c.in_ok-elements_of.ensures.live reach refl));
  items_named = (
      let all = extent_of c.args.world.now.heap in
      subst (λ (xs : List Item). All (ItemNamed (g.N.Names.known c.args.names.now)) (map (item_in all) xs)) (sym c.deref.ensures.value)
      (c.in_ok-elements_of.ensures.named (g.N.Names.known c.args.names.now) c.requires.here.world_named.heap));
}

pub call_value-requires-clause-few : goal.call_value-requires-clause-few
call_value-requires-clause-few g c = subst (λ (xs : List Item). length xs < 2 ^ 63) (sym c.deref.ensures.value) c.in_ok-elements_of.ensures.few

pub returns-clause-step : goal.returns-clause-step
returns-clause-step g c =
    let w = c.args.world.now in
    let all = extent_of w.heap in
    elements_event (tables_of c.args.code.now) (all_names (tables_of c.args.code.now)) w c.call_value.new.world c.args.frames.now.flat
    c.value_of-2.new.frames.flat c.call_value.new.frames.flat c.args.callee c.args.from
    c.in_ok-callee.callee c.in_ok-from.from c.elements_of.new.items.items c.deref.result.now _ _ c.call_value.result c.in_ok-callee.ensures.value
    (found_at w c.args.frames.now.flat c.value_of.new.frames.flat c.args.from (Ok c.in_ok-from.from) c.value_of.ensures.same c.in_ok-from.ensures.value)
    c.in_ok-elements_of.ensures.elements
    (c.value_of-2.ensures.same ∙ c.value_of.ensures.same)
    c.deref.ensures.value c.call_value.ensures.step

pub returns-clause-live : goal.returns-clause-live
returns-clause-live g c k =
    c.call_value.ensures.live
    (subst (λ (x : FlatStack). IsLiveStack (tables_of c.args.code.now) (reach_of c.args.world.now []) x)
    (sym (c.value_of-2.ensures.same ∙ c.value_of.ensures.same)) k)
