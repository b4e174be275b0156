use Rattle.std.proofs.Common.{◌≡◌, [], List, length, map, suc, refl, sym, ap, subst, arith, rules}
use Rattle.std.specs.List.{All}
use Rattle.std.proofs.lemmas.List.Elements.{All-head, All-tail}
use Rattle.icn_value.specs.declared.item.Item.{Item}
use Rattle.icn_heap.specs.Heaps.{extent_of}
use Rattle.law_names.specs.NamedSettings.{ItemNamed}
use Rattle.icn_vars.specs.Worlds.{Reach, IsLiveItem, item_in, reach_of}
use Rattle.icn_vars.proofs.KeptItems.{keeps_items_refl}
use Rattle.icn_frames.specs.Stacks as held
use Rattle.icn_frames.specs.Stacks.{FlatStack}
use Rattle.icn_code.specs.CodeTables.{tables_of}
use Rattle.icn_run.specs.Step.{all_names}
use Rattle.law_steps.specs.StateNames.{StackNamed}
use Rattle.icn_control.specs.LiveStacks.{IsLiveStack, with_locals}
use Rattle.icn_control.specs.StackViews.{stack_in}
use Rattle.icn_control.proofs.Halts.{unless_ended}
use Rattle.icn_machine.proofs.CallFacts.{unfound_leaves, unless_over, value_named}
use Rattle.icn_machine.proofs.InvokeSteps.{first_event, first_stops}
use Rattle.icn_machine.proofs.invoking.call_first.Goals as goal

pub unreachable-unreachable : goal.unreachable-unreachable
unreachable-unreachable g c = omega (arith, c.requires.some, c.in_default.ensures.cases)

pub value_of-requires-clause-item : goal.value_of-requires-clause-item
value_of-requires-clause-item g c =
    let live : Reach = with_locals (held.local_count c.args.frames.now.flat) (reach_of c.args.world.now []) in
    All-head (IsLiveItem live) _ _ (subst (λ (xs : List Item). All (IsLiveItem live) xs) c.in-Some.ensures.cases.0 c.requires.given.items)

pub returns-in_err-callee-clause-step : goal.returns-in_err-callee-clause-step
returns-in_err-callee-clause-step g c =
    first_stops (tables_of c.args.code.now) (all_names (tables_of c.args.code.now)) c.args.world.now c.args.frames.now.flat c.value_of.new.frames.flat
    c.args.items.now c.in-Some.first.now c.in-Some.others.now
    c.in_err-callee.field-0.0 _ c.from_residual.result c.in-Some.ensures.cases.0 c.value_of.ensures.same c.from_residual.ensures.1 c.in_err-callee.ensures.value

pub returns-in_err-callee-clause-live : goal.returns-in_err-callee-clause-live
returns-in_err-callee-clause-live g c live =
    unless_ended c.from_residual.result _
    (subst (λ (x : FlatStack). IsLiveStack (tables_of c.args.code.now) (reach_of c.args.world.now []) x) (sym c.value_of.ensures.same) live)

pub returns-in_err-callee-clause-leaves : goal.returns-in_err-callee-clause-leaves
returns-in_err-callee-clause-leaves g c = record {
  kept = keeps_items_refl (reach_of c.args.world.now []);
  counts = unless_ended c.from_residual.result _ (record { bounds = refl; coexps = refl });
  halt = search rules;
}

pub returns-in_err-callee-clause-named : goal.returns-in_err-callee-clause-named
returns-in_err-callee-clause-named g c =
    let names = g.N.Names.known c.args.names.now in
    let all = extent_of c.args.world.now.heap in
    unfound_leaves c.steps_keep_names.ensures.kept (tables_of c.args.code.now) names c.args.world.now c.args.frames.now.flat c.value_of.new.frames.flat
    c.in-Some.first.now c.in_err-callee.field-0.0 c.from_residual.result c.from_residual.ensures.1 c.value_of.ensures.same c.requires.known
    (All-head (ItemNamed names) (item_in all c.in-Some.first.now) (map (item_in all) c.in-Some.others.now)
    (subst (λ (xs : List Item). All (ItemNamed names) (map (item_in all) xs)) c.in-Some.ensures.cases.0 c.requires.given.items_named))
    c.requires.here.stack_named c.requires.here.world_named c.in_err-callee.ensures.value

pub returns-in_err-callee-clause-sized : goal.returns-in_err-callee-clause-sized
returns-in_err-callee-clause-sized g c fits = unless_over c.args.world.now c.from_residual.result _ fits

pub call_value-requires-clause-callee_named : goal.call_value-requires-clause-callee_named
call_value-requires-clause-callee_named g c =
    let names = g.N.Names.known c.args.names.now in
    let all = extent_of c.args.world.now.heap in
    value_named c.steps_keep_names.ensures.kept (tables_of c.args.code.now) names c.args.world.now c.args.frames.now.flat c.in-Some.first.now
    c.in_ok-callee.callee c.requires.known
    (All-head (ItemNamed names) (item_in all c.in-Some.first.now) (map (item_in all) c.in-Some.others.now)
    (subst (λ (xs : List Item). All (ItemNamed names) (map (item_in all) xs)) c.in-Some.ensures.cases.0 c.requires.given.items_named))
    c.requires.here.stack_named c.requires.here.world_named c.in_ok-callee.ensures.value

pub call_value-requires-clause-few : goal.call_value-requires-clause-few
call_value-requires-clause-few g c =
    let more : length c.args.items.now ≡ suc (length c.in-Some.others.now) = ap (λ (xs : List Item). length xs) c.in-Some.ensures.cases.0 in
    omega (arith, more, c.requires.few)

pub call_value-requires-clause-here : goal.call_value-requires-clause-here
call_value-requires-clause-here g c = record {
  stack = ((
    c.requires.here.stack.0,
    subst (λ (x : FlatStack). IsLiveStack c.requires.here.stack.0 (reach_of c.args.world.now []) x) (sym c.value_of.ensures.same)
        c.requires.here.stack.1,
  ));
  stack_named = (
      subst (λ (x : FlatStack). StackNamed (g.N.Names.known c.args.names.now) (stack_in (extent_of c.args.world.now.heap) x))
      (sym c.value_of.ensures.same) c.requires.here.stack_named);
  world_named = search rules;
}

pub call_value-requires-clause-given : goal.call_value-requires-clause-given
call_value-requires-clause-given g c = record {
  items = (
      let live : Reach = with_locals (held.local_count c.args.frames.now.flat) (reach_of c.args.world.now []) in
      let others : All (IsLiveItem live) c.in-Some.others.now
      = All-tail (IsLiveItem live) _ _ (subst (λ (xs : List Item). All (IsLiveItem live) xs) c.in-Some.ensures.cases.0 c.requires.given.items) in
      subst (λ (x : FlatStack). All (IsLiveItem (with_locals (held.local_count x) (reach_of c.args.world.now []))) c.in-Some.others.now)
      (sym c.value_of.ensures.same) others);
  items_named = (
      let all = extent_of c.args.world.now.heap in
      All-tail (ItemNamed (g.N.Names.known c.args.names.now)) (item_in all c.in-Some.first.now) (map (item_in all) c.in-Some.others.now)
      (subst (λ (xs : List Item). All (ItemNamed (g.N.Names.known c.args.names.now)) (map (item_in all) xs)) c.in-Some.ensures.cases.0
      c.requires.given.items_named));
}

pub returns-clause-step : goal.returns-clause-step
returns-clause-step g c =
    let w = c.args.world.now in
    first_event (tables_of c.args.code.now) (all_names (tables_of c.args.code.now)) w c.call_value.new.world c.args.frames.now.flat c.value_of.new.frames.flat
    c.call_value.new.frames.flat c.args.items.now c.in-Some.others.now
    c.in-Some.first.now c.in_ok-callee.callee _ _ c.call_value.result c.in-Some.ensures.cases.0 c.value_of.ensures.same c.in_ok-callee.ensures.value
    c.call_value.ensures.step

pub returns-clause-live : goal.returns-clause-live
returns-clause-live g c k =
    c.call_value.ensures.live
    (subst (λ (x : FlatStack). IsLiveStack (tables_of c.args.code.now) (reach_of c.args.world.now []) x) (sym c.value_of.ensures.same) k)
