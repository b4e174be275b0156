use Rattle.std.proofs.Common.{◌≡◌, ◌+◌, ℕ, suc, true, false, nat_lt, length, map, List, Option, Some, IsSome, Fits, w32, rules, [], refl, sym, ap, ◌∙◌, subst, add-one, arith}
use Rattle.std.proofs.lemmas.Option.{same_Some}
use Rattle.std.specs.List.{All}
use Rattle.icn_value.specs.Limited.{Bounds}
use Rattle.icn_value.specs.declared.item.Item.{Item}
use Rattle.icn_heap.specs.Heaps.{extent_of, heap_of}
use Rattle.law_names.specs.NamedSettings.{ItemNamed}
use Rattle.icn_vars.specs.Worlds.{Reach, IsLiveItem, item_in, reach_of}
use Rattle.icn_frames.specs.Stacks as held
use Rattle.icn_frames.specs.Stacks.{FlatStack}
use Rattle.icn_coexp.specs.Transfers.{with_stack}
use Rattle.icn_code.specs.CodeTables.{tables_of}
use Rattle.icn_code.specs.declared.instr.Instr.TheVariants as Instrs
use Rattle.icn_run.specs.Stacks.{flat}
use Rattle.icn_run.specs.Step.{invoked_with}
use Rattle.law_steps.specs.StateNames.{StackNamed}
use Rattle.icn_control.specs.LiveStacks.{IsLiveStack, with_locals}
use Rattle.icn_control.specs.Machines.{IsSoundMachine, does, running_of}
use Rattle.icn_control.specs.declared.machine.Machine.{Machine}
use Rattle.icn_control.specs.StackViews.{stack_in}
use Rattle.icn_control.specs.TakenOperands.{KeepsCounts, take_operands}
use Rattle.icn_control.proofs.ExhaustSteps.{nat_lt_true}
use Rattle.icn_control.proofs.ListSteps.{nat_lt_false}
use Rattle.icn_control.proofs.LiteralSteps.{running_live}
use Rattle.icn_control.proofs.MachineSteps.{stacks_on}
use Rattle.icn_control.proofs.TakenOperandSteps.{live_taken}
use Rattle.icn_machine.proofs.PerformEvents.{unless_both}
use Rattle.icn_machine.proofs.OperandCalls.{bound_performs, coexps_left, going_has_stack, lacks_memory, operands_perform, sound_after, taken_length, taken_named}
use Rattle.icn_machine.proofs.invoking.invoke_by_value.Goals as goal

pub take_operands-requires : goal.take_operands-requires
take_operands-requires g c =
    subst (λ (n : ℕ). IsSome (take_operands n c.frames.result.now.flat)) (sym (add-one c.args.count))
    (subst (λ (o : Option FlatStack). IsSome (take_operands (suc c.args.count) (running_of o))) c.frames.ensures.running c.requires.operands)

pub returns-in_default-clause-step : goal.returns-in_default-clause-step
returns-in_default-clause-step g c =
    let m = c.args.m.now in
    let t = tables_of c.args.code.now in
    let after : Machine g.row.K.Denot
    = record { world = m.world; stacks = with_stack m.stacks c.take_operands.new.frames; turns = m.turns; begun = m.begun; limits = m.limits } in
    lacks_memory t (λ outside. does t outside (Instrs.Invoke c.args.count) m) after _

pub returns-then-m-clause-step : goal.returns-then-m-clause-step
returns-then-m-clause-step g c =
    let m = c.args.m.now in
    let t = tables_of c.args.code.now in
    let after : Machine g.row.K.Denot
    = record { world = m.world; stacks = with_stack m.stacks c.take_operands.new.frames; turns = m.turns; begun = m.begun; limits = m.limits } in
    let none : nat_lt m.turns (heap_of m.world.heap).bounds.turns ≡ false
    = ap (λ (x : Bounds). nat_lt m.turns x.turns) c.requires.stands.sound.1.bounds ∙ nat_lt_false m.turns m.limits.turns c.if-m.true in
    bound_performs m after t (Instrs.Invoke c.args.count) (suc c.args.count) (invoked_with flat t) c.frames.result.now.flat c.take_operands.new.frames.flat
    c.take_operands.new.items.items _
    (λ a st. refl) c.frames.ensures.running
    (subst (λ (n : ℕ). take_operands n c.frames.result.now.flat ≡ Some (c.take_operands.new.items.items, c.take_operands.new.frames.flat))
    (add-one c.args.count) c.in-Ok.ensures.taken)
    none
    (λ outside. refl)

pub returns-then-m-clause-sound : goal.returns-then-m-clause-sound
returns-then-m-clause-sound g c k =
    let m = c.args.m.now in
    let t = tables_of c.args.code.now in
    record {
      stacks = stacks_on t (reach_of m.world []) m.stacks.table c.frames.result.now.flat c.take_operands.new.frames.flat c.frames.ensures.running
          (λ l. (live_taken t (reach_of m.world []) (c.args.count + 1) c.frames.result.now.flat c.take_operands.new.frames.flat
          c.take_operands.new.items.items c.in-Ok.ensures.taken l).rest)
          k.stacks;
      bounds = k.bounds;
      counts = k.counts;
      counted = record { results = k.counted.results; activators = k.counted.activators };
    }

pub returns-then-m-clause-named : goal.returns-then-m-clause-named
returns-then-m-clause-named g c =
    let m = c.args.m.now in
    let names = g.N.Names.known c.args.names.now in
    let all = extent_of m.world.heap in (
      (taken_named names all (c.args.count + 1) c.frames.result.now.flat c.take_operands.new.frames.flat c.take_operands.new.items.items c.in-Ok.ensures.taken
          (subst (λ (o : Option FlatStack). StackNamed names (stack_in all (running_of o))) c.frames.ensures.running c.requires.named.stack_named)).1,
      c.requires.named.world_named,
    )

pub returns-then-m-clause-coexps_named : goal.returns-then-m-clause-coexps_named
returns-then-m-clause-coexps_named g c h = h

pub call_first-requires-clause-some : goal.call_first-requires-clause-some
call_first-requires-clause-some g c =
    let count = taken_length (c.args.count + 1) c.frames.result.now.flat c.take_operands.new.frames.flat c.take_operands.new.items.items
    c.in-Ok.ensures.taken in
    let same : length c.deref.result.now ≡ length c.take_operands.new.items.items = ap (λ (xs : List Item). length xs) c.deref.ensures.value in
    omega (arith, count, same)

pub call_first-requires-clause-few : goal.call_first-requires-clause-few
call_first-requires-clause-few g c =
    let count = taken_length (c.args.count + 1) c.frames.result.now.flat c.take_operands.new.frames.flat c.take_operands.new.items.items
    c.in-Ok.ensures.taken in
    let same : length c.deref.result.now ≡ length c.take_operands.new.items.items = ap (λ (xs : List Item). length xs) c.deref.ensures.value in
    let fits : Fits w32 c.args.count = search rules in
    omega (arith, count, same, fits)

pub call_first-requires-clause-bounds : goal.call_first-requires-clause-bounds
call_first-requires-clause-bounds g c = c.requires.stands.sound.1.bounds

pub call_first-requires-clause-here : goal.call_first-requires-clause-here
call_first-requires-clause-here g c = record {
  stack = (
      let m = c.args.m.now in
      let t = c.requires.stands.sound.0 in
      let live = running_live t (reach_of m.world []) m.stacks.table c.frames.result.now.flat c.frames.ensures.running c.requires.stands.sound.1.stacks in
      let rest = live_taken t (reach_of m.world []) (c.args.count + 1) c.frames.result.now.flat c.take_operands.new.frames.flat
      c.take_operands.new.items.items c.in-Ok.ensures.taken live in
      (t, subst (λ (x : FlatStack). IsLiveStack t (reach_of m.world []) x) (same_Some _ _ c.frames-2.ensures.running) rest.rest));
  stack_named = (
      let m = c.args.m.now in
      let names = g.N.Names.known c.args.names.now in
      let all = extent_of m.world.heap in
      let both = taken_named names all (c.args.count + 1) c.frames.result.now.flat c.take_operands.new.frames.flat c.take_operands.new.items.items
      c.in-Ok.ensures.taken
      (subst (λ (o : Option FlatStack). StackNamed names (stack_in all (running_of o))) c.frames.ensures.running c.requires.named.stack_named) in
      subst (λ (x : FlatStack). StackNamed names (stack_in all x)) (same_Some _ _ c.frames-2.ensures.running) both.1);
  world_named = search rules;
}

pub call_first-requires-clause-given : goal.call_first-requires-clause-given
call_first-requires-clause-given g c = record {
  items = (
      let m = c.args.m.now in
      let t = c.requires.stands.sound.0 in
      let live = running_live t (reach_of m.world []) m.stacks.table c.frames.result.now.flat c.frames.ensures.running c.requires.stands.sound.1.stacks in
      let rest = live_taken t (reach_of m.world []) (c.args.count + 1) c.frames.result.now.flat c.take_operands.new.frames.flat
      c.take_operands.new.items.items c.in-Ok.ensures.taken live in
      let reach : Reach = with_locals (held.local_count c.frames-2.result.now.flat) (reach_of m.world []) in
      subst (λ (xs : List Item). All (IsLiveItem reach) xs) (sym c.deref.ensures.value)
      (subst (λ (x : FlatStack). All (IsLiveItem (with_locals (held.local_count x) (reach_of m.world []))) c.take_operands.new.items.items)
      (same_Some _ _ c.frames-2.ensures.running) rest.items_live));
  items_named = (
      let m = c.args.m.now in
      let names = g.N.Names.known c.args.names.now in
      let all = extent_of m.world.heap in
      let both = taken_named names all (c.args.count + 1) c.frames.result.now.flat c.take_operands.new.frames.flat c.take_operands.new.items.items
      c.in-Ok.ensures.taken
      (subst (λ (o : Option FlatStack). StackNamed names (stack_in all (running_of o))) c.frames.ensures.running c.requires.named.stack_named) in
      subst (λ (xs : List Item). All (ItemNamed names) (map (item_in all) xs)) (sym c.deref.ensures.value) both.0);
}

pub returns-clause-step : goal.returns-clause-step
returns-clause-step g c =
    let m = c.args.m.now in
    let t = tables_of c.args.code.now in
    let after : Machine g.row.K.Denot
    = record {
      world = c.call_first.new.world;
      stacks = with_stack m.stacks c.call_first.new.frames;
      turns = m.turns + 1;
      begun = m.begun;
      limits = m.limits;
    } in
    let more : nat_lt m.turns (heap_of m.world.heap).bounds.turns ≡ true
    = ap (λ (x : Bounds). nat_lt m.turns x.turns) c.requires.stands.sound.1.bounds ∙ nat_lt_true m.turns m.limits.turns c.if-m.false in
    operands_perform m after c.requires.stands.sound.0 t (Instrs.Invoke c.args.count) (suc c.args.count) (invoked_with flat t) c.frames.result.now.flat
    c.take_operands.new.frames.flat c.frames-2.result.now.flat c.call_first.new.frames.flat
    c.take_operands.new.items.items c.deref.result.now _ _ c.call_first.result (λ a st. refl) c.frames.ensures.running
    (subst (λ (n : ℕ). take_operands n c.frames.result.now.flat ≡ Some (c.take_operands.new.items.items, c.take_operands.new.frames.flat))
    (add-one c.args.count) c.in-Ok.ensures.taken)
    (same_Some _ _ c.frames-2.ensures.running) c.deref.ensures.value more c.call_first.ensures.leaves.kept c.requires.stands.sound.1.stacks
    (add-one m.turns) refl refl
    c.call_first.ensures.going c.call_first.ensures.step

pub returns-clause-sound : goal.returns-clause-sound
returns-clause-sound g c k =
    let m = c.args.m.now in
    let t = tables_of c.args.code.now in
    let after : Machine g.row.K.Denot
    = record {
      world = c.call_first.new.world;
      stacks = with_stack m.stacks c.call_first.new.frames;
      turns = m.turns + 1;
      begun = m.begun;
      limits = m.limits;
    } in
    let live = running_live t (reach_of m.world []) m.stacks.table c.frames.result.now.flat c.frames.ensures.running k.stacks in
    let rest = live_taken t (reach_of m.world []) (c.args.count + 1) c.frames.result.now.flat c.take_operands.new.frames.flat
    c.take_operands.new.items.items c.in-Ok.ensures.taken live in
    let here : IsLiveStack t (reach_of m.world []) c.frames-2.result.now.flat
    = subst (λ (x : FlatStack). IsLiveStack t (reach_of m.world []) x) (same_Some _ _ c.frames-2.ensures.running) rest.rest in
    unless_both c.call_first.result (IsLiveStack t (reach_of c.call_first.new.world []) c.call_first.new.frames.flat)
    (KeepsCounts m.world c.call_first.new.world)
    (IsSoundMachine t after)
    (c.call_first.ensures.live here) c.call_first.ensures.leaves.counts
    (λ l counts. sound_after m after t c.call_first.new.frames.flat refl refl refl c.call_first.ensures.leaves.kept l counts k)

pub returns-clause-stack : goal.returns-clause-stack
returns-clause-stack g c =
    let m = c.args.m.now in
    let after : Machine g.row.K.Denot
    = record {
      world = c.call_first.new.world;
      stacks = with_stack m.stacks c.call_first.new.frames;
      turns = m.turns + 1;
      begun = m.begun;
      limits = m.limits;
    } in
    going_has_stack after c.call_first.result c.call_first.ensures.going refl

pub returns-clause-coexps_named : goal.returns-clause-coexps_named
returns-clause-coexps_named g c h =
    let m = c.args.m.now in
    coexps_left c.requires.stands.sound.0 (g.N.Names.known c.args.names.now) m.world c.call_first.new.world m.stacks.table c.call_first.new.frames.flat
    c.call_first.ensures.leaves.kept c.requires.stands.sound.1.stacks h
