use Rattle.std.proofs.Common.{◌≡◌, ◌+◌, ℕ, true, false, nat_lt, length, Some, [], refl, sym, ap, ◌∙◌, subst, add-one, rules}
use Rattle.std.proofs.lemmas.Option.{same_Some}
use Rattle.std.specs.List.{All}
use Rattle.std.proofs.lemmas.List.Elements.{All-same}
use Rattle.icn_value.specs.Limited.{Bounds}
use Rattle.icn_heap.specs.Heaps.{extent_of, heap_of}
use Rattle.icn_vars.specs.Worlds.{Reach, IsLiveItem, reach_of, world_of}
use Rattle.icn_frames.specs.Stacks as held
use Rattle.icn_frames.specs.Stacks.{FlatStack}
use Rattle.icn_run.specs.Stacks.{Frames}
use Rattle.icn_run.specs.Step.{State, running, all_names}
use Rattle.icn_control.specs.LiveStacks.{IsLiveStack, with_locals}
use Rattle.icn_coexp.specs.Transfers.{with_stack}
use Rattle.icn_control.specs.Machines.{IsSoundMachine, store_in, store_seen}
use Rattle.icn_control.specs.declared.machine.Machine.{Machine}
use Rattle.icn_control.specs.StackViews.{stack_in}
use Rattle.icn_control.specs.TakenOperands.{KeepsCounts, push_list}
use Rattle.icn_control.proofs.CountedSteps.{list_counts, turn_more}
use Rattle.icn_control.proofs.ExhaustSteps.{nat_lt_true}
use Rattle.icn_control.proofs.GrowthSteps.{stacks_grow}
use Rattle.icn_control.proofs.Halts.{both_unless_ended, halt_has_stack}
use Rattle.icn_control.proofs.ListSteps.{halts_is, listed_halts, listed_runs, llist_is, nat_lt_false, turn_bound, turn_halts, turn_runs}
use Rattle.icn_control.proofs.LiteralSteps.{running_live}
use Rattle.icn_control.proofs.MachineSteps.{stacks_on}
use Rattle.icn_control.proofs.StackAndWorldSteps.{match_halt}
use Rattle.icn_control.proofs.TakenOperandSteps.{live_taken}
use Rattle.icn_control.proofs.lists.make_list.Goals as goal

pub returns-then-m-clause-step : goal.returns-then-m-clause-step
returns-then-m-clause-step g c tables outside =
    let m = c.args.m.now in
    let none : nat_lt m.turns (heap_of m.world.heap).bounds.turns ≡ false
    = ap (λ (x : Bounds). nat_lt m.turns x.turns) c.requires.stands.sound.1.bounds ∙ nat_lt_false m.turns m.limits.turns c.if-m.true in
    llist_is (extent_of m.world.heap) tables m.stacks.table c.frames.result.now.flat c.take_operands.new.frames.flat c.take_operands.new.items.items
    c.args.count (store_seen tables outside m) c.frames.ensures.running c.in-Ok.ensures.taken
    ∙ turn_bound tables (store_seen tables outside m)
    (store_in (all_names tables) outside
    (world_of m.world) m.turns m.begun.items (extent_of m.world.heap) (record m.stacks.table { running = Some c.take_operands.new.frames.flat }))
    (push_list m.world c.take_operands.new.frames.flat c.take_operands.new.items.items) none refl

pub returns-then-m-clause-keeps : goal.returns-then-m-clause-keeps
returns-then-m-clause-keeps g c = record {
  sound = λ tables k. (
      let m = c.args.m.now in
      record {
        stacks = stacks_on tables (reach_of m.world []) m.stacks.table c.frames.result.now.flat c.take_operands.new.frames.flat c.frames.ensures.running
            (λ l. (live_taken tables (reach_of m.world []) c.args.count c.frames.result.now.flat c.take_operands.new.frames.flat c.take_operands.new.items.items
            c.in-Ok.ensures.taken l).rest) k.stacks;
        bounds = k.bounds;
        counts = k.counts;
        counted = record { results = k.counted.results; activators = k.counted.activators };
      });
  halt = search rules;
  limits = refl;
  stack = search rules;
}

pub push_list-requires-clause-stack : goal.push_list-requires-clause-stack
push_list-requires-clause-stack g c =
    let m = c.args.m.now in
    let t = c.requires.stands.sound.0 in
    let live = running_live t (reach_of m.world []) m.stacks.table c.frames.result.now.flat c.frames.ensures.running c.requires.stands.sound.1.stacks in
    let rest = live_taken t
    (reach_of m.world []) c.args.count c.frames.result.now.flat c.take_operands.new.frames.flat c.take_operands.new.items.items c.in-Ok.ensures.taken live in
    (t, subst (λ (x : FlatStack). IsLiveStack t (reach_of m.world []) x) (same_Some _ _ c.frames-2.ensures.running) rest.rest)

pub push_list-requires-clause-items : goal.push_list-requires-clause-items
push_list-requires-clause-items g c =
    let m = c.args.m.now in
    let t = c.requires.stands.sound.0 in
    let live = running_live t (reach_of m.world []) m.stacks.table c.frames.result.now.flat c.frames.ensures.running c.requires.stands.sound.1.stacks in
    let rest = live_taken t
    (reach_of m.world []) c.args.count c.frames.result.now.flat c.take_operands.new.frames.flat c.take_operands.new.items.items c.in-Ok.ensures.taken live in
    let reach : Reach = with_locals (held.local_count c.frames-2.result.now.flat) (reach_of m.world []) in
    All-same (IsLiveItem reach) _ _ c.deref.ensures.value
    (subst (λ (x : FlatStack). All (IsLiveItem (with_locals (held.local_count x) (reach_of m.world []))) c.take_operands.new.items.items)
    (same_Some _ _ c.frames-2.ensures.running) rest.items_live)

pub returns-in_err-push_list-clause-step : goal.returns-in_err-push_list-clause-step
returns-in_err-push_list-clause-step g c tables outside =
    let m = c.args.m.now in
    let v = c.push_list.new.world in
    let n : FlatStack = c.push_list.new.frames.flat in
    let more : nat_lt m.turns (heap_of m.world.heap).bounds.turns ≡ true
    = ap (λ (x : Bounds). nat_lt m.turns x.turns) c.requires.stands.sound.1.bounds ∙ nat_lt_true m.turns m.limits.turns c.if-m.false in
    let after : Machine g.row.K.Denot = record {
      world = v;
      stacks = with_stack m.stacks c.push_list.new.frames;
      turns = m.turns + 1;
      begun = m.begun;
      limits = m.limits;
    } in
    match_halt c.from_residual.result c.in_err-push_list.field-0.0 _ _ c.from_residual.ensures.1
    (halts_is after tables outside c.in_err-push_list.field-0.0 _ _
    (llist_is (extent_of m.world.heap) tables m.stacks.table c.frames.result.now.flat c.take_operands.new.frames.flat c.take_operands.new.items.items
    c.args.count (store_seen tables outside m) c.frames.ensures.running c.in-Ok.ensures.taken)
    (turn_halts after c.requires.stands.sound.0 tables outside m.world m.turns m.stacks.table n
    (push_list m.world c.take_operands.new.frames.flat c.take_operands.new.items.items) c.in_err-push_list.field-0.0 more refl (add-one m.turns)
    c.push_list.ensures.leaves.kept c.requires.stands.sound.1.stacks
    (listed_halts m.world v c.take_operands.new.frames.flat c.frames-2.result.now.flat (stack_in (extent_of v.heap) n) c.take_operands.new.items.items
    c.deref.result.now c.in_err-push_list.field-0.0 (same_Some _ _ c.frames-2.ensures.running) c.deref.ensures.value c.in_err-push_list.ensures.step)))

pub returns-in_err-push_list-clause-keeps : goal.returns-in_err-push_list-clause-keeps
returns-in_err-push_list-clause-keeps g c = record {
  sound = λ tables k. (
      let m = c.args.m.now in
      let h = c.in_err-push_list.field-0.0 in
      let after : Machine g.row.K.Denot = record {
        world = c.push_list.new.world;
        stacks = with_stack m.stacks c.push_list.new.frames;
        turns = m.turns + 1;
        begun = m.begun;
        limits = m.limits;
      } in
      let live = running_live tables (reach_of m.world []) m.stacks.table c.frames.result.now.flat c.frames.ensures.running k.stacks in
      let rest = live_taken tables
      (reach_of m.world []) c.args.count c.frames.result.now.flat c.take_operands.new.frames.flat c.take_operands.new.items.items c.in-Ok.ensures.taken live in
      let here : IsLiveStack tables (reach_of m.world []) c.frames-2.result.now.flat = subst (λ (x : FlatStack). IsLiveStack tables (reach_of m.world []) x)
      (same_Some _ _ c.frames-2.ensures.running) rest.rest in
      both_unless_ended Unit c.from_residual.result h (IsLiveStack tables (reach_of c.push_list.new.world []) c.push_list.new.frames.flat)
      (KeepsCounts m.world c.push_list.new.world) (IsSoundMachine tables after) c.from_residual.ensures.1
      (λ on counts. record {
        stacks = stacks_grow tables m.world c.push_list.new.world m.stacks.table c.push_list.new.frames.flat c.push_list.ensures.leaves.kept on k.stacks;
        bounds = counts.bounds ∙ k.bounds;
        counts = ap length counts.coexps ∙ k.counts;
        counted = record {
          results = list_counts (m.turns + 1) m.stacks.table.active (heap_of m.world.heap).coexps
              (heap_of c.push_list.new.world.heap).coexps counts.coexps
              (turn_more m.turns m.stacks.table.active (heap_of m.world.heap).coexps k.counted.results);
          activators = k.counted.activators;
        };
      })
      (c.in_err-push_list.ensures.live tables here) c.in_err-push_list.ensures.leaves.counts);
  halt = search rules;
  limits = refl;
  stack = (
      let m = c.args.m.now in
      let after : Machine g.row.K.Denot = record {
        world = c.push_list.new.world;
        stacks = with_stack m.stacks c.push_list.new.frames;
        turns = m.turns + 1;
        begun = m.begun;
        limits = m.limits;
      } in
      halt_has_stack after c.from_residual.result c.in_err-push_list.field-0.0 c.from_residual.ensures.1 refl);
}

pub returns-clause-step : goal.returns-clause-step
returns-clause-step g c tables outside =
    let m = c.args.m.now in
    let v = c.push_list.new.world in
    let n = c.push_list.new.frames.flat in
    let more : nat_lt m.turns (heap_of m.world.heap).bounds.turns ≡ true
    = ap (λ (x : Bounds). nat_lt m.turns x.turns) c.requires.stands.sound.1.bounds ∙ nat_lt_true m.turns m.limits.turns c.if-m.false in
    let F : ℕ → State Frames Frames = λ k. running (stack_in (extent_of v.heap) n)
    (store_in (all_names tables) outside (world_of v) k m.begun.items (extent_of v.heap) (record m.stacks.table { running = Some n })) in
    llist_is (extent_of m.world.heap) tables m.stacks.table c.frames.result.now.flat c.take_operands.new.frames.flat c.take_operands.new.items.items
    c.args.count (store_seen tables outside m) c.frames.ensures.running c.in-Ok.ensures.taken
    ∙ turn_runs c.requires.stands.sound.0 tables (all_names tables) outside m.world v m.turns m.begun.items m.stacks.table n
    (push_list m.world c.take_operands.new.frames.flat c.take_operands.new.items.items) more c.push_list.ensures.leaves.kept c.requires.stands.sound.1.stacks
    (listed_runs m.world v c.take_operands.new.frames.flat c.frames-2.result.now.flat n c.take_operands.new.items.items c.deref.result.now
    (same_Some _ _ c.frames-2.ensures.running) c.deref.ensures.value c.in_ok-push_list.ensures.step)
    ∙ ap F (sym (add-one m.turns))

pub returns-clause-keeps : goal.returns-clause-keeps
returns-clause-keeps g c = record {
  sound = λ tables k. (
      let m = c.args.m.now in
      let live = running_live tables (reach_of m.world []) m.stacks.table c.frames.result.now.flat c.frames.ensures.running k.stacks in
      let rest = live_taken tables
      (reach_of m.world []) c.args.count c.frames.result.now.flat c.take_operands.new.frames.flat c.take_operands.new.items.items c.in-Ok.ensures.taken live in
      let here : IsLiveStack tables (reach_of m.world []) c.frames-2.result.now.flat = subst (λ (x : FlatStack). IsLiveStack tables (reach_of m.world []) x)
      (same_Some _ _ c.frames-2.ensures.running) rest.rest in
      record {
        stacks = stacks_grow tables m.world c.push_list.new.world m.stacks.table c.push_list.new.frames.flat c.push_list.ensures.leaves.kept
            (c.in_ok-push_list.ensures.live tables here) k.stacks;
        bounds = c.in_ok-push_list.ensures.leaves.counts.bounds ∙ k.bounds;
        counts = ap length c.in_ok-push_list.ensures.leaves.counts.coexps ∙ k.counts;
        counted = record {
          results = list_counts (m.turns + 1) m.stacks.table.active (heap_of m.world.heap).coexps
              (heap_of c.push_list.new.world.heap).coexps c.in_ok-push_list.ensures.leaves.counts.coexps
              (turn_more m.turns m.stacks.table.active (heap_of m.world.heap).coexps k.counted.results);
          activators = k.counted.activators;
        };
      });
  halt = search rules;
  limits = refl;
  stack = search rules;
}
