use Rattle.std.proofs.Common.{◌≡◌, false, [], Some, length, refl, sym, ap, ◌∙◌, subst, arith, rules}
use Rattle.std.proofs.lemmas.Option.{same_Some}
use Rattle.icn_heap.specs.declared.heap.Heap.{Heap as HeldHeap}
use Rattle.icn_heap.specs.Heaps.{extent_of, heap_of}
use Rattle.icn_vars.specs.Worlds.{Reach, reach_of}
use Rattle.icn_frames.specs.Stacks as held
use Rattle.icn_frames.specs.Stacks.{FlatStack}
use Rattle.icn_coexp.specs.Transfers.{with_stack}
use Rattle.icn_run.specs.Stacks.{Frames, flat}
use Rattle.icn_run.specs.Step.{State, without_mark}
use Rattle.icn_control.specs.LiveStacks.{IsLiveStack}
use Rattle.icn_control.specs.Machines.{AreLiveStacks, StandsAt, store_seen}
use Rattle.icn_control.specs.declared.machine.Machine.{Machine}
use Rattle.icn_control.specs.StackViews.{stack_in}
use Rattle.icn_control.proofs.CountedSteps.{heap_counts}
use Rattle.icn_control.proofs.Lifting.{ends_at, ends_body, ends_call, ends_main}
use Rattle.icn_control.proofs.ListSteps.{on_running}
use Rattle.icn_control.proofs.MachineSteps.{stacks_on}
use Rattle.icn_control.proofs.RunningStacks.{stands_has_stack}
use Rattle.icn_control.proofs.leaving.end_failing.Goals as goal

pub returns-then-not-is_base-clause-step : goal.returns-then-not-is_base-clause-step
returns-then-not-is_base-clause-step g c tables outside =
    let m = c.args.m.now in
    let k : FlatStack = c.frames-then-not-is_base.result.now.flat in
    let after : Machine g.row.K.Denot = record {
      world = c.leave_failing.new.world;
      stacks = with_stack m.stacks c.leave_failing.new.frames;
      turns = m.turns;
      begun = m.begun;
      limits = m.limits;
    } in
    let called : held.is_base k ≡ false
    = subst (λ (x : FlatStack). held.is_base x ≡ false) (same_Some _ _ c.frames-then-not-is_base.ensures.running) (sym c.is_base.ensures
    ∙ c.if-not-is_base.true) in
    ends_at after c.requires.goes_on.0 tables c.requires.goes_on.1.0 outside m.world m.stacks.table k c.leave_failing.new.frames.flat c.leave_failing.result
    (c.frames.ensures.running ∙ c.frames-then-not-is_base.ensures.running) refl c.leave_failing.ensures.same.heap
    (λ any st a. ends_call (extent_of m.world.heap) any k st called) c.leave_failing.ensures.step c.requires.goes_on.1.1

pub returns-then-not-is_base-clause-keeps : goal.returns-then-not-is_base-clause-keeps
returns-then-not-is_base-clause-keeps g c = record {
  sound = λ tables k. (
      let m = c.args.m.now in
      let on = stacks_on tables (reach_of m.world []) m.stacks.table c.frames-then-not-is_base.result.now.flat c.leave_failing.new.frames.flat
      (c.frames.ensures.running ∙ c.frames-then-not-is_base.ensures.running)
      (λ l.
      subst (λ (r : Reach). IsLiveStack tables r c.leave_failing.new.frames.flat) c.leave_failing.ensures.same.reach (c.leave_failing.ensures.live tables l))
      k.stacks in
      record {
        stacks = subst (λ (r : Reach). AreLiveStacks tables r (record m.stacks.table { running = Some c.leave_failing.new.frames.flat }))
            (sym c.leave_failing.ensures.same.reach) on;
        bounds = ap (λ (h : HeldHeap). (heap_of h).bounds) c.leave_failing.ensures.same.heap ∙ k.bounds;
        counts = ap (λ (h : HeldHeap). length (heap_of h).coexps) c.leave_failing.ensures.same.heap ∙ k.counts;
        counted = record {
          results = heap_counts m.turns m.stacks.table.active m.world.heap c.leave_failing.new.world.heap c.leave_failing.ensures.same.heap k.counted.results;
          activators = k.counted.activators;
        };
      });
  limits = refl;
  stack = (
      let m = c.args.m.now in
      let after : Machine g.row.K.Denot = record {
        world = c.leave_failing.new.world;
        stacks = with_stack m.stacks c.leave_failing.new.frames;
        turns = m.turns;
        begun = m.begun;
        limits = m.limits;
      } in
      let st = store_seen c.requires.goes_on.0 c.requires.goes_on.1.0 m in
      stands_has_stack after _ st c.leave_failing.new.world c.leave_failing.new.frames.flat c.leave_failing.result (c.leave_failing.ensures.step st refl) refl);
}

pub returns-then-active-gt0-clause-step : goal.returns-then-active-gt0-clause-step
returns-then-active-gt0-clause-step g c tables outside =
    let m = c.args.m.now in
    let st = store_seen tables outside m in
    let is = on_running m.stacks.table c.frames.result.now.flat
    (λ x. without_mark flat tables (stack_in (extent_of m.world.heap) x) st) c.frames.ensures.running
    ∙ ends_body (extent_of m.world.heap) tables c.frames.result.now.flat st
    (λ q. absurd (omega (arith, c.if-active-gt0.true, c.active-active.ensures.number, q))) (sym c.is_base.ensures ∙ c.if-not-is_base.false) in
    subst (λ (x : State Frames Frames). StandsAt tables outside x c.exhaust.new.m c.exhaust.result) (sym is) (c.exhaust.ensures.step tables outside)

pub returns-clause-step : goal.returns-clause-step
returns-clause-step g c tables outside =
    let m = c.args.m.now in
    let k : FlatStack = c.frames-2.result.now.flat in
    let after : Machine g.row.K.Denot = record {
      world = c.leave_failing-2.new.world;
      stacks = with_stack m.stacks c.leave_failing-2.new.frames;
      turns = m.turns;
      begun = m.begun;
      limits = m.limits;
    } in
    let main : m.stacks.table.active ≡ 0 = omega (arith, c.if-active-gt0.false, c.active-active.ensures.number) in
    ends_at after c.requires.goes_on.0 tables c.requires.goes_on.1.0 outside m.world m.stacks.table k c.leave_failing-2.new.frames.flat c.leave_failing-2.result
    (c.frames.ensures.running ∙ c.frames-2.ensures.running) refl c.leave_failing-2.ensures.same.heap
    (λ any st a. ends_main (extent_of m.world.heap) any k st (a ∙ main)) c.leave_failing-2.ensures.step c.requires.goes_on.1.1

pub returns-clause-keeps : goal.returns-clause-keeps
returns-clause-keeps g c = record {
  sound = λ tables k. (
      let m = c.args.m.now in
      let on = stacks_on tables (reach_of m.world []) m.stacks.table c.frames-2.result.now.flat c.leave_failing-2.new.frames.flat (c.frames.ensures.running
      ∙ c.frames-2.ensures.running)
      (λ l. subst (λ (r : Reach). IsLiveStack tables r c.leave_failing-2.new.frames.flat) c.leave_failing-2.ensures.same.reach
      (c.leave_failing-2.ensures.live tables l)) k.stacks in
      record {
        stacks = subst (λ (r : Reach). AreLiveStacks tables r (record m.stacks.table { running = Some c.leave_failing-2.new.frames.flat }))
            (sym c.leave_failing-2.ensures.same.reach) on;
        bounds = ap (λ (h : HeldHeap). (heap_of h).bounds) c.leave_failing-2.ensures.same.heap ∙ k.bounds;
        counts = ap (λ (h : HeldHeap). length (heap_of h).coexps) c.leave_failing-2.ensures.same.heap ∙ k.counts;
        counted = record {
          results = heap_counts m.turns m.stacks.table.active m.world.heap c.leave_failing-2.new.world.heap c.leave_failing-2.ensures.same.heap
              k.counted.results;
          activators = k.counted.activators;
        };
      });
  limits = refl;
  stack = (
      let m = c.args.m.now in
      let after : Machine g.row.K.Denot = record {
        world = c.leave_failing-2.new.world;
        stacks = with_stack m.stacks c.leave_failing-2.new.frames;
        turns = m.turns;
        begun = m.begun;
        limits = m.limits;
      } in
      let st = store_seen c.requires.goes_on.0 c.requires.goes_on.1.0 m in
      stands_has_stack after _ st c.leave_failing-2.new.world c.leave_failing-2.new.frames.flat c.leave_failing-2.result
      (c.leave_failing-2.ensures.step st refl) refl);
}

pub returns-then-active-gt0-clause-keeps : goal.returns-then-active-gt0-clause-keeps
returns-then-active-gt0-clause-keeps g c = record {
  sound = λ tables k. (
      let m = c.args.m.now in
      let f : FlatStack = c.frames.result.now.flat in
      c.exhaust.ensures.keeps.sound tables (record {
        stacks = stacks_on tables (reach_of m.world []) m.stacks.table f f c.frames.ensures.running (λ l. l) k.stacks;
        bounds = k.bounds;
        counts = k.counts;
        counted = record { results = k.counted.results; activators = k.counted.activators };
      }));
  limits = c.exhaust.ensures.keeps.limits;
  stack = search rules;
}
