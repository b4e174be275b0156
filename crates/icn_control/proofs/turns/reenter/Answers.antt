use Rattle.std.proofs.Common.{◌≡◌, ◌+◌, ℕ, Some, true, nat_lt, length, [], sym, ap, ◌∙◌, subst, add-one, rules, refl}
use Rattle.icn_value.specs.Limited.{Bounds}
use Rattle.icn_heap.specs.declared.heap.Heap.{Heap as HeldHeap}
use Rattle.icn_heap.specs.Heaps.{extent_of, heap_of}
use Rattle.icn_vars.specs.Worlds.{Reach, reach_of, world_of}
use Rattle.icn_run.specs.Stacks.{Frames}
use Rattle.icn_run.specs.Step.{State, running, all_names}
use Rattle.icn_control.specs.LiveStacks.{IsLiveStack}
use Rattle.icn_control.specs.Machines.{AreLiveStacks, store_in}
use Rattle.icn_control.specs.StackViews.{stack_in}
use Rattle.icn_control.proofs.CountedSteps.{heap_counts, turn_more}
use Rattle.icn_control.proofs.ExhaustSteps.{nat_lt_true}
use Rattle.icn_control.proofs.MachineSteps.{stacks_on}
use Rattle.icn_control.proofs.ResumedProcedures.{reenters}
use Rattle.icn_control.proofs.turns.reenter.Goals as goal

pub returns-clause-step : goal.returns-clause-step
returns-clause-step g c tables outside =
    let m = c.args.m.now in
    let v = c.swap_if_scanning.new.world in
    let n = c.swap_if_scanning.new.frames.flat in
    let more : nat_lt m.turns (heap_of m.world.heap).bounds.turns ≡ true
    = ap (λ (x : Bounds). nat_lt m.turns x.turns) c.requires.bounds ∙ nat_lt_true m.turns m.limits.turns c.if-m.false in
    let F : ℕ → State Frames Frames = λ k. running (stack_in (extent_of v.heap) n)
    (store_in (all_names tables) outside (world_of v) k m.begun.items (extent_of v.heap) (record m.stacks.table { running = Some n })) in
    reenters (all_names tables) outside tables m.world v m.turns m.begun.items m.stacks.table c.frames.result.now.flat n c.frames.ensures.running more
    c.swap_if_scanning.ensures.step c.swap_if_scanning.ensures.same.heap
    ∙ ap F (sym (add-one m.turns))

pub returns-clause-keeps : goal.returns-clause-keeps
returns-clause-keeps g c = record {
  sound = λ tables k. (
      let m = c.args.m.now in
      let on = stacks_on tables (reach_of m.world []) m.stacks.table c.frames.result.now.flat c.swap_if_scanning.new.frames.flat c.frames.ensures.running
      (λ l. subst (λ (r : Reach). IsLiveStack tables r c.swap_if_scanning.new.frames.flat) c.swap_if_scanning.ensures.same.reach
      (c.swap_if_scanning.ensures.live tables l)) k.stacks in
      record {
        stacks = subst (λ (r : Reach). AreLiveStacks tables r (record m.stacks.table { running = Some c.swap_if_scanning.new.frames.flat }))
            (sym c.swap_if_scanning.ensures.same.reach) on;
        bounds = ap (λ (h : HeldHeap). (heap_of h).bounds) c.swap_if_scanning.ensures.same.heap ∙ k.bounds;
        counts = ap (λ (h : HeldHeap). length (heap_of h).coexps) c.swap_if_scanning.ensures.same.heap ∙ k.counts;
        counted = record {
          results = heap_counts (m.turns + 1) m.stacks.table.active m.world.heap c.swap_if_scanning.new.world.heap c.swap_if_scanning.ensures.same.heap
              (turn_more m.turns m.stacks.table.active (heap_of m.world.heap).coexps k.counted.results);
          activators = k.counted.activators;
        };
      });
  limits = refl;
  stack = search rules;
}
