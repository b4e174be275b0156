use Rattle.std.proofs.Common.{◌≡◌, Option, Some, length, [], sym, ap, ◌∙◌, subst}
use Rattle.icn_heap.specs.declared.heap.Heap.{Heap as HeldHeap}
use Rattle.icn_heap.specs.Heaps.{extent_of, heap_of}
use Rattle.icn_vars.specs.Worlds.{Reach, reach_of, world_of}
use Rattle.icn_frames.specs.Stacks.{FlatStack}
use Rattle.icn_code.specs.Codes.{Tables}
use Rattle.icn_run.specs.Stacks.{Frames, flat}
use Rattle.icn_run.specs.Step.{Store, all_names, fails, stuck}
use Rattle.icn_control.specs.LiveStacks.{IsLiveStack}
use Rattle.icn_control.specs.Machines.{AreLiveStacks, running_of, store_in}
use Rattle.icn_control.specs.StackViews.{stack_in}
use Rattle.icn_control.proofs.CountedSteps.{heap_counts}
use Rattle.icn_control.proofs.MachineSteps.{stacks_on}
use Rattle.icn_control.proofs.FailingMachineSteps.{due_at}
use Rattle.icn_control.specs.FailingStacks.{FallsBelow}
use Rattle.icn_control.proofs.NamedFailing.{stack_falls, store_falls}
use Rattle.icn_control.proofs.failing_step.fail_once.Goals as goal

pub fall-requires-clause-goes_on : goal.fall-requires-clause-goes_on
fall-requires-clause-goes_on g c =
    let m = c.args.m.now in
    let t : Tables = c.requires.goes_on.0 in
    let st : Store Frames = store_in (all_names t) c.requires.goes_on.1.0 (world_of m.world) m.turns m.begun.items (extent_of m.world.heap) m.stacks.table in (
      t,
      (
        st,
        subst (λ (x : Option FlatStack). fails flat t (stack_in (extent_of m.world.heap) (running_of x)) st ≡ stuck → ⊥) c.frames.ensures.running
            c.requires.goes_on.1.1,
      ),
    )

pub returns-clause-step : goal.returns-clause-step
returns-clause-step g c tables outside =
    let m = c.args.m.now in
    due_at (all_names tables) outside tables m.world c.fall.new.world m.turns m.begun.items m.stacks.table c.frames.result.now.flat c.fall.new.frames.flat
    c.fall.result c.frames.ensures.running c.fall.ensures.same.heap (c.fall.ensures.step tables)

pub returns-clause-sound : goal.returns-clause-sound
returns-clause-sound g c tables k =
    let m = c.args.m.now in
    let on = stacks_on tables (reach_of m.world []) m.stacks.table c.frames.result.now.flat c.fall.new.frames.flat c.frames.ensures.running
    (λ l. subst (λ (r : Reach). IsLiveStack tables r c.fall.new.frames.flat) c.fall.ensures.same.reach (c.fall.ensures.live tables l)) k.stacks in
    record {
      stacks = subst (λ (r : Reach). AreLiveStacks tables r (record m.stacks.table { running = Some c.fall.new.frames.flat }))
          (sym c.fall.ensures.same.reach) on;
      bounds = ap (λ (h : HeldHeap). (heap_of h).bounds) c.fall.ensures.same.heap ∙ k.bounds;
      counts = ap (λ (h : HeldHeap). length (heap_of h).coexps) c.fall.ensures.same.heap ∙ k.counts;
      counted =
          record {
            results = heap_counts m.turns m.stacks.table.active m.world.heap c.fall.new.world.heap c.fall.ensures.same.heap k.counted.results;
            activators = k.counted.activators;
          };
    }

pub returns-clause-less : goal.returns-clause-less
returns-clause-less g c =
    subst (λ (o : Option FlatStack). FallsBelow (running_of o) c.fall.new.frames.flat c.fall.result) (sym c.frames.ensures.running) c.fall.ensures.less

pub returns-clause-heap : goal.returns-clause-heap
returns-clause-heap g c = c.fall.ensures.same.heap

pub returns-clause-named : goal.returns-clause-named
returns-clause-named g c =
    let m = c.args.m.now in
    record {
      stack =
          stack_falls m.world c.fall.new.world m.stacks.table.running c.frames.result.now.flat c.fall.new.frames.flat c.fall.result c.frames.ensures.running
          c.fall.ensures.same.heap c.fall.ensures.named;
      store = store_falls m.world c.fall.new.world m.turns m.begun.items m.stacks.table c.fall.new.frames.flat c.fall.ensures.same.heap
          c.fall.ensures.world_named;
    }
