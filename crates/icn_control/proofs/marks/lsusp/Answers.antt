use Rattle.std.proofs.Common.{[], Some, length, sym, ap, ◌∙◌, subst}
use Rattle.icn_heap.specs.declared.heap.Heap.{Heap as HeldHeap}
use Rattle.icn_heap.specs.Heaps.{heap_of}
use Rattle.icn_vars.specs.Worlds.{Reach, reach_of}
use Rattle.icn_code.specs.declared.instr.Instr.TheVariants as Instrs
use Rattle.icn_control.specs.Machines.{AreLiveStacks}
use Rattle.icn_control.proofs.CountedSteps.{heap_counts}
use Rattle.icn_control.proofs.MachineSteps.{stacks_on, leaves_on}
use Rattle.icn_control.proofs.marks.lsusp.Goals as goal

pub returns-clause-step : goal.returns-clause-step
returns-clause-step g c tables outside =
    let m = c.args.m.now in
    leaves_on Instrs.Lsusp tables outside m.world c.restore_pair.new.world m.turns m.begun.items m.stacks.table c.frames.result.now.flat
    c.give_limited.new.frames.flat c.in_ok-pair.pair c.frames.ensures.running c.in_ok-pair.ensures.step
    c.restore_pair.ensures.same.heap c.restore_pair.ensures.world

pub returns-clause-sound : goal.returns-clause-sound
returns-clause-sound g c tables k =
    let m = c.args.m.now in
    let on = stacks_on tables (reach_of m.world []) m.stacks.table c.frames.result.now.flat c.give_limited.new.frames.flat c.frames.ensures.running
    (c.in_ok-pair.ensures.live tables (reach_of m.world [])) k.stacks in
    record {
      stacks = subst (λ (r : Reach). AreLiveStacks tables r (record m.stacks.table { running = Some c.give_limited.new.frames.flat }))
          (sym c.restore_pair.ensures.same.reach) on;
      bounds = ap (λ (h : HeldHeap). (heap_of h).bounds) c.restore_pair.ensures.same.heap ∙ k.bounds;
      counts = ap (λ (h : HeldHeap). length (heap_of h).coexps) c.restore_pair.ensures.same.heap ∙ k.counts;
      counted = record {
        results = heap_counts m.turns m.stacks.table.active m.world.heap c.restore_pair.new.world.heap c.restore_pair.ensures.same.heap k.counted.results;
        activators = k.counted.activators;
      };
    }
