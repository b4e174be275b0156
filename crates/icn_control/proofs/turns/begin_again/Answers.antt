use Rattle.icn_heap.specs.Heaps.{heap_of}
use Rattle.icn_control.proofs.CountedSteps.{turn_more}
use Rattle.icn_control.proofs.turns.begin_again.Goals as goal

pub returns-clause-sound : goal.returns-clause-sound
returns-clause-sound g c tables k =
    let m = c.args.m.now in
    record {
      stacks = k.stacks;
      bounds = k.bounds;
      counts = k.counts;
      counted = record { results = turn_more m.turns m.stacks.table.active (heap_of m.world.heap).coexps k.counted.results; activators = k.counted.activators };
    }
