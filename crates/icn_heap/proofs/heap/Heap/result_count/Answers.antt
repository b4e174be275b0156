use Rattle.icn_heap.specs.Heaps.{extent_of, heap_of}
use Rattle.icn_heap.proofs.heap.Heap.result_count.Goals as goal

pub returns-clause-count : goal.returns-clause-count
unfolding heap_of
returns-clause-count c = c.count_of_results.ensures

pub returns-clause-small : goal.returns-clause-small
unfolding extent_of
returns-clause-small c = rw c.count_of_results.ensures (c.args.self.now.sound.structures.coexps c.args.id 0 c.requires.live)
