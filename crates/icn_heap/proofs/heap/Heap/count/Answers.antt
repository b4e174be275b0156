use Rattle.icn_heap.specs.Heaps.{extent_of, heap_of, parts_of}
use Rattle.icn_heap.proofs.OtherChanges.{coexp_counts}
use Rattle.icn_heap.proofs.ChangedParts.{with_coexps, sound_as}
use Rattle.icn_heap.proofs.heap.Heap.count.Goals as goal

pub invariant_of-self : goal.invariant_of-self
unfolding extent_of heap_of
invariant_of-self c = record {
  sound = sound_as (with_coexps c.args.self.now _ c.raise_at.ensures) (coexp_counts (parts_of c.args.self.now) c.args.self.now.sound c.args.id c.requires.few);
}
