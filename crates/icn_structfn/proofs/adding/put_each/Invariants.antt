use Rattle.std.proofs.Common.{◌≡◌, ◌+◌, ◌≤◌, map, length}
use Rattle.std.specs.List.{All}
use Rattle.icn_structs.specs.Numbered.{with_right}
use Rattle.icn_heap.specs.Extents.{IsLive, KeepsValues, value_in}
use Rattle.icn_heap.specs.Heaps.{extent_of, heap_of}
use Rattle.icn_structfn.specs.AddedElements.{added_to}
use Rattle.icn_structfn.proofs.adding.put_each.Given as goal

abbrev pub invariant-loop-first : goal.invariant-loop-first
invariant-loop-first l = record {
  kept : KeepsValues (extent_of l.initial.heap) (extent_of l.heap);
  left : All (IsLive (extent_of l.initial.heap)) l.rest;
  room : (heap_of l.heap).cells + length l.rest ≤ (heap_of l.heap).bounds.cells;
  records : (heap_of l.heap).records ≡ (heap_of l.initial.heap).records;
  is : added_to with_right l.list (map (value_in (extent_of l.initial.heap)) l.rest) (heap_of l.heap)
      ≡ added_to with_right l.list (map (value_in (extent_of l.initial.heap)) l.vals) (heap_of l.initial.heap);
}

abbrev pub decreases-loop-first : goal.decreases-loop-first
decreases-loop-first l = length l.rest
