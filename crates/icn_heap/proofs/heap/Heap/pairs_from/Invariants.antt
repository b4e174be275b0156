use Rattle.std.proofs.Common.{◌≡◌, [], map, fold, take}
use Rattle.std.specs.List.{All}
use Rattle.icn_heap.specs.Extents.{values_in}
use Rattle.icn_heap.specs.Heaps.{extent_of}
use Rattle.icn_heap.specs.MadeStructures.{with_stored}
use Rattle.icn_heap.specs.HeapParts.{pair_in, IsSoundPair}
use Rattle.icn_heap.proofs.heap.Heap.pairs_from.Given as goal

abbrev pub invariant-loop-key : goal.invariant-loop-key
invariant-loop-key l = record {
  pairs : map (pair_in (extent_of l.self)) l.pairs ≡ fold with_stored [] (map (values_in (extent_of l.self)) (take l.key-index l.vals));
  sound : All (IsSoundPair (extent_of l.self)) l.pairs;
}
