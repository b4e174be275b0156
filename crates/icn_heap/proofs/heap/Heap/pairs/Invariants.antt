use Rattle.std.proofs.Common.{◌≡◌, map}
use Rattle.std.specs.List.{All, slice_range}
use Rattle.icn_value.specs.Store.{table_at}
use Rattle.icn_heap.specs.Extents.{AreLive, values_in}
use Rattle.icn_heap.specs.Heaps.{extent_of, heap_of}
use Rattle.icn_heap.proofs.heap.Heap.pairs.Given as goal

abbrev pub invariant-loop-place : goal.invariant-loop-place
invariant-loop-place l = record {
  pairs : map (values_in (extent_of l.self)) l.pairs.items ≡ slice_range (table_at (heap_of l.self) l.table).pairs 0 l.place;
  live : All (AreLive (extent_of l.self)) l.pairs.items;
}
