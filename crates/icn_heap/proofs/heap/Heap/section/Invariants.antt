use Rattle.std.proofs.Common.{◌≡◌, map}
use Rattle.std.specs.List.{All, slice_range}
use Rattle.icn_value.specs.Store.{list_at}
use Rattle.icn_heap.specs.Extents.{IsLive, value_in}
use Rattle.icn_heap.specs.Heaps.{extent_of, heap_of}
use Rattle.icn_heap.proofs.heap.Heap.section.Given as goal

abbrev pub invariant-loop-place : goal.invariant-loop-place
invariant-loop-place l = record {
  items : map (value_in (extent_of l.self)) l.items.items ≡ slice_range (list_at (heap_of l.self) l.list).items l.from l.place;
  live : All (IsLive (extent_of l.self)) l.items.items;
}
