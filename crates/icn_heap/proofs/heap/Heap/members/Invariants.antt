use Rattle.std.proofs.Common.{◌≡◌, map}
use Rattle.std.specs.List.{All, slice_range}
use Rattle.icn_value.specs.Store.{set_at}
use Rattle.icn_heap.specs.Extents.{IsLive, value_in}
use Rattle.icn_heap.specs.Heaps.{extent_of, heap_of}
use Rattle.icn_heap.proofs.heap.Heap.members.Given as goal

abbrev pub invariant-loop-place : goal.invariant-loop-place
invariant-loop-place l = record {
  members : map (value_in (extent_of l.self)) l.members.items ≡ slice_range (set_at (heap_of l.self) l.set) 0 l.place;
  live : All (IsLive (extent_of l.self)) l.members.items;
}
