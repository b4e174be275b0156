use Rattle.std.proofs.Common.{◌≡◌, map, filter, take}
use Rattle.std.specs.List.{All}
use Rattle.icn_value.specs.Store.{set_at}
use Rattle.icn_heap.specs.Extents.{IsLive, value_in}
use Rattle.icn_heap.specs.Heaps.{extent_of, heap_of}
use Rattle.icn_heap.specs.MadeStructures.{stands}
use Rattle.icn_heap.proofs.heap.Heap.members_standing.Given as goal

abbrev pub invariant-loop-member : goal.invariant-loop-member
invariant-loop-member l = record {
  all : map (value_in (extent_of l.self)) l.member-items ≡ set_at (heap_of l.self) l.set;
  live_all : All (IsLive (extent_of l.self)) l.member-items;
  members : map (value_in (extent_of l.self)) l.members.items
      ≡ filter (stands l.inside (set_at (heap_of l.self) l.other)) (map (value_in (extent_of l.self)) (take l.member-index l.member-items));
  live : All (IsLive (extent_of l.self)) l.members.items;
}
