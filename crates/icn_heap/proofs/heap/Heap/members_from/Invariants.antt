use Rattle.std.proofs.Common.{◌≡◌, [], map, fold, take}
use Rattle.std.specs.List.{All}
use Rattle.icn_value.specs.Sameness.{with_member}
use Rattle.icn_heap.specs.Extents.{value_in}
use Rattle.icn_heap.specs.Heaps.{extent_of}
use Rattle.icn_heap.specs.HeapParts.{set_in, IsSoundMember}
use Rattle.icn_heap.proofs.heap.Heap.members_from.Given as goal

abbrev pub invariant-loop-val : goal.invariant-loop-val
invariant-loop-val l = record {
  members : set_in l.members ≡ fold with_member [] (map (value_in (extent_of l.self)) (take l.val-index l.vals));
  sound : All (IsSoundMember (extent_of l.self)) l.members;
}
