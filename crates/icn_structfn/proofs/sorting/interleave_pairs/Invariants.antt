use Rattle.std.proofs.Common.{◌≡◌, ◌++◌, map, length}
use Rattle.std.specs.List.{All}
use Rattle.icn_heap.specs.Extents.{AreLive, Extent, IsLive, value_in, values_in}
use Rattle.icn_structfn.specs.Sorting.{in_turn}
use Rattle.icn_structfn.proofs.sorting.interleave_pairs.Given as goal

abbrev pub invariant-loop-first : goal.invariant-loop-first
invariant-loop-first l = record {
  values : (all : Extent) → map (value_in all) l.vals.items ++ in_turn (map (values_in all) l.rest) ≡ in_turn (map (values_in all) l.pairs);
  left : (all : Extent) → All (AreLive all) l.pairs → All (AreLive all) l.rest;
  live : (all : Extent) → All (AreLive all) l.pairs → All (IsLive all) l.vals.items;
}

abbrev pub decreases-loop-first : goal.decreases-loop-first
decreases-loop-first l = length l.rest
