use Rattle.std.proofs.Common.{◌≡◌, ◌++◌, map, length}
use Rattle.std.specs.List.{All}
use Rattle.icn_structfn.specs.Sorting.{pair_at}
use Rattle.icn_heap.specs.Extents.{Extent, AreLive, values_in}
use Rattle.icn_structfn.proofs.ordering.pairs_at.Given as goal

abbrev pub invariant-loop-first : goal.invariant-loop-first
invariant-loop-first l = record {
  values : (all : Extent)
      → map (values_in all) l.found.items ++ map (pair_at (map (values_in all) l.pairs)) l.rest ≡ map (pair_at (map (values_in all) l.pairs)) l.places;
  live : (all : Extent) → All (AreLive all) l.pairs → All (AreLive all) l.found.items;
}

abbrev pub decreases-loop-first : goal.decreases-loop-first
decreases-loop-first l = length l.rest
