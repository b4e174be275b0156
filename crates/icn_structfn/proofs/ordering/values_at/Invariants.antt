use Rattle.std.proofs.Common.{◌≡◌, ◌++◌, map, length}
use Rattle.std.specs.List.{All}
use Rattle.icn_defs.specs.Arguments.{arg}
use Rattle.icn_heap.specs.Extents.{Extent, IsLive, value_in}
use Rattle.icn_structfn.proofs.ordering.values_at.Given as goal

abbrev pub invariant-loop-first : goal.invariant-loop-first
invariant-loop-first l = record {
  values : (all : Extent) → map (value_in all) l.found.items ++ map (arg (map (value_in all) l.vals)) l.rest ≡ map (arg (map (value_in all) l.vals)) l.places;
  live : (all : Extent) → All (IsLive all) l.vals → All (IsLive all) l.found.items;
}

abbrev pub decreases-loop-first : goal.decreases-loop-first
decreases-loop-first l = length l.rest
