use Rattle.std.proofs.Common.{map, length}
use Rattle.std.specs.List.{All}
use Rattle.icn_value.specs.Store.{Outside}
use Rattle.icn_heap.specs.Extents.{AreLive, IsLive, value_in, values_in}
use Rattle.icn_heap.specs.Heaps.{extent_of}
use Rattle.icn_vars.specs.Worlds.{KeepsItems, reach_of, setting_of}
use Rattle.icn_structfn.proofs.SortRows.{ListsLeft}
use Rattle.icn_structfn.proofs.sorting.lists_of.Given as goal

abbrev pub invariant-loop-first : goal.invariant-loop-first
invariant-loop-first g l = record {
  locals : All (IsLive (extent_of l.w.heap)) (g.L.Locals.items l.l);
  left : All (AreLive (extent_of l.initial.w.heap)) l.rest;
  made : All (IsLive (extent_of l.w.heap)) l.lists.items;
  kept : KeepsItems (reach_of l.initial.w (g.L.Locals.items l.l)) (reach_of l.w (g.L.Locals.items l.l));
  is : (outside : Outside)
      → ListsLeft (map (values_in (extent_of l.initial.w.heap)) l.pairs) (setting_of outside l.initial.w (g.L.Locals.items l.l))
      (map (value_in (extent_of l.w.heap)) l.lists.items) (map (values_in (extent_of l.initial.w.heap)) l.rest) (setting_of outside l.w (g.L.Locals.items l.l));
}

abbrev pub decreases-loop-first : goal.decreases-loop-first
decreases-loop-first g l = length l.rest
