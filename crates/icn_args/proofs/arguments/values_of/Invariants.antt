use Rattle.std.proofs.Common.{◌≡◌, List, map, length}
use Rattle.std.specs.List.{All}
use Rattle.icn_value.specs.Store.{Outside}
use Rattle.icn_value.specs.Values.{Value}
use Rattle.icn_defs.specs.ReadAndAssign.{the_values}
use Rattle.icn_defs.specs.Rows.{Row}
use Rattle.icn_heap.specs.Extents.{IsLive, value_in}
use Rattle.icn_heap.specs.Heaps.{extent_of}
use Rattle.icn_vars.specs.Worlds.{IsLiveItem, item_in, reach_of, setting_of}
use Rattle.icn_args.specs.ItemsLeft.{values_behind}
use Rattle.icn_args.proofs.arguments.values_of.Given as goal

abbrev pub invariant-loop-first : goal.invariant-loop-first
invariant-loop-first g l = record {
  live : All (IsLive (extent_of l.w.heap)) l.vals.items;
  left : All (IsLiveItem (reach_of l.w (g.L.Locals.items l.l))) l.rest;
  is : (outside : Outside) (next : List Value → Row)
      → the_values (map (item_in (extent_of l.w.heap)) l.items) next (setting_of outside l.w (g.L.Locals.items l.l))
      ≡ values_behind (map (value_in (extent_of l.w.heap)) l.vals.items) (map (item_in (extent_of l.w.heap)) l.rest) next
      (setting_of outside l.w (g.L.Locals.items l.l));
}

abbrev pub decreases-loop-first : goal.decreases-loop-first
decreases-loop-first g l = length l.rest
