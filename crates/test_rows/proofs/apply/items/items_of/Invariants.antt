use Rattle.std.proofs.Common.{map}
use Rattle.std.specs.List.{All}
use Rattle.icn_heap.specs.Heaps.{extent_of}
use Rattle.law_names.specs.NamedSettings.{ItemNamed}
use Rattle.icn_vars.specs.Worlds.{IsLiveItem, item_in, reach_of}
use Rattle.test_rows.proofs.apply.items.items_of.Given as goal

abbrev pub invariant-loop-word : goal.invariant-loop-word
invariant-loop-word g l = record {
  live : All (IsLiveItem (reach_of l.w l.l.vals.items)) l.items.items;
  named : All (ItemNamed (g.N.Names.known l.names)) (map (item_in (extent_of l.w.heap)) l.items.items);
}
