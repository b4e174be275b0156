use Rattle.std.proofs.lemmas.List.Elements.{All-push, All-same}
use Rattle.icn_heap.specs.Heaps.{extent_of}
use Rattle.icn_vars.specs.Worlds.{IsLiveItem, reach_of}
use Rattle.test_rows.proofs.Named.{items_more}
use Rattle.test_rows.proofs.apply.items.items_of.Goals as goal

pub loop-word-preserved : goal.loop-word-preserved
loop-word-preserved g c = record {
  live = All-same (IsLiveItem (reach_of c.args.w.now c.args.l.now.vals.items)) _ _ c.in_ok-add_item.ensures
      (All-push (IsLiveItem (reach_of c.args.w.now c.args.l.now.vals.items)) _ _ c.loop-word.invariant.live c.item_of-item.ensures.live);
  named = items_more (g.N.Names.known c.args.names.now) (extent_of c.args.w.now.heap) c.loop-word.items.items
      _ c.item_of-item.result c.loop-word.invariant.named c.item_of-item.ensures.named c.in_ok-add_item.ensures;
}
