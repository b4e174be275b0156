-- What stays of a world, its locals and the items at hand.
use Rattle.std.proofs.Common.{◌≡◌, refl, List, length}
use Rattle.std.specs.List.{All}
use Rattle.std.proofs.lemmas.List.Elements.{All-weaker}
use Rattle.icn_value.specs.declared.val.Val.{Val}
use Rattle.icn_value.specs.declared.item.Item.{Item}
use Rattle.icn_heap.specs.Extents.{IsLive, KeepsValues}
use Rattle.icn_heap.specs.Heaps.{extent_of, heap_of}
use Rattle.icn_vars.specs.declared.world.World.{World}
use Rattle.icn_vars.specs.SettingFacts.{IsSoundSetting}
use Rattle.icn_vars.specs.Worlds.{IsLiveItem, KeepsFields, KeepsItems, field_counts, reach_of}
use Rattle.icn_vars.proofs.GrowingWorlds.{locals_grow}
use Rattle.icn_vars.proofs.KeptItems.{item_stays, keeps_items}

pub setting_stays : (old new : World) (before after : List Val) (items : List Item) → KeepsItems (reach_of old before) (reach_of new after)
    → All (IsLive (extent_of new.heap)) after
    → IsSoundSetting old before items → IsSoundSetting new after items
setting_stays old new before after items keeps live is = record {
  sound = new.sound;
  live_locals = live;
  live_items = All-weaker (IsLiveItem (reach_of old before)) (IsLiveItem (reach_of new after)) (item_stays keeps) items is.live_items;
}

-- where the heap grows, and there are as many globals and statics
pub setting_grows : (old new : World) (locals : List Val) (items : List Item) → KeepsValues (extent_of old.heap) (extent_of new.heap)
    → KeepsFields (field_counts (heap_of old.heap)) (field_counts (heap_of new.heap))
    → length new.globals.items ≡ length old.globals.items → length new.statics.items ≡ length old.statics.items
    → IsSoundSetting old locals items → IsSoundSetting new locals items
setting_grows old new locals items extent fields globals statics is =
    setting_stays old new locals locals items (keeps_items (reach_of old locals) (reach_of new locals) extent fields globals statics refl)
    (locals_grow (extent_of old.heap) (extent_of new.heap) locals extent is.live_locals) is
