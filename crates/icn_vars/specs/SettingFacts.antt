-- What holds of a world, the locals of the procedure that runs, and the items at hand.
use Rattle.std.specs.Prelude.{List}
use Rattle.std.specs.List.{All}
use Rattle.icn_value.specs.declared.val.Val.{Val}
use Rattle.icn_value.specs.declared.item.Item.{Item}
use Rattle.icn_heap.specs.Extents.{IsLive}
use Rattle.icn_heap.specs.Heaps.{extent_of}
use Rattle.icn_vars.specs.declared.world.World.{World}
use Rattle.icn_vars.specs.WorldFacts.{IsSoundWorld}
use Rattle.icn_vars.specs.Worlds.{IsLiveItem, reach_of}

-- The world is sound, and what the locals and the items name is of it. The type of a world keeps the first, a call says the second of the
-- locals that it leaves, and by what it keeps of items the third stays.
pub record IsSoundSetting (world : World) (locals : List Val) (items : List Item) : Type 0 where
  pub sound : IsSoundWorld
      (extent_of world.heap) world.pair world.words world.globals.items world.statics.items
  pub live_locals : All (IsLive (extent_of world.heap)) locals
  pub live_items : All (IsLiveItem (reach_of world locals)) items
