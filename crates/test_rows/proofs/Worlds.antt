-- Worlds in which all has a name, as their globals, their statics and their texts become more.
use Rattle.std.proofs.Common.{◌≡◌, ap, subst, sym, List, [], ◌∷◌, ◌++◌}
use Rattle.std.specs.List.{All}
use Rattle.std.proofs.lemmas.List.Elements.{All-nil}
use Rattle.icn_value.specs.Limited.{Bounds}
use Rattle.icn_value.specs.declared.val.Val.{Val}
use Rattle.icn_value.specs.Store.{World as StoreWorld, bare_outside}
use Rattle.icn_heap.specs.declared.heap.Heap.{Heap as HeldHeap}
use Rattle.icn_heap.specs.Extents.{IsLive, KeepsValues, value_in}
use Rattle.icn_heap.specs.Heaps.{empty_heap, extent_of, heap_of}
use Rattle.icn_heap.proofs.GrowingHeaps.{values_kept}
use Rattle.law_names.specs.NamedSettings.{HeapNamed, KeptNamed, SettingNamed, ValueNamed}
use Rattle.icn_vars.proofs.GrowingWorlds.{setting_over}
use Rattle.icn_vars.specs.declared.world.World.{World}
use Rattle.icn_vars.specs.Worlds.{new_world, world_of}
use Rattle.test_rows.specs.Naming.{AllNamed}
use Rattle.test_values.proofs.NamedValues.{empty_named, kept_named, values_more}
use Rattle.test_values.specs.OneRecord.{one_record}

-- That all has a name

pub new_named : (world : World) (bounds : Bounds) (first : HeldHeap) (vals vals' : List Val) → heap_of world.heap ≡ empty_heap bounds
    → world.globals.items ≡ [] → world.statics.items ≡ [] → world_of world ≡ new_world first vals vals' → AllNamed world []
new_named world bounds first vals vals' heap globals statics is = record {
  world = record {
    heap = subst (HeapNamed one_record) (sym heap) (empty_named one_record bounds);
    globals = rw globals (All-nil (ValueNamed one_record));
    statics = rw statics (All-nil (ValueNamed one_record));
    kept = subst (KeptNamed one_record) (sym (ap (λ (w : StoreWorld). w.kept) is)) tt;
  };
  locals = All-nil (ValueNamed one_record);
}

module _ (old new : World) (locals : List Val) (heap : new.heap ≡ old.heap) (words : new.words ≡ old.words) (named : AllNamed old locals) where
  pub static_named : (val : Val) → new.globals.items ≡ old.globals.items → new.statics.items ≡ old.statics.items ++ val ∷ []
      → ValueNamed one_record (value_in (extent_of old.heap) val) → AllNamed new locals
  static_named val globals statics is = record {
    world = record {
      heap = rw heap named.world.heap;
      globals = rw (heap, globals) named.world.globals;
      statics = rw heap (values_more one_record (extent_of old.heap) old.statics.items new.statics.items val named.world.statics is statics);
      kept = rw (heap, words) named.world.kept;
    };
    locals = rw heap named.locals;
  }

  pub global_named : (val : Val) → new.globals.items ≡ old.globals.items ++ val ∷ [] → new.statics.items ≡ old.statics.items
      → ValueNamed one_record (value_in (extent_of old.heap) val) → AllNamed new locals
  global_named val globals statics is = record {
    world = record {
      heap = rw heap named.world.heap;
      globals = rw heap (values_more one_record (extent_of old.heap) old.globals.items new.globals.items val named.world.globals is globals);
      statics = rw (heap, statics) named.world.statics;
      kept = rw (heap, words) named.world.kept;
    };
    locals = rw heap named.locals;
  }

  pub cleared_named : new.globals.items ≡ old.globals.items → new.statics.items ≡ [] → AllNamed new locals
  cleared_named globals statics = record {
    world = record {
      heap = rw heap named.world.heap;
      globals = rw (heap, globals) named.world.globals;
      statics = rw statics (All-nil (ValueNamed one_record));
      kept = rw (heap, words) named.world.kept;
    };
    locals = rw heap named.locals;
  }

-- texts become more, and no structure changes
pub held_named : (old : World) (heap : HeldHeap) (locals : List Val) → AllNamed old locals → KeepsValues (extent_of old.heap) (extent_of heap)
    → heap_of heap ≡ heap_of old.heap
    → All (IsLive (extent_of old.heap)) old.globals.items → All (IsLive (extent_of old.heap)) old.statics.items → locals ≡ []
    → SettingNamed one_record (setting_over bare_outside heap old.pair old.words old.globals.items old.statics.items locals)
held_named old heap locals named keeps same live_globals live_statics none = record {
  world = record {
    heap = rw same named.world.heap;
    globals = rw (values_kept keeps old.globals.items live_globals) named.world.globals;
    statics = rw (values_kept keeps old.statics.items live_statics) named.world.statics;
    kept = kept_named one_record (extent_of old.heap) (extent_of heap) old.words.kept keeps old.sound.kept named.world.kept;
  };
  locals = rw none (All-nil (ValueNamed one_record));
}

pub without_locals : (world : World) (locals : List Val) → locals ≡ [] → AllNamed world [] → AllNamed world locals
without_locals world locals none named = rw none named
