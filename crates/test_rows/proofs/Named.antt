-- Worlds that may be called with, as their globals, their statics and their texts become more.
use Rattle.std.proofs.Common.{◌≡◌, refl, ap, ℤ, Result, Ok, Err, subst, sym, arith, ℕ, zero, suc, ◌<◌, ◌≤◌, List, [], ◌∷◌, ◌++◌, length, map}
use Rattle.std.specs.Prelude.{slice_index_or}
use Rattle.std.specs.List.{All}
use Rattle.std.proofs.lemmas.List.{map-append}
use Rattle.std.proofs.lemmas.List.Elements.{All-nil, All-cons, All-push}
use Rattle.icn_value.specs.Limited.{Bounds}
use Rattle.icn_value.specs.declared.val.Val.{Val as HeldVal}
use Rattle.icn_value.specs.declared.val.Val.TheVariants.{Null as NullVal, Integer as IntegerVal}
use Rattle.icn_value.specs.Store.{Names, Record, World as StoreWorld, bare_outside}
use Rattle.icn_value.specs.Values.{Value, Null, Integer, Val}
use Rattle.icn_heap.specs.declared.heap.Heap.{Heap as HeldHeap}
use Rattle.icn_heap.specs.Extents.{Extent, IsLive, KeepsValues, value_in}
use Rattle.icn_heap.specs.Heaps.{empty_heap, extent_of, heap_of}
use Rattle.icn_heap.proofs.GrowingHeaps.{values_kept}
use Rattle.icn_defs.specs.Calls.{GoesOn}
use Rattle.icn_defs.specs.Rows.{gives_value}
use Rattle.icn_defs.specs.Structures.{new_record_of}
use Rattle.law_names.specs.RowsNamed.{OutcomeNamed}
use Rattle.law_names.proofs.RowsNamed.{rows_keep_names}
use Rattle.law_names.specs.NamedSettings.{HeapNamed, ItemNamed, KeptNamed, ResidualNamed, SettingNamed, ValueNamed}
use Rattle.icn_value.specs.declared.item.Item.{Item as HeldItem}
use Rattle.icn_value.specs.declared.residual.Residual.{Residual as HeldResidual}
use Rattle.icn_vars.specs.declared.outcome.Outcome.{Outcome as HeldOutcome}
use Rattle.icn_vars.specs.declared.outcome.Outcome.TheVariants.{Fails as HeldFails, Gives as HeldGives, Suspends as HeldSuspends}
use Rattle.icn_vars.specs.declared.outcome.Halt.{Halt}
use Rattle.icn_vars.specs.Outcomes.{IsLiveAnswer, IsLiveHalt, IsLiveOutcome, IsLiveResidual, residual_in}
use Rattle.icn_vars.specs.Worlds.{IsLiveItem, Reach, item_in, new_world, reach_of, setting_of, world_of}
use Rattle.icn_vars.proofs.GrowingWorlds.{setting_over}
use Rattle.icn_vars.specs.declared.world.World.{World}
use Rattle.icn_apply.specs.NamesAfter.{AnswerNamed}
use Rattle.test_values.proofs.NamedValues.{empty_named, kept_named, values_more}
use Rattle.test_rows.specs.Ready.{ComesNamed, IsReadySetting, IsReadyAnswer}

-- That all has a name

pub new_ready : (names : Names) (world : World) (bounds : Bounds) (first : HeldHeap) (vals vals' locals : List HeldVal)
    → heap_of world.heap ≡ empty_heap bounds → world.globals.items ≡ [] → world.statics.items ≡ [] → world_of world ≡ new_world first vals vals'
    → locals ≡ NullVal ∷ [] → IsReadySetting names world locals
new_ready names world bounds first vals vals' locals heap globals statics start is = record {
  named = record {
    world = record {
      heap = subst (HeapNamed names) (sym heap) (empty_named names bounds);
      globals = rw globals (All-nil (ValueNamed names));
      statics = rw statics (All-nil (ValueNamed names));
      kept = subst (KeptNamed names) (sym (ap (λ (w : StoreWorld). w.kept) start)) tt;
    };
    locals = rw is (All-cons (ValueNamed names) Null [] tt (All-nil (ValueNamed names)));
  };
  live = rw is (All-cons (IsLive (extent_of world.heap)) NullVal [] (record { live = tt }) (All-nil (IsLive (extent_of world.heap))));
}

module _ (names : Names) where
  module _ (old new : World) (locals : List HeldVal) (heap : new.heap ≡ old.heap) (words : new.words ≡ old.words)
      (ready : IsReadySetting names old locals) where
    pub static_ready : (val : HeldVal) → new.globals.items ≡ old.globals.items → new.statics.items ≡ old.statics.items ++ val ∷ []
        → ValueNamed names (value_in (extent_of old.heap) val) → IsReadySetting names new locals
    static_ready val globals statics is = record {
      named = record {
        world = record {
          heap = rw heap ready.named.world.heap;
          globals = rw (heap, globals) ready.named.world.globals;
          statics = rw heap (values_more names (extent_of old.heap) old.statics.items new.statics.items val ready.named.world.statics is statics);
          kept = rw (heap, words) ready.named.world.kept;
        };
        locals = rw heap ready.named.locals;
      };
      live = rw heap ready.live;
    }

    pub global_ready : (val : HeldVal) → new.globals.items ≡ old.globals.items ++ val ∷ [] → new.statics.items ≡ old.statics.items
        → ValueNamed names (value_in (extent_of old.heap) val) → IsReadySetting names new locals
    global_ready val globals statics is = record {
      named = record {
        world = record {
          heap = rw heap ready.named.world.heap;
          globals = rw heap (values_more names (extent_of old.heap) old.globals.items new.globals.items val ready.named.world.globals is globals);
          statics = rw (heap, statics) ready.named.world.statics;
          kept = rw (heap, words) ready.named.world.kept;
        };
        locals = rw heap ready.named.locals;
      };
      live = rw heap ready.live;
    }

    pub cleared_ready : new.globals.items ≡ old.globals.items → new.statics.items ≡ [] → IsReadySetting names new locals
    cleared_ready globals statics = record {
      named = record {
        world = record {
          heap = rw heap ready.named.world.heap;
          globals = rw (heap, globals) ready.named.world.globals;
          statics = rw statics (All-nil (ValueNamed names));
          kept = rw (heap, words) ready.named.world.kept;
        };
        locals = rw heap ready.named.locals;
      };
      live = rw heap ready.live;
    }

-- A record is made

pub record_ready : (names : Names) (old new : World) (locals : List HeldVal) (kind : ℕ) (fields : List Value) (val : HeldVal) → IsReadySetting names old locals
    → kind < length names.records → All (ValueNamed names) fields
    → GoesOn (new_record_of (let made : Record = record { kind = kind; fields = fields } in made)) (setting_of bare_outside old locals)
    (value_in (extent_of new.heap) val) (setting_of bare_outside new locals)
    → ItemNamed names (Val (value_in (extent_of new.heap) val)) × SettingNamed names (setting_of bare_outside new locals)
record_ready names old new locals kind fields val ready known named found =
    subst (OutcomeNamed names) (found gives_value) (rows_keep_names.records names kind fields (setting_of bare_outside old locals) ready.named known named)

-- Texts become more

pub held_ready : (names : Names) (old : World) (heap : HeldHeap) (locals : List HeldVal) → IsReadySetting names old locals
    → KeepsValues (extent_of old.heap) (extent_of heap) → heap_of heap ≡ heap_of old.heap
    → SettingNamed names (setting_over bare_outside heap old.pair old.words old.globals.items old.statics.items locals)
held_ready names old heap locals ready keeps same = record {
  world = record {
    heap = rw same ready.named.world.heap;
    globals = rw (values_kept keeps old.globals.items old.sound.live_globals) ready.named.world.globals;
    statics = rw (values_kept keeps old.statics.items old.sound.live_statics) ready.named.world.statics;
    kept = kept_named names (extent_of old.heap) (extent_of heap) old.words.kept keeps old.sound.kept ready.named.world.kept;
  };
  locals = rw (values_kept keeps locals ready.live) ready.named.locals;
}

-- A value by its place

pub past : (vals : List HeldVal) (k : ℕ) → length vals ≤ k → slice_index_or vals k NullVal ≡ NullVal
past [] k low = refl
past (val ∷ vals) zero low = absurd (omega (arith, low))
past (val ∷ vals) (suc k) low = past vals k (omega (arith, low))

two_named : (names : Names) (all : Extent) (a b : ℤ) → All (ValueNamed names) (map (value_in all) (IntegerVal a ∷ IntegerVal b ∷ []))
two_named names all a b =
    All-cons (ValueNamed names) (Integer a) (Integer b ∷ []) tt (All-cons (ValueNamed names) (Integer b) [] tt (All-nil (ValueNamed names)))

-- a record of two integers is made
pub pair_ready : (names : Names) (old new : World) (locals : List HeldVal) (a b : ℤ) (val : HeldVal) → IsReadySetting names old locals
    → 0 < length names.records
    → GoesOn (new_record_of (let made : Record = record { kind = 0; fields = map (value_in (extent_of old.heap)) (IntegerVal a ∷ IntegerVal b ∷ []) } in made))
    (setting_of bare_outside old locals) (value_in (extent_of new.heap) val) (setting_of bare_outside new locals)
    → ItemNamed names (Val (value_in (extent_of new.heap) val)) × SettingNamed names (setting_of bare_outside new locals)
pair_ready names old new locals a b val ready known found =
    record_ready names old new locals 0 (map (value_in (extent_of old.heap)) (IntegerVal a ∷ IntegerVal b ∷ [])) val ready known
    (two_named names (extent_of old.heap) a b) found

-- Items become more

pub items_more : (names : Names) (all : Extent) (items more : List HeldItem) (item : HeldItem) → All (ItemNamed names) (map (item_in all) items)
    → ItemNamed names (item_in all item) → more ≡ items ++ item ∷ []
    → All (ItemNamed names) (map (item_in all) more)
items_more names all items more item are is same =
    rw same (rw (map-append (item_in all) items (item ∷ [])) (All-push (ItemNamed names) (map (item_in all) items) (item_in all item) are is))

-- What was answered

module _ (names : Names) (world : World) (locals : List HeldVal) (outcome : HeldOutcome) (named : ComesNamed names world locals outcome)
    (live : All (IsLive (extent_of world.heap)) locals) where
  pub fails_ready : outcome ≡ HeldFails → IsReadySetting names world locals
  fails_ready is = record { named = subst (ComesNamed names world locals) is named; live = live }

  pub gives_ready : (item : HeldItem) → outcome ≡ HeldGives item → IsReadySetting names world locals
  gives_ready item is =
      let both : ComesNamed names world locals (HeldGives item) = subst (ComesNamed names world locals) is named in record { named = both.1; live = live }

  pub gives_named : (item : HeldItem) → outcome ≡ HeldGives item → ItemNamed names (item_in (extent_of world.heap) item)
  gives_named item is = let both : ComesNamed names world locals (HeldGives item) = subst (ComesNamed names world locals) is named in both.0

  pub suspends_ready : (item : HeldItem) (rest : HeldResidual) → outcome ≡ HeldSuspends item rest → IsReadySetting names world locals
  suspends_ready item rest is = let all : ComesNamed names world locals (HeldSuspends item rest) = subst (ComesNamed names world locals) is named in
      record { named = all.1.1; live = live }

  pub rest_named : (item : HeldItem) (rest : HeldResidual) → outcome ≡ HeldSuspends item rest → ResidualNamed names (residual_in (extent_of world.heap) rest)
  rest_named item rest is = let all : ComesNamed names world locals (HeldSuspends item rest) = subst (ComesNamed names world locals) is named in all.1.0

pub item_live : (reach : Reach) (outcome : HeldOutcome) (item : HeldItem) (rest : HeldResidual) → outcome ≡ HeldSuspends item rest → IsLiveOutcome reach outcome
    → IsLiveItem reach item
item_live reach outcome item rest is live = let both : IsLiveOutcome reach (HeldSuspends item rest) = subst (IsLiveOutcome reach) is live in both.live.0

pub rest_live : (reach : Reach) (outcome : HeldOutcome) (item : HeldItem) (rest : HeldResidual) → outcome ≡ HeldSuspends item rest → IsLiveOutcome reach outcome
    → IsLiveResidual reach rest
rest_live reach outcome item rest is live = let both : IsLiveOutcome reach (HeldSuspends item rest) = subst (IsLiveOutcome reach) is live in both.live.1

module _ (names : Names) (world : World) (locals : List HeldVal) (result : Result HeldOutcome Halt) (ready : IsReadyAnswer names world locals result) where
  pub ok_comes : (outcome : HeldOutcome) → result ≡ Ok outcome → ComesNamed names world locals outcome
  ok_comes outcome is = subst (AnswerNamed names world locals) is ready.named

  pub ok_live : (outcome : HeldOutcome) → result ≡ Ok outcome → IsLiveOutcome (reach_of world locals) outcome
  ok_live outcome is = subst (IsLiveAnswer (reach_of world locals)) is ready.live

  pub err_live : (halt : Halt) → result ≡ Err halt → IsLiveHalt (reach_of world locals) halt
  err_live halt is = subst (IsLiveAnswer (reach_of world locals)) is ready.live
