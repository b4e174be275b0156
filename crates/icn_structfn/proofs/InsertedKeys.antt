-- Members and keys that are put in, taken out and looked for.
use Rattle.std.proofs.Common.{◌≡◌, ◌∙◌, refl, sym, ap, ℕ, Bool, true, false, is_some, List, [], Option, None, Some, Result, Ok, Err, ⊎_elim, inl, inr}
use Rattle.std.specs.Prelude.{IsErrAnd, unwrap_or}
use Rattle.std.specs.List.{All, slice_get}
use Rattle.std.specs.Option.{option_map}
use Rattle.std.proofs.lemmas.Option.{same_Some}
use Rattle.std.proofs.lemmas.Bool.{false≢true}
use Rattle.icn_structs.specs.PairLists.{with_value_of}
use Rattle.icn_value.specs.declared.full.Full.{Full}
use Rattle.icn_value.specs.declared.full.Full.TheVariants.{NoMemory}
use Rattle.icn_value.specs.declared.item.Pair.{Pair}
use Rattle.icn_value.specs.declared.val.Val.{Val}
use Rattle.icn_value.specs.Values.{Value, Null, Integer, Text, Chars, Std, Procedure, ARecord, AList, ASet, ATable, ACoexp, Val as ItemVal}
use Rattle.icn_value.specs.Sameness.{same, with_member}
use Rattle.icn_value.specs.Store.{Heap, Outside, Setting, Table, having_heap, set_at, table_at, with_set, with_table}
use Rattle.icn_value.specs.Changes.{ChangedHeap, Refuses, and_then, having_member, with_pair, without_key as without_value}
use Rattle.icn_defs.specs.Arguments.{Keeper, keeper, keeper_of}
use Rattle.icn_defs.specs.Calls.{Passes}
use Rattle.icn_defs.specs.Rows.{Row, here, fails_unless, present, changes_heap, gives_value, Error, Fails, Gives}
use Rattle.icn_defs.specs.Structures.{has_key, without_key}
use Rattle.icn_heap.specs.declared.heap.Heap.{Heap as HeldHeap}
use Rattle.icn_heap.specs.Extents.{IsLive, KeepsValues}
use Rattle.icn_heap.specs.Heaps.{extent_of, heap_of}
use Rattle.icn_vars.specs.declared.words.Words.{Words}
use Rattle.icn_vars.specs.declared.stop.Stop.{Stop}
use Rattle.icn_vars.specs.WorldFacts.{IsSoundWorld}
use Rattle.icn_vars.specs.Stops.{stop_of}
use Rattle.icn_vars.proofs.HeapChanges.{IsChange, IsCharged, charged_then, change_stops}
use Rattle.icn_vars.proofs.GrowingWorlds.{heap_changed, setting_over}
use Rattle.icn_args.specs.RowWords.{IsPassed}
use Rattle.icn_args.proofs.RowAnswers.{first_part_stops}

-- Looking for members

-- the row of `member`, by its two values
abbrev pub looks_for : Value → Value → Row
looks_for kept key = present (keeper_of kept) 122 (Some kept) (λ found. here (λ setting. fails_unless (has_key setting.world.heap found key) (gives_value key)))

module _ (kept key : Value) (setting : Setting) where
  pub is_there : (keeper : Option Keeper) → (let some : Option Bool = Some true in some) ≡ option_map (λ found. has_key setting.world.heap found key) keeper
      → present keeper 122 (Some kept) (λ found. here (λ setting. fails_unless (has_key setting.world.heap found key) (gives_value key))) setting
      ≡ Gives (ItemVal key) setting
  is_there None is = cc
  is_there (Some found) is = ap (λ b. fails_unless b (gives_value key) setting) (sym (same_Some _ _ is))

  pub is_missing : (keeper : Option Keeper) → (let some : Option Bool = Some false in some) ≡ option_map (λ found. has_key setting.world.heap found key) keeper
      → present keeper 122 (Some kept) (λ found. here (λ setting. fails_unless (has_key setting.world.heap found key) (gives_value key))) setting ≡ Fails setting
  is_missing None is = cc
  is_missing (Some found) is = ap (λ b. fails_unless b (gives_value key) setting) (sym (same_Some _ _ is))

  pub is_none : (keeper : Option Keeper) → (let none : Option Bool = None in none) ≡ option_map (λ found. has_key setting.world.heap found key) keeper
      → present keeper 122 (Some kept) (λ found. here (λ setting. fails_unless (has_key setting.world.heap found key) (gives_value key))) setting
      ≡ Error 122 (Some kept) setting
  is_none None is = refl
  is_none (Some found) is = cc

-- Taking out

-- the row of `delete`, by its two values
abbrev pub takes_out : Value → Value → Row
takes_out kept key = keeper kept (λ found. changes_heap (without_key found key) (gives_value kept))

pub takes_out_is : (kept key : Value) → true ≡ is_some (keeper_of kept) → (setting : Setting)
    → takes_out kept key setting ≡ changes_heap (without_value kept key) (gives_value kept) setting
takes_out_is Null key is setting = absurd (false≢true (sym is))
takes_out_is (Integer n) key is setting = absurd (false≢true (sym is))
takes_out_is (Text bytes) key is setting = absurd (false≢true (sym is))
takes_out_is (Chars bytes) key is setting = absurd (false≢true (sym is))
takes_out_is (Std file) key is setting = absurd (false≢true (sym is))
takes_out_is (Procedure number) key is setting = absurd (false≢true (sym is))
takes_out_is (ARecord id) key is setting = absurd (false≢true (sym is))
takes_out_is (AList id) key is setting = absurd (false≢true (sym is))
takes_out_is (ASet id) key is setting = refl
takes_out_is (ATable id) key is setting = refl
takes_out_is (ACoexp id) key is setting = absurd (false≢true (sym is))

-- Putting in

refused_first : (charge : ChangedHeap) (change : Heap → Heap) (full : Full) → and_then charge (λ paid. let r : ChangedHeap = Ok (change paid) in r) ≡ Err full
    → charge ≡ Err full
refused_first (Ok paid) change full is = absurd (never is)
  where
    never : (let r : ChangedHeap = Ok (change paid) in r) ≡ Err full → ⊥
    never is = cc
refused_first (Err why) change full is = is

module _ (old new : HeldHeap) (pair : Pair) (words : Words) (globals statics locals : List Val) (keeps : KeepsValues (extent_of old) (extent_of new))
    (sound : IsSoundWorld (extent_of old) pair words globals statics) (live : All (IsLive (extent_of old)) locals)
    {part : Row → Row} {charge : Heap → ChangedHeap} (is : IsChange part charge) (change after : Heap → Heap) where
  -- it is charged, and the heap is changed
  pub charged : ((paid : Heap) → IsCharged (heap_of old) paid → change paid ≡ after paid)
      → and_then (charge (heap_of old)) (λ paid. let r : ChangedHeap = Ok (after paid) in r) ≡ Ok (heap_of new) → (outside : Outside)
      → Passes (λ next. part (changes_heap change next)) (setting_over outside old pair words globals statics locals)
      (setting_over outside new pair words globals statics locals)
  charged same step outside next =
      let before : Setting = setting_over outside old pair words globals statics locals in
      let paid = charged_then after (charge (heap_of old)) (heap_of new) step in
      is.ok before paid.0 paid.1 (changes_heap change next)
      ∙ (ap (λ (heap : Heap). next (having_heap (λ old. heap) before)) (same paid.0 (is.charged (heap_of old) paid.0 paid.1) ∙ paid.2)
      ∙ ap next (heap_changed outside old new pair words globals statics locals keeps refl sound live))

  pub not_charged : {B : Type 0} (full : Full) (result : Result B Stop) → heap_of new ≡ heap_of old
      → Refuses (and_then (charge (heap_of old)) (λ paid. let r : ChangedHeap = Ok (after paid) in r)) full
      → IsErrAnd result (λ stop. stop ≡ stop_of full) → (outside : Outside)
      → IsPassed (extent_of new) (λ next. part (changes_heap change next)) (setting_over outside old pair words globals statics locals)
      (setting_over outside new pair words globals statics locals) result
  not_charged full result same why err outside =
      let first : Refuses (charge (heap_of old)) full =
      ⊎_elim (λ (e : full ≡ NoMemory). inl e) (λ (e : and_then (charge (heap_of old)) (λ paid. let r : ChangedHeap = Ok (after paid) in r) ≡ Err full).
      inr (refused_first (charge (heap_of old)) after full e)) why in
      first_part_stops (extent_of new) part (changes_heap change) (setting_over outside old pair words globals statics locals)
      (setting_over outside new pair words globals statics locals) (stop_of full) result err
      (change_stops old new pair words globals statics locals keeps sound live is same full first (extent_of new) outside)

-- what is put into a set or a table is the same whether it is charged before
pub member_after : (id : ℕ) (value : Value) (heap paid : Heap) → IsCharged heap paid
    → with_set id (with_member (set_at heap id) value) paid ≡ having_member id value paid
member_after id value heap paid is =
    ap (λ (sets : List (List Value)). with_set id (with_member (unwrap_or (slice_get sets id) []) value) paid) (sym is.sets)

pub pair_after : (id : ℕ) (key value : Value) (heap paid : Heap) → IsCharged heap paid
    → with_table id (record (table_at heap id) { pairs = with_value_of same (table_at heap id).pairs key value }) paid ≡ with_pair id key value paid
pair_after id key value heap paid is =
    ap (λ (table : Table). with_table id (record table { pairs = with_value_of same table.pairs key value }) paid)
    (ap (λ tables. table_at (record heap { tables = tables }) id) (sym is.tables))
