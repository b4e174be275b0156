-- New structures as parts of a row: cells are charged, the structure is made, and the row goes on with its value.
use Rattle.std.proofs.Common.{◌≡◌, ◌∙◌, refl, sym, ap, ℕ, List, length, Result, Ok, Err, ⊎_elim, inl, inr}
use Rattle.std.specs.Prelude.{IsErrAnd}
use Rattle.std.specs.List.{All}
use Rattle.icn_value.specs.declared.full.Full.{Full}
use Rattle.icn_value.specs.declared.full.Full.TheVariants.{NoMemory}
use Rattle.icn_value.specs.declared.item.Pair.{Pair}
use Rattle.icn_value.specs.declared.val.Val.{Val}
use Rattle.icn_value.specs.Values.{Value, AList, ASet, ATable, ARecord}
use Rattle.icn_value.specs.Store.{Heap, Outside, Setting, having_heap}
use Rattle.icn_value.specs.Changes.{ChangedHeap, Refuses, and_then, charged_cells, having_record}
use Rattle.icn_defs.specs.Calls.{GoesOn}
use Rattle.icn_defs.specs.Rows.{Row, Finds, here, changes_heap, costs_cells}
use Rattle.icn_heap.specs.declared.heap.Heap.{Heap as HeldHeap}
use Rattle.icn_heap.specs.Extents.{Extent, IsLive, KeepsValues}
use Rattle.icn_heap.specs.Heaps.{extent_of, heap_of}
use Rattle.icn_vars.specs.declared.words.Words.{Words}
use Rattle.icn_vars.specs.declared.stop.Stop.{Stop}
use Rattle.icn_vars.specs.declared.stop.Stop.TheVariants.{Error, NoMemory as NoMemoryStop}
use Rattle.icn_vars.specs.WorldFacts.{IsSoundWorld}
use Rattle.icn_vars.specs.Stops.{StopsFinding, StopsPassing, stop_of}
use Rattle.icn_vars.specs.Worlds.{KeepsFields, field_counts}
use Rattle.icn_vars.proofs.HeapChanges.{IsCharged, cells_change, charged_then, fields_by, fields_made, same_records, change_stops}
use Rattle.icn_vars.proofs.GrowingWorlds.{heap_changed, setting_over}
use Rattle.icn_vars.proofs.KeptItems.{fields_then}
use Rattle.icn_args.specs.RowWords.{IsFound}
use Rattle.icn_args.proofs.RowAnswers.{found_stops}

-- cells are charged, the heap is changed, and the row goes on with the value of what is made
abbrev pub makes : ℕ → (Heap → Heap) → (Heap → Value) → Finds Value
makes count change number next = costs_cells count (here (λ setting. changes_heap change (next (number setting.world.heap))))

-- the values of what is made next

abbrev pub list_number : Heap → Value
list_number heap = AList (length heap.lists)

abbrev pub set_number : Heap → Value
set_number heap = ASet (length heap.sets)

abbrev pub table_number : Heap → Value
table_number heap = ATable (length heap.tables)

abbrev pub record_number : Heap → Value
record_number heap = ARecord (length heap.records)

pub lists_stay : (heap paid : Heap) → IsCharged heap paid → list_number paid ≡ list_number heap
lists_stay heap paid is = ap (λ lists. AList (length lists)) is.lists

pub sets_stay : (heap paid : Heap) → IsCharged heap paid → set_number paid ≡ set_number heap
sets_stay heap paid is = ap (λ sets. ASet (length sets)) is.sets

pub tables_stay : (heap paid : Heap) → IsCharged heap paid → table_number paid ≡ table_number heap
tables_stay heap paid is = ap (λ tables. ATable (length tables)) is.tables

pub records_stay : (heap paid : Heap) → IsCharged heap paid → record_number paid ≡ record_number heap
records_stay heap paid is = ap (λ records. ARecord (length records)) is.records

refused_first : (charge : ChangedHeap) (change : Heap → Heap) (full : Full) → and_then charge (λ paid. let r : ChangedHeap = Ok (change paid) in r) ≡ Err full
    → charge ≡ Err full
refused_first (Ok paid) change full is = absurd (never is)
  where
    never : (let r : ChangedHeap = Ok (change paid) in r) ≡ Err full → ⊥
    never is = cc
refused_first (Err why) change full is = is

finding_of : {A : Type 0} (all : Extent) (part : Row → Row) (rest : (A → Row) → Row) (before after : Setting) (stop : Stop)
    → StopsPassing all part before after stop
    → StopsFinding all (λ next. part (rest next)) before after stop
finding_of all part rest before after (Error number offending) is = λ next. is (rest next)
finding_of all part rest before after NoMemoryStop is = tt

module _ (old new : HeldHeap) (pair : Pair) (words : Words) (globals statics locals : List Val) (keeps : KeepsValues (extent_of old) (extent_of new))
    (sound : IsSoundWorld (extent_of old) pair words globals statics) (live : All (IsLive (extent_of old)) locals)
    (count : ℕ) (change : Heap → Heap) (number : Heap → Value) where
  -- it is made
  pub structure_made : ((paid : Heap) → IsCharged (heap_of old) paid → number paid ≡ number (heap_of old)) → (value : Value) → value ≡ number (heap_of old)
      → and_then (charged_cells (heap_of old) count) (λ paid. let r : ChangedHeap = Ok (change paid) in r) ≡ Ok (heap_of new) → (outside : Outside)
      → GoesOn (makes count change number) (setting_over outside old pair words globals statics locals) value
      (setting_over outside new pair words globals statics locals)
  structure_made same value is step outside next =
      let before : Setting = setting_over outside old pair words globals statics locals in
      let paid = charged_then change (charged_cells (heap_of old) count) (heap_of new) step in
      (cells_change count).ok before paid.0 paid.1 (here (λ setting. changes_heap change (next (number setting.world.heap))))
      ∙ (ap (λ (v : Value). next v (having_heap (λ heap. change paid.0) before))
      (same paid.0 ((cells_change count).charged (heap_of old) paid.0 paid.1) ∙ sym is)
      ∙ ap (next value)
      (ap (λ (heap : Heap). having_heap (λ old. heap) before) paid.2 ∙ heap_changed outside old new pair words globals statics locals keeps refl sound live))

  -- it is refused
  pub structure_refused : {B : Type 0} (shown : B → Value) (full : Full) (result : Result B Stop) → heap_of new ≡ heap_of old
      → Refuses (and_then (charged_cells (heap_of old) count) (λ paid. let r : ChangedHeap = Ok (change paid) in r)) full
      → IsErrAnd result (λ stop. stop ≡ stop_of full) → (outside : Outside)
      → IsFound (extent_of new) (makes count change number) (setting_over outside old pair words globals statics locals)
      (setting_over outside new pair words globals statics locals) shown result
  structure_refused shown full result same why err outside =
      let before : Setting = setting_over outside old pair words globals statics locals in
      let after : Setting = setting_over outside new pair words globals statics locals in
      let first : Refuses (charged_cells (heap_of old) count) full =
      ⊎_elim (λ (e : full ≡ NoMemory). inl e) (λ (e : and_then (charged_cells (heap_of old) count) (λ paid. let r : ChangedHeap = Ok (change paid) in r)
      ≡ Err full). inr (refused_first (charged_cells (heap_of old) count) change full e)) why in
      found_stops (extent_of new) (makes count change number) before after shown (stop_of full) result err
      (finding_of (extent_of new) (costs_cells count) (λ next. here (λ setting. changes_heap change (next (number setting.world.heap)))) before after
      (stop_of full)
      (change_stops old new pair words globals statics locals keeps sound live (cells_change count) same full first (extent_of new) outside))

-- a record is made
pub fields_new : (count kind : ℕ) (fields : List Value) (old new : Heap)
    → and_then (charged_cells old count) (λ paid. let r : ChangedHeap = Ok (having_record kind fields paid) in r) ≡ Ok new
    → KeepsFields (field_counts old) (field_counts new)
fields_new count kind fields old new step =
    let paid = charged_then (having_record kind fields) (charged_cells old count) new step in
    fields_by old (having_record kind fields paid.0) new
    (fields_then (field_counts old) (field_counts paid.0) (field_counts (having_record kind fields paid.0))
    (same_records old paid.0 ((cells_change count).charged old paid.0 paid.1).records) (fields_made kind fields paid.0))
    (sym paid.2)
