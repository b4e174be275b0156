-- A file that is opened as a part of a row: a cell is charged, the file is made, and the row goes on with its value.
use Rattle.std.proofs.Common.{◌≡◌, ◌∙◌, refl, sym, ap, List, length, Result, Ok, Err, ⊎_elim, inl, inr}
use Rattle.std.specs.Prelude.{IsErrAnd}
use Rattle.std.specs.List.{All}
use Rattle.icn_value.specs.declared.full.Full.{Full}
use Rattle.icn_value.specs.declared.full.Full.TheVariants.{NoMemory}
use Rattle.icn_value.specs.declared.item.Pair.{Pair}
use Rattle.icn_value.specs.declared.val.Val.{Val}
use Rattle.icn_value.specs.Values.{Value, Std, Opened}
use Rattle.icn_value.specs.Store.{Heap, OpenedFile, Outside, Setting, having_heap}
use Rattle.icn_value.specs.Changes.{ChangedHeap, Refuses, and_then, charged_cells, having_file}
use Rattle.icn_defs.specs.Calls.{GoesOn}
use Rattle.icn_defs.specs.Files.{new_file_of}
use Rattle.icn_defs.specs.Rows.{Row, changes_heap, costs_cells, here}
use Rattle.icn_heap.specs.declared.heap.Heap.{Heap as HeldHeap}
use Rattle.icn_heap.specs.Extents.{Extent, IsLive, KeepsValues}
use Rattle.icn_heap.specs.Heaps.{extent_of, heap_of}
use Rattle.icn_vars.specs.declared.words.Words.{Words}
use Rattle.icn_vars.specs.declared.stop.Stop.{Stop}
use Rattle.icn_vars.specs.declared.stop.Stop.TheVariants.{Error, NoMemory as NoMemoryStop}
use Rattle.icn_vars.specs.WorldFacts.{IsSoundWorld}
use Rattle.icn_vars.specs.Stops.{StopsFinding, StopsPassing, stop_of}
use Rattle.icn_vars.proofs.HeapChanges.{cells_change, change_stops, charged_then}
use Rattle.icn_vars.proofs.GrowingWorlds.{heap_changed, setting_over}
use Rattle.icn_args.specs.RowWords.{IsFound}
use Rattle.icn_args.proofs.RowAnswers.{found_stops}

-- the value of the file that is opened next
abbrev file_number : Heap → Value
file_number heap = Std (Opened (length heap.files))

refused_first : (charge : ChangedHeap) (change : Heap → Heap) (full : Full) → and_then charge (λ paid. let r : ChangedHeap = Ok (change paid) in r) ≡ Err full
    → charge ≡ Err full
refused_first (Ok paid) change full is = absurd (never is)
  where
    never : (let r : ChangedHeap = Ok (change paid) in r) ≡ Err full → ⊥
    never is = cc
refused_first (Err why) change full is = is

finding_of : {A : Type 0} (all : Extent) (part : Row → Row) (rest : (A → Row) → Row) (before after : Setting) (stop : Stop)
    → StopsPassing all part before after stop
    → StopsFinding all (λ next. part (rest next)) before after stop
finding_of all part rest before after (Error number offending) is = λ next. is (rest next)
finding_of all part rest before after NoMemoryStop is = tt

module _ (old new : HeldHeap) (pair : Pair) (words : Words) (globals statics locals : List Val) (keeps : KeepsValues (extent_of old) (extent_of new))
    (sound : IsSoundWorld (extent_of old) pair words globals statics) (live : All (IsLive (extent_of old)) locals) (file : OpenedFile) where
  -- it is made
  pub file_made : (value : Value) → value ≡ file_number (heap_of old)
      → and_then (charged_cells (heap_of old) 1) (λ paid. let r : ChangedHeap = Ok (having_file file paid) in r) ≡ Ok (heap_of new) → (outside : Outside)
      → GoesOn (new_file_of file) (setting_over outside old pair words globals statics locals) value
      (setting_over outside new pair words globals statics locals)
  file_made value is step outside next =
      let before : Setting = setting_over outside old pair words globals statics locals in
      let paid = charged_then (having_file file) (charged_cells (heap_of old) 1) (heap_of new) step in
      let same : file_number paid.0 ≡ file_number (heap_of old)
      = ap (λ (files : List OpenedFile). Std (Opened (length files))) ((cells_change 1).charged (heap_of old) paid.0 paid.1).files in
      (cells_change 1).ok before paid.0 paid.1 (here (λ setting. changes_heap (having_file file) (next (file_number setting.world.heap))))
      ∙ (ap (λ (v : Value). next v (having_heap (λ heap. having_file file paid.0) before)) (same ∙ sym is)
      ∙ ap (next value)
      (ap (λ (heap : Heap). having_heap (λ old. heap) before) paid.2 ∙ heap_changed outside old new pair words globals statics locals keeps refl sound live))

  -- it is refused
  pub file_refused : {B : Type 0} (shown : B → Value) (full : Full) (result : Result B Stop) → heap_of new ≡ heap_of old
      → Refuses (and_then (charged_cells (heap_of old) 1) (λ paid. let r : ChangedHeap = Ok (having_file file paid) in r)) full
      → IsErrAnd result (λ stop. stop ≡ stop_of full) → (outside : Outside)
      → IsFound (extent_of new) (new_file_of file) (setting_over outside old pair words globals statics locals)
      (setting_over outside new pair words globals statics locals) shown result
  file_refused shown full result same why err outside =
      let before : Setting = setting_over outside old pair words globals statics locals in
      let after : Setting = setting_over outside new pair words globals statics locals in
      let first : Refuses (charged_cells (heap_of old) 1) full =
      ⊎_elim (λ (e : full ≡ NoMemory). inl e) (λ (e : and_then (charged_cells (heap_of old) 1) (λ paid. let r : ChangedHeap = Ok (having_file file paid) in r)
      ≡ Err full). inr (refused_first (charged_cells (heap_of old) 1) (having_file file) full e)) why in
      found_stops (extent_of new) (new_file_of file) before after shown (stop_of full) result err
      (finding_of (extent_of new) (costs_cells 1) (λ next. here (λ setting. changes_heap (having_file file) (next (file_number setting.world.heap)))) before
      after (stop_of full)
      (change_stops old new pair words globals statics locals keeps sound live (cells_change 1) same full first (extent_of new) outside))
