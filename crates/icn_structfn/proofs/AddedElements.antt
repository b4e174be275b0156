-- Elements that are added to a list at an end, one after the other.
use Rattle.std.proofs.Common.{◌≡◌, ◌∙◌, refl, sym, ap, subst, ℕ, ◌+◌, ◌<◌, ◌≤◌, nat_le, Bool, true, false, List, [], ◌∷◌, length, fold, Result, Ok, Err, arith, ⊎_elim, if◌then◌else◌}
use Rattle.std.specs.List.{All, slice_get}
use Rattle.std.specs.Prelude.{IsErrAnd, slice_set, unwrap_or}
use Rattle.std.proofs.lemmas.List.{set-set, get_or-set_same}
use Rattle.std.proofs.lemmas.Option.{unwrap_or-slice_get}
use Rattle.icn_structs.specs.Numbered.{NumberedList}
use Rattle.icn_value.specs.declared.full.Full.{Full}
use Rattle.icn_value.specs.declared.full.Full.TheVariants.{Cells, NoMemory}
use Rattle.icn_value.specs.declared.item.Pair.{Pair}
use Rattle.icn_value.specs.declared.val.Val.{Val}
use Rattle.icn_value.specs.Values.{Value, AList}
use Rattle.icn_value.specs.Store.{Heap, Outside, Setting, list_at, new_list, with_list}
use Rattle.icn_value.specs.Changes.{ChangedHeap, Refuses, and_then, charged_cells}
use Rattle.icn_defs.specs.Arguments.{list}
use Rattle.icn_defs.specs.Calls.{Passes}
use Rattle.icn_defs.specs.Rows.{Row, here, changes_heap, costs_cells, gives_value}
use Rattle.icn_heap.specs.declared.heap.Heap.{Heap as HeldHeap}
use Rattle.icn_heap.specs.Extents.{Extent, IsLive, KeepsValues}
use Rattle.icn_heap.specs.Heaps.{extent_of, heap_of, with_cells}
use Rattle.icn_heap.proofs.HeapCharges.{charge_fits}
use Rattle.icn_vars.specs.declared.words.Words.{Words}
use Rattle.icn_vars.specs.declared.stop.Stop.{Stop}
use Rattle.icn_vars.specs.WorldFacts.{IsSoundWorld}
use Rattle.icn_vars.specs.Stops.{StopsPassing, stop_of}
use Rattle.icn_vars.proofs.HeapChanges.{cells_change, charged_then}
use Rattle.icn_vars.proofs.GrowingWorlds.{heap_changed, setting_over}
use Rattle.icn_args.specs.RowWords.{IsPassed}
use Rattle.icn_args.proofs.RowAnswers.{first_part_stops, passed_stops}
use Rattle.icn_structfn.specs.AddedElements.{added_to, adds}
use Rattle.icn_structfn.proofs.TakenElements.{list_stays}

-- what is charged
paid_cells : (heap : Heap) (count : ℕ) (paid : Heap) → charged_cells heap count ≡ Ok paid → paid ≡ with_cells (heap.cells + count) heap
unfolding charged_cells
paid_cells heap count paid is = by_test (nat_le (heap.cells + count) heap.bounds.cells) is
  where
    by_test : (b : Bool)
        → (let r : ChangedHeap = if b then Ok (with_cells (heap.cells + count) heap) else Err (Cells heap.cells heap.bounds.cells) in r) ≡ Ok paid
        → paid ≡ with_cells (heap.cells + count) heap
    by_test true is = cc
    by_test false is = cc

module _ (grown : NumberedList Value → Value → NumberedList Value) (id : ℕ) where
  -- the list with one element more, which is charged
  one_more : Value → Heap → Heap
  one_more value heap = with_list id (grown (list_at heap id) value) (with_cells (heap.cells + 1) heap)

  added_one : (heap new : Heap) (value : Value)
      → and_then (charged_cells heap 1) (λ paid. let r : ChangedHeap = Ok (with_list id (grown (list_at paid id) value) paid) in r) ≡ Ok new
      → new ≡ one_more value heap
  unfolding one_more
  added_one heap new value step =
      let paid = charged_then (λ paid. with_list id (grown (list_at paid id) value) paid) (charged_cells heap 1) new step in
      sym paid.2 ∙ ap (λ paid. with_list id (grown (list_at paid id) value) paid) (paid_cells heap 1 paid.0 paid.1)

  pub cells_more : (heap new : Heap) (value : Value)
      → and_then (charged_cells heap 1) (λ paid. let r : ChangedHeap = Ok (with_list id (grown (list_at paid id) value) paid) in r) ≡ Ok new
      → new.cells ≡ heap.cells + 1
  unfolding one_more
  cells_more heap new value step = ap (λ (h : Heap). h.cells) (added_one heap new value step)

  pub bounds_stay : (heap new : Heap) (value : Value)
      → and_then (charged_cells heap 1) (λ paid. let r : ChangedHeap = Ok (with_list id (grown (list_at paid id) value) paid) in r) ≡ Ok new
      → new.bounds.cells ≡ heap.bounds.cells
  unfolding one_more
  bounds_stay heap new value step = ap (λ (h : Heap). h.bounds.cells) (added_one heap new value step)

  pub records_stay : (heap new : Heap) (value : Value)
      → and_then (charged_cells heap 1) (λ paid. let r : ChangedHeap = Ok (with_list id (grown (list_at paid id) value) paid) in r) ≡ Ok new
      → new.records ≡ heap.records
  unfolding one_more
  records_stay heap new value step = ap (λ (h : Heap). h.records) (added_one heap new value step)

  at_set : (lists : List (NumberedList Value)) (list : NumberedList Value) → id < length lists
      → unwrap_or (slice_get (slice_set lists id list) id) (new_list []) ≡ list
  at_set lists list there = unwrap_or-slice_get (slice_set lists id list) id (new_list []) ∙ get_or-set_same lists id list (new_list []) there

  heap_by : (heap : Heap) {lists lists' : List (NumberedList Value)} {cells cells' : ℕ} → lists' ≡ lists → cells' ≡ cells
      → (let h : Heap = record heap { lists = lists'; cells = cells' } in h) ≡ (let h : Heap = record heap { lists = lists; cells = cells } in h)
  heap_by heap lists cells = cc

  grows_next : (heap : Heap) (value : Value) (values : List Value) → id < length heap.lists
      → added_to grown id values (one_more value heap) ≡ added_to grown id (value ∷ values) heap
  unfolding one_more
  grows_next heap value values there =
      heap_by heap
      (ap (λ (list : NumberedList Value). slice_set (slice_set heap.lists id (grown (list_at heap id) value)) id (fold grown list values))
      (at_set heap.lists (grown (list_at heap id) value) there)
      ∙ set-set heap.lists id (grown (list_at heap id) value) (fold grown (grown (list_at heap id) value) values))
      (omega arith)

  -- one element is added, and others are left
  pub adds_next : (heap new : Heap) (value : Value) (values : List Value) → id < length heap.lists
      → and_then (charged_cells heap 1) (λ paid. let r : ChangedHeap = Ok (with_list id (grown (list_at paid id) value) paid) in r) ≡ Ok new
      → added_to grown id values new ≡ added_to grown id (value ∷ values) heap
  adds_next heap new value values there step = ap (added_to grown id values) (added_one heap new value step) ∙ grows_next heap value values there

  -- none is left
  pub adds_nothing : (heap : Heap) → added_to grown id [] heap ≡ heap
  adds_nothing heap =
      let none : heap.cells + 0 ≡ heap.cells = omega arith in
      ap (λ cells. with_list id (list_at heap id) (with_cells cells heap)) none ∙ list_stays heap id

  -- where there is room, only memory may be wanting
  pub no_refusal : (heap : Heap) (value : Value) (full : Full) → heap.cells + 1 ≤ heap.bounds.cells
      → Refuses (and_then (charged_cells heap 1) (λ paid. let r : ChangedHeap = Ok (with_list id (grown (list_at paid id) value) paid) in r)) full
      → full ≡ NoMemory
  no_refusal heap value full room why =
      let paid : charged_cells heap 1 ≡ Ok (with_cells (heap.cells + 1) heap) = charge_fits heap 1 (heap.cells + 1) refl room in
      ⊎_elim (λ (e : full ≡ NoMemory). e)
      (λ (e : and_then (charged_cells heap 1) (λ paid. let r : ChangedHeap = Ok (with_list id (grown (list_at paid id) value) paid) in r) ≡ Err full).
      absurd (never (ap (λ c. and_then c (λ paid. let r : ChangedHeap = Ok (with_list id (grown (list_at paid id) value) paid) in r)) (sym paid) ∙ e))) why
    where
      never : {heap : Heap} → (let r : ChangedHeap = Ok heap in r) ≡ Err full → ⊥
      never is = cc

  -- The part of a row

  module _ (old new : HeldHeap) (pair : Pair) (words : Words) (globals statics locals : List Val) (keeps : KeepsValues (extent_of old) (extent_of new))
      (sound : IsSoundWorld (extent_of old) pair words globals statics) (live : All (IsLive (extent_of old)) locals) (values : List Value) where
    pub elements_added : charged_cells (heap_of old) (length values) ≡ Ok (with_cells ((heap_of old).cells + length values) (heap_of old))
        → heap_of new ≡ added_to grown id values (heap_of old) → (outside : Outside)
        → Passes (adds grown id values) (setting_over outside old pair words globals statics locals)
        (setting_over outside new pair words globals statics locals)
    elements_added paid step outside next =
        (cells_change (length values)).ok (setting_over outside old pair words globals statics locals)
        (with_cells ((heap_of old).cells + length values) (heap_of old)) paid
        (here (λ setting. changes_heap (with_list id (fold grown (list_at setting.world.heap id) values)) next))
        ∙ ap next (heap_changed outside old new pair words globals statics locals keeps step sound live)

  pub not_added : {B : Type 0} (all : Extent) (setting : Setting) (values : List Value) (full : Full) (result : Result B Stop)
      → charged_cells setting.world.heap (length values) ≡ Err full
      → IsErrAnd result (λ stop. stop ≡ stop_of full) → IsPassed all (adds grown id values) setting setting result
  not_added all setting values full result why err =
      first_part_stops all (costs_cells (length values))
      (λ next. here (λ setting. changes_heap (with_list id (fold grown (list_at setting.world.heap id) values)) next)) setting setting (stop_of full) result err
      ((cells_change (length values)).err all setting full why)

  pub unfinished : {B : Type 0} (all : Extent) (before after : Setting) (values : List Value) (full : Full) (result : Result B Stop) → full ≡ NoMemory
      → IsErrAnd result (λ stop. stop ≡ stop_of full) → IsPassed all (adds grown id values) before after result
  unfinished all before after values full result why err =
      passed_stops all (adds grown id values) before after (stop_of full) result err
      (ap_stop why)
    where
      ap_stop : full ≡ NoMemory → StopsPassing all (adds grown id values) before after (stop_of full)
      ap_stop why = subst (λ f. StopsPassing all (adds grown id values) before after (stop_of f)) (sym why) tt

-- the row of `put` and `push`, by the list and what is added
abbrev pub adds_row : (NumberedList Value → Value → NumberedList Value) → Value → List Value → Row
adds_row grown value values = list value (λ id. adds grown id values (gives_value (AList id)))
