-- Elements that are taken from an end of a list.
use Rattle.std.proofs.Common.{◌≡◌, ◌∙◌, refl, sym, ap, ℕ, ◌-◌, List, [], ◌∷◌, length, take, Option, Some, None, arith}
use Rattle.std.specs.List.{All, slice_get}
use Rattle.std.specs.Prelude.{slice_set}
use Rattle.std.proofs.lemmas.List.{set-get_or}
use Rattle.std.proofs.lemmas.Option.{unwrap_or-slice_get}
use Rattle.icn_structs.specs.Numbered.{NumberedList, after_first, leftmost, rightmost, without_left, without_right}
use Rattle.icn_value.specs.declared.item.Pair.{Pair}
use Rattle.icn_value.specs.declared.val.Val.{Val}
use Rattle.icn_value.specs.Values.{Value, AList, Val as ItemVal}
use Rattle.icn_value.specs.Store.{Heap, Outside, Setting, list_at, new_list, with_list}
use Rattle.icn_defs.specs.Arguments.{list, list_of}
use Rattle.icn_defs.specs.Rows.{Row, here, thing_or_failure, present, changes_heap, gives_value, Error, Fails, Gives}
use Rattle.icn_heap.specs.declared.heap.Heap.{Heap as HeldHeap}
use Rattle.icn_heap.specs.Extents.{IsLive, KeepsValues}
use Rattle.icn_heap.specs.Heaps.{extent_of, heap_of}
use Rattle.icn_heap.proofs.TakenElements.{none_there}
use Rattle.icn_vars.specs.declared.words.Words.{Words}
use Rattle.icn_vars.specs.WorldFacts.{IsSoundWorld}
use Rattle.icn_vars.proofs.GrowingWorlds.{heap_changed, setting_over}

-- an element is taken from a list
abbrev pub takes_element : (NumberedList Value → Option Value) → (NumberedList Value → NumberedList Value) → Value → Row
takes_element taken rest value =
    list value (λ id. here (λ setting.
    thing_or_failure (taken (list_at setting.world.heap id))
    (λ element. changes_heap (with_list id (rest (list_at setting.world.heap id))) (gives_value element))))

-- nothing leaves an empty list

pub left_none : (list : NumberedList Value) → (let found : Option Value = None in found) ≡ leftmost list → without_left list ≡ list
left_none list none = by_items list.items none
  where
    by_items : (items : List Value) → (let found : Option Value = None in found) ≡ slice_get items 0
        → after_first items list.number ≡ (let l : NumberedList Value = record { items = items; number = list.number } in l)
    by_items [] none = refl
    by_items (item ∷ items) none = absurd (none_there (item ∷ items) 0 (omega arith) none)

pub right_none : (list : NumberedList Value) → (let found : Option Value = None in found) ≡ rightmost list → without_right list ≡ list
right_none list none = by_items list.items none
  where
    by_items : (items : List Value) → (let found : Option Value = None in found) ≡ slice_get items (length items - 1)
        → (let l : NumberedList Value = record { items = take (length items - 1) items; number = list.number } in l)
        ≡ (let l : NumberedList Value = record { items = items; number = list.number } in l)
    by_items [] none = refl
    by_items (item ∷ items) none = absurd (none_there (item ∷ items) (length (item ∷ items) - 1) (omega arith) none)

-- a list that is put back
pub list_stays : (heap : Heap) (id : ℕ) → with_list id (list_at heap id) heap ≡ heap
list_stays heap id =
    ap (λ lists. let h : Heap = record heap { lists = lists } in h)
    (ap (slice_set heap.lists id) (unwrap_or-slice_get heap.lists id (new_list [])) ∙ set-get_or heap.lists id (new_list []))

-- the row of a value that is no list
pub not_taken : (taken : NumberedList Value → Option Value) (rest : NumberedList Value → NumberedList Value) (value : Value) → list_of value ≡ None
    → (setting : Setting)
    → takes_element taken rest value setting ≡ Error 108 (Some value) setting
not_taken taken rest value none setting =
    ap (λ opt. present opt 108 (Some value) (λ id. here (λ setting. thing_or_failure (taken (list_at setting.world.heap id))
    (λ element. changes_heap (with_list id (rest (list_at setting.world.heap id))) (gives_value element)))) setting) none

module _ (old new : HeldHeap) (pair : Pair) (words : Words) (globals statics locals : List Val) (keeps : KeepsValues (extent_of old) (extent_of new))
    (sound : IsSoundWorld (extent_of old) pair words globals statics) (live : All (IsLive (extent_of old)) locals)
    (taken : NumberedList Value → Option Value) (rest : NumberedList Value → NumberedList Value) (value : Value) (id : ℕ) (is : value ≡ AList id) where
  pub element_taken : (element : Value) → (let found : Option Value = Some element in found) ≡ taken (list_at (heap_of old) id)
      → heap_of new ≡ with_list id (rest (list_at (heap_of old) id)) (heap_of old) → (outside : Outside)
      → takes_element taken rest value (setting_over outside old pair words globals statics locals)
      ≡ Gives (ItemVal element) (setting_over outside new pair words globals statics locals)
  element_taken element some step outside =
      let before : Setting = setting_over outside old pair words globals statics locals in
      ap (λ v. takes_element taken rest v before) is
      ∙ (ap (λ f. thing_or_failure f (λ element. changes_heap (with_list id (rest (list_at (heap_of old) id))) (gives_value element)) before) (sym some)
      ∙ ap (Gives (ItemVal element)) (heap_changed outside old new pair words globals statics locals keeps step sound live))

  pub none_taken : (let found : Option Value = None in found) ≡ taken (list_at (heap_of old) id) → rest (list_at (heap_of old) id) ≡ list_at (heap_of old) id
      → heap_of new ≡ with_list id (rest (list_at (heap_of old) id)) (heap_of old) → (outside : Outside)
      → takes_element taken rest value (setting_over outside old pair words globals statics locals)
      ≡ Fails (setting_over outside new pair words globals statics locals)
  none_taken none same step outside =
      let before : Setting = setting_over outside old pair words globals statics locals in
      ap (λ v. takes_element taken rest v before) is
      ∙ (ap (λ f. thing_or_failure f (λ element. changes_heap (with_list id (rest (list_at (heap_of old) id))) (gives_value element)) before) (sym none)
      ∙ ap Fails (heap_changed outside old new pair words globals statics locals keeps
      (step ∙ (ap (λ l. with_list id l (heap_of old)) same ∙ list_stays (heap_of old) id)) sound live))
