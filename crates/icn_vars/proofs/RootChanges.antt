-- What assigning to a whole variable makes of a setting.
use Rattle.std.proofs.Common.{◌≡◌, ◌∙◌, refl, sym, ap, subst, ℕ, zero, suc, Bool, true, false, List, [], ◌∷◌, map, set, None, Result, Ok, Err, ⊎_elim}
use Rattle.std.specs.Prelude.{IsErrAnd, ℤ, pos, negsuc, ◌-ℤ◌, is_some, unwrap_or}
use Rattle.std.specs.List.{All, slice_get}
use Rattle.std.proofs.lemmas.List.{map-set}
use Rattle.icn_structs.specs.Numbered.{NumberedList, item_at, item_numbered, items_with, with_numbered}
use Rattle.icn_structs.specs.PairLists.{with_value_of}
use Rattle.icn_value.specs.declared.full.Full.{Full}
use Rattle.icn_value.specs.declared.full.Full.TheVariants.{Cells, NoMemory, Strings}
use Rattle.icn_value.specs.declared.item.Pair.{Pair}
use Rattle.icn_value.specs.declared.val.Val.{Val}
use Rattle.icn_value.specs.Values.{Value, Null, Element, Field, Global, Key, Local, Static}
use Rattle.icn_value.specs.Store.{Heap, Outside, Setting, Table, having_heap, list_at, new_list, table_at, with_list, with_table}
use Rattle.icn_value.specs.Changes.{ChangedHeap, Refuses, and_then, charged_unless, value_at_key, stored_in, with_field, with_pair}
use Rattle.icn_defs.specs.Conversions.{same}
use Rattle.icn_defs.specs.ReadAndAssign.{assigns_root, costs_unless}
use Rattle.icn_defs.specs.Rows.{Row, Error, changes_heap, check}
use Rattle.icn_heap.specs.declared.heap.Heap.{Heap as HeldHeap}
use Rattle.icn_heap.specs.Extents.{Extent, IsLive, KeepsValues, value_in}
use Rattle.icn_heap.specs.Heaps.{extent_of, heap_of}
use Rattle.icn_vars.specs.declared.words.Words.{Words}
use Rattle.icn_vars.specs.WorldFacts.{IsSoundWorld}
use Rattle.icn_vars.specs.declared.stop.Stop.{Stop}
use Rattle.icn_vars.specs.Assignments.{RootAssigned}
use Rattle.icn_vars.specs.Stops.{StopsPassing, stop_of}
use Rattle.icn_vars.proofs.HeapChanges.{charged_then, unless_change}
use Rattle.icn_vars.proofs.GrowingWorlds.{heap_changed, setting_over}

-- Globals, statics and locals

module _ (outside : Outside) (heap : HeldHeap) (pair : Pair) (words : Words) (globals statics locals : List Val) (place : ℕ) (val : Val) where
  pub global_assigned : (refused next : Row)
      → assigns_root refused (Global place) (value_in (extent_of heap) val) next (setting_over outside heap pair words globals statics locals)
      ≡ next (setting_over outside heap pair words (set globals place val) statics locals)
  global_assigned refused next =
      ap (λ (vals : List Value). next (record (setting_over outside heap pair words globals statics
      locals) { world = record (setting_over outside heap pair words globals statics locals).world { globals = vals } }))
      (sym (map-set (value_in (extent_of heap)) globals place val))

  pub static_assigned : (refused next : Row)
      → assigns_root refused (Static place) (value_in (extent_of heap) val) next (setting_over outside heap pair words globals statics locals)
      ≡ next (setting_over outside heap pair words globals (set statics place val) locals)
  static_assigned refused next =
      ap (λ (vals : List Value). next (record (setting_over outside heap pair words globals statics
      locals) { world = record (setting_over outside heap pair words globals statics locals).world { statics = vals } }))
      (sym (map-set (value_in (extent_of heap)) statics place val))

  pub local_assigned : (after : List Val) → after ≡ set locals place val → (refused next : Row)
      → assigns_root refused (Local place) (value_in (extent_of heap) val) next (setting_over outside heap pair words globals statics locals)
      ≡ next (setting_over outside heap pair words globals statics after)
  local_assigned after is refused next =
      ap (λ (vals : List Value). next (record (setting_over outside heap pair words globals statics locals) { locals = vals }))
      (sym (ap (map (value_in (extent_of heap))) is ∙ map-set (value_in (extent_of heap)) locals place val))

-- Elements

put_back : {A : Type 0} (xs : List A) (id : ℕ) (other : A) → set xs id (unwrap_or (slice_get xs id) other) ≡ xs
put_back [] id other = refl
put_back (x ∷ xs) zero other = refl
put_back (x ∷ xs) (suc id) other = ap (λ rest. x ∷ rest) (put_back xs id other)

set_gone : {A : Type 0} (xs : List A) (place : ℕ) (value : A) → is_some (slice_get xs place) ≡ false → set xs place value ≡ xs
set_gone [] place value gone = refl
set_gone (x ∷ xs) zero value gone = cc
set_gone (x ∷ xs) (suc place) value gone = ap (λ rest. x ∷ rest) (set_gone xs place value gone)

with_gone : (items : List Value) (place : ℤ) (value : Value) → is_some (item_at items place) ≡ false → items_with items place value ≡ items
with_gone items (pos place) value gone = set_gone items place value gone
with_gone items (negsuc place) value gone = refl

numbered_gone : (list : NumberedList Value) (number : ℤ) (value : Value) → is_some (item_numbered list number) ≡ false → with_numbered list number value ≡ list
numbered_gone list number value gone =
    ap (λ items. let one : NumberedList Value = record { items = items; number = list.number } in one) (with_gone list.items (number -ℤ list.number) value gone)

-- where no element has the number, nothing is changed
pub element_gone : (heap : Heap) (id : ℕ) (number : ℤ) (value : Value) → is_some (item_numbered (list_at heap id) number) ≡ false
    → with_list id (with_numbered (list_at heap id) number value) heap ≡ heap
element_gone heap id number value gone =
    ap (λ list. with_list id list heap) (numbered_gone (list_at heap id) number value gone)
    ∙ ap (λ lists. let one : Heap = record heap { lists = lists } in one) (put_back heap.lists id (new_list []))

module _ (outside : Outside) (old new : HeldHeap) (pair : Pair) (words : Words) (globals statics locals : List Val)
    (keeps : KeepsValues (extent_of old) (extent_of new))
    (sound : IsSoundWorld (extent_of old) pair words globals statics) (live : All (IsLive (extent_of old)) locals) (id : ℕ) where
  pub element_assigned : (number : ℤ) (value : Value) → is_some (item_numbered (list_at (heap_of old) id) number) ≡ true
      → heap_of new ≡ with_list id (with_numbered (list_at (heap_of old) id) number value) (heap_of old)
      → (refused next : Row) → assigns_root refused (Element id number) value next (setting_over outside old pair words globals statics locals)
      ≡ next (setting_over outside new pair words globals statics locals)
  element_assigned number value there is refused next =
      ap (λ t. check t 205 None (changes_heap (with_list id (with_numbered (list_at (heap_of old) id) number value)) next)
      (setting_over outside old pair words globals statics locals)) there
      ∙ ap next (heap_changed outside old new pair words globals statics locals keeps is sound live)

  pub element_missing : (all : Extent) (number : ℤ) (value : Value) → is_some (item_numbered (list_at (heap_of old) id) number) ≡ false
      → heap_of new ≡ with_list id (with_numbered (list_at (heap_of old) id) number value) (heap_of old)
      → (refused next : Row) → assigns_root refused (Element id number) value next (setting_over outside old pair words globals statics locals)
      ≡ Error 205 None (setting_over outside new pair words globals statics locals)
  element_missing all number value gone is refused next =
      ap (λ t. check t 205 None (changes_heap (with_list id (with_numbered (list_at (heap_of old) id) number value)) next)
      (setting_over outside old pair words globals statics locals)) gone
      ∙ ap (Error 205 None)
      (heap_changed outside old new pair words globals statics locals keeps (is ∙ element_gone (heap_of old) id number value gone) sound live)

  pub field_assigned : (place : ℕ) (value : Value) → heap_of new ≡ with_field id place value (heap_of old)
      → (refused next : Row) → assigns_root refused (Field id place) value next (setting_over outside old pair words globals statics locals)
      ≡ next (setting_over outside new pair words globals statics locals)
  field_assigned place value is refused next = ap next (heap_changed outside old new pair words globals statics locals keeps is sound live)

  -- Keys

  pub key_assigned : (key value : Value) → stored_in (heap_of old) id key value ≡ Ok (heap_of new)
      → (refused next : Row) → assigns_root refused (Key id key) value next (setting_over outside old pair words globals statics locals)
      ≡ next (setting_over outside new pair words globals statics locals)
  key_assigned key value step refused next =
      let setting : Setting = setting_over outside old pair words globals statics locals in
      let nothing : Bool = is_some (value_at_key (heap_of old) id key) in
      let made = charged_then (with_pair id key value) (charged_unless nothing (heap_of old)) (heap_of new) step in
      let table : Table = table_at (heap_of old) id in
      let put : Table → Row = λ one. changes_heap (with_table id (record one { pairs = with_value_of same one.pairs key value })) next in
      let none : Table = record { default = Null; pairs = [] } in
      (unless_change nothing).ok setting made.0 made.1 (put table)
      ∙ (ap (λ (tables : List Table). put (unwrap_or (slice_get tables id) none) (having_heap (λ heap. made.0) setting))
      (sym ((unless_change nothing).charged (heap_of old) made.0 made.1).tables)
      ∙ ap next (ap (λ (heap : Heap). having_heap (λ other. heap) setting) made.2
      ∙ heap_changed outside old new pair words globals statics locals keeps refl sound live))

refused_first : (f : Heap → Heap) (charged : ChangedHeap) (full : Full) → and_then charged (λ paid. let r : ChangedHeap = Ok (f paid) in r) ≡ Err full
    → charged ≡ Err full
refused_first f (Ok paid) full is = cc
refused_first f (Err why) full is = cc

-- a key that is refused
key_refused : (all : Extent) (setting : Setting) (id : ℕ) (key value : Value) (full : Full) → stored_in setting.world.heap id key value ≡ Err full
    → (refused : Row) → StopsPassing all (assigns_root refused (Key id key) value) setting setting (stop_of full)
key_refused all setting id key value full step refused =
    by full ((unless_change (is_some (value_at_key setting.world.heap id key))).err all setting full
    (refused_first (with_pair id key value) (charged_unless (is_some (value_at_key setting.world.heap id key)) setting.world.heap) full step))
  where
    by : (full : Full) → StopsPassing all (costs_unless (is_some (value_at_key setting.world.heap id key))) setting setting (stop_of full)
        → StopsPassing all (assigns_root refused (Key id key) value) setting setting (stop_of full)
    by (Strings sum limit) is = λ next. is
        (changes_heap (with_table id (record (table_at setting.world.heap id) { pairs = with_value_of same (table_at setting.world.heap id).pairs key value }))
        next)
    by (Cells sum limit) is = λ next. is
        (changes_heap (with_table id (record (table_at setting.world.heap id) { pairs = with_value_of same (table_at setting.world.heap id).pairs key value }))
        next)
    by NoMemory is = tt

pub key_stops : (outside : Outside) (old new : HeldHeap) (pair : Pair) (words : Words) (globals statics locals : List Val)
    → KeepsValues (extent_of old) (extent_of new)
    → IsSoundWorld (extent_of old) pair words globals statics
    → All (IsLive (extent_of old)) locals → (all : Extent) (id : ℕ) (key value : Value) (full : Full) → heap_of new ≡ heap_of old
    → Refuses (stored_in (heap_of old) id key value) full
    → (refused : Row) → StopsPassing all (assigns_root refused (Key id key) value) (setting_over outside old pair words globals statics locals)
    (setting_over outside new pair words globals statics locals) (stop_of full)
key_stops outside old new pair words globals statics locals keeps sound live all id key value full unchanged why refused =
    let before : Setting = setting_over outside old pair words globals statics locals in
    let part : Row → Row = assigns_root refused (Key id key) value in
    subst (λ (setting : Setting). StopsPassing all part before setting (stop_of full))
    (heap_changed outside old new pair words globals statics locals keeps unchanged sound live)
    (⊎_elim (λ (e : full ≡ NoMemory). subst (λ f. StopsPassing all part before before (stop_of f)) (sym e) tt)
    (λ (e : stored_in (heap_of old) id key value ≡ Err full). key_refused all before id key value full e refused) why)

-- where the assignment of a root stopped, that is the answer
pub root_err : (all : Extent) (assigns : Row → Row → Row) (before after : Setting) (stop : Stop) (result : Result Bool Stop)
    → IsErrAnd result (λ other. other ≡ stop)
    → ((refused : Row) → StopsPassing all (assigns refused) before after stop) → RootAssigned all assigns before after result
root_err all assigns before after stop (Ok done) same is = absurd same
root_err all assigns before after stop (Err other) same is = λ refused. subst (StopsPassing all (assigns refused) before after) (sym same) (is refused)
