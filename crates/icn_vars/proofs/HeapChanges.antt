-- Changes of a heap as parts of a row, and that records keep their fields over each.
use Rattle.std.proofs.Common.{◌≡◌, ◌∙◌, refl, sym, ap, subst, ℕ, zero, suc, ◌+◌, ◌≤◌, nat_le, Bool, true, false, List, [], ◌∷◌, ◌++◌, map, length, set, Option, None, Some, Result, Ok, Err, arith, ⊎_elim}
use Rattle.std.specs.Prelude.{IsErrAnd, MatchResult, if◌then◌else◌, slice_index, unwrap_or}
use Rattle.std.specs.List.{All, slice_get}
use Rattle.std.proofs.lemmas.List.{length-set}
use Rattle.icn_value.specs.declared.full.Full.{Full}
use Rattle.icn_value.specs.declared.full.Full.TheVariants.{Cells, NoMemory, Strings}
use Rattle.icn_value.specs.declared.item.Pair.{Pair}
use Rattle.icn_value.specs.declared.val.Val.{Val}
use Rattle.icn_value.specs.Values.{Value}
use Rattle.icn_value.specs.Store.{Heap, Outside, Record, Setting, having_heap}
use Rattle.icn_value.specs.Changes.{ChangedHeap, Refuses, and_then, charged_cells, charged_strings, charged_unless, having_record, with_field}
use Rattle.icn_convert.specs.TextCharges.{charged_made, heap_with_text}
use Rattle.icn_defs.specs.Calls.{Passes}
use Rattle.icn_defs.specs.Conversions.{form_of, text_made}
use Rattle.icn_defs.specs.ReadAndAssign.{costs_unless}
use Rattle.icn_defs.specs.Rows.{Row, changes_heap, check, costs_bytes, costs_cells, costs_made, costs_text}
use Rattle.icn_heap.specs.declared.heap.Heap.{Heap as HeldHeap}
use Rattle.icn_heap.specs.Extents.{Extent, IsLive, KeepsValues}
use Rattle.icn_heap.specs.Heaps.{extent_of, heap_of}
use Rattle.icn_vars.specs.declared.words.Words.{Words}
use Rattle.icn_vars.specs.WorldFacts.{IsSoundWorld}
use Rattle.icn_vars.specs.declared.stop.Stop.{Stop}
use Rattle.icn_vars.specs.Stops.{StopsPassing, stop_of}
use Rattle.icn_vars.specs.Worlds.{KeepsFields, field_counts}
use Rattle.icn_vars.proofs.GrowingWorlds.{heap_changed, setting_over}
use Rattle.icn_vars.proofs.KeptItems.{fields_then, same_fields}

-- Records

-- the records are the same
pub same_records : (old new : Heap) → new.records ≡ old.records → KeepsFields (field_counts old) (field_counts new)
same_records old new is = same_fields (field_counts old) (field_counts new) (ap (λ records. map (λ (structure : Record). length structure.fields) records) is)

pub same_heap : (old new : Heap) → new ≡ old → KeepsFields (field_counts old) (field_counts new)
same_heap old new is = same_records old new (ap (λ (heap : Heap). heap.records) is)

-- Charges

-- nothing differs but what is charged
pub record IsCharged (heap made : Heap) : Type 0 where
  pub lists : made.lists ≡ heap.lists
  pub sets : made.sets ≡ heap.sets
  pub tables : made.tables ≡ heap.tables
  pub records : made.records ≡ heap.records
  pub files : made.files ≡ heap.files

-- the part of a row makes this change of the heap, or comes to the error of its refusal
pub record IsChange (part : Row → Row) (change : Heap → ChangedHeap) : Type 0 where
  pub ok : (setting : Setting) (made : Heap) → change setting.world.heap ≡ Ok made → Passes part setting (having_heap (λ heap. made) setting)
  pub err : (all : Extent) (setting : Setting) (full : Full) → change setting.world.heap ≡ Err full → StopsPassing all part setting setting (stop_of full)
  pub charged : (heap made : Heap) → change heap ≡ Ok made → IsCharged heap made

paid_is : (t : Bool) (paid made : Heap) (why : Full) → (let r : ChangedHeap = if t then Ok paid else Err why in r) ≡ Ok made → paid ≡ made
paid_is true paid made why is = cc
paid_is false paid made why is = cc

passed_by : (t : Bool) (number : ℕ) (f : Heap → Heap) (made : Heap) (why : Full) (setting : Setting) (next : Row)
    → (let r : ChangedHeap = if t then Ok (f setting.world.heap) else Err why in r) ≡ Ok made
    → check t number None (changes_heap f next) setting ≡ next (having_heap (λ heap. made) setting)
passed_by true number f made why setting next is =
    let same : f setting.world.heap ≡ made = cc in
    ap (λ (paid : Heap). next (having_heap (λ heap. paid) setting)) same
passed_by false number f made why setting next is = cc

record IsRefused (t : Bool) (why full : Full) : Type 0 where
  test : t ≡ false
  same : why ≡ full

refused_by : (t : Bool) (paid : Heap) (why full : Full) → (let r : ChangedHeap = if t then Ok paid else Err why in r) ≡ Err full → IsRefused t why full
refused_by true paid why full is = cc
refused_by false paid why full is = record { test = refl; same = cc }

-- string bytes
pub bytes_change : (count : ℕ) → IsChange (costs_bytes count) (λ heap. charged_strings heap count)
unfolding charged_strings
bytes_change count = record {
  ok = λ setting made is next. passed_by (nat_le (setting.world.heap.strings + count) setting.world.heap.bounds.strings) 306
      (λ heap. record heap { strings = heap.strings + count }) made (Strings setting.world.heap.strings setting.world.heap.bounds.strings) setting next is;
  err = λ all setting full is.
      let no : IsRefused (nat_le (setting.world.heap.strings + count) setting.world.heap.bounds.strings)
      (Strings setting.world.heap.strings setting.world.heap.bounds.strings) full =
      refused_by (nat_le (setting.world.heap.strings + count) setting.world.heap.bounds.strings)
      (record setting.world.heap { strings = setting.world.heap.strings + count })
      (Strings setting.world.heap.strings setting.world.heap.bounds.strings) full is in
      subst (λ why. StopsPassing all (costs_bytes count) setting setting (stop_of why)) no.same
      (λ next. ap (λ t. check t 306 None (changes_heap (λ heap. record heap { strings = heap.strings + count }) next) setting) no.test);
  charged = λ heap made is.
      subst (IsCharged heap) (paid_is (nat_le (heap.strings + count) heap.bounds.strings) (record heap { strings = heap.strings + count }) made
      (Strings heap.strings heap.bounds.strings) is)
      (record { lists = refl; sets = refl; tables = refl; records = refl; files = refl });
}

-- cells
pub cells_change : (count : ℕ) → IsChange (costs_cells count) (λ heap. charged_cells heap count)
unfolding charged_cells
cells_change count = record {
  ok = λ setting made is next. passed_by (nat_le (setting.world.heap.cells + count) setting.world.heap.bounds.cells) 307
      (λ heap. record heap { cells = heap.cells + count }) made (Cells setting.world.heap.cells setting.world.heap.bounds.cells) setting next is;
  err = λ all setting full is.
      let no : IsRefused (nat_le (setting.world.heap.cells + count) setting.world.heap.bounds.cells)
      (Cells setting.world.heap.cells setting.world.heap.bounds.cells) full =
      refused_by (nat_le (setting.world.heap.cells + count) setting.world.heap.bounds.cells)
      (record setting.world.heap { cells = setting.world.heap.cells + count })
      (Cells setting.world.heap.cells setting.world.heap.bounds.cells) full is in
      subst (λ why. StopsPassing all (costs_cells count) setting setting (stop_of why)) no.same
      (λ next. ap (λ t. check t 307 None (changes_heap (λ heap. record heap { cells = heap.cells + count }) next) setting) no.test);
  charged = λ heap made is.
      subst (IsCharged heap)
      (paid_is (nat_le (heap.cells + count) heap.bounds.cells) (record heap { cells = heap.cells + count }) made (Cells heap.cells heap.bounds.cells) is)
      (record { lists = refl; sets = refl; tables = refl; records = refl; files = refl });
}

nothing_made : (heap made : Heap) → (let r : ChangedHeap = Ok heap in r) ≡ Ok made → heap ≡ made
nothing_made heap made is = cc

-- a part that changes nothing
nothing_changes : IsChange (λ next. next) (λ heap. Ok heap)
nothing_changes = record {
  ok = λ setting made is next. ap (λ (paid : Heap). next (having_heap (λ heap. paid) setting)) (nothing_made setting.world.heap made is);
  err = λ all setting full is. absurd (never setting.world.heap full is);
  charged = λ heap made is. subst (IsCharged heap) (nothing_made heap made is) (record { lists = refl; sets = refl; tables = refl; records = refl; files = refl });
}
  where
    never : (heap : Heap) (full : Full) → (let r : ChangedHeap = Ok heap in r) ≡ Err full → ⊥
    never heap full is = cc

made_change : (text : Option (List ℕ)) → IsChange (costs_made text) (λ heap. charged_made heap text)
made_change None = nothing_changes
made_change (Some text) = bytes_change (length text)

-- a value becomes a text
pub text_change : (value : Value) → IsChange (costs_text value) (λ heap. heap_with_text heap value)
text_change value = made_change (text_made (form_of value))

-- a cell for what is new
pub unless_change : (nothing : Bool) → IsChange (costs_unless nothing) (charged_unless nothing)
unless_change true = nothing_changes
unless_change false = cells_change 1

-- a charge that is followed by a change which charges nothing
pub charged_then : (f : Heap → Heap) (charged : ChangedHeap) (new : Heap) → and_then charged (λ paid. let r : ChangedHeap = Ok (f paid) in r) ≡ Ok new
    → (paid : Heap) × (charged ≡ Ok paid) × (f paid ≡ new)
charged_then f (Ok paid) new is = (paid, refl, nothing_made (f paid) new is)
charged_then f (Err full) new is = absurd (never full is)
  where
    never : (full : Full) → (let r : ChangedHeap = Err full in r) ≡ Ok new → ⊥
    never full is = cc

-- where it keeps the records, they stay
pub fields_behind : {part : Row → Row} {change : Heap → ChangedHeap} → IsChange part change → (f : Heap → Heap)
    → ((heap : Heap) → (f heap).records ≡ heap.records) → (old new : Heap)
    → and_then (change old) (λ paid. let r : ChangedHeap = Ok (f paid) in r) ≡ Ok new → KeepsFields (field_counts old) (field_counts new)
fields_behind {change = change} is f keeps old new step =
    let made = charged_then f (change old) new step in
    same_records old new (sym (ap (λ (heap : Heap). heap.records) made.2) ∙ (keeps made.0 ∙ (is.charged old made.0 made.1).records))

-- where it charges alone, they stay
pub fields_charged : {part : Row → Row} {change : Heap → ChangedHeap} → IsChange part change → (old new : Heap) → change old ≡ Ok new
    → KeepsFields (field_counts old) (field_counts new)
fields_charged is old new step = same_records old new (is.charged old new step).records

-- Changes of records

counts_append : (records : List Record) (one : Record) (id : ℕ)
    → slice_index (map (λ (structure : Record). length structure.fields) records) id
    ≤ slice_index (map (λ (structure : Record). length structure.fields) (records ++ one ∷ [])) id
counts_append [] one id = omega arith
counts_append (first ∷ records) one zero = omega arith
counts_append (first ∷ records) one (suc id) = counts_append records one id

-- a record is made
pub fields_made : (kind : ℕ) (fields : List Value) (heap : Heap) → KeepsFields (field_counts heap) (field_counts (having_record kind fields heap))
fields_made kind fields heap = record { more = counts_append heap.records (record { kind = kind; fields = fields }) }

counts_set : (records : List Record) (rec place : ℕ) (value : Value) (id : ℕ)
    → slice_index (map (λ (structure : Record). length structure.fields) records) id
    ≤ slice_index (map (λ (structure : Record). length structure.fields) (set records rec (record (unwrap_or (slice_get records rec)
    (record { kind = 0; fields = [] })) { fields = set (unwrap_or (slice_get records rec) (record { kind = 0; fields = [] })).fields place value }))) id
counts_set [] rec place value id = omega arith
counts_set (first ∷ records) zero place value zero = let same = length-set first.fields place value in omega arith
counts_set (first ∷ records) zero place value (suc id) = omega arith
counts_set (first ∷ records) (suc rec) place value zero = omega arith
counts_set (first ∷ records) (suc rec) place value (suc id) = counts_set records rec place value id

-- a field of a record is given another value
pub fields_set : (rec place : ℕ) (value : Value) (heap : Heap) → KeepsFields (field_counts heap) (field_counts (with_field rec place value heap))
fields_set rec place value heap = record { more = counts_set heap.records rec place value }

-- a change that keeps the fields of records, and what it gave
pub fields_by : (old made new : Heap) → KeepsFields (field_counts old) (field_counts made) → new ≡ made → KeepsFields (field_counts old) (field_counts new)
fields_by old made new keeps is = fields_then (field_counts old) (field_counts made) (field_counts new) keeps (same_heap made new is)

-- A world whose heap changes

module _ (old new : HeldHeap) (pair : Pair) (words : Words) (globals statics locals : List Val) (keeps : KeepsValues (extent_of old) (extent_of new))
    (sound : IsSoundWorld (extent_of old) pair words globals statics) (live : All (IsLive (extent_of old)) locals) where
  -- the part of a row is passed
  pub change_passes : {part : Row → Row} {change : Heap → ChangedHeap} → IsChange part change → change (heap_of old) ≡ Ok (heap_of new) → (outside : Outside)
      → Passes part (setting_over outside old pair words globals statics locals) (setting_over outside new pair words globals statics locals)
  change_passes is step outside next =
      is.ok (setting_over outside old pair words globals statics locals) (heap_of new) step next
      ∙ ap next (heap_changed outside old new pair words globals statics locals keeps refl sound live)

  -- it stops there
  pub change_stops : {part : Row → Row} {change : Heap → ChangedHeap} → IsChange part change → heap_of new ≡ heap_of old → (full : Full)
      → Refuses (change (heap_of old)) full
      → (all : Extent) (outside : Outside)
      → StopsPassing all part (setting_over outside old pair words globals statics locals) (setting_over outside new pair words globals statics locals)
      (stop_of full)
  change_stops {part} {change} is same full why all outside =
      subst (λ (setting : Setting). StopsPassing all part (setting_over outside old pair words globals statics locals) setting (stop_of full))
      (heap_changed outside old new pair words globals statics locals keeps same sound live)
      (⊎_elim (λ (e : full ≡ NoMemory). subst (λ f. StopsPassing all part (setting_over outside old pair words globals statics locals)
      (setting_over outside old pair words globals statics locals) (stop_of f)) (sym e) tt)
      (λ (e : change (heap_of old) ≡ Err full). is.err all (setting_over outside old pair words globals statics locals) full e) why)

-- a part of a row that stopped is the answer
pub stopped_part : {A : Type 0} (all : Extent) (part : Row → Row) (before after : Setting) (stop : Stop) (result : Result A Stop)
    → IsErrAnd result (λ other. other ≡ stop) → StopsPassing all part before after stop
    → MatchResult result (λ _. Passes part before after) (StopsPassing all part before after)
stopped_part all part before after stop (Ok thing) same is = absurd same
stopped_part all part before after stop (Err other) same is = subst (StopsPassing all part before after) (sym same) is
