-- What an undo gives back.
use Rattle.std.proofs.Common.{arith, true≢false, ◌≡◌, ◌∙◌, refl, sym, ap, ℕ, zero, suc, ℤ, pos, negsuc, ◌+◌, ◌-◌, ◌≤◌, Bool, true, false, List, [], ◌∷◌, ◌++◌, length, Some, None, take, drop, append_assoc, length-append, cond}
use Rattle.std.specs.Prelude.{slice_get, slice_set, slice_range, unwrap_or, is_some, ◌-ℤ◌, length}
use Rattle.std.proofs.lemmas.Option.{none-some, same_Some}
use Rattle.std.proofs.lemmas.List.Folds.{drop_split}
use Rattle.std.proofs.Math.Seq.{take-append_seam, drop-append_seam}
use Rattle.icn_structs.specs.PairLists.{value_of, with_value_of}
use Rattle.icn_structs.specs.Numbered.{NumberedList, item_at, items_with, item_numbered, with_numbered}
use Rattle.icn_value.specs.Values.{Value, Root, Global, Static, Local, Element, Field, Key, Keyword, Whole}
use Rattle.icn_value.specs.Store.{Setting, Table, Record, value_at, list_at, record_at, with_list, having_globals, having_statics, having_heap, new_list}
use Rattle.icn_value.specs.Sameness.{same}
use Rattle.icn_value.proofs.SameValues.{same_self}
use Rattle.icn_defs.specs.Rows.{Row, check, wrong}
use Rattle.icn_defs.specs.ReadAndAssign.{root_value, assigns, undoes, assigns_root, with_part, table_value}
use Rattle.law_rows.specs.Undos.{is_kept}

-- Lists with a value set and set back

set_twice : {A : Type 0} (xs : List A) (i : ℕ) (x old : A) → slice_get xs i ≡ Some old → slice_set (slice_set xs i x) i old ≡ xs
set_twice [] zero x old is = refl
set_twice [] (suc i) x old is = refl
set_twice (y ∷ ys) zero x old is = ap (λ first. first ∷ ys) (sym (same_Some y old is))
set_twice (y ∷ ys) (suc i) x old is = ap (λ rest. y ∷ rest) (set_twice ys i x old is)

values_back : (values : List Value) (i : ℕ) (value old : Value) → value_at values i ≡ old → slice_set (slice_set values i value) i old ≡ values
values_back [] zero value old is = refl
values_back [] (suc i) value old is = refl
values_back (y ∷ ys) zero value old is = ap (λ first. first ∷ ys) (sym is)
values_back (y ∷ ys) (suc i) value old is = ap (λ rest. y ∷ rest) (values_back ys i value old is)

-- Parts of texts

taken : (n : ℕ) (xs : List ℕ) → n ≤ length xs → length (take n xs) ≡ n
taken zero xs h = refl
taken (suc n) [] h = absurd (omega (arith, h))
taken (suc n) (x ∷ xs) h = ap suc (taken n xs (omega (arith, h)))

put_back : (p : ℕ) (a new z m : List ℕ) → length a ≡ p → take p (a ++ (new ++ z)) ++ (m ++ drop (p + length new) (a ++ (new ++ z))) ≡ a ++ (m ++ z)
put_back p a new z m is =
    ap (λ front. front ++ (m ++ drop (p + length new) (a ++ (new ++ z)))) (ap (λ n. take n (a ++ (new ++ z))) (sym is) ∙ take-append_seam a (new ++ z))
    ∙ ap (λ back. a ++ (m ++ back))
    (ap (drop (p + length new)) (sym (append_assoc a new z)) ∙ (ap (λ n. drop n ((a ++ new) ++ z)) same ∙ drop-append_seam (a ++ new) z))
  where
    same : p + length new ≡ length (a ++ new)
    same = ap (λ n. n + length new) (sym is) ∙ sym (length-append a new)

front_and_back : (p : ℕ) (text : List ℕ) → take p text ++ drop p text ≡ text
front_and_back zero text = refl
front_and_back (suc p) [] = refl
front_and_back (suc p) (x ∷ text) = ap (λ rest. x ∷ rest) (front_and_back p text)

pub part_back : (text new : List ℕ) (place size : ℕ) → 1 ≤ place → place - 1 + size ≤ length text
    → with_part (with_part text place size new) place (length new) (slice_range text (place - 1) (place - 1 + size)) ≡ text
part_back text new place size some within =
    put_back (place - 1) (take (place - 1) text) new (drop (place - 1 + size) text) (slice_range text (place - 1) (place - 1 + size))
    (taken (place - 1) text (omega (arith, within)))
    ∙ (ap (λ back. take (place - 1) text ++ back) (sym (drop_split text (place - 1) (place - 1 + size) (omega arith))) ∙ front_and_back (place - 1) text)

-- Keys of tables

stored_read : (pairs : List (Value × Value)) (key value : Value) → value_of same (with_value_of same pairs key value) key ≡ Some value
stored_read [] key value = ap (λ t. cond t (Some value) None) (same_self key)
stored_read (pair ∷ pairs) key value = by (same key pair.0) refl (stored_read pairs key value)
  where
    by : (t : Bool) → same key pair.0 ≡ t → value_of same (with_value_of same pairs key value) key ≡ Some value
        → value_of same (with_value_of same (pair ∷ pairs) key value) key ≡ Some value
    by true e later = rw e (ap (λ t. cond t (Some value) (value_of same pairs key)) e)
    by false e later = rw e (ap (λ t. cond t (Some pair.1) (value_of same (with_value_of same pairs key value) key)) e ∙ later)

pub key_back : (table : Table) (key value : Value) → table_value (record table { pairs = with_value_of same table.pairs key value }) key ≡ value
key_back table key value = ap (λ found. unwrap_or found table.default) (stored_read table.pairs key value)

-- Whole variables

global_back : (place : ℕ) (value old : Value) (next : Row) (at : Setting) → value_at at.world.globals place ≡ old
    → assigns (Whole (Global place)) value (λ now. undoes now old next) at ≡ next at
global_back place value old next at is = ap (λ values. next (having_globals values at)) (values_back at.world.globals place value old is)

static_back : (place : ℕ) (value old : Value) (next : Row) (at : Setting) → value_at at.world.statics place ≡ old
    → assigns (Whole (Static place)) value (λ now. undoes now old next) at ≡ next at
static_back place value old next at is = ap (λ values. next (having_statics values at)) (values_back at.world.statics place value old is)

local_back : (place : ℕ) (value old : Value) (next : Row) (at : Setting) → value_at at.locals place ≡ old
    → assigns (Whole (Local place)) value (λ now. undoes now old next) at ≡ next at
local_back place value old next at is = ap (λ values. next (record at { locals = values })) (values_back at.locals place value old is)

record_in : List Record → ℕ → Record
record_in records id = unwrap_or (slice_get records id) (record { kind = 0; fields = [] })

with_field : ℕ → Value → Record → Record
with_field place value structure = record structure { fields = slice_set structure.fields place value }

records_back : (records : List Record) (id place : ℕ) (value old : Value) → value_at (record_in records id).fields place ≡ old
    → slice_set (slice_set records id (with_field place value (record_in records id))) id
    (with_field place old (record_in (slice_set records id (with_field place value (record_in records id))) id)) ≡ records
unfolding record_in with_field
records_back [] zero place value old is = refl
records_back [] (suc id) place value old is = refl
records_back (first ∷ records) zero place value old is = ap (λ fields. record first { fields = fields } ∷ records) (values_back first.fields place value old is)
records_back (first ∷ records) (suc id) place value old is = ap (λ rest. first ∷ rest) (records_back records id place value old is)

field_back : (id place : ℕ) (value old : Value) (next : Row) (at : Setting) → value_at (record_at at.world.heap id).fields place ≡ old
    → assigns (Whole (Field id place)) value (λ now. undoes now old next) at ≡ next at
unfolding record_in with_field
field_back id place value old next at is =
    ap (λ records. next (having_heap (λ heap. record heap { records = records }) at)) (records_back at.world.heap.records id place value old is)

-- an element that is there
items_back : (items : List Value) (z : ℤ) (value old : Value) → item_at items z ≡ Some old
    → (item_at (items_with items z value) z ≡ Some value) × (items_with (items_with items z value) z old ≡ items)
items_back items (negsuc n) value old is = absurd (none-some old is)
items_back items (pos n) value old is = (set_there items n value old is, set_twice items n value old is)
  where
    set_there : (xs : List Value) (i : ℕ) (x old : Value) → slice_get xs i ≡ Some old → slice_get (slice_set xs i x) i ≡ Some x
    set_there [] zero x old is = absurd (none-some old is)
    set_there [] (suc i) x old is = absurd (none-some old is)
    set_there (y ∷ ys) zero x old is = refl
    set_there (y ∷ ys) (suc i) x old is = set_there ys i x old is

no_items : List Value
no_items = []

no_item : (z : ℤ) → item_at no_items z ≡ None
unfolding no_items
no_item (pos zero) = refl
no_item (pos (suc n)) = refl
no_item (negsuc n) = refl

list_in : List (NumberedList Value) → ℕ → NumberedList Value
list_in lists id = unwrap_or (slice_get lists id) (new_list [])

lists_back : (lists : List (NumberedList Value)) (id : ℕ) (number : ℤ) (value old : Value) → item_numbered (list_in lists id) number ≡ Some old
    → (item_numbered (list_in (slice_set lists id (with_numbered (list_in lists id) number value)) id) number ≡ Some value)
    × (slice_set (slice_set lists id (with_numbered (list_in lists id) number value)) id
    (with_numbered (list_in (slice_set lists id (with_numbered (list_in lists id) number value)) id) number old) ≡ lists)
unfolding list_in no_items
lists_back [] zero number value old is = absurd (none-some old (sym (no_item (number -ℤ pos 1)) ∙ is))
lists_back [] (suc id) number value old is = absurd (none-some old (sym (no_item (number -ℤ pos 1)) ∙ is))
lists_back (first ∷ lists) zero number value old is =
    let both = items_back first.items (number -ℤ first.number) value old is in
    (both.0, ap (λ items. record first { items = items } ∷ lists) both.1)
lists_back (first ∷ lists) (suc id) number value old is =
    let both = lists_back lists id number value old is in
    (both.0, ap (λ rest. first ∷ rest) both.1)

element_back : (id : ℕ) (number : ℤ) (value old : Value) (next : Row) (at : Setting) → item_numbered (list_at at.world.heap id) number ≡ Some old
    → assigns (Whole (Element id number)) value (λ now. undoes now old next) at ≡ next at
unfolding list_in
element_back id number value old next at is =
    let both = lists_back at.world.heap.lists id number value old is in
    let after = having_heap (with_list id (with_numbered (list_at at.world.heap id) number value)) at in
    ap (λ t. check t 205 None (λ seen. assigns_root (wrong 205 None) (Element id number) old next
    (having_heap (with_list id (with_numbered (list_at at.world.heap id) number value)) seen)) at) (ap is_some is)
    ∙ (ap (λ t. check t 205 None (λ seen. next (having_heap (with_list id (with_numbered (list_at after.world.heap id) number old)) seen)) after)
    (ap is_some both.0)
    ∙ ap (λ lists. next (having_heap (λ heap. record heap { lists = lists }) at)) both.1)

pub gives_back : (root : Root) (value old : Value) (next : Row) (at : Setting) → is_kept root ≡ true → root_value at root ≡ Some old
    → assigns (Whole root) value (λ now. undoes now old next) at ≡ next at
gives_back (Global place) value old next at plain is = global_back place value old next at (same_Some _ _ is)
gives_back (Static place) value old next at plain is = static_back place value old next at (same_Some _ _ is)
gives_back (Local place) value old next at plain is = local_back place value old next at (same_Some _ _ is)
gives_back (Element id number) value old next at plain is = element_back id number value old next at is
gives_back (Field id place) value old next at plain is = field_back id place value old next at (same_Some _ _ is)
gives_back (Key id key) value old next at plain is = absurd (true≢false (sym plain))
gives_back (Keyword word) value old next at plain is = absurd (true≢false (sym plain))
