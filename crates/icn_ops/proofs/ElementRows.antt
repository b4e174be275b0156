-- The rows of elements, by whether an element stands at the place.
use Rattle.std.proofs.Common.{◌≡◌, ◌∙◌, refl, sym, ap, ℕ, zero, suc, ◌+◌, ◌<◌, ◌≤◌, nat_lt, List, [], ◌∷◌, length, take, drop, None, Some, arith}
use Rattle.std.specs.List.{slice_get}
use Rattle.std.proofs.lemmas.Bool.{le-ltb, lt-ltb}
use Rattle.icn_value.specs.Values.{Value, Text, Variable, Item, Val, Var}
use Rattle.icn_value.specs.Store.{Setting, list_at, record_at, set_at, table_at}
use Rattle.icn_defs.specs.Calls.{GoesOn}
use Rattle.icn_defs.specs.Conversions.{held_text}
use Rattle.icn_defs.specs.Elements.{element_item, field_item, key_item, list_items_from, part_of, record_fields_from, set_members_from, table_values_from, text_bytes_from, variable_bytes_from}
use Rattle.icn_defs.specs.ReadAndAssign.{reads}
use Rattle.icn_defs.specs.Rows.{Row, Fails, Suspends, Error, TextBytes, VariableBytes, ListItems, SetMembers, TableValues, RecordFields, thing_or_failure, fails_unless, present, suspends}

pub get_past : {A : Type 0} (xs : List A) (place : ℕ) → length xs ≤ place → slice_get xs place ≡ None
get_past [] place past = refl
get_past (x ∷ xs) zero past = absurd (omega arith)
get_past (x ∷ xs) (suc place) past = get_past xs place (omega arith)

-- Texts

byte_at : (text : List ℕ) (place : ℕ) → place < length text → (byte : ℕ) × (slice_get text place ≡ Some byte) × (take 1 (drop place text) ≡ byte ∷ [])
byte_at [] place there = absurd (omega arith)
byte_at (x ∷ xs) zero there = (x, refl, refl)
byte_at (x ∷ xs) (suc place) there = byte_at xs place (omega arith)

pub text_byte : (text bytes : List ℕ) (place : ℕ) (s : Setting) → place < length text → bytes ≡ take 1 (drop place text)
    → text_bytes_from text place s ≡ Suspends (Val (Text bytes)) (TextBytes text (place + 1)) s
text_byte text bytes place s there is =
    let one = byte_at text place there in
    ap (λ found_byte. thing_or_failure found_byte (λ byte. suspends (Val (Text (byte ∷ []))) (TextBytes text (place + 1))) s) one.1
    ∙ ap (λ bytes. Suspends (Val (Text bytes)) (TextBytes text (place + 1)) s) (sym (is ∙ one.2))

pub text_end : (text : List ℕ) (place : ℕ) (s : Setting) → length text ≤ place → text_bytes_from text place s ≡ Fails s
text_end text place s past =
    ap (λ found_byte. thing_or_failure found_byte (λ byte. suspends (Val (Text (byte ∷ []))) (TextBytes text (place + 1))) s) (get_past text place past)

-- Variables

module _ (variable : Variable) (place : ℕ) (s : Setting) where
  rest : Value → Row
  rest value = present (held_text value) 103 (Some value)
      (λ text. fails_unless (nat_lt place (length text)) (suspends (Var (part_of variable (place + 1) 1)) (VariableBytes variable (place + 1))))

  pub variable_byte : (value : Value) (text : List ℕ) → GoesOn (reads variable) s value s → value ≡ Text text → place < length text
      → variable_bytes_from variable place s ≡ Suspends (Var (part_of variable (place + 1) 1)) (VariableBytes variable (place + 1)) s
  unfolding rest
  variable_byte value text read is there =
      read rest ∙ (ap (λ v. rest v s) is
      ∙ ap (λ t. fails_unless t (suspends (Var (part_of variable (place + 1) 1)) (VariableBytes variable (place + 1))) s) (lt-ltb place (length text) there))

  pub variable_end : (value : Value) (text : List ℕ) → GoesOn (reads variable) s value s → value ≡ Text text → length text ≤ place
      → variable_bytes_from variable place s ≡ Fails s
  unfolding rest
  variable_end value text read is past =
      read rest ∙ (ap (λ v. rest v s) is
      ∙ ap (λ t. fails_unless t (suspends (Var (part_of variable (place + 1) 1)) (VariableBytes variable (place + 1))) s) (le-ltb place (length text) past))

  pub variable_other : (value : Value) → GoesOn (reads variable) s value s → held_text value ≡ None
      → variable_bytes_from variable place s ≡ Error 103 (Some value) s
  unfolding rest
  variable_other value read none =
      read rest ∙ ap (λ text. present text 103 (Some value)
      (λ text. fails_unless (nat_lt place (length text)) (suspends (Var (part_of variable (place + 1) 1)) (VariableBytes variable (place + 1)))) s) none

-- Structures

pub list_item : (id place : ℕ) (item : Item) (s : Setting) → place < length (list_at s.world.heap id).items
    → item ≡ element_item id (list_at s.world.heap id) place
    → list_items_from id place s ≡ Suspends item (ListItems id (place + 1)) s
list_item id place item s there is =
    ap (λ t. fails_unless t (suspends (element_item id (list_at s.world.heap id) place) (ListItems id (place + 1))) s)
    (lt-ltb place (length (list_at s.world.heap id).items) there)
    ∙ ap (λ one. Suspends one (ListItems id (place + 1)) s) (sym is)

pub list_end : (id place : ℕ) (s : Setting) → length (list_at s.world.heap id).items ≤ place → list_items_from id place s ≡ Fails s
list_end id place s past = ap (λ t. fails_unless t (suspends (element_item id (list_at s.world.heap id) place) (ListItems id (place + 1))) s)
    (le-ltb place (length (list_at s.world.heap id).items) past)

pub set_member : (id place : ℕ) (value : Value) (s : Setting) → slice_get (set_at s.world.heap id) place ≡ Some value
    → set_members_from id place s ≡ Suspends (Val value) (SetMembers id (place + 1)) s
set_member id place value s is = ap (λ member. thing_or_failure member (λ member. suspends (Val member) (SetMembers id (place + 1))) s) is

pub set_end : (id place : ℕ) (s : Setting) → slice_get (set_at s.world.heap id) place ≡ None → set_members_from id place s ≡ Fails s
set_end id place s is = ap (λ member. thing_or_failure member (λ member. suspends (Val member) (SetMembers id (place + 1))) s) is

pub table_value : (id place : ℕ) (pair : Value × Value) (s : Setting) → slice_get (table_at s.world.heap id).pairs place ≡ Some pair
    → table_values_from id place s ≡ Suspends (key_item id pair.0) (TableValues id (place + 1)) s
table_value id place pair s is = ap (λ one. thing_or_failure one (λ (pair : Value × Value). suspends (key_item id pair.0) (TableValues id (place + 1))) s) is

pub table_end : (id place : ℕ) (s : Setting) → slice_get (table_at s.world.heap id).pairs place ≡ None → table_values_from id place s ≡ Fails s
table_end id place s is = ap (λ one. thing_or_failure one (λ (pair : Value × Value). suspends (key_item id pair.0) (TableValues id (place + 1))) s) is

pub record_field : (id place : ℕ) (s : Setting) → place < length (record_at s.world.heap id).fields
    → record_fields_from id place s ≡ Suspends (field_item id place) (RecordFields id (place + 1)) s
record_field id place s there =
    ap (λ t. fails_unless t (suspends (field_item id place) (RecordFields id (place + 1))) s) (lt-ltb place (length (record_at s.world.heap id).fields) there)

pub record_end : (id place : ℕ) (s : Setting) → length (record_at s.world.heap id).fields ≤ place → record_fields_from id place s ≡ Fails s
record_end id place s past =
    ap (λ t. fails_unless t (suspends (field_item id place) (RecordFields id (place + 1))) s) (le-ltb place (length (record_at s.world.heap id).fields) past)
