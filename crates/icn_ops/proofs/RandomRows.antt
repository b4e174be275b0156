-- The rows of elements at random, by whether there are any.
use Rattle.std.proofs.Common.{◌≡◌, ◌∙◌, sym, ap, ℕ, ◌+◌, ◌<◌, ◌≤◌, nat_lt, List, length, Option, Some}
use Rattle.std.specs.Prelude.{unwrap_or}
use Rattle.std.specs.List.{slice_get}
use Rattle.std.proofs.lemmas.Bool.{le-ltb, lt-ltb}
use Rattle.icn_text.specs.RandomNumbers.{pick_place, random_step}
use Rattle.icn_value.specs.Values.{Value, AList, ARecord, ASet, ATable, Null, Variable, Item, Val}
use Rattle.icn_value.specs.Store.{Setting, having_random, list_at, record_at, set_at, table_at, value_at}
use Rattle.icn_defs.specs.Conversions.{Collected, Listed, Recorded, Tabled}
use Rattle.icn_defs.specs.Elements.{element_item, field_item, key_item, part_item, picks, random_of, text_variable}
use Rattle.icn_defs.specs.Rows.{Row, Fails, Gives, thing_or_failure, gives, gives_value, fails_unless}
use Rattle.icn_ops.proofs.PlaceRows.{part_given}

-- the setting behind one more random number
abbrev pub after_pick : Setting → Setting
after_pick s = having_random (random_step s.world.random) s

-- Lists

pub list_picked : (x : Item) (id place : ℕ) (item : Item) (s : Setting) → 0 < length (list_at s.world.heap id).items
    → place ≡ pick_place (random_step s.world.random) (length (list_at s.world.heap id).items)
    → item ≡ element_item id (list_at s.world.heap id) place → random_of x (AList id) (Listed id) s ≡ Gives item (after_pick s)
list_picked x id place item s some same is =
    ap (λ t. fails_unless t (picks (length (list_at s.world.heap id).items) (λ place. gives (element_item id (list_at s.world.heap id) place))) s)
    (lt-ltb 0 (length (list_at s.world.heap id).items) some)
    ∙ (sym (ap (λ p. Gives (element_item id (list_at s.world.heap id) p) (after_pick s)) same) ∙ sym (ap (λ one. Gives one (after_pick s)) is))

pub list_empty : (x : Item) (id : ℕ) (s : Setting) → length (list_at s.world.heap id).items ≤ 0 → random_of x (AList id) (Listed id) s ≡ Fails s
list_empty x id s none =
    ap (λ t. fails_unless t (picks (length (list_at s.world.heap id).items) (λ place. gives (element_item id (list_at s.world.heap id) place))) s)
    (le-ltb 0 (length (list_at s.world.heap id).items) none)

-- Sets

pub member_picked : (x : Item) (id place : ℕ) (value : Value) (s : Setting) → 0 < length (set_at s.world.heap id)
    → place ≡ pick_place (random_step s.world.random) (length (set_at s.world.heap id))
    → Some value ≡ slice_get (set_at s.world.heap id) place → random_of x (ASet id) (Collected id) s ≡ Gives (Val value) (after_pick s)
member_picked x id place value s some same is =
    ap (λ t. fails_unless t (picks (length (set_at s.world.heap id)) (λ place. gives_value (value_at (set_at s.world.heap id) place))) s)
    (lt-ltb 0 (length (set_at s.world.heap id)) some)
    ∙ (sym (ap (λ p. Gives (Val (value_at (set_at s.world.heap id) p)) (after_pick s)) same)
    ∙ sym (ap (λ found_value. Gives (Val (unwrap_or found_value Null)) (after_pick s)) is))

pub set_empty : (x : Item) (id : ℕ) (s : Setting) → length (set_at s.world.heap id) ≤ 0 → random_of x (ASet id) (Collected id) s ≡ Fails s
set_empty x id s none =
    ap (λ t. fails_unless t (picks (length (set_at s.world.heap id)) (λ place. gives_value (value_at (set_at s.world.heap id) place))) s)
    (le-ltb 0 (length (set_at s.world.heap id)) none)

-- Tables

pub pair_picked : (x : Item) (id place : ℕ) (pair : Value × Value) (s : Setting) → 0 < length (table_at s.world.heap id).pairs
    → place ≡ pick_place (random_step s.world.random) (length (table_at s.world.heap id).pairs)
    → Some pair ≡ slice_get (table_at s.world.heap id).pairs place → random_of x (ATable id) (Tabled id) s ≡ Gives (key_item id pair.0) (after_pick s)
pair_picked x id place pair s some same is =
    let on : ℕ → Row = λ place. thing_or_failure (slice_get (table_at s.world.heap id).pairs place) (λ (pair : Value × Value). gives (key_item id pair.0)) in
    ap (λ t. fails_unless t (picks (length (table_at s.world.heap id).pairs) on) s) (lt-ltb 0 (length (table_at s.world.heap id).pairs) some)
    ∙ (sym (ap (λ p. on p (after_pick s)) same)
    ∙ sym (ap (λ one. thing_or_failure one (λ (pair : Value × Value). gives (key_item id pair.0)) (after_pick s)) is))

pub table_empty : (x : Item) (id : ℕ) (s : Setting) → length (table_at s.world.heap id).pairs ≤ 0 → random_of x (ATable id) (Tabled id) s ≡ Fails s
table_empty x id s none =
    let on : ℕ → Row = λ place. thing_or_failure (slice_get (table_at s.world.heap id).pairs place) (λ (pair : Value × Value). gives (key_item id pair.0)) in
    ap (λ t. fails_unless t (picks (length (table_at s.world.heap id).pairs) on) s) (le-ltb 0 (length (table_at s.world.heap id).pairs) none)

-- Records

pub field_picked : (x : Item) (id place : ℕ) (s : Setting) → 0 < length (record_at s.world.heap id).fields
    → place ≡ pick_place (random_step s.world.random) (length (record_at s.world.heap id).fields)
    → random_of x (ARecord id) (Recorded id) s ≡ Gives (field_item id place) (after_pick s)
field_picked x id place s some same =
    ap (λ t. fails_unless t (picks (length (record_at s.world.heap id).fields) (λ place. gives (field_item id place))) s)
    (lt-ltb 0 (length (record_at s.world.heap id).fields) some)
    ∙ sym (ap (λ p. Gives (field_item id p) (after_pick s)) same)

pub record_empty : (x : Item) (id : ℕ) (s : Setting) → length (record_at s.world.heap id).fields ≤ 0 → random_of x (ARecord id) (Recorded id) s ≡ Fails s
record_empty x id s none =
    ap (λ t. fails_unless t (picks (length (record_at s.world.heap id).fields) (λ place. gives (field_item id place))) s)
    (le-ltb 0 (length (record_at s.world.heap id).fields) none)

-- Texts

module _ (x x' : Item) (v v' : Value) (text text' : List ℕ) (size : ℕ) (s : Setting) where
  pub byte_picked : (holder : Option Variable) (item : Item) (place state : ℕ) → size ≡ length text → 0 < size → state ≡ random_step s.world.random
      → place ≡ pick_place state size
      → item ≡ part_item holder text' (place + 1) 1 → holder ≡ text_variable x' v' → x' ≡ x → v' ≡ v → text' ≡ text
      → fails_unless (nat_lt 0 (length text)) (picks (length text) (λ place. gives (part_item (text_variable x v) text (place + 1) 1))) s
      ≡ Gives item (having_random state s)
  byte_picked holder item place state long some stepped same is hold one two three =
      let on : ℕ → Row = λ p. gives (part_item (text_variable x v) text (p + 1) 1) in
      ap (λ k. fails_unless (nat_lt 0 k) (picks k on) s) (sym long)
      ∙ (ap (λ t. fails_unless t (picks size on) s) (lt-ltb 0 size some)
      ∙ (ap (λ r. on (pick_place r size) (having_random r s)) (sym stepped)
      ∙ (ap (λ p. on p (having_random state s)) (sym same)
      ∙ part_given x x' v v' text text' holder item (place + 1) 1 (having_random state s) is hold one two three)))

  pub byte_lacking : size ≡ length text → size ≤ 0
      → fails_unless (nat_lt 0 (length text)) (picks (length text) (λ place. gives (part_item (text_variable x v) text (place + 1) 1))) s ≡ Fails s
  byte_lacking long none =
      let on : ℕ → Row = λ p. gives (part_item (text_variable x v) text (p + 1) 1) in
      ap (λ k. fails_unless (nat_lt 0 k) (picks k on) s) (sym long) ∙ ap (λ t. fails_unless t (picks size on) s) (le-ltb 0 size none)
