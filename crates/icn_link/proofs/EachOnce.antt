-- Tables that have each thing once have all that is given to them, and nothing else.
use Rattle.std.proofs.Common.{◌≡◌, ℕ, ℤ, ◌<◌, Bool, true, false, ◌&&◌, ◌||◌, List, [], ◌∷◌, ◌++◌, length, map, if◌then◌else◌, Option, Some, refl, sym, ap, ◌∙◌, arith, append_assoc, append-nil}
use Rattle.std.specs.Prelude.{nat_lt, slice_index_or, find}
use Rattle.std.specs.List.{flat_map, list_all, list_any, position_or_len}
use Rattle.std.specs.Ordering.{int_eq}
use Rattle.std.specs.Str.{bytes_eq}
use Rattle.std.proofs.lemmas.Bool.{and_from, and_parts, lt-ltb, or_left, or_right, false≢true}
use Rattle.std.proofs.lemmas.Bool.Decides.{Decides-int_eq}
use Rattle.std.proofs.lemmas.List.Folds.{list_all-append, list_any-append, find_at}
use Rattle.std.proofs.lemmas.Option.{get_or_from_slice_get}
use Rattle.std.proofs.lemmas.Slice.Eq.{bytes_eq-Decides}
use Rattle.icn_link.specs.FirstMentions.{with_text, with_texts, with_integer, with_integers, text_index, integer_index}

-- for tests in a row
pub and_intro : {x y : Bool} → x ≡ true → y ≡ true → (x && y) ≡ true
and_intro {x} {y} h g = and_from x y h g

-- Tables that have each item once

module _ {A : Type 0} (same : A → A → Bool) where
  -- a table with an item, and with items, each once
  abbrev with_one : List A → A → List A
  with_one table item = if list_any (same item) table then table else table ++ item ∷ []

  abbrev pub with_each : List A → List A → List A
  with_each table [] = table
  with_each table (item ∷ items) = with_each (with_one table item) items

  one_grows : (table : List A) (item : A) → (more : List A) × (with_one table item ≡ table ++ more)
  one_grows table item = by (list_any (same item) table)
    where
      by : (held : Bool) → (more : List A) × ((if held then table else table ++ item ∷ []) ≡ table ++ more)
      by true = ([], sym (append-nil table))
      by false = (item ∷ [], refl)

  -- what a table has stays where it is
  grows : (table items : List A) → (more : List A) × (with_each table items ≡ table ++ more)
  grows table [] = ([], sym (append-nil table))
  grows table (item ∷ items) =
      let first = one_grows table item in
      let rest = grows (with_one table item) items in
      (first.0 ++ rest.0, rest.1 ∙ (ap (λ t. t ++ rest.0) first.1 ∙ append_assoc table first.0 rest.0))

  -- so a test that one of its items passes is passed later
  still_there : (test : A → Bool) (table items : List A) → list_any test table ≡ true → list_any test (with_each table items) ≡ true
  still_there test table items h =
      let grown = grows table items in
      ap (list_any test) grown.1 ∙ (list_any-append test table grown.0 ∙ or_left _ _ h)

  module _ (alike : (item : A) → same item item ≡ true) where
    -- what it is given is there
    one_there : (table : List A) (item : A) → list_any (same item) (with_one table item) ≡ true
    one_there table item = by (list_any (same item) table) refl
      where
        by : (held : Bool) → list_any (same item) table ≡ held → list_any (same item) (if held then table else table ++ item ∷ []) ≡ true
        by true h = h
        by false h = list_any-append (same item) table (item ∷ []) ∙ or_right _ _ (or_left (same item item) false (alike item))

    all_there : (table items : List A) → list_all (λ item. list_any (same item) (with_each table items)) items ≡ true
    all_there table [] = refl
    all_there table (item ∷ items) =
        and_intro (still_there (same item) (with_one table item) items (one_there table item)) (all_there (with_one table item) items)

place_by : {A : Type 0} (test : A → Bool) (item : A) (table : List A) (passes : Bool) → test item ≡ passes → list_any test (item ∷ table) ≡ true
    → (list_any test table ≡ true → position_or_len test table < length table) → position_or_len test (item ∷ table) < length (item ∷ table)
place_by test item table true e h within = rw e (omega arith)
place_by test item table false e h within = let rest = within (rw e at h) in rw e (omega arith)

-- an item that is there has its place within the table
pub place_within : {A : Type 0} (test : A → Bool) (table : List A) → list_any test table ≡ true → position_or_len test table < length table
place_within test [] h = cc
place_within test (item ∷ table) h = place_by test item table (test item) refl h (place_within test table)

-- Tables of texts and integers

-- these tables are such
pub texts_each : (table texts : List (List ℕ)) → with_texts table texts ≡ with_each bytes_eq table texts
texts_each table [] = refl
texts_each table (text ∷ texts) = texts_each (with_one bytes_eq table text) texts

pub integers_each : (table integers : List ℤ) → with_integers table integers ≡ with_each int_eq table integers
integers_each table [] = refl
integers_each table (n ∷ integers) = integers_each (with_one int_eq table n) integers

-- so a table has each text and integer that it was made of
abbrev pub has_text : List (List ℕ) → List ℕ → Bool
has_text strings text = list_any (bytes_eq text) strings

abbrev pub has_integer : List ℤ → ℤ → Bool
has_integer integers n = list_any (int_eq n) integers

pub texts_there : (table texts : List (List ℕ)) → list_all (has_text (with_texts table texts)) texts ≡ true
texts_there table texts = rw (texts_each table texts) (all_there bytes_eq (λ text. (bytes_eq-Decides text text).1 refl) table texts)

pub integers_there : (table integers : List ℤ) → list_all (has_integer (with_integers table integers)) integers ≡ true
integers_there table integers = rw (integers_each table integers) (all_there int_eq (λ n. (Decides-int_eq n n).1 refl) table integers)

-- Tests that all pass

pub all_of_flat : {A B : Type 0} (p : B → Bool) (f : A → List B) (xs : List A) → list_all (λ x. list_all p (f x)) xs ≡ true
    → list_all p (flat_map f xs) ≡ true
all_of_flat p f [] h = refl
all_of_flat p f (x ∷ xs) h =
    let t = and_parts _ _ h in list_all-append p (f x) (flat_map f xs) ∙ and_intro t.0 (all_of_flat p f xs t.1)

pub all_in_flat : {A B : Type 0} (p : B → Bool) (f : A → List B) (xs : List A) → list_all p (flat_map f xs) ≡ true
    → list_all (λ x. list_all p (f x)) xs ≡ true
all_in_flat p f [] h = refl
all_in_flat p f (x ∷ xs) h =
    let t = and_parts _ _ (sym (list_all-append p (f x) (flat_map f xs)) ∙ h) in and_intro t.0 (all_in_flat p f xs t.1)

-- where one test implies another, so it is for all of a list
pub all_then : {A : Type 0} (p q : A → Bool) → ((x : A) → p x ≡ true → q x ≡ true) → (xs : List A) → list_all p xs ≡ true
    → list_all q xs ≡ true
all_then p q leads [] h = refl
all_then p q leads (x ∷ xs) h = let t = and_parts _ _ h in and_intro (leads x t.0) (all_then p q leads xs t.1)

pub all_with : {A : Type 0} (p q r : A → Bool) → ((x : A) → p x ≡ true → q x ≡ true → r x ≡ true) → (xs : List A)
    → list_all p xs ≡ true → list_all q xs ≡ true → list_all r xs ≡ true
all_with p q r leads [] h k = refl
all_with p q r leads (x ∷ xs) h k =
    let t = and_parts _ _ h in let u = and_parts _ _ k in and_intro (leads x t.0 u.0) (all_with p q r leads xs t.1 u.1)

pub all_mapped : {A B : Type 0} (p : B → Bool) (f : A → B) (xs : List A) → list_all (λ x. p (f x)) xs ≡ true
    → list_all p (map f xs) ≡ true
all_mapped p f [] h = refl
all_mapped p f (x ∷ xs) h = let t = and_parts _ _ h in and_intro t.0 (all_mapped p f xs t.1)

pub all_unmapped : {A B : Type 0} (p : B → Bool) (f : A → B) (xs : List A) → list_all p (map f xs) ≡ true
    → list_all (λ x. p (f x)) xs ≡ true
all_unmapped p f [] h = refl
all_unmapped p f (x ∷ xs) h = let t = and_parts _ _ h in and_intro t.0 (all_unmapped p f xs t.1)

text_keeps : (p : List ℕ → Bool) (known : List (List ℕ)) (x : List ℕ) → list_all p known ≡ true → p x ≡ true
    → list_all p (with_text known x) ≡ true
text_keeps p known x h k = by (list_any (bytes_eq x) known)
  where
    by : (test : Bool) → list_all p (if test then known else known ++ x ∷ []) ≡ true
    by true = h
    by false = list_all-append p known (x ∷ []) ∙ and_intro h (and_intro k refl)

pub texts_keep : (p : List ℕ → Bool) (known xs : List (List ℕ)) → list_all p known ≡ true → list_all p xs ≡ true
    → list_all p (with_texts known xs) ≡ true
texts_keep p known [] h k = h
texts_keep p known (x ∷ xs) h k =
    let t = and_parts _ _ k in texts_keep p (with_text known x) xs (text_keeps p known x h t.0) t.1

integer_keeps : (p : ℤ → Bool) (known : List ℤ) (x : ℤ) → list_all p known ≡ true → p x ≡ true
    → list_all p (with_integer known x) ≡ true
integer_keeps p known x h k = by (list_any (int_eq x) known)
  where
    by : (test : Bool) → list_all p (if test then known else known ++ x ∷ []) ≡ true
    by true = h
    by false = list_all-append p known (x ∷ []) ∙ and_intro h (and_intro k refl)

pub integers_keep : (p : ℤ → Bool) (known xs : List ℤ) → list_all p known ≡ true → list_all p xs ≡ true
    → list_all p (with_integers known xs) ≡ true
integers_keep p known [] h k = h
integers_keep p known (x ∷ xs) h k =
    let t = and_parts _ _ k in integers_keep p (with_integer known x) xs (integer_keeps p known x h t.0) t.1

-- what is held has its place
abbrev pub has_index : List (List ℕ) → List ℕ → Bool
has_index texts text = nat_lt (text_index texts text) (length texts)

abbrev pub has_integer_index : List ℤ → ℤ → Bool
has_integer_index integers n = nat_lt (integer_index integers n) (length integers)

pub text_placed : (texts : List (List ℕ)) (text : List ℕ) → has_text texts text ≡ true → has_index texts text ≡ true
text_placed texts text h = lt-ltb _ _ (place_within (bytes_eq text) texts h)

pub integer_placed : (integers : List ℤ) (n : ℤ) → has_integer integers n ≡ true → has_integer_index integers n ≡ true
integer_placed integers n h = lt-ltb _ _ (place_within (int_eq n) integers h)

-- and stands there
found_by : (x y : List ℕ) (test : Bool) (others : Option (List ℕ)) → bytes_eq x y ≡ test → (test ≡ false → others ≡ Some x)
    → (if test then Some y else others) ≡ Some x
found_by x y true others e h = ap (λ z. Some z) (sym ((bytes_eq-Decides x y).0 e))
found_by x y false others e h = h refl

or_other : (a b : Bool) → a ≡ false → (a || b) ≡ true → b ≡ true
or_other true b h e = absurd (false≢true (sym h))
or_other false b h e = e

found : (x : List ℕ) (xs : List (List ℕ)) → has_text xs x ≡ true → find (bytes_eq x) xs ≡ Some x
found x [] h = absurd (false≢true h)
found x (y ∷ ys) h = found_by x y (bytes_eq x y) (find (bytes_eq x) ys) refl
    (λ e. found x ys (or_other (bytes_eq x y) (list_any (bytes_eq x) ys) e h))

pub text_at : (texts : List (List ℕ)) (text : List ℕ) → has_text texts text ≡ true
    → slice_index_or texts (text_index texts text) [] ≡ text
text_at texts text h = get_or_from_slice_get texts (text_index texts text) text []
    (sym (find_at (bytes_eq text) texts) ∙ found text texts h)
