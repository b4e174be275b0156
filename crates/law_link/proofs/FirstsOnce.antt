-- Tables that are gathered one thing after the other have the first mention of each.
use Rattle.std.proofs.Common.{◌≡◌, ℕ, ℤ, suc, arith, Bool, true, false, not, ◌&&◌, ◌||◌, List, [], ◌∷◌, ◌++◌, filter, cond, refl, sym, ap, ◌∙◌, append_assoc, append-nil, if◌then◌else◌}
use Rattle.std.specs.Bool.{Decides}
use Rattle.std.specs.List.{list_any}
use Rattle.std.specs.Ordering.{int_eq}
use Rattle.std.specs.Str.{bytes_eq}
use Rattle.std.proofs.lemmas.Bool.{false≢true}
use Rattle.std.proofs.lemmas.Bool.Decides.{Decides-int_eq}
use Rattle.std.proofs.lemmas.List.Folds.{list_any-append}
use Rattle.std.proofs.lemmas.Slice.Eq.{bytes_eq-Decides}
use Rattle.icn_link.specs.FirstMentions.{with_texts, with_integers}
use Rattle.icn_meaning.specs.Program.{with_more_names, has_name, only, without_names, with_name}
use Rattle.law_simulation.specs.Mentions.{firsts}
use Rattle.icn_translate.specs.Drafts.{with_names, name_index}
use Rattle.icn_translate.specs.Drafts.{with_name as with_name_behind}

-- Filters

pub filter_by : {A : Type 0} (p q : A → Bool) → ((x : A) → p x ≡ q x) → (xs : List A) → filter p xs ≡ filter q xs
filter_by p q h [] = refl
filter_by p q h (x ∷ xs) = ap (λ b. cond b (x ∷ filter p xs) (filter p xs)) (h x)
    ∙ ap (λ ys. cond (q x) (x ∷ ys) ys) (filter_by p q h xs)

filter_all : {A : Type 0} (xs : List A) → filter (λ x. true) xs ≡ xs
filter_all [] = refl
filter_all (x ∷ xs) = ap (λ ys. x ∷ ys) (filter_all xs)

kept_by : {A : Type 0} (p : A → Bool) (x : A) (xs : List A) (s : Bool)
    → filter p (cond s (x ∷ xs) xs) ≡ cond (s && p x) (x ∷ filter p xs) (filter p xs)
kept_by p x xs true = refl
kept_by p x xs false = refl

-- one behind the other is both
pub filter_twice : {A : Type 0} (p q : A → Bool) (xs : List A) → filter p (filter q xs) ≡ filter (λ x. q x && p x) xs
filter_twice p q [] = refl
filter_twice p q (x ∷ xs) = kept_by p x (filter q xs) (q x)
    ∙ ap (λ ys. cond (q x && p x) (x ∷ ys) ys) (filter_twice p q xs)

and_swap : (a b : Bool) → (a && b) ≡ (b && a)
and_swap true true = refl
and_swap true false = refl
and_swap false true = refl
and_swap false false = refl

filter_swap : {A : Type 0} (p q : A → Bool) (xs : List A) → filter p (filter q xs) ≡ filter q (filter p xs)
filter_swap p q xs = filter_twice p q xs
    ∙ filter_by (λ x. q x && p x) (λ x. p x && q x) (λ x. and_swap (q x) (p x)) xs ∙ sym (filter_twice q p xs)

and_second : (a b : Bool) → (a ≡ false → b ≡ false) → (a && b) ≡ b
and_second true b h = refl
and_second false b h = sym (h refl)

-- what the first drops, the second drops too
filter_within : {A : Type 0} (p q : A → Bool) → ((x : A) → q x ≡ false → p x ≡ false) → (xs : List A)
    → filter p (filter q xs) ≡ filter p xs
filter_within p q h xs = filter_twice p q xs ∙ filter_by (λ x. q x && p x) p (λ x. and_second (q x) (p x) (h x)) xs

-- Tests

not_true : (b : Bool) → not b ≡ false → b ≡ true
not_true true h = refl
not_true false h = absurd (false≢true (sym h))

or_assoc : (a b c : Bool) → ((a || b) || c) ≡ (a || (b || c))
or_assoc true b c = refl
or_assoc false b c = refl

or_none : (a : Bool) → (a || false) ≡ a
or_none true = refl
or_none false = refl

not_or : (a b c : Bool) → c ≡ b → not (a || (b || false)) ≡ (not c && not a)
not_or true true true h = refl
not_or true false false h = refl
not_or false true true h = refl
not_or false false false h = refl
not_or true true false h = absurd (false≢true h)
not_or true false true h = absurd (false≢true (sym h))
not_or false true false h = absurd (false≢true h)
not_or false false true h = absurd (false≢true (sym h))

module _ {A : Type 0} (same : A → A → Bool) (decides : (x y : A) → Decides (same x y) (x ≡ y)) where
  -- a table with what is mentioned after it
  abbrev pub gathered : List A → List A → List A
  gathered table [] = table
  gathered table (x ∷ xs) = gathered (if list_any (same x) table then table else table ++ x ∷ []) xs

  same_other : (x y : A) → same x y ≡ same y x
  same_other x y = by (same x y) (same y x) refl refl
    where
      by : (s t : Bool) → same x y ≡ s → same y x ≡ t → s ≡ t
      by true true h g = refl
      by false false h g = refl
      by true false h g = sym ((decides y x).1 (sym ((decides x y).0 h))) ∙ g
      by false true h g = sym h ∙ (decides x y).1 (sym ((decides y x).0 g))

  firsts_step : (x : A) (q : A → Bool) (xs : List A) (b : Bool) → q x ≡ b → firsts same (filter q xs)
      ≡ filter q (firsts same xs)
      → firsts same (cond b (x ∷ filter q xs) (filter q xs)) ≡ filter q (firsts same (x ∷ xs))
  firsts_step x q xs true e h =
      ap (λ ys. x ∷ filter (λ y. not (same x y)) ys) h
      ∙ ap (λ ys. x ∷ ys) (filter_swap (λ y. not (same x y)) q (firsts same xs))
      ∙ ap (λ b. cond b (x ∷ filter q (filter (λ y. not (same x y)) (firsts same xs)))
      (filter q (filter (λ y. not (same x y)) (firsts same xs)))) (sym e)
  firsts_step x q xs false e h = h
      ∙ sym (filter_within q (λ y. not (same x y))
      (λ y g. ap q (sym ((decides x y).0 (not_true (same x y) g))) ∙ e) (firsts same xs))
      ∙ ap (λ b. cond b (x ∷ filter q (filter (λ y. not (same x y)) (firsts same xs)))
      (filter q (filter (λ y. not (same x y)) (firsts same xs)))) (sym e)

  -- the first mentions of those that pass a test
  pub firsts_kept : (q : A → Bool) (xs : List A) → firsts same (filter q xs) ≡ filter q (firsts same xs)
  firsts_kept q [] = refl
  firsts_kept q (x ∷ xs) = firsts_step x q xs (q x) refl (firsts_kept q xs)

  -- what is not in a table
  abbrev pub new_to : List A → A → Bool
  new_to table y = not (list_any (same y) table)

  there_by : (table : List A) (x y : A) → list_any (same x) table ≡ true → not (same x y) ≡ false
      → new_to table y ≡ false
  there_by table x y h g = ap (λ z. not (list_any (same z) table)) (sym ((decides x y).0 (not_true (same x y) g)))
      ∙ ap not h

  gathered_step : (table : List A) (x : A) (xs : List A) (b : Bool) → list_any (same x) table ≡ b
      → ((t : List A) → gathered t xs ≡ t ++ filter (new_to t) (firsts same xs))
      → gathered (if b then table else table ++ x ∷ []) xs ≡ table ++ filter (new_to table) (firsts same (x ∷ xs))
  gathered_step table x xs true e h = h table
      ∙ ap (λ ys. table ++ ys) (sym (filter_within (new_to table) (λ y. not (same x y))
      (λ y g. there_by table x y e g) (firsts same xs))
      ∙ ap (λ b. cond (not b) (x ∷ filter (new_to table) (filter (λ y. not (same x y)) (firsts same xs)))
      (filter (new_to table) (filter (λ y. not (same x y)) (firsts same xs)))) (sym e))
  gathered_step table x xs false e h = h (table ++ x ∷ [])
      ∙ append_assoc table (x ∷ []) (filter (new_to (table ++ x ∷ [])) (firsts same xs))
      ∙ ap (λ ys. table ++ x ∷ ys) (filter_by (new_to (table ++ x ∷ [])) (λ y. not (same x y) && new_to table y)
      (λ y. ap not (list_any-append (same y) table (x ∷ []))
      ∙ not_or (list_any (same y) table) (same y x) (same x y) (same_other x y)) (firsts same xs)
      ∙ sym (filter_twice (new_to table) (λ y. not (same x y)) (firsts same xs)))
      ∙ ap (λ b. table ++ cond (not b) (x ∷ filter (new_to table) (filter (λ y. not (same x y)) (firsts same xs)))
      (filter (new_to table) (filter (λ y. not (same x y)) (firsts same xs)))) (sym e)

  pub gathered_all : (table xs : List A) → gathered table xs ≡ table ++ filter (new_to table) (firsts same xs)
  gathered_all table [] = sym (append-nil table)
  gathered_all table (x ∷ xs) = gathered_step table x xs (list_any (same x) table) refl (λ t. gathered_all t xs)

  pub gathered_firsts : (xs : List A) → gathered [] xs ≡ firsts same xs
  gathered_firsts xs = gathered_all [] xs ∙ filter_all (firsts same xs)

  -- two after one another
  pub gathered_more : (table xs ys : List A) → gathered (gathered table xs) ys ≡ gathered table (xs ++ ys)
  gathered_more table [] ys = refl
  gathered_more table (x ∷ xs) ys = gathered_more (if list_any (same x) table then table else table ++ x ∷ []) xs ys

  any_step : (table : List A) (x y : A) (b c : Bool) → list_any (same x) table ≡ b
      → (list_any (same y) (if b then table else table ++ x ∷ []) || c) ≡ (list_any (same y) table || (same y x || c))
  any_step table x y true c e = ap (λ t. list_any (same y) table || t) refl ∙ by (same y x) refl
    where
      by : (s : Bool) → same y x ≡ s → (list_any (same y) table || c) ≡ (list_any (same y) table || (s || c))
      by false g = refl
      by true g = ap (λ t. t || c) there ∙ ap (λ t. t || true) (sym there)
        where
          there : list_any (same y) table ≡ true
          there = ap (λ z. list_any (same z) table) ((decides y x).0 g) ∙ e
  any_step table x y false c e = ap (λ t. t || c) (list_any-append (same y) table (x ∷ []))
      ∙ ap (λ t. (list_any (same y) table || t) || c) (or_none (same y x)) ∙ or_assoc (list_any (same y) table) (same y x) c

  -- what a table has: what it had, and what is mentioned
  pub gathered_any : (table xs : List A) (y : A) → list_any (same y) (gathered table xs)
      ≡ (list_any (same y) table || list_any (same y) xs)
  gathered_any table [] y = sym (or_none (list_any (same y) table))
  gathered_any table (x ∷ xs) y =
      gathered_any (if list_any (same x) table then table else table ++ x ∷ []) xs y
      ∙ any_step table x y (list_any (same x) table) (list_any (same y) xs) refl

-- Texts and integers

texts_gathered : (table xs : List (List ℕ)) → with_texts table xs ≡ gathered bytes_eq bytes_eq-Decides table xs
texts_gathered table [] = refl
texts_gathered table (x ∷ xs) = texts_gathered (if list_any (bytes_eq x) table then table else table ++ x ∷ []) xs

integers_gathered : (table xs : List ℤ) → with_integers table xs ≡ gathered int_eq Decides-int_eq table xs
integers_gathered table [] = refl
integers_gathered table (x ∷ xs) = integers_gathered (if list_any (int_eq x) table then table else table ++ x ∷ []) xs

names_gathered : (table xs : List (List ℕ)) → with_names table xs ≡ gathered bytes_eq bytes_eq-Decides table xs
names_gathered table [] = refl
names_gathered table (x ∷ xs) = names_gathered (if list_any (bytes_eq x) table then table else table ++ x ∷ []) xs

pub texts_firsts : (xs : List (List ℕ)) → with_texts [] xs ≡ firsts bytes_eq xs
texts_firsts xs = texts_gathered [] xs ∙ gathered_firsts bytes_eq bytes_eq-Decides xs

pub integers_firsts : (xs : List ℤ) → with_integers [] xs ≡ firsts int_eq xs
integers_firsts xs = integers_gathered [] xs ∙ gathered_firsts int_eq Decides-int_eq xs

-- a text that a table has
pub texts_any : (xs : List (List ℕ)) (y : List ℕ) → list_any (bytes_eq y) (with_texts [] xs) ≡ list_any (bytes_eq y) xs
texts_any xs y = ap (list_any (bytes_eq y)) (texts_gathered [] xs) ∙ gathered_any bytes_eq bytes_eq-Decides [] xs y

pub texts_all : (table xs : List (List ℕ)) → with_texts table xs ≡ table ++ filter (λ y. not (list_any (bytes_eq y) table)) (firsts bytes_eq xs)
texts_all table xs = texts_gathered table xs ∙ gathered_all bytes_eq bytes_eq-Decides table xs

pub names_all : (table xs : List (List ℕ)) → with_names table xs ≡ table ++ filter (λ y. not (list_any (bytes_eq y) table)) (firsts bytes_eq xs)
names_all table xs = names_gathered table xs ∙ gathered_all bytes_eq bytes_eq-Decides table xs

pub names_more : (table xs ys : List (List ℕ)) → with_names (with_names table xs) ys ≡ with_names table (xs ++ ys)
names_more table [] ys = refl
names_more table (x ∷ xs) ys = names_more (if list_any (bytes_eq x) table then table else table ++ x ∷ []) xs ys

pub texts_more : (table xs ys : List (List ℕ)) → with_texts (with_texts table xs) ys ≡ with_texts table (xs ++ ys)
texts_more table [] ys = refl
texts_more table (x ∷ xs) ys = texts_more (if list_any (bytes_eq x) table then table else table ++ x ∷ []) xs ys

-- what a table has with others
pub texts_within : (table xs : List (List ℕ)) (y : List ℕ)
    → list_any (bytes_eq y) (with_texts table xs) ≡ (list_any (bytes_eq y) table || list_any (bytes_eq y) xs)
texts_within table xs y = ap (list_any (bytes_eq y)) (texts_gathered table xs) ∙ gathered_any bytes_eq bytes_eq-Decides table xs y

pub names_within : (table xs : List (List ℕ)) (y : List ℕ)
    → list_any (bytes_eq y) (with_names table xs) ≡ (list_any (bytes_eq y) table || list_any (bytes_eq y) xs)
names_within table xs y = ap (list_any (bytes_eq y)) (names_gathered table xs) ∙ gathered_any bytes_eq bytes_eq-Decides table xs y

-- first mentions of first mentions
firsts_twice : (xs : List (List ℕ)) → firsts bytes_eq (firsts bytes_eq xs) ≡ firsts bytes_eq xs
firsts_twice [] = refl
firsts_twice (x ∷ xs) =
    let new : List ℕ → Bool = λ y. not (bytes_eq x y) in
    ap (λ ys. x ∷ ys)
    (ap (filter new) (firsts_kept bytes_eq bytes_eq-Decides new (firsts bytes_eq xs))
    ∙ filter_within new new (λ y h. h) (firsts bytes_eq (firsts bytes_eq xs)) ∙ ap (filter new) (firsts_twice xs))

-- a table gains the same from the first mentions alone
pub texts_once : (table xs : List (List ℕ)) → with_texts table (firsts bytes_eq xs) ≡ with_texts table xs
texts_once table xs = texts_all table (firsts bytes_eq xs)
    ∙ ap (λ ys. table ++ filter (λ y. not (list_any (bytes_eq y) table)) ys) (firsts_twice xs) ∙ sym (texts_all table xs)

pub itself : (x : List ℕ) → bytes_eq x x ≡ true
itself x = (bytes_eq-Decides x x).1 refl

pub or_last : (a b : Bool) → b ≡ true → (a || b) ≡ true
or_last true b h = refl
or_last false b h = h

-- and nothing from what it has
pub texts_again : (table xs : List (List ℕ))
    → ((y : List ℕ) → list_any (bytes_eq y) xs ≡ true → list_any (bytes_eq y) table ≡ true) → with_texts table xs ≡ table
texts_again table [] h = refl
texts_again table (x ∷ xs) h =
    ap (λ b. with_texts (if b then table else table ++ x ∷ []) xs)
    (h x (ap (λ b. b || list_any (bytes_eq x) xs) (itself x)))
    ∙ texts_again table xs (λ y g. h y (or_last (bytes_eq y x) (list_any (bytes_eq y) xs) g))

-- The place of a name

place_before : (names : List (List ℕ)) (name : List ℕ) (rest : List (List ℕ))
    → name_index names name ≡ name_index (with_name_behind names name ++ rest) name
place_before [] name rest = let same = itself name in rw same refl
place_before (x ∷ names) name rest = by (bytes_eq name x) refl (place_before names name rest)
  where
    moved : (b : Bool) → x ∷ (if b then names else names ++ name ∷ []) ++ rest
        ≡ (if b then x ∷ names else x ∷ names ++ name ∷ []) ++ rest
    moved true = refl
    moved false = refl

    by : (b : Bool) → bytes_eq name x ≡ b → name_index names name ≡ name_index (with_name_behind names name ++ rest) name
        → name_index (x ∷ names) name ≡ name_index (with_name_behind (x ∷ names) name ++ rest) name
    by true e next =
        let first : (others : List (List ℕ)) → name_index (x ∷ others) name ≡ 0 = λ others. rw e refl in
        first names
        ∙ sym (ap (λ b. name_index ((if b || list_any (bytes_eq name) names then x ∷ names else x ∷ names ++ name ∷ []) ++ rest) name) e
        ∙ first (names ++ rest))
    by false e next =
        let later : (others : List (List ℕ)) → name_index (x ∷ others) name ≡ suc (name_index others name) =
        λ others. rw e (omega arith) in
        later names ∙ ap suc next ∙ sym (later (with_name_behind names name ++ rest))
        ∙ ap (λ all. name_index all name) (moved (list_any (bytes_eq name) names))
        ∙ ap (λ b. name_index ((if b || list_any (bytes_eq name) names then x ∷ names else x ∷ names ++ name ∷ []) ++ rest) name) (sym e)

-- a name stays where it is as others come behind
pub place_stays : (names : List (List ℕ)) (name : List ℕ) (more : List (List ℕ))
    → name_index names name ≡ name_index (with_names (with_name_behind names name) more) name
place_stays names name more =
    let known = with_name_behind names name in
    place_before names name (filter (λ y. not (list_any (bytes_eq y) known)) (firsts bytes_eq more))
    ∙ ap (λ all. name_index all name) (sym (names_all known more))

-- Names of the meaning

either_by : (b c d : Bool) → c ≡ d → (if b then true else c) ≡ (b || d)
either_by true c d h = refl
either_by false c d h = h

pub has_any : (name : List ℕ) (names : List (List ℕ)) → has_name name names ≡ list_any (bytes_eq name) names
has_any name [] = refl
has_any name (other ∷ names) = either_by (bytes_eq name other) _ _ (has_any name names)

added_step : (known names : List (List ℕ)) (name : List ℕ) (b : Bool)
    → known ++ with_name (not b) name [] ≡ (if b then known else known ++ name ∷ [])
added_step known names name true = append-nil known
added_step known names name false = refl

added_gathered : (known names : List (List ℕ)) → with_more_names known names ≡ gathered bytes_eq bytes_eq-Decides known names
added_gathered known [] = refl
added_gathered known (name ∷ names) =
    ap (λ k. with_more_names k names) (added_step known names name (has_name name known)
    ∙ ap (λ b. if b then known else known ++ name ∷ []) (has_any name known))
    ∙ added_gathered (if list_any (bytes_eq name) known then known else known ++ name ∷ []) names

pub added_firsts : (names : List (List ℕ)) → with_more_names [] names ≡ firsts bytes_eq names
added_firsts names = added_gathered [] names ∙ gathered_firsts bytes_eq bytes_eq-Decides names

with_by : (name : List ℕ) (names : List (List ℕ)) (b : Bool) → with_name b name names ≡ cond b (name ∷ names) names
with_by name names true = refl
with_by name names false = refl

pub without_kept : (known names : List (List ℕ)) → without_names known names ≡ filter (λ y. not (list_any (bytes_eq y) known)) names
without_kept known [] = refl
without_kept known (name ∷ names) =
    with_by name (without_names known names) (not (has_name name known))
    ∙ ap (λ b. cond (not b) (name ∷ without_names known names) (without_names known names)) (has_any name known)
    ∙ ap (λ ys. cond (not (list_any (bytes_eq name) known)) (name ∷ ys) ys) (without_kept known names)

pub only_kept : (test : List ℕ → Bool) (names : List (List ℕ)) → only test names ≡ filter test names
only_kept test [] = refl
only_kept test (name ∷ names) = with_by name (only test names) (test name)
    ∙ ap (λ ys. cond (test name) (name ∷ ys) ys) (only_kept test names)
