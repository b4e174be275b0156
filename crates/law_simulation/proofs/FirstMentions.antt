-- Tables in which each thing that is mentioned stands once: it stands at its place, and no other thing does.
use Rattle.std.proofs.Common.{◌≡◌, ℕ, zero, ◌+◌, ◌==◌, ◌||◌, Bool, true, false, not, filter, List, [], ◌∷◌, ◌++◌, map, Option, Some, None, find, cond, refl, sym, ap, ◌∙◌, arith}
use Rattle.std.specs.Prelude.{slice_get, slice_index_or, position}
use Rattle.std.specs.Bool.{Decides}
use Rattle.std.specs.List.{list_any, position_or_len, position_from}
use Rattle.std.specs.Option.{option_map}
use Rattle.std.specs.Str.{bytes_eq}
use Rattle.std.proofs.lemmas.Bool.{false≢true, or_left, or_right}
use Rattle.std.proofs.lemmas.Bool.Decides.{nat_tests}
use Rattle.law_simulation.proofs.Application.{equal_self}
use Rattle.std.proofs.lemmas.List.Folds.{find_at, list_any-append}
use Rattle.std.proofs.lemmas.Iterator.Adapters.{position_from-zero}
use Rattle.std.proofs.lemmas.Option.{get_or_from_slice_get}
use Rattle.std.proofs.lemmas.Slice.Eq.{bytes_eq-Decides}
use Rattle.icn_meaning.specs.Program.{index_of, later}
use Rattle.law_simulation.specs.Mentions.{firsts}
use Rattle.law_simulation.specs.JoinedFiles.{text_index}

-- a test that is true, or false
pub test_by : {P : Type 0} (b : Bool) → (b ≡ true → P) → (b ≡ false → P) → P
test_by true f g = f refl
test_by false f g = g refl

pub or_other : (a b : Bool) → a ≡ false → (a || b) ≡ true → b ≡ true
or_other true b h e = absurd (false≢true (sym h))
or_other false b h e = e

pub any_left : {A : Type 0} (p : A → Bool) (xs ys : List A) → list_any p xs ≡ true → list_any p (xs ++ ys) ≡ true
any_left p xs ys h = list_any-append p xs ys ∙ or_left (list_any p xs) (list_any p ys) h

pub any_right : {A : Type 0} (p : A → Bool) (xs ys : List A) → list_any p ys ≡ true → list_any p (xs ++ ys) ≡ true
any_right p xs ys h = list_any-append p xs ys ∙ or_right (list_any p xs) (list_any p ys) h

module _ {A : Type 0} (same : A → A → Bool) (decides : (x y : A) → Decides (same x y) (x ≡ y)) where
  pub itself : (x : A) → same x x ≡ true
  itself x = (decides x x).1 refl

  found_by : (x y : A) (b : Bool) (others : Option A) → same x y ≡ b → (b ≡ false → others ≡ Some x)
      → cond b (Some y) others ≡ Some x
  found_by x y true others e h = ap (λ z. Some z) (sym ((decides x y).0 e))
  found_by x y false others e h = h refl

  found : (x : A) (xs : List A) → list_any (same x) xs ≡ true → find (same x) xs ≡ Some x
  found x [] h = absurd (false≢true h)
  found x (y ∷ ys) h = found_by x y (same x y) (find (same x) ys) refl
      (λ e. found x ys (or_other (same x y) (list_any (same x) ys) e h))

  -- what stands in a table stands at its place
  pub at_place : (x : A) (xs : List A) → list_any (same x) xs ≡ true
      → slice_get xs (position_or_len (same x) xs) ≡ Some x
  at_place x xs h = sym (find_at (same x) xs) ∙ found x xs h

  same_by : (x y z : A) (b : Bool) (others : Option A) → same x y ≡ b → (others ≡ Some z → x ≡ z)
      → cond b (Some y) others ≡ Some z → x ≡ z
  same_by x y z true others e h f = (decides x y).0 e ∙ cc
  same_by x y z false others e h f = h f

  found_same : (x z : A) (xs : List A) → find (same x) xs ≡ Some z → x ≡ z
  found_same x z [] f = absurd (cc)
  found_same x z (y ∷ ys) f = same_by x y z (same x y) (find (same x) ys) refl (found_same x z ys) f

  -- and nothing else has that place
  pub same_place : (x z : A) (xs : List A) → list_any (same z) xs ≡ true
      → position_or_len (same z) xs ≡ position_or_len (same x) xs → x ≡ z
  same_place x z xs h e = found_same x z xs
      (find_at (same x) xs ∙ ap (λ k. slice_get xs k) (sym e) ∙ at_place z xs h)

  passes_by : (q : A → Bool) (x z : A) (b : Bool) (zs : List A) → q z ≡ b → q x ≡ true
      → (same x z || list_any (same x) zs) ≡ true
      → (list_any (same x) zs ≡ true → list_any (same x) (filter q zs) ≡ true)
      → list_any (same x) (cond b (z ∷ filter q zs) (filter q zs)) ≡ true
  passes_by q x z true zs e t h next =
      test_by (same x z) (λ s. or_left (same x z) _ s)
      (λ s. or_right (same x z) _ (next (or_other (same x z) (list_any (same x) zs) s h)))
  passes_by q x z false zs e t h next =
      test_by (same x z) (λ s. absurd (false≢true (sym e ∙ (ap q (sym ((decides x z).0 s)) ∙ t))))
      (λ s. next (or_other (same x z) (list_any (same x) zs) s h))

  passes : (q : A → Bool) (x : A) (zs : List A) → q x ≡ true → list_any (same x) zs ≡ true
      → list_any (same x) (filter q zs) ≡ true
  passes q x [] t h = h
  passes q x (z ∷ zs) t h = passes_by q x z (q z) zs refl t h (passes q x zs t)

  other_way : (x y : A) (b : Bool) → same x y ≡ false → same y x ≡ b → not b ≡ true
  other_way x y true e s = absurd (false≢true (sym e ∙ (decides x y).1 (sym ((decides y x).0 s))))
  other_way x y false e s = refl

  -- what is mentioned stands among the first mentions
  pub among_firsts : (x : A) (xs : List A) → list_any (same x) xs ≡ true
      → list_any (same x) (firsts same xs) ≡ true
  among_firsts x [] h = h
  among_firsts x (y ∷ ys) h = test_by (same x y) (λ e. or_left (same x y) _ e)
      (λ e. or_right (same x y) _ (passes (λ z. not (same y z)) x (firsts same ys)
      (other_way x y (same y x) e refl)
      (among_firsts x ys (or_other (same x y) (list_any (same x) ys) e h))))

  -- what is mentioned stands at its place
  pub at_first : (x : A) (xs : List A) → list_any (same x) xs ≡ true
      → slice_get (firsts same xs) (position_or_len (same x) (firsts same xs)) ≡ Some x
  at_first x xs h = at_place x (firsts same xs) (among_firsts x xs h)

-- Texts

pub text_at : (text : List ℕ) (texts : List (List ℕ)) → list_any (bytes_eq text) texts ≡ true
    → slice_index_or (firsts bytes_eq texts) (text_index (firsts bytes_eq texts) text) [] ≡ text
text_at text texts h = get_or_from_slice_get (firsts bytes_eq texts)
    (text_index (firsts bytes_eq texts) text) text [] (at_first bytes_eq bytes_eq-Decides text texts h)

-- names are told apart by their places
place_tells_by : (table : List (List ℕ)) (name other : List ℕ) (a b : Bool)
    → list_any (bytes_eq other) table ≡ true → (text_index table other == text_index table name) ≡ a
    → bytes_eq name other ≡ b → a ≡ b
place_tells_by table name other true true h e f = refl
place_tells_by table name other false false h e f = refl
place_tells_by table name other true false h e f =
    sym ((bytes_eq-Decides name other).1
    (same_place bytes_eq bytes_eq-Decides name other table h (equal_of _ _ e))) ∙ f
  where
    equal_of : (a b : ℕ) → (a == b) ≡ true → a ≡ b
    equal_of a b e = grind (arith, nat_tests)
place_tells_by table name other false true h e f = sym e
    ∙ (ap (λ o. text_index table o == text_index table name) (sym ((bytes_eq-Decides name other).0 f))
    ∙ equal_self (text_index table name))

shifted : (i : ℕ) (o : Option ℕ) → option_map (λ k. i + 1 + k) o ≡ option_map (λ k. i + k) (later o)
shifted i None = refl
shifted i (Some k) = ap (λ n. Some n) (omega arith)

first_by : (i : ℕ) (a b : Bool) (o : Option ℕ) → a ≡ b
    → cond a (Some i) (option_map (λ k. i + 1 + k) o) ≡ option_map (λ k. i + k) (cond b (Some zero) (later o))
first_by i true true o e = ap (λ n. Some n) (omega arith)
first_by i false false o e = shifted i o
first_by i true false o e = absurd (false≢true (sym e))
first_by i false true o e = absurd (false≢true e)

-- each of these names stands in a table
abbrev pub AreAmong : List (List ℕ) → List (List ℕ) → Type 0
AreAmong names table = (name : List ℕ) → list_any (bytes_eq name) names ≡ true
    → list_any (bytes_eq name) table ≡ true

pub among_tail : (name : List ℕ) (names table : List (List ℕ)) → AreAmong (name ∷ names) table
    → AreAmong names table
among_tail name names table h other e =
    h other (or_right (bytes_eq other name) (list_any (bytes_eq other) names) e)

pub among_head : (name : List ℕ) (names table : List (List ℕ)) → AreAmong (name ∷ names) table
    → list_any (bytes_eq name) table ≡ true
among_head name names table h =
    h name (or_left (bytes_eq name name) (list_any (bytes_eq name) names)
    (itself bytes_eq bytes_eq-Decides name))

from_place : (table : List (List ℕ)) (name : List ℕ) (names : List (List ℕ)) (i : ℕ) → AreAmong names table
    → position_from (λ k. k == text_index table name) i (map (text_index table) names) ≡ option_map
    (λ k. i + k) (index_of name names)
from_place table name [] i h = refl
from_place table name (other ∷ names) i h =
    ap (λ o. cond (text_index table other == text_index table name) (Some i) o)
    (from_place table name names (i + 1) (among_tail other names table h))
    ∙ first_by i (text_index table other == text_index table name) (bytes_eq name other)
    (index_of name names) (place_tells_by table name other _ _ (among_head other names table h) refl refl)

unshifted : (o : Option ℕ) → option_map (λ k. 0 + k) o ≡ o
unshifted None = refl
unshifted (Some k) = ap (λ n. Some n) (omega arith)

-- the place of a name among others is that of its place among theirs
pub same_position : (table : List (List ℕ)) (name : List ℕ) (names : List (List ℕ)) → AreAmong names table
    → index_of name names ≡ position (λ k. k == text_index table name) (map (text_index table) names)
same_position table name names h =
    sym (position_from-zero (λ k. k == text_index table name) (map (text_index table) names)
    ∙ from_place table name names 0 h ∙ unshifted (index_of name names))
