-- Values and pairs that are joined to others one by one.
use Rattle.std.proofs.Common.{◌≡◌, ◌∙◌, refl, sym, ap, Bool, true, false, not, cond, ◌||◌, is_some, List, [], ◌∷◌, ◌++◌, fold, filter, Some, true≢false, if◌then◌else◌}
use Rattle.std.specs.List.{AllByRecursion, IsDistinct}
use Rattle.std.specs.Map.{keys_of}
use Rattle.std.proofs.lemmas.List.{append_assoc, append-nil}
use Rattle.std.proofs.lemmas.List.Folds.{list_any-append}
use Rattle.std.proofs.lemmas.List.Sums.{fold-append}
use Rattle.std.proofs.lemmas.Map.Keys.{IsDistinct-cons, IsDistinct-head, IsDistinct-tail}
use Rattle.icn_structs.specs.PairLists.{value_of, KeysDiffer}
use Rattle.icn_value.specs.Values.{Value}
use Rattle.icn_value.specs.Sameness.{same, has_value, with_member}
use Rattle.icn_value.proofs.SameValues.{same_is, same_self}
use Rattle.icn_heap.specs.MadeStructures.{difference, with_stored}
use Rattle.icn_heap.proofs.PairViews.{stored_new}

or_false : (b : Bool) → (b || false) ≡ b
or_false true = refl
or_false false = refl

same_turned : (a b : Value) → same a b ≡ false → same b a ≡ false
same_turned a b apart = by_test (same b a) (λ is. same_is b a is)
  where
    by_test : (t : Bool) → (t ≡ true → b ≡ a) → t ≡ false
    by_test false is = refl
    by_test true is = absurd (true≢false (sym (same_self a) ∙ (sym (ap (same a) (is refl)) ∙ apart)))

-- whether a value is among others and one more
has_more : (xs : List Value) (x v : Value) → has_value (xs ++ x ∷ []) v ≡ (has_value xs v || same v x)
has_more xs x v = list_any-append (same v) xs (x ∷ []) ∙ ap (λ b. has_value xs v || b) (or_false (same v x))

filter_step : (p q : Value → Bool) (y : Value) (ys : List Value) → p y ≡ q y → filter p ys ≡ filter q ys → filter p (y ∷ ys) ≡ filter q (y ∷ ys)
filter_step p q y ys first rest = ap (λ b. cond b (y ∷ filter p ys) (filter p ys)) first ∙ ap (λ zs. cond (q y) (y ∷ zs) zs) rest

-- those that were new still are once another joins
still_new : (xs : List Value) (x : Value) (ys : List Value) → AllByRecursion (λ y. same x y ≡ false) ys → difference ys (xs ++ x ∷ []) ≡ difference ys xs
still_new xs x [] apart = refl
still_new xs x (y ∷ ys) apart =
    filter_step (λ v. not (has_value (xs ++ x ∷ []) v)) (λ v. not (has_value xs v)) y ys
    (ap not (has_more xs x y ∙ (ap (λ b. has_value xs y || b) (same_turned x y apart.0) ∙ or_false (has_value xs y))))
    (still_new xs x ys apart.1)

-- values that differ join where they are new
pub fold_new : (xs ys : List Value) → IsDistinct same ys → fold with_member xs ys ≡ xs ++ difference ys xs
fold_new xs [] differ = sym (append-nil xs)
fold_new xs (y ∷ ys) differ =
    by_test (has_value xs y) (fold_new xs ys (IsDistinct-tail same y ys differ)) (fold_new (xs ++ y ∷ []) ys (IsDistinct-tail same y ys differ))
  where
    by_test : (b : Bool) → fold with_member xs ys ≡ xs ++ difference ys xs → fold with_member (xs ++ y ∷ []) ys ≡ (xs ++ y ∷ []) ++ difference ys (xs ++ y ∷ [])
        → fold with_member (if b then xs else xs ++ y ∷ []) ys ≡ xs ++ cond (not b) (y ∷ difference ys xs) (difference ys xs)
    by_test true there new = there
    by_test false there new =
        new ∙ (ap (λ rest. (xs ++ y ∷ []) ++ rest) (still_new xs y ys (IsDistinct-head same y ys differ)) ∙ append_assoc xs (y ∷ []) (difference ys xs))

all_new : (ys : List Value) → difference ys [] ≡ ys
all_new [] = refl
all_new (y ∷ ys) = ap (λ rest. y ∷ rest) (all_new ys)

-- values that differ all join
pub fold_all : (ys : List Value) → IsDistinct same ys → fold with_member [] ys ≡ ys
fold_all ys differ = fold_new [] ys differ ∙ all_new ys

-- those of one list, and then those of another that are new
pub fold_both : (xs ys : List Value) → IsDistinct same xs → IsDistinct same ys → fold with_member [] (xs ++ ys) ≡ xs ++ difference ys xs
fold_both xs ys differ differ' = fold-append with_member [] xs ys ∙ (ap (λ zs. fold with_member zs ys) (fold_all xs differ) ∙ fold_new xs ys differ')

filter_apart : (p : Value → Bool) (x : Value) (ys : List Value) → AllByRecursion (λ y. same x y ≡ false) ys
    → AllByRecursion (λ y. same x y ≡ false) (filter p ys)
filter_apart p x [] apart = apart
filter_apart p x (y ∷ ys) apart = by_test (p y) (filter_apart p x ys apart.1)
  where
    by_test : (b : Bool) → AllByRecursion (λ y. same x y ≡ false) (filter p ys)
        → AllByRecursion (λ y. same x y ≡ false) (cond b (y ∷ filter p ys) (filter p ys))
    by_test true later = (apart.0, later)
    by_test false later = later

-- some of those that differ
filter_differs : (p : Value → Bool) (xs : List Value) → IsDistinct same xs → IsDistinct same (filter p xs)
filter_differs p [] differ = differ
filter_differs p (x ∷ xs) differ =
    by_test (p x) (filter_apart p x xs (IsDistinct-head same x xs differ)) (filter_differs p xs (IsDistinct-tail same x xs differ))
  where
    by_test : (b : Bool) → AllByRecursion (λ y. same x y ≡ false) (filter p xs) → IsDistinct same (filter p xs)
        → IsDistinct same (cond b (x ∷ filter p xs) (filter p xs))
    by_test true apart later = IsDistinct-cons same x (filter p xs) apart later
    by_test false apart later = later

pub fold_some : (p : Value → Bool) (xs : List Value) → IsDistinct same xs → fold with_member [] (filter p xs) ≡ filter p xs
fold_some p xs differ = fold_all (filter p xs) (filter_differs p xs differ)

-- Pairs

-- no key of these pairs is in others
NoneIn : List (Value × Value) → List (Value × Value) → Type 0
NoneIn xs ys = AllByRecursion (λ (pair : Value × Value). is_some (value_of same xs pair.0) ≡ false) ys

not_more : (xs : List (Value × Value)) (x : Value × Value) (key : Value) → is_some (value_of same xs key) ≡ false → same key x.0 ≡ false
    → is_some (value_of same (xs ++ x ∷ []) key) ≡ false
not_more [] x key none apart = rw apart refl
not_more (pair ∷ xs) x key none apart = by_test (same key pair.0) none (λ none. not_more xs x key none apart)
  where
    by_test : (b : Bool) → is_some (cond b (Some pair.1) (value_of same xs key)) ≡ false
        → (is_some (value_of same xs key) ≡ false → is_some (value_of same (xs ++ x ∷ []) key) ≡ false)
        → is_some (cond b (Some pair.1) (value_of same (xs ++ x ∷ []) key)) ≡ false
    by_test true none later = absurd (true≢false none)
    by_test false none later = later none

none_more : (xs : List (Value × Value)) (x : Value × Value) (ys : List (Value × Value)) → AllByRecursion (λ other. same x.0 other ≡ false) (keys_of ys)
    → NoneIn xs ys → NoneIn (xs ++ x ∷ []) ys
unfolding NoneIn
none_more xs x [] apart none = none
none_more xs x (y ∷ ys) apart none = (not_more xs x y.0 none.0 (same_turned x.0 y.0 apart.0), none_more xs x ys apart.1 none.1)

fold_new_pairs : (xs ys : List (Value × Value)) → KeysDiffer same ys → NoneIn xs ys → fold with_stored xs ys ≡ xs ++ ys
unfolding NoneIn
fold_new_pairs xs [] differ none = sym (append-nil xs)
fold_new_pairs xs (y ∷ ys) differ none =
    ap (λ zs. fold with_stored zs ys) (stored_new same xs y.0 y.1 none.0)
    ∙ (fold_new_pairs (xs ++ y ∷ []) ys (IsDistinct-tail same y.0 (keys_of ys) differ) (none_more xs y ys (IsDistinct-head same y.0 (keys_of ys) differ) none.1)
    ∙ append_assoc xs (y ∷ []) ys)

none_in_none : (ys : List (Value × Value)) → NoneIn [] ys
unfolding NoneIn
none_in_none [] = tt
none_in_none (y ∷ ys) = (refl, none_in_none ys)

-- pairs whose keys differ are all stored
pub fold_pairs : (ys : List (Value × Value)) → KeysDiffer same ys → fold with_stored [] ys ≡ ys
fold_pairs ys differ = fold_new_pairs [] ys differ (none_in_none ys)
