-- A list that is sorted and has what another one has is that one sorted, where only one and the same item ties with an item.
use Rattle.std.proofs.Common.{arith, cond, Some, ◌≡◌, ◌∙◌, refl, sym, ap, ℕ, zero, suc, ◌+◌, ◌<◌, ◌≤◌, Bool, true, false, true≢false, List, [], ◌∷◌, length, append-nil, if◌then◌else◌}
use Rattle.std.specs.Prelude.{fold, slice_index_or, ◌++◌}
use Rattle.std.specs.List.{sum_by}
use Rattle.std.specs.Cmp.{IsTotalOrder}
use Rattle.std.specs.Ordering.{is_lt, is_eq, ordering_reverse}
use Rattle.std.specs.declared.cmp.Ordering.{Ordering}
use Rattle.std.specs.declared.cmp.Ordering.TheVariants.{Less, Equal, Greater}
use Rattle.std.specs.List.Sorted.{IsPermutation, IsSorted}
use Rattle.std.proofs.lemmas.Cmp.{tied_itself}
use Rattle.std.proofs.lemmas.List.Sorted.{sum_by-IsPermutation, sorted_far, ranks_by, IsPermutation-refl, IsPermutation-trans, IsPermutation-sym, IsPermutation-cons, IsPermutation-middle, IsPermutation-append_left, All-permutation}
use Rattle.std.proofs.lemmas.Map.Keys.{IsDistinct-head, IsDistinct-tail}
use Rattle.std.proofs.lemmas.Map.Lookups.{CmpEqualImpliesEq}
use Rattle.std.specs.List.{All, AllByRecursion}
use Rattle.std.specs.Map.{keys_of}
use Rattle.std.proofs.lemmas.Option.{same_Some}
use Rattle.icn_structs.specs.PairLists.{value_of, KeysDiffer}
use Rattle.icn_value.specs.Values.{Value}
use Rattle.icn_value.specs.Sameness.{same}
use Rattle.icn_value.proofs.SameValues.{same_equiv, same_self}
use Rattle.icn_defs.specs.Conversions.{sorted_in, sorted_onto, sort_list}

-- each of the items is at or above x
Above : {A : Type 0} → (A → A → Ordering) → A → List A → Type 0
Above cmp x [] = Unit {0}
Above cmp x (y ∷ ys) = (is_lt (cmp y x) ≡ false) × Above cmp x ys

Ascends : {A : Type 0} → (A → A → Ordering) → List A → Type 0
Ascends cmp [] = Unit {0}
Ascends cmp (x ∷ xs) = Above cmp x xs × Ascends cmp xs

nothing_more : (n : ℕ) → 0 + n ≡ n
nothing_more n = omega arith

sums : {A : Type 0} → (A → ℕ) → List A → ℕ
sums f [] = 0
sums f (x ∷ xs) = f x + sums f xs

summed_from : {A : Type 0} (f : A → ℕ) (n : ℕ) (xs : List A) → fold (λ a x. a + f x) n xs ≡ n + sums f xs
unfolding sums
summed_from f n [] = omega arith
summed_from f n (x ∷ xs) = summed_from f (n + f x) xs ∙ omega arith

summed : {A : Type 0} (f : A → ℕ) (xs : List A) → sum_by f xs ≡ sums f xs
summed f xs = summed_from f 0 xs ∙ omega arith

SameSums : {A : Type 0} → List A → List A → Type 0
SameSums {A} xs ys = (f : A → ℕ) → sums f xs ≡ sums f ys

not_lt : (o : Ordering) → is_lt o ≡ false → o ≡ Less → ⊥
not_lt o is same = true≢false (sym (ap is_lt same) ∙ is)

-- x is at or below y, and y at or below x
tied : {A : Type 0} (cmp : A → A → Ordering) → IsTotalOrder cmp → (x y : A) → (cmp x y ≡ Equal → x ≡ y) → is_lt (cmp y x) ≡ false → is_lt (cmp x y) ≡ false
    → x ≡ y
tied cmp total x y exact low high = by (cmp y x) refl
  where
    by : (o : Ordering) → cmp y x ≡ o → x ≡ y
    by Less e = absurd (not_lt (cmp y x) low e)
    by Equal e = exact (total.antisymm x y ∙ ap ordering_reverse e)
    by Greater e = absurd (not_lt (cmp x y) high (total.antisymm x y ∙ ap ordering_reverse e))

-- x is below y, and y at or below z
below_all : {A : Type 0} (cmp : A → A → Ordering) → IsTotalOrder cmp → (x y z : A) → cmp x y ≡ Less → is_lt (cmp z y) ≡ false → cmp x z ≡ Less
below_all cmp total x y z less low = by (cmp z y) refl
  where
    by : (o : Ordering) → cmp z y ≡ o → cmp x z ≡ Less
    by Less e = absurd (not_lt (cmp z y) low e)
    by Equal e = total.antisymm x z ∙ ap ordering_reverse (total.congr z y x e ∙ (total.antisymm y x ∙ ap ordering_reverse less))
    by Greater e = total.trans x y z less (total.antisymm y z ∙ ap ordering_reverse e)

ties_with : {A : Type 0} (cmp : A → A → Ordering) → A → A → ℕ
ties_with cmp x z = if is_eq (cmp x z) then 1 else 0

no_ties : {A : Type 0} (cmp : A → A → Ordering) → IsTotalOrder cmp → (x y : A) → cmp x y ≡ Less → (ys : List A) → Above cmp y ys → sums (ties_with cmp x) ys ≡ 0
unfolding Above ties_with sums
no_ties cmp total x y less [] all = refl
no_ties cmp total x y less (z ∷ ys) (low, all) =
    ap (λ o. (if is_eq o then 1 else 0) + sums (ties_with cmp x) ys) (below_all cmp total x y z less low)
    ∙ (nothing_more (sums (ties_with cmp x) ys) ∙ no_ties cmp total x y less ys all)

-- what begins a list that has the same is not below all of it
not_below : {A : Type 0} (cmp : A → A → Ordering) → IsTotalOrder cmp → (x y : A) (xs ys : List A) → Above cmp y ys → SameSums (x ∷ xs) (y ∷ ys)
    → is_lt (cmp x y) ≡ false
unfolding SameSums ties_with sums
not_below cmp total x y xs ys all same = by (cmp x y) refl
  where
    none : cmp x y ≡ Less → sums (ties_with cmp x) (y ∷ ys) ≡ 0
    none less =
        ap (λ o. (if is_eq o then 1 else 0) + sums (ties_with cmp x) ys) less ∙ (nothing_more (sums (ties_with cmp x) ys) ∙ no_ties cmp total x y less ys all)

    one : sums (ties_with cmp x) (x ∷ xs) ≡ 1 + sums (ties_with cmp x) xs
    one = ap (λ o. (if is_eq o then 1 else 0) + sums (ties_with cmp x) xs) (tied_itself total x)

    by : (o : Ordering) → cmp x y ≡ o → is_lt (cmp x y) ≡ false
    by Less e = absurd (let no : 1 + sums (ties_with cmp x) xs ≡ 0 = sym one ∙ (same (ties_with cmp x) ∙ none e) in omega (arith, no))
    by Equal e = ap is_lt e
    by Greater e = ap is_lt e

cons_both : {A : Type 0} {x y : A} {xs ys : List A} → x ≡ y → xs ≡ ys → x ∷ xs ≡ y ∷ ys
cons_both {A} {x} {y} {xs} {ys} first rest = ap (λ z. z ∷ xs) first ∙ ap (λ zs. y ∷ zs) rest

rest_sums : {A : Type 0} (f : A → ℕ) (x y : A) (xs ys : List A) → f x + sums f xs ≡ f y + sums f ys → x ≡ y → sums f xs ≡ sums f ys
rest_sums f x y xs ys whole one = let same = ap f one in omega (arith, whole, same)

AllOf : {A : Type 0} → (A → Type 0) → List A → Type 0
AllOf P [] = Unit {0}
AllOf P (x ∷ xs) = P x × AllOf P xs

one_list : {A : Type 0} (P : A → Type 0) (cmp : A → A → Ordering) → IsTotalOrder cmp → ((x y : A) → P x → P y → cmp x y ≡ Equal → x ≡ y)
    → (xs ys : List A) → AllOf P xs → AllOf P ys → Ascends cmp xs → Ascends cmp ys → SameSums xs ys → xs ≡ ys
unfolding Ascends SameSums sums AllOf
one_list P cmp total exact [] [] p q a b same = refl
one_list P cmp total exact [] (y ∷ ys) p q a b same = absurd (let no : 0 ≡ 1 + sums (λ z. 1) ys = same (λ z. 1) in omega (arith, no))
one_list P cmp total exact (x ∷ xs) [] p q a b same = absurd (let no : 1 + sums (λ z. 1) xs ≡ 0 = same (λ z. 1) in omega (arith, no))
one_list P cmp total exact (x ∷ xs) (y ∷ ys) p q a b same =
    let high = not_below cmp total x y xs ys b.0 same in
    let low = not_below cmp total y x ys xs a.0 (λ f. sym (same f)) in
    let first : x ≡ y = tied cmp total x y (exact x y p.0 q.0) low high in
    cons_both first (one_list P cmp total exact xs ys p.1 q.1 a.1 b.1 (λ f. rest_sums f x y xs ys (same f) first))

-- Sorting

above_more : {A : Type 0} (cmp : A → A → Ordering) (x item : A) (xs : List A) → is_lt (cmp item x) ≡ false → Above cmp x xs
    → Above cmp x (sorted_in cmp item xs)
unfolding Above
above_more cmp x item [] low all = (low, tt)
above_more cmp x item (y ∷ ys) low all = by (is_lt (cmp item y)) refl (above_more cmp x item ys low all.1)
  where
    by : (t : Bool) → is_lt (cmp item y) ≡ t → Above cmp x (sorted_in cmp item ys) → Above cmp x (sorted_in cmp item (y ∷ ys))
    by true e later = rw e (low, all)
    by false e later = rw e (all.0, later)

above_all : {A : Type 0} (cmp : A → A → Ordering) → IsTotalOrder cmp → (x y : A) → cmp x y ≡ Less → (ys : List A) → Above cmp y ys → Above cmp x ys
unfolding Above
above_all cmp total x y less [] all = tt
above_all cmp total x y less (z ∷ ys) all =
    (ap is_lt (total.antisymm z x ∙ ap ordering_reverse (below_all cmp total x y z less all.0)), above_all cmp total x y less ys all.1)

is_less : (o : Ordering) → is_lt o ≡ true → o ≡ Less
is_less Less e = refl
is_less Equal e = absurd (true≢false (sym e))
is_less Greater e = absurd (true≢false (sym e))

ascends_in : {A : Type 0} (cmp : A → A → Ordering) → IsTotalOrder cmp → (item : A) (xs : List A) → Ascends cmp xs → Ascends cmp (sorted_in cmp item xs)
unfolding Ascends Above
ascends_in cmp total item [] up = (tt, tt)
ascends_in cmp total item (y ∷ ys) up = by (is_lt (cmp item y)) refl (ascends_in cmp total item ys up.1)
  where
    by : (t : Bool) → is_lt (cmp item y) ≡ t → Ascends cmp (sorted_in cmp item ys) → Ascends cmp (sorted_in cmp item (y ∷ ys))
    by true e later =
        let less = is_less (cmp item y) e in
        rw e ((ap is_lt (total.antisymm y item ∙ ap ordering_reverse less), above_all cmp total item y less ys up.0), up)
    by false e later = rw e (above_more cmp y item ys e up.0, later)

sums_in : {A : Type 0} (cmp : A → A → Ordering) (f : A → ℕ) (item : A) (xs : List A) → sums f (sorted_in cmp item xs) ≡ f item + sums f xs
unfolding sums
sums_in cmp f item [] = refl
sums_in cmp f item (y ∷ ys) = by (is_lt (cmp item y)) refl (sums_in cmp f item ys)
  where
    by : (t : Bool) → is_lt (cmp item y) ≡ t → sums f (sorted_in cmp item ys) ≡ f item + sums f ys
        → sums f (sorted_in cmp item (y ∷ ys)) ≡ f item + (f y + sums f ys)
    by true e later = rw e refl
    by false e later = rw e (ap (λ n. f y + n) later ∙ omega arith)

ascends_onto : {A : Type 0} (cmp : A → A → Ordering) → IsTotalOrder cmp → (placed items : List A) → Ascends cmp placed
    → Ascends cmp (sorted_onto cmp placed items)
ascends_onto cmp total placed [] up = up
ascends_onto cmp total placed (item ∷ items) up = ascends_onto cmp total (sorted_in cmp item placed) items (ascends_in cmp total item placed up)

sums_onto : {A : Type 0} (cmp : A → A → Ordering) (f : A → ℕ) (placed items : List A) → sums f (sorted_onto cmp placed items) ≡ sums f placed + sums f items
unfolding sums
sums_onto cmp f placed [] = omega arith
sums_onto cmp f placed (item ∷ items) =
    sums_onto cmp f (sorted_in cmp item placed) items ∙ (ap (λ n. n + sums f items) (sums_in cmp f item placed) ∙ omega arith)

-- By place, and by moves

above_by : {A : Type 0} (cmp : A → A → Ordering) (x : A) (xs : List A) → ((j : ℕ) (d : A) → j < length xs → is_lt (cmp (slice_index_or xs j d) x) ≡ false)
    → Above cmp x xs
unfolding Above
above_by cmp x [] far = tt
above_by cmp x (y ∷ ys) far = (far zero y (omega arith), above_by cmp x ys (λ j d below. far (suc j) d (omega (arith, below))))

ascends_by : {A : Type 0} (cmp : A → A → Ordering) (xs : List A)
    → ((i j : ℕ) (d : A) → i ≤ j → j < length xs → is_lt (cmp (slice_index_or xs j d) (slice_index_or xs i d)) ≡ false) → Ascends cmp xs
unfolding Ascends
ascends_by cmp [] far = tt
ascends_by cmp (x ∷ xs) far = (
  above_by cmp x xs (λ j d below. far zero (suc j) d (omega arith) (omega (arith, below))),
  ascends_by cmp xs (λ i j d low below. far (suc i) (suc j) d (omega (arith, low)) (omega (arith, below))),
)

next_by : {A : Type 0} (cmp : A → A → Ordering) (xs : List A) → Ascends cmp xs → (k m : ℕ) (d : A) → m ≡ suc k → m < length xs
    → is_lt (cmp (slice_index_or xs m d) (slice_index_or xs k d)) ≡ false
unfolding Ascends Above
next_by cmp [] up k m d same below = absurd (omega (arith, below))
next_by cmp (x ∷ []) up k m d same below = absurd (omega (arith, same, below))
next_by cmp (x ∷ (y ∷ ys)) up zero m d same below = rw same up.0.0
next_by cmp (x ∷ (y ∷ ys)) up (suc k) m d same below =
    rw same (next_by cmp (y ∷ ys) up.1 k (suc k) d refl (omega (arith, same, below)))

pub ascending : {A : Type 0} (cmp : A → A → Ordering) → IsTotalOrder cmp → (xs : List A) → IsSorted cmp (sort_list cmp xs)
unfolding Ascends
ascending cmp total xs = λ k d low below. next_by cmp (sort_list cmp xs) (ascends_onto cmp total [] xs tt) k (k + 1) d (omega arith) below

moved_in : {A : Type 0} (cmp : A → A → Ordering) (item : A) (xs : List A) → IsPermutation (item ∷ xs) (sorted_in cmp item xs)
moved_in cmp item [] = IsPermutation-refl (item ∷ [])
moved_in cmp item (y ∷ ys) = by (is_lt (cmp item y)) refl (moved_in cmp item ys)
  where
    by : (t : Bool) → is_lt (cmp item y) ≡ t → IsPermutation (item ∷ ys) (sorted_in cmp item ys) → IsPermutation (item ∷ (y ∷ ys)) (sorted_in cmp item (y ∷ ys))
    by true e later = rw e (IsPermutation-refl (item ∷ (y ∷ ys)))
    by false e later = rw e (IsPermutation-trans (item ∷ (y ∷ ys)) (y ∷ (item ∷ ys)) (y ∷ sorted_in cmp item ys)
        (IsPermutation-sym (y ∷ (item ∷ ys)) (item ∷ (y ∷ ys)) (IsPermutation-middle (y ∷ []) item ys))
        (IsPermutation-cons y (item ∷ ys) (sorted_in cmp item ys) later))

moved_onto : {A : Type 0} (cmp : A → A → Ordering) (placed items : List A) → IsPermutation (placed ++ items) (sorted_onto cmp placed items)
moved_onto cmp placed [] = rw (append-nil placed) (IsPermutation-refl placed)
moved_onto cmp placed (item ∷ items) =
    IsPermutation-trans (placed ++ item ∷ items) (item ∷ (placed ++ items)) (sorted_onto cmp placed (item ∷ items)) (IsPermutation-middle placed item items)
    (IsPermutation-trans (item ∷ (placed ++ items)) (sorted_in cmp item placed ++ items) (sorted_onto cmp (sorted_in cmp item placed) items)
    (IsPermutation-append_left items (item ∷ placed) (sorted_in cmp item placed) (moved_in cmp item placed)) (moved_onto cmp (sorted_in cmp item placed) items))

pub moved : {A : Type 0} (cmp : A → A → Ordering) (xs : List A) → IsPermutation xs (sort_list cmp xs)
moved cmp xs = moved_onto cmp [] xs

by_place : {A : Type 0} (P : A → Type 0) (xs : List A) → AllOf P xs → All P xs
unfolding AllOf
by_place P [] all = λ k d below. absurd (omega (arith, below))
by_place P (x ∷ xs) all = λ k d below. at k d below (by_place P xs all.1)
  where
    at : (k : ℕ) (d : _) → k < length (x ∷ xs) → All P xs → P (slice_index_or (x ∷ xs) k d)
    at zero d below rest = all.0
    at (suc k) d below rest = rest k d (omega (arith, below))

by_rest : {A : Type 0} (P : A → Type 0) (xs : List A) → All P xs → AllOf P xs
unfolding AllOf
by_rest P [] all = tt
by_rest P (x ∷ xs) all = (all zero x (omega arith), by_rest P xs (λ k d below. all (suc k) d (omega (arith, below))))

-- where the items of the list pass, and two that pass and tie are one
alone_of : {A : Type 0} (P : A → Type 0) (cmp : A → A → Ordering) → IsTotalOrder cmp → ((x y : A) → P x → P y → cmp x y ≡ Equal → x ≡ y)
    → (xs ys : List A) → AllOf P xs → IsPermutation xs ys → IsSorted cmp ys → ys ≡ sort_list cmp xs
unfolding Ascends SameSums sums
alone_of P cmp total exact xs ys all moves up =
    one_list P cmp total exact ys (sort_list cmp xs)
    (by_rest P ys (All-permutation P xs ys moves (by_place P xs all)))
    (by_rest P (sort_list cmp xs) (All-permutation P xs (sort_list cmp xs) (moved cmp xs) (by_place P xs all)))
    (ascends_by cmp ys (sorted_far (λ x y. is_lt (cmp x y)) (ranks_by total (λ x. x)) ys up)) (ascends_onto cmp total [] xs tt)
    (λ f. sym (summed f ys) ∙ (sum_by-IsPermutation f xs ys moves ∙ (summed f xs ∙ (sym (nothing_more (sums f xs)) ∙ sym (sums_onto cmp f [] xs)))))

all_pass : {A : Type 0} (xs : List A) → AllOf (λ x. Unit {0}) xs
unfolding AllOf
all_pass [] = tt
all_pass (x ∷ xs) = (tt, all_pass xs)

-- a list has one sorted order, where items that tie are one
pub sorted_is_unique : {A : Type 0} (cmp : A → A → Ordering) → IsTotalOrder cmp → CmpEqualImpliesEq cmp → (xs ys : List A) → IsPermutation xs ys
    → IsSorted cmp ys
    → ys ≡ sort_list cmp xs
sorted_is_unique cmp total exact xs ys = alone_of (λ x. Unit {0}) cmp total (λ x y p q. exact x y) xs ys (all_pass xs)

-- Pairs whose keys differ, by key

Fits : List (Value × Value) → Value × Value → Type 0
Fits pairs pair = value_of same pairs pair.0 ≡ Some pair.1

fits_more : (first : Value × Value) (pairs others : List (Value × Value)) → AllByRecursion (λ key. same first.0 key ≡ false) (keys_of others)
    → AllOf (Fits pairs) others → AllOf (Fits (first ∷ pairs)) others
unfolding AllOf Fits
fits_more first pairs [] apart all = tt
fits_more first pairs (pair ∷ others) apart all = (
  ap (λ t. cond t (Some first.1) (value_of same pairs pair.0)) (same_equiv.symm pair.0 first.0 ∙ apart.0) ∙ all.0,
  fits_more first pairs others apart.1 all.1,
)

fits_all : (pairs : List (Value × Value)) → KeysDiffer same pairs → AllOf (Fits pairs) pairs
unfolding AllOf Fits
fits_all [] differ = tt
fits_all (pair ∷ pairs) differ = (
  ap (λ t. cond t (Some pair.1) (value_of same pairs pair.0)) (same_self pair.0),
  fits_more pair pairs pairs (IsDistinct-head same pair.0 (keys_of pairs) differ) (fits_all pairs (IsDistinct-tail same pair.0 (keys_of pairs) differ)),
)

pub keys_alone : (cmp : Value × Value → Value × Value → Ordering) → IsTotalOrder cmp → ((a b : Value × Value) → cmp a b ≡ Equal → a.0 ≡ b.0)
    → (xs ys : List (Value × Value)) → KeysDiffer same xs → IsPermutation xs ys → IsSorted cmp ys → ys ≡ sort_list cmp xs
unfolding Fits
keys_alone cmp total exact xs ys differ = alone_of (Fits xs) cmp total one xs ys (fits_all xs differ)
  where
    one : (a b : Value × Value) → value_of same xs a.0 ≡ Some a.1 → value_of same xs b.0 ≡ Some b.1 → cmp a b ≡ Equal → a ≡ b
    one a b fits_a fits_b ties =
        let key = exact a b ties in
        let value = same_Some a.1 b.1 (sym fits_a ∙ (ap (value_of same xs) key ∙ fits_b)) in
        ap (λ v. (v, a.1)) key ∙ ap (λ v. (b.0, v)) value
