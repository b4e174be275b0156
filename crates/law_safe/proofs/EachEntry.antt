-- Entries of lists by their numbers.
use Rattle.std.proofs.Common.{◌≡◌, ◌≢◌, ℕ, zero, suc, ◌<◌, ◌⊎◌, inl, inr, List, [], ◌∷◌, ◌++◌, length, Some, refl, ap, arith}
use Rattle.std.specs.Prelude.{slice_get, slice_set, slice_index_or, replicate}
use Rattle.law_stacks.proofs.CellLists.{some_injective, none_is_not_some}
pub use Rattle.law_rows.proofs.EachOfList.{each_map, each_append, each_replicate, each_take, each_drop, each_set}

-- two numbers are equal or differ
pub same_or_not : (m n : ℕ) → (m ≡ n) ⊎ (m ≢ n)
same_or_not zero zero = inl refl
same_or_not zero (suc n) = inr (λ e. omega arith)
same_or_not (suc m) zero = inr (λ e. omega arith)
same_or_not (suc m) (suc n) = by (same_or_not m n)
  where
    by : (m ≡ n) ⊎ (m ≢ n) → (suc m ≡ suc n) ⊎ (suc m ≢ suc n)
    by (inl e) = inl (ap suc e)
    by (inr d) = inr (λ e. d (omega arith))

-- what stands in a list with one more
pub got_more : {A : Type 0} (xs : List A) (y : A) (n : ℕ) (v : A) → slice_get (xs ++ y ∷ []) n ≡ Some v
    → ((n ≡ length xs) × (y ≡ v)) ⊎ (slice_get xs n ≡ Some v)
got_more [] y zero v e = inl (refl, some_injective e)
got_more [] y (suc n) v e = none_is_not_some v e
got_more (x ∷ xs) y zero v e = inr e
got_more (x ∷ xs) y (suc n) v e = by (got_more xs y n v e)
  where
    by : ((n ≡ length xs) × (y ≡ v)) ⊎ (slice_get xs n ≡ Some v) → ((suc n ≡ suc (length xs)) × (y ≡ v)) ⊎ (slice_get xs n ≡ Some v)
    by (inl z) = inl (ap suc z.0, z.1)
    by (inr z) = inr z

-- and in one where an entry is another
pub got_set : {A : Type 0} (xs : List A) (m : ℕ) (y : A) (n : ℕ) (v : A) → slice_get (slice_set xs m y) n ≡ Some v
    → ((n ≡ m) × (y ≡ v)) ⊎ ((n ≢ m) × (slice_get xs n ≡ Some v))
got_set [] m y n v e = none_is_not_some v e
got_set (x ∷ xs) zero y zero v e = inl (refl, some_injective e)
got_set (x ∷ xs) zero y (suc n) v e = inr ((λ z. omega arith), e)
got_set (x ∷ xs) (suc m) y zero v e = inr ((λ z. omega arith), e)
got_set (x ∷ xs) (suc m) y (suc n) v e = by (got_set xs m y n v e)
  where
    by : ((n ≡ m) × (y ≡ v)) ⊎ ((n ≢ m) × (slice_get xs n ≡ Some v)) → ((suc n ≡ suc m) × (y ≡ v)) ⊎ ((suc n ≢ suc m) × (slice_get xs n ≡ Some v))
    by (inl z) = inl (ap suc z.0, z.1)
    by (inr z) = inr ((λ q. z.0 (omega arith)), z.1)

-- setting an entry keeps the length
pub set_length : {A : Type 0} (xs : List A) (m : ℕ) (y : A) → length (slice_set xs m y) ≡ length xs
set_length [] m y = refl
set_length (x ∷ xs) zero y = refl
set_length (x ∷ xs) (suc m) y = ap suc (set_length xs m y)

pub more_length : {A : Type 0} (xs : List A) (y : A) → length (xs ++ y ∷ []) ≡ suc (length xs)
more_length [] y = refl
more_length (x ∷ xs) y = ap suc (more_length xs y)

-- an index at which something stands is within the list
pub index_within : {A : Type 0} (xs : List A) (n : ℕ) (v : A) → slice_get xs n ≡ Some v → n < length xs
index_within [] n v e = none_is_not_some v e
index_within (x ∷ xs) zero v e = omega arith
index_within (x ∷ xs) (suc n) v e = let h = index_within xs n v e in omega (arith, h)

-- something stands at each index within the list
pub entry_there : {A : Type 0} (xs : List A) (n : ℕ) → n < length xs → (v : A) × (slice_get xs n ≡ Some v)
entry_there [] n l = absurd (omega arith)
entry_there (x ∷ xs) zero l = (x, refl)
entry_there (x ∷ xs) (suc n) l = entry_there xs n (omega arith)

-- an entry that is there is the one that is read
pub index_there : {A : Type 0} (xs : List A) (n : ℕ) (v d : A) → slice_get xs n ≡ Some v → slice_index_or xs n d ≡ v
index_there [] n v d e = none_is_not_some v e
index_there (x ∷ xs) zero v d e = some_injective e
index_there (x ∷ xs) (suc n) v d e = index_there xs n v d e

pub replicate_length : {A : Type 0} (n : ℕ) (x : A) → length (replicate n x) ≡ n
replicate_length zero x = refl
replicate_length (suc n) x = ap suc (replicate_length n x)
