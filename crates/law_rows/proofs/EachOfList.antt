-- All of a list, by recursion on it.
use Rattle.std.proofs.Common.{◌≡◌, ℕ, zero, suc, List, [], ◌∷◌, ◌++◌, Some, None}
use Rattle.std.specs.Prelude.{slice_get, slice_index_or, slice_set, take, drop, replicate}
use Rattle.std.specs.List.{All}
pub use Rattle.std.specs.List.{AllByRecursion as Each}
use Rattle.std.proofs.lemmas.List.Elements.{All-nil, All-cons, All-head, All-tail}

pub none_is_not_some : {A B : Type 0} (x : A) → None ≡ Some x → B
none_is_not_some x e = let z : ⊥ = cc in absurd z

pub some_injective : {A : Type 0} {x y : A} → Some x ≡ Some y → x ≡ y
some_injective {x = x} {y = y} e = cc

-- between both ways to say it
pub each_of : {A : Type 0} (P : A → Type 0) (xs : List A) → All P xs → Each P xs
each_of P [] h = tt
each_of P (x ∷ xs) h = (All-head P x xs h, each_of P xs (All-tail P x xs h))

pub all_of : {A : Type 0} (P : A → Type 0) (xs : List A) → Each P xs → All P xs
all_of P [] h = All-nil P
all_of P (x ∷ xs) h = All-cons P x xs h.0 (all_of P xs h.1)

pub each_map : {A : Type 0} (P Q : A → Type 0) → ((x : A) → P x → Q x) → (xs : List A) → Each P xs → Each Q xs
each_map P Q f [] h = tt
each_map P Q f (x ∷ xs) h = (f x h.0, each_map P Q f xs h.1)

pub each_get : {A : Type 0} (P : A → Type 0) (xs : List A) (n : ℕ) (v : A) → Each P xs → slice_get xs n ≡ Some v → P v
each_get P [] n v h e = none_is_not_some v e
each_get P (x ∷ xs) zero v h e = rw (← some_injective e) h.0
each_get P (x ∷ xs) (suc n) v h e = each_get P xs n v h.1 e

pub each_append : {A : Type 0} (P : A → Type 0) (xs ys : List A) → Each P xs → Each P ys → Each P (xs ++ ys)
each_append P [] ys h g = g
each_append P (x ∷ xs) ys h g = (h.0, each_append P xs ys h.1 g)

pub each_replicate : {A : Type 0} (P : A → Type 0) (n : ℕ) (x : A) → P x → Each P (replicate n x)
each_replicate P zero x h = tt
each_replicate P (suc n) x h = (h, each_replicate P n x h)

pub each_take : {A : Type 0} (P : A → Type 0) (n : ℕ) (xs : List A) → Each P xs → Each P (take n xs)
each_take P zero xs h = tt
each_take P (suc n) [] h = tt
each_take P (suc n) (x ∷ xs) h = (h.0, each_take P n xs h.1)

pub each_drop : {A : Type 0} (P : A → Type 0) (n : ℕ) (xs : List A) → Each P xs → Each P (drop n xs)
each_drop P zero xs h = h
each_drop P (suc n) [] h = tt
each_drop P (suc n) (x ∷ xs) h = each_drop P n xs h.1

pub each_set : {A : Type 0} (P : A → Type 0) (xs : List A) (n : ℕ) (v : A) → Each P xs → P v → Each P (slice_set xs n v)
each_set P [] n v h g = tt
each_set P (x ∷ xs) zero v h g = (g, h.1)
each_set P (x ∷ xs) (suc n) v h g = (h.0, each_set P xs n v h.1 g)

pub each_index : {A : Type 0} (P : A → Type 0) (xs : List A) (n : ℕ) (v : A) → Each P xs → P v → P (slice_index_or xs n v)
each_index P [] n v h g = g
each_index P (x ∷ xs) zero v h g = h.0
each_index P (x ∷ xs) (suc n) v h g = each_index P xs n v h.1 g
