-- Lists in which what went has left a gap.
use Rattle.std.specs.Prelude.{ℕ, ◌+◌, ◌*◌, ◌<◌, ◌≤◌, ◌≡◌, ◌⊎◌, List, [], ◌∷◌, length, slice_get, Option, Some, None}
use Rattle.icn_structs.specs.Counts.{count_at, IsSummed, IsPowerOfTwo}

-- what is there, from left to right
abbrev pub present : {A : Type 0} → List (Option A) → List A
present [] = []
present (None ∷ rest) = present rest
present (Some item ∷ rest) = item ∷ present rest

-- something is there at this index
abbrev pub IsFilled : {A : Type 0} → List (Option A) → ℕ → Type 0
IsFilled {A} items index = (item : A) × (slice_get items index ≡ Some (Some item))

-- how much is there at an index that holds this: something, a gap, or nothing as it is past the end
abbrev pub filling : {A : Type 0} → Option (Option A) → ℕ
filling (Some (Some item)) = 1
filling (Some None) = 0
filling None = 0

-- the tree counts at its leaves what is there at the indexes below a bound
pub record IsCountedTo (A : Type 0) (items : List (Option A)) (bound : ℕ) (counts : List ℕ)
    (width : ℕ) : Type 0 where
  pub length : length counts ≡ 2 * width
  pub within : bound ≤ width
  pub summed : IsSummed counts width
  pub leaves : (index : ℕ) → index < bound → count_at counts (width + index) ≡ filling (slice_get items index)
  pub free : (index : ℕ) → bound ≤ index → index < width → count_at counts (width + index) ≡ 0
  pub small : (index : ℕ) → count_at counts index ≤ bound

-- the tree counts all that is there; it is as wide as a power of two, or there is none yet
pub record IsCounted (A : Type 0) (items : List (Option A)) (counts : List ℕ) (width : ℕ) : Type 0 where
  pub power : (width ≡ 0) ⊎ IsPowerOfTwo width
  pub counted : IsCountedTo A items (length items) counts width
