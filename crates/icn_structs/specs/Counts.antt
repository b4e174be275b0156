-- Counts of what is there, in a tree: each entry has the counts of the two below it, the last half are the leaves.
use Rattle.std.specs.Prelude.{ℕ, zero, suc, ◌+◌, ◌*◌, ◌^◌, ◌<◌, ◌≤◌, ◌≡◌, List, slice_index_or}

-- the entry at this index; past the end it is 0
abbrev pub count_at : List ℕ → ℕ → ℕ
count_at counts index = slice_index_or counts index 0

-- so many entries from one on, added up
abbrev pub counts_from : List ℕ → ℕ → ℕ → ℕ
counts_from counts first zero = 0
counts_from counts first (suc many) = count_at counts first + counts_from counts (suc first) many

-- each entry before the leaves is the sum of the two below it; the root is entry 1
abbrev pub IsSummed : List ℕ → ℕ → Type 0
IsSummed counts width = (index : ℕ) → 1 ≤ index → index < width
    → count_at counts index ≡ count_at counts (2 * index) + count_at counts (2 * index + 1)

-- 1, 2, 4, 8 and so on
pub record IsPowerOfTwo (width : ℕ) : Type 0 where
  pub exponent : ℕ
  pub is : width ≡ 2 ^ exponent
