-- Where a search for a leaf stands.
use Rattle.std.proofs.Common.{◌≡◌, ◌<◌, ◌≤◌, ◌+◌, ◌*◌, ℕ, List}
use Rattle.icn_structs.specs.Counts.{count_at, counts_from, IsPowerOfTwo}

-- the leaf that is looked for stands below this entry, whose leaves are so many from one on
pub record IsBelow (counts : List ℕ) (width number node span leaf left : ℕ) : Type 0 where
  pub power : IsPowerOfTwo span
  pub first : width + leaf ≡ node * span
  pub within : leaf + span ≤ width
  pub counted : left < count_at counts node
  pub before : counts_from counts width leaf + left ≡ number
