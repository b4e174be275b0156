-- What a raising of counts has done so far.
use Rattle.std.proofs.Common.{◌≡◌, ◌≢◌, ◌<◌, ◌≤◌, ◌+◌, ◌*◌, ℕ, suc, List, length, ◌⊎◌}
use Rattle.icn_structs.specs.Counts.{count_at}

-- all entries from the leaf up to the one that is due were raised
pub record IsRaisedTo (old now : List ℕ) (width leaf node : ℕ) : Type 0 where
  pub same_length : length now ≡ length old
  pub within : node ≤ width + leaf
  pub untouched : (index : ℕ) → index ≤ node → count_at now index ≡ count_at old index
  pub at_leaf : ((node ≡ width + leaf) × (count_at now (width + leaf) ≡ count_at old (width + leaf)))
      ⊎ ((node < width) × (count_at now (width + leaf) ≡ suc (count_at old (width + leaf))))
  pub others : (index : ℕ) → width ≤ index → index ≢ width + leaf → count_at now index ≡ count_at old index
  pub risen : (index : ℕ) → count_at now index ≤ suc (count_at old index)
  pub summed : (index : ℕ) → 1 ≤ index → index < width → index ≢ node
      → count_at now index ≡ count_at now (2 * index) + count_at now (2 * index + 1)
  pub due : 1 ≤ node → node < width → suc (count_at now node) ≡ count_at now (2 * node) + count_at now (2 * node + 1)

-- all entries from the leaf up to the one that is due were lowered
pub record IsLoweredTo (old now : List ℕ) (width leaf node : ℕ) : Type 0 where
  pub same_length : length now ≡ length old
  pub within : node ≤ width + leaf
  pub untouched : (index : ℕ) → index ≤ node → count_at now index ≡ count_at old index
  pub at_leaf : ((node ≡ width + leaf) × (count_at now (width + leaf) ≡ count_at old (width + leaf)))
      ⊎ ((node < width) × (suc (count_at now (width + leaf)) ≡ count_at old (width + leaf)))
  pub others : (index : ℕ) → width ≤ index → index ≢ width + leaf → count_at now index ≡ count_at old index
  pub fallen : (index : ℕ) → count_at now index ≤ count_at old index
  pub summed : (index : ℕ) → 1 ≤ index → index < width → index ≢ node
      → count_at now index ≡ count_at now (2 * index) + count_at now (2 * index + 1)
  pub due : 1 ≤ node → node < width → count_at now node ≡ suc (count_at now (2 * node) + count_at now (2 * node + 1))
