-- The kinds of records, in rows.
use Rattle.std.specs.Prelude.{◌≡◌, ℕ, suc, ◌<◌, ◌≤◌, List, [], ◌++◌, length, replicate, slice_index_or}
use Rattle.std.specs.List.{All, flat_map}

-- the kinds of a row: one kind so many times, and then others
abbrev pub row_kinds : ℕ → ℕ → List ℕ → List ℕ
row_kinds kind count others = replicate count kind ++ others

-- no more kinds than a row has places
pub record IsKindRow (kinds : List ℕ) : Type 0 where
  pub few : length kinds ≤ 128

-- the kinds of some rows, one behind the other
abbrev pub all_kinds : List (List ℕ) → List ℕ
all_kinds rows = flat_map (λ row. row) rows

-- each row but the last has 128 kinds, and the last at least one and no more
pub record AreKindRows (rows : List (List ℕ)) : Type 0 where
  pub full : (n : ℕ) → suc n < length rows → length (slice_index_or rows n []) ≡ 128
  pub some : All (λ row. 0 < length row) rows
  pub few : All (λ row. length row ≤ 128) rows
