-- Runs of bytes in one block, as parts.
use Rattle.std.specs.Prelude.{◌≡◌, ℕ, ◌+◌, ◌≤◌, ◌&&◌, nat_le, Bool, ⊤, List, [], ◌∷◌, length, map, take, drop}
use Rattle.std.specs.List.{All, sum_by}
use Rattle.icn_strings.specs.declared.byte_range.ByteRange.{ByteRange}
use Rattle.icn_strings.specs.declared.packed.PackedRun.{PackedRun}
use Rattle.icn_strings.specs.Parts.{RegionPart}

-- the bytes of a run in the block
abbrev pub part_of : List ℕ → PackedRun → RegionPart
part_of bytes run = record { first = run.first; bytes = take run.len (drop run.at bytes) }

-- the parts that some runs are
abbrev pub parts_of : List ℕ → List PackedRun → List RegionPart
parts_of bytes runs = map (part_of bytes) runs

-- whether a range lies in a run
abbrev pub run_holds : ByteRange → PackedRun → Bool
run_holds range run = nat_le run.first range.start && nat_le (range.start + range.len) (run.first + run.len)

-- a run lies within the block
abbrev pub IsWithin : List ℕ → PackedRun → Type 0
IsWithin bytes run = run.at + run.len ≤ length bytes

-- how many bytes some runs have together
abbrev pub run_sizes : List PackedRun → ℕ
run_sizes runs = sum_by (λ (run : PackedRun). run.len) runs

-- the runs lie one right behind the other, from a place on
abbrev pub LieInRow : ℕ → List PackedRun → Type 0
LieInRow from [] = ⊤
LieInRow from (run ∷ runs) = (run.at ≡ from) × LieInRow (from + run.len) runs

-- the runs lie within the block, one right behind the other, and have all its bytes together
pub record AreLaid (bytes : List ℕ) (runs : List PackedRun) : Type 0 where
  pub within : All (IsWithin bytes) runs
  pub full : run_sizes runs ≡ length bytes
  pub row : LieInRow 0 runs

-- a run that lies so much further on
abbrev pub shifted : ℕ → PackedRun → PackedRun
shifted more run = record { first = run.first; at = more + run.at; len = run.len }
