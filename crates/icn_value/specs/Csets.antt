-- Sets of bytes as truth values.
use Rattle.std.specs.Prelude.{◌≡◌, ◌<◌, ◌==◌, ℕ, ◌/◌, ◌%◌, Bool, List, filter, slice_index}
use Rattle.std.specs.Int.{bit_at}
use Rattle.std.specs.List.{range_with_len}
use Rattle.icn_value.specs.declared.cset.Cset.{Cset}

-- whether a byte is a member
abbrev pub has : Cset → ℕ → Bool
has cset byte = bit_at (slice_index cset.words (byte / 64)) (byte % 64) == 1

-- the members below a number, ascending
unfoldable pub members_below : Cset → ℕ → List ℕ
members_below cset n = filter (has cset) (range_with_len 0 n)

-- of the 256 bytes, the members are those that pass
pub record HasMembers (cset : Cset) (test : ℕ → Bool) : Type 0 where
  pub is : (byte : ℕ) → byte < 256 → has cset byte ≡ test byte
