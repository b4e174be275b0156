-- Bytes that lie together, as the definitions of a region see them, and which ranges lie in them.
use Rattle.std.specs.Prelude.{◌≡◌, ℕ, ◌+◌, ◌≤◌, ◌&&◌, nat_le, Bool, List, length, take, drop}
use Rattle.std.specs.List.{sum_by}
use Rattle.std.proofs.Props.{props}
use Rattle.icn_strings.specs.declared.byte_range.ByteRange.{ByteRange}

-- where the first byte lies among all bytes of the region, and the bytes
pub record RegionPart : Type 0 where
  pub first : ℕ
  pub bytes : List ℕ

abbrev pub part : ℕ → List ℕ → RegionPart
part first bytes = record { first = first; bytes = bytes }

-- where the bytes end
abbrev pub end_of : RegionPart → ℕ
end_of part = part.first + length part.bytes

-- how many bytes some parts have together
abbrev pub sizes : List RegionPart → ℕ
sizes parts = sum_by (λ (part : RegionPart). length part.bytes) parts

-- whether a range lies in a part
abbrev pub holds : ByteRange → RegionPart → Bool
holds range part = nat_le part.first range.start && nat_le (range.start + range.len) (end_of part)

-- the one part ends where the other begins, or before
abbrev pub EndsBefore : RegionPart → RegionPart → Type 0
EndsBefore one other = end_of one ≤ other.first

-- the part has these of all bytes that were written
pub record HasItsPart (all : List ℕ) (part : RegionPart) : Type 0 where
  pub within : end_of part ≤ length all
  pub bytes : part.bytes ≡ take (length part.bytes) (drop part.first all)

-- the part is just a range
pub record IsWhole (range : ByteRange) (part : RegionPart) : Type 0 where
  pub first : part.first ≡ range.start
  pub len : length part.bytes ≡ range.len

-- how many bytes some parts have is a fact alone, which a ghost field can keep
pub IsSize-prop : (size : ℕ) (parts : List RegionPart) → IsProp (size ≡ sizes parts)
IsSize-prop size parts = hlevel props

pub HasItsPart-prop : (all : List ℕ) (part : RegionPart) → IsProp (HasItsPart all part)
HasItsPart-prop all part = hlevel props
