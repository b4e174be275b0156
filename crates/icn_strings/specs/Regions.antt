-- What a region holds, and what it has charged. How it holds the bytes is no caller's matter: callers know of these
-- words what the contracts and the laws say.
use Rattle.std.specs.Prelude.{◌≡◌, ℕ, ◌+◌, ◌<◌, ◌≤◌, List, length, take, drop}
use Rattle.std.proofs.Props.{props}
use Rattle.icn_strings.specs.Parts.{sizes}
use Rattle.icn_strings.specs.Chunks.{AreHeld}
use Rattle.icn_strings.specs.declared.byte_range.ByteRange.{ByteRange}
use Rattle.icn_strings.specs.declared.region.Region.{Region}

-- how many bytes may be charged
unfoldable pub limit_of : Region → ℕ
limit_of region = region.limit

-- how many bytes are charged
unfoldable pub sum_of : Region → ℕ
sum_of region = region.sum

-- how many bytes the region holds, those that no string needs any more too
unfoldable pub held_by : Region → ℕ
held_by region = sizes region.closed + length region.last.bytes.items

-- the range names bytes that the region holds, together in one of its parts, or none at all
unfoldable pub IsHeld : Region → ByteRange → Type 0
IsHeld region range = AreHeld region.closed region.last range

-- the range is of the region: a record, so that a proof finds the region and the range in it
pub record IsOf (region : Region) (range : ByteRange) : Type 0 where
  pub held : IsHeld region range

-- the bytes of a range, of all that were written
unfoldable pub bytes_of : Region → ByteRange → List ℕ
bytes_of region range = take range.len (drop range.start region.written.bytes)

-- the range names bytes that were written, or none at all
unfoldable pub AreWritten : Region → ByteRange → Type 0
AreWritten region range = 0 < range.len → range.start + range.len ≤ length region.written.bytes

-- the bytes of the range were written, whether the region holds them still or not
pub record IsWritten (region : Region) (range : ByteRange) : Type 0 where
  pub bytes : AreWritten region range

-- every range that was written has the same bytes, and the limit is the same: no call takes this back
pub record KeepsBytes (old new : Region) : Type 0 where
  pub limit : limit_of new ≡ limit_of old
  pub written : (range : ByteRange) → IsWritten old range → IsWritten new range
  pub bytes : (range : ByteRange) → IsWritten old range → bytes_of new range ≡ bytes_of old range

-- every range is still a range, with the same bytes, and the limit is the same: each call but `sweep` gives this
pub record KeepsRanges (old new : Region) : Type 0 where
  pub means : KeepsBytes old new
  pub limit : limit_of new ≡ limit_of old
  pub of : (range : ByteRange) → IsOf old range → IsOf new range
  pub bytes : (range : ByteRange) → IsOf old range → bytes_of new range ≡ bytes_of old range

-- no range came or went or changed, and nothing was charged
pub record IsUnchanged (old new : Region) : Type 0 where
  pub sum : sum_of new ≡ sum_of old
  pub kept : KeepsRanges old new
  pub back : KeepsRanges new old

IsHeld-prop : (region : Region) (range : ByteRange) → IsProp (IsHeld region range)
unfolding IsHeld
IsHeld-prop region range = hlevel props

-- whether a range is of a region is a fact alone, which a ghost field can keep
pub IsOf-prop : (region : Region) (range : ByteRange) → IsProp (IsOf region range)
IsOf-prop region range = hlevel IsHeld-prop

AreWritten-prop : (region : Region) (range : ByteRange) → IsProp (AreWritten region range)
unfolding AreWritten
AreWritten-prop region range = hlevel props

-- whether a range was written is a fact alone, which a ghost field can keep
pub IsWritten-prop : (region : Region) (range : ByteRange) → IsProp (IsWritten region range)
IsWritten-prop region range = hlevel AreWritten-prop
