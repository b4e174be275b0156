-- What is kept as memory is given back: a part for each run of bytes.
use Rattle.std.specs.Prelude.{◌≡◌, ℕ, ◌+◌, ◌<◌, ◌≤◌, true, false, List, ◌++◌, length, take, slice_index_or}
use Rattle.std.specs.List.{All, AllPairs, list_any}
use Rattle.icn_strings.specs.declared.byte_range.ByteRange.{ByteRange}
use Rattle.icn_strings.specs.declared.kept_parts.KeptParts.{KeptParts}
use Rattle.icn_strings.specs.declared.region.Region.{Region}
use Rattle.icn_strings.specs.Parts.{RegionPart, holds, end_of, sizes, EndsBefore, HasItsPart}
use Rattle.icn_strings.specs.Ranges.{IsPart, total_length}
use Rattle.icn_strings.specs.Regions.{IsOf}

-- the parts that stay of a region: the first so many, and others behind them
abbrev pub kept_of : Region → KeptParts → List RegionPart
kept_of region kept = take kept.same region.closed ++ kept.fresh

-- the range lies in one of the parts, if it has any bytes
abbrev pub IsKeptIn : List RegionPart → ByteRange → Type 0
IsKeptIn parts range = 0 < range.len → list_any (holds range) parts ≡ true

-- the range lies in one of the parts, or else in the run that is the next of them, if it has any bytes
abbrev pub IsGathered : List RegionPart → ByteRange → ByteRange → Type 0
IsGathered parts run range = 0 < range.len → list_any (holds range) parts ≡ false → IsPart range run

-- the parts are in order, have their parts of all bytes that were written, and end at a place or before
pub record AreRunsBefore (all : List ℕ) (parts : List RegionPart) (place : ℕ) : Type 0 where
  pub agree : All (HasItsPart all) parts
  pub order : AllPairs EndsBefore parts
  pub before : All (λ one. end_of one ≤ place) parts

-- the parts have the bytes of these ranges, and no more
pub record AreKeptRuns (region : Region) (ranges : List ByteRange) (parts : List RegionPart) : Type 0 where
  pub runs : AreRunsBefore region.written.bytes parts (length region.written.bytes)
  pub kept : All (IsKeptIn parts) ranges
  pub few : sizes parts ≤ total_length ranges

-- a run with a range: all these bytes lie together, and are no more than both have
pub record IsJoined (region : Region) (run range both : ByteRange) : Type 0 where
  pub of : IsOf region both
  pub start : both.start ≡ run.start
  pub has_run : IsPart run both
  pub has_range : IsPart range both
  pub few : both.len ≤ run.len + range.len

-- a run became a part behind these
pub record IsPutBehind (region : Region) (before after : List RegionPart) (run : ByteRange) : Type 0 where
  pub runs : AreRunsBefore region.written.bytes before run.start
      → AreRunsBefore region.written.bytes after (run.start + run.len)
  pub kept : (range : ByteRange) → IsGathered before run range → IsKeptIn after range
  pub few : sizes after ≡ sizes before + run.len

-- a range was taken in: parts and run have it beside all that they had, and the run begins where it does or before
pub record IsTaken (region : Region) (before after : List RegionPart) (run range next : ByteRange)
    : Type 0 where
  pub of : IsOf region next
  pub from : next.start ≤ range.start
  pub runs : AreRunsBefore region.written.bytes before run.start
      → AreRunsBefore region.written.bytes after next.start
  pub gathered : (other : ByteRange) → IsGathered before run other → IsGathered after next other
  pub taken : IsGathered after next range
  pub few : sizes after + next.len ≤ sizes before + run.len + range.len

-- the first so many ranges lie in the parts or in the run, which begins where each of the others does or before
pub record AreGathered (region : Region) (ranges : List ByteRange) (count : ℕ) (parts : List RegionPart)
    (run : ByteRange) : Type 0 where
  pub of : IsOf region run
  pub from : (k : ℕ) (d : ByteRange) → count ≤ k → k < length ranges
      → run.start ≤ (slice_index_or ranges k d).start
  pub runs : AreRunsBefore region.written.bytes parts run.start
  pub gathered : (k : ℕ) (d : ByteRange) → k < count → IsGathered parts run (slice_index_or ranges k d)
  pub few : sizes parts + run.len ≤ total_length (take count ranges)
