-- Which bytes a chunk has, and what the parts of a region are.
use Rattle.std.specs.Prelude.{◌≡◌, ℕ, ◌+◌, ◌-◌, ◌<◌, ◌≤◌, ◌^◌, ◌||◌, true, List, length, map, drop, vec_len}
use Rattle.std.specs.Vec.{vec_capacity}
use Rattle.std.specs.List.{All, AllPairs, list_any, sum_by}
use Rattle.std.proofs.Props.{props}
use Rattle.icn_strings.specs.declared.byte_range.ByteRange.{ByteRange}
use Rattle.icn_strings.specs.declared.chunk.Chunk.{Chunk}
use Rattle.icn_strings.specs.Parts.{RegionPart, end_of, holds, EndsBefore, HasItsPart, HasItsPart-prop}

-- a chunk as a part
abbrev pub part_of_chunk : Chunk → RegionPart
part_of_chunk chunk = record { first = chunk.first; bytes = chunk.bytes.items }

abbrev pub parts_of_chunks : List Chunk → List RegionPart
parts_of_chunks chunks = map part_of_chunk chunks

-- how many bytes some chunks have together
abbrev pub chunk_sizes : List Chunk → ℕ
chunk_sizes chunks = sum_by (λ (chunk : Chunk). length chunk.bytes.items) chunks

-- the range lies in the last chunk or in one of the parts before it, if it has any bytes
abbrev pub AreHeld : List RegionPart → Chunk → ByteRange → Type 0
AreHeld closed last range =
    0 < range.len → (holds range (part_of_chunk last) || list_any (holds range) closed) ≡ true

-- the chunk has room for so many bytes more
abbrev pub HasRoom : Chunk → ℕ → Type 0
HasRoom chunk count = vec_len chunk.bytes + count ≤ vec_capacity chunk.bytes

-- the chunk has all bytes that were written from its first one on
pub record IsLast (all : List ℕ) (chunk : Chunk) : Type 0 where
  pub from : chunk.first ≤ length all
  pub bytes : chunk.bytes.items ≡ drop chunk.first all

-- The parts are in order, and have the bytes that were written; the last chunk lies behind them. The bytes are
-- so few that each position in a string is an `i64`, and what is charged is within the limit.
pub record AreSoundChunks (all : List ℕ) (closed : List RegionPart) (last : Chunk) (sum limit : ℕ)
    : Type 0 where
  pub agree : All (HasItsPart all) closed
  pub order : AllPairs EndsBefore closed
  pub before : All (λ part. end_of part ≤ last.first) closed
  pub ends : IsLast all last
  pub short : length all < 2 ^ 63 - 1
  pub within : sum ≤ limit

IsLast-prop : (all : List ℕ) (chunk : Chunk) → IsProp (IsLast all chunk)
IsLast-prop all chunk = hlevel props

-- whether the parts of a region are sound is a fact alone, which a ghost field can keep
pub AreSoundChunks-prop : (all : List ℕ) (closed : List RegionPart) (last : Chunk) (sum limit : ℕ)
    → IsProp (AreSoundChunks all closed last sum limit)
AreSoundChunks-prop all closed last sum limit = hlevel (HasItsPart-prop, IsLast-prop, props)
