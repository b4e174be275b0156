-- What a region writes behind all bytes.
use Rattle.std.specs.Prelude.{◌≡◌, ℕ, ◌+◌, ◌-◌, ◌<◌, ◌^◌, List, ◌++◌, length}
use Rattle.icn_strings.specs.Chunks.{HasRoom}
use Rattle.icn_strings.specs.declared.region.Region.{Region}

-- the last chunk has room for so many bytes, and there are few enough with them
pub record CanWrite (region : Region) (count : ℕ) : Type 0 where
  pub room : HasRoom region.last count
  pub short : length region.written.bytes + count < 2 ^ 63 - 1

-- these bytes were written into the last chunk, behind all others, and nothing else changed
pub record Writes (old new : Region) (more : List ℕ) : Type 0 where
  pub closed : new.closed ≡ old.closed
  pub first : new.last.first ≡ old.last.first
  pub bytes : new.last.bytes.items ≡ old.last.bytes.items ++ more
  pub written : new.written.bytes ≡ old.written.bytes ++ more
  pub room : (count : ℕ) → HasRoom old.last (length more + count) → HasRoom new.last count
  pub sum : new.sum ≡ old.sum
  pub limit : new.limit ≡ old.limit
