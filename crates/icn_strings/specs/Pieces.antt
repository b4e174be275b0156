-- What a string is made of.
use Rattle.std.specs.Prelude.{ℕ, ◌*◌, ◌<◌, List, length, map, reverse, slice_index, ⊤}
use Rattle.std.specs.List.{flat_map}
use Rattle.icn_strings.specs.RepeatedBytes.{copies, filled_left, filled_right}
use Rattle.icn_strings.specs.declared.piece.Origin.{Origin}
use Rattle.icn_strings.specs.declared.piece.Origin.TheVariants.{Held, Given}
use Rattle.icn_strings.specs.declared.piece.StringPiece.{StringPiece}
use Rattle.icn_strings.specs.declared.piece.StringPiece.TheVariants.{Copies, FilledLeft, FilledRight, Reversed, Mapped}
use Rattle.icn_strings.specs.declared.region.Region.{Region}
use Rattle.icn_strings.specs.Regions.{IsOf, bytes_of}

-- the bytes that come from there
abbrev pub origin_bytes : Region → Origin → List ℕ
origin_bytes region (Held range) = bytes_of region range
origin_bytes region (Given bytes) = bytes.now

-- how many they are
abbrev pub origin_length : Origin → ℕ
origin_length (Held range) = range.len
origin_length (Given bytes) = length bytes.now

-- the bytes of a piece
abbrev pub piece_bytes : Region → StringPiece → List ℕ
piece_bytes region (Copies origin count) = copies count (origin_bytes region origin)
piece_bytes region (FilledLeft origin count) = filled_left count (origin_bytes region origin)
piece_bytes region (FilledRight origin count) = filled_right count (origin_bytes region origin)
piece_bytes region (Reversed origin) = reverse (origin_bytes region origin)
piece_bytes region (Mapped origin images) = map (slice_index images.now) (origin_bytes region origin)

-- how many they are
abbrev pub piece_length : StringPiece → ℕ
piece_length (Copies origin count) = count * origin_length origin
piece_length (FilledLeft origin count) = count
piece_length (FilledRight origin count) = count
piece_length (Reversed origin) = origin_length origin
piece_length (Mapped origin images) = origin_length origin

-- the bytes of some pieces, one behind the other
abbrev pub made_of : Region → List StringPiece → List ℕ
made_of region pieces = flat_map (piece_bytes region) pieces

-- where the bytes of a piece come from
abbrev pub origin_of : StringPiece → Origin
origin_of (Copies origin count) = origin
origin_of (FilledLeft origin count) = origin
origin_of (FilledRight origin count) = origin
origin_of (Reversed origin) = origin
origin_of (Mapped origin images) = origin

-- a string from which bytes come is of the region
abbrev pub OriginIn : Region → Origin → Type 0
OriginIn region (Held range) = IsOf region range
OriginIn region (Given bytes) = ⊤

-- what fills has bytes
abbrev pub CanFill : StringPiece → Type 0
CanFill (Copies origin count) = ⊤
CanFill (FilledLeft origin count) = 0 < origin_length origin
CanFill (FilledRight origin count) = 0 < origin_length origin
CanFill (Reversed origin) = ⊤
CanFill (Mapped origin images) = ⊤

-- the piece can be made in the region
pub record IsPieceIn (region : Region) (piece : StringPiece) : Type 0 where
  pub origin : OriginIn region (origin_of piece)
  pub fills : CanFill piece
