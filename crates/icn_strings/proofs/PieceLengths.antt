-- How many bytes pieces have.
use Rattle.std.proofs.Common.{◌≡◌, ◌∙◌, ℕ, suc, ◌+◌, ◌*◌, ◌^◌, ◌<◌, ◌≤◌, List, [], ◌∷◌, length, take, get_or, refl, sym, ap, subst, arith, length-append}
use Rattle.std.specs.Prelude.{slice_index, Option, None, SomeIff}
use Rattle.std.specs.List.{All, sum_by}
use Rattle.std.proofs.lemmas.List.{length-map, length-reverse}
use Rattle.std.proofs.lemmas.List.Sums.{sum_by-cons, sum_by_more, sum_by_more_le}
use Rattle.icn_strings.specs.declared.byte_range.ByteRange.{ByteRange}
use Rattle.icn_strings.specs.declared.piece.Origin.{Origin}
use Rattle.icn_strings.specs.declared.piece.Origin.TheVariants.{Held, Given}
use Rattle.icn_strings.specs.declared.piece.StringPiece.{StringPiece}
use Rattle.icn_strings.specs.declared.piece.StringPiece.TheVariants.{Copies, FilledLeft, FilledRight, Reversed, Mapped}
use Rattle.icn_strings.specs.declared.region.Region.{Region}
use Rattle.icn_strings.specs.Pieces.{IsPieceIn, OriginIn, made_of, origin_bytes, origin_length, piece_bytes, piece_length}
use Rattle.icn_strings.specs.Regions.{bytes_of, limit_of, sum_of}
use Rattle.icn_strings.proofs.Fillings.{length-copies, length-filled_left, length-filled_right}
use Rattle.icn_strings.proofs.KeptRegions.{bytes_are}

pub origin_long : (region : Region) (origin : Origin) → OriginIn region origin → length (origin_bytes region origin) ≡ origin_length origin
origin_long region (Held range) is = bytes_are region range is
origin_long region (Given bytes) is = refl

-- the first of some bytes is there
pub first_there : (region : Region) (origin : Origin) (range : ByteRange) → origin ≡ Held range → OriginIn region origin → 0 < origin_length origin
    → 0 < length (bytes_of region range)
first_there region origin range is of some =
    let long : length (bytes_of region range) ≡ range.len = bytes_are region range (subst (λ from. OriginIn region from) is of) in
    let size : origin_length origin ≡ range.len = ap origin_length is in
    omega (arith, long, size, some)

pub piece_long : (region : Region) (piece : StringPiece) → IsPieceIn region piece → length (piece_bytes region piece) ≡ piece_length piece
piece_long region (Copies origin count) is =
    length-copies count (origin_bytes region origin) ∙ ap (λ n. count * n) (origin_long region origin is.origin)
piece_long region (FilledLeft origin count) is =
    length-filled_left count (origin_bytes region origin) (omega (arith, origin_long region origin is.origin, is.fills))
piece_long region (FilledRight origin count) is =
    length-filled_right count (origin_bytes region origin) (omega (arith, origin_long region origin is.origin, is.fills))
piece_long region (Reversed origin) is = length-reverse (origin_bytes region origin) ∙ origin_long region origin is.origin
piece_long region (Mapped origin images) is = length-map (origin_bytes region origin) (slice_index images.now) ∙ origin_long region origin is.origin

all_behind : (region : Region) (piece : StringPiece) (pieces : List StringPiece) → All (IsPieceIn region) (piece ∷ pieces) → All (IsPieceIn region) pieces
all_behind region piece pieces are = λ k d within. are (suc k) d (omega (arith, within))

pub made_long : (region : Region) (pieces : List StringPiece) → All (IsPieceIn region) pieces → length (made_of region pieces) ≡ sum_by piece_length pieces
made_long region [] are = refl
made_long region (piece ∷ pieces) are =
    let one : length (piece_bytes region piece) ≡ piece_length piece = piece_long region piece (are 0 piece (omega arith)) in
    let rest : length (made_of region pieces) ≡ sum_by piece_length pieces = made_long region pieces (all_behind region piece pieces are) in
    length-append (piece_bytes region piece) (made_of region pieces)
    ∙ (ap (λ n. n + length (made_of region pieces)) one
    ∙ (ap (λ n. piece_length piece + n) rest ∙ sym (sum_by-cons piece_length piece pieces)))

-- The sum of the lengths, piece by piece

module _ (pieces : List StringPiece) (k sum : ℕ) (d : StringPiece) (within : k < length pieces) (so_far : sum ≡ sum_by piece_length (take k pieces)) where
  pub sum_step : sum + piece_length (get_or pieces k d) ≡ sum_by piece_length (take (k + 1) pieces)
  sum_step = omega (arith, so_far, sum_by_more piece_length pieces k d within)

  -- a part of the sum that is no number of 64 bits
  pub sum_past : (more : ℕ) → more ≡ piece_length (get_or pieces k d) → (sum + more < 2 ^ 64 → ⊥) → sum_by piece_length pieces < 2 ^ 64 → ⊥
  sum_past more same past fits = past (omega (arith, so_far, same, sum_by_more_le piece_length pieces k d within, fits))

  pub piece_past : (piece_length (get_or pieces k d) < 2 ^ 64 → ⊥) → sum_by piece_length pieces < 2 ^ 64 → ⊥
  piece_past past fits = past (omega (arith, so_far, sum_by_more_le piece_length pieces k d within, fits))

-- no sum is found, since none is there
pub none_past : (pieces : List StringPiece) (result : Option ℕ) → result ≡ None → (sum_by piece_length pieces < 2 ^ 64 → ⊥)
    → SomeIff result (sum_by piece_length pieces < 2 ^ 64) (sum_by piece_length pieces)
none_past pieces result is past =
    subst (λ (r : Option ℕ). SomeIff r (sum_by piece_length pieces < 2 ^ 64) (sum_by piece_length pieces)) (sym is) past

-- What the limit allows

module _ (region : Region) (pieces : List StringPiece) (are : All (IsPieceIn region) pieces) (most : ℕ) (room : sum_of region + most ≡ limit_of region)
    (small : most < 2 ^ 64) where
  allows_no_more : sum_of region + length (made_of region pieces) ≤ limit_of region → sum_by piece_length pieces ≤ most
  allows_no_more allowed = omega (arith, allowed, room, made_long region pieces are)

  pub none_allowed : (result : Option ℕ) → result ≡ None → (sum_by piece_length pieces < 2 ^ 64 → ⊥)
      → SomeIff result (sum_of region + length (made_of region pieces) ≤ limit_of region) (length (made_of region pieces))
  none_allowed result is past =
      subst (λ (r : Option ℕ). SomeIff r (sum_of region + length (made_of region pieces) ≤ limit_of region) (length (made_of region pieces))) (sym is)
      (λ allowed. past (omega (arith, allows_no_more allowed, small)))

  pub too_many : (size : ℕ) → size ≡ sum_by piece_length pieces → most < size
      → sum_of region + length (made_of region pieces) ≤ limit_of region → ⊥
  too_many size is more allowed = absurd (omega (arith, is, more, allows_no_more allowed))

  pub so_many : (size : ℕ) → size ≡ sum_by piece_length pieces → size ≤ most
      → (sum_of region + length (made_of region pieces) ≤ limit_of region) × (size ≡ length (made_of region pieces))
  so_many size is fits = (omega (arith, is, fits, room, made_long region pieces are), is ∙ sym (made_long region pieces are))
