-- What a region has once bytes were written behind all others.
use Rattle.std.proofs.Common.{◌≡◌, ◌∙◌, ℕ, suc, ◌+◌, ◌-◌, ◌^◌, ◌<◌, ◌≤◌, List, [], ◌∷◌, ◌++◌, length, take, drop, get_or, map, min, reverse, refl, sym, ap, subst, arith, append_assoc, append-nil, length-append, length-take}
use Rattle.std.specs.Prelude.{slice_index}
use Rattle.std.specs.List.{All, sum_by}
use Rattle.std.proofs.lemmas.List.{take-append-le, take_at, drop_at, take_more, get_or-take}
use Rattle.std.proofs.lemmas.List.Concat.{flat_map-append}
use Rattle.std.proofs.lemmas.List.Elements.{All-weaker}
use Rattle.std.proofs.lemmas.List.Sums.{sum_by_more_le}
use Rattle.icn_strings.specs.declared.chunk.Chunk.{Chunk}
use Rattle.icn_strings.specs.declared.piece.Origin.{Origin}
use Rattle.icn_strings.specs.declared.piece.Origin.TheVariants.{Held, Given}
use Rattle.icn_strings.specs.declared.piece.StringPiece.{StringPiece}
use Rattle.icn_strings.specs.declared.piece.StringPiece.TheVariants.{Copies, FilledLeft, FilledRight, Reversed, Mapped}
use Rattle.icn_strings.specs.declared.region.Region.{Region}
use Rattle.icn_strings.specs.Chunks.{HasRoom, AreSoundChunks}
use Rattle.icn_strings.specs.RepeatedBytes.{copies, filled_left, filled_right}
use Rattle.icn_strings.specs.Pieces.{IsPieceIn, OriginIn, made_of, origin_bytes, piece_bytes, piece_length}
use Rattle.icn_strings.specs.Regions.{sum_of, KeepsRanges}
use Rattle.icn_strings.specs.WrittenBytes.{CanWrite, Writes}
use Rattle.icn_strings.proofs.AddedBytes.{written_more, sound_more}
use Rattle.icn_strings.proofs.KeptRegions.{keeps_more}
use Rattle.icn_strings.proofs.PieceLengths.{made_long}

-- what is written keeps all ranges, and charges nothing

pub writes_keep : {old new : Region} {more : List ℕ} → Writes old new more → KeepsRanges old new
writes_keep {old} {new} {more} is = keeps_more more is.closed is.first is.bytes is.written is.limit

pub writes_charge : {old new : Region} {more : List ℕ} → Writes old new more → sum_of new ≡ sum_of old
unfolding sum_of
writes_charge is = is.sum

-- nothing is written
pub writes_none : (region : Region) → Writes region region []
writes_none region = record {
  closed = refl;
  first = refl;
  bytes = sym (append-nil region.last.bytes.items);
  written = sym (append-nil region.written.bytes);
  room = λ count room. omega (arith, room);
  sum = refl;
  limit = refl;
}

-- one after the other
pub writes_then : {one two three : Region} {more others : List ℕ} → Writes one two more → Writes two three others → Writes one three (more ++ others)
writes_then {one} {two} {three} {more} {others} first second = record {
  closed = second.closed ∙ first.closed;
  first = second.first ∙ first.first;
  bytes = second.bytes ∙ (ap (λ ys. ys ++ others) first.bytes ∙ append_assoc one.last.bytes.items more others);
  written = second.written ∙ (ap (λ ys. ys ++ others) first.written ∙ append_assoc one.written.bytes more others);
  room = λ count room. second.room count (first.room (length others + count) (omega (arith, room, length-append more others)));
  sum = second.sum ∙ first.sum;
  limit = second.limit ∙ first.limit;
}

-- Room for some bytes

pub can_less : {region : Region} (few many : ℕ) → few ≤ many → CanWrite region many → CanWrite region few
can_less few many less can = record { room = omega (arith, less, can.room); short = omega (arith, less, can.short) }

pub can_then : {old new : Region} {more : List ℕ} (count others : ℕ) → count ≡ length more → CanWrite old (count + others) → Writes old new more → CanWrite new others
can_then {old} {new} {more} count others same can is =
    let long : length new.written.bytes ≡ length old.written.bytes + length more = ap (λ (ys : List ℕ). length ys) is.written ∙ length-append old.written.bytes more in
    record { room = is.room others (omega (arith, same, can.room)); short = omega (arith, same, long, can.short) }

-- a region in which room was made
pub can_made : (old : Region) {new : Region} (count : ℕ) → new.written ≡ old.written → HasRoom new.last count → length old.written.bytes + count < 2 ^ 63 - 1
    → CanWrite new count
can_made old {new} count same room short =
    let long : length new.written.bytes ≡ length old.written.bytes = ap (λ w. length w.bytes) same in
    record { room = room; short = omega (arith, long, short) }

-- Where the end of what was written is changed

-- what lies before the last chunk stays as bytes are written
before_stays : (all more : List ℕ) (first : ℕ) → first ≤ length all → take first (all ++ more) ≡ take first all
before_stays all more first within = take-append-le first all more within

pub changed_behind : (old mid : Region) (bytes more : List ℕ) (new : Chunk) → Writes old mid bytes → new.first ≡ mid.last.first
    → new.bytes.items ≡ old.last.bytes.items ++ more → take new.first mid.written.bytes ++ new.bytes.items ≡ old.written.bytes ++ more
changed_behind old mid bytes more new is first now =
    ap (λ ys. take new.first ys ++ new.bytes.items) is.written
    ∙ (ap (λ ys. ys ++ new.bytes.items) (before_stays old.written.bytes bytes new.first (omega (arith, first, is.first, old.sound.ends.from)))
    ∙ written_more old.written.bytes more old.last new old.sound.ends (first ∙ is.first) now)

-- Origins and pieces as ranges are kept

pub origin_kept : {old new : Region} (origin : Origin) → KeepsRanges old new → OriginIn old origin → origin_bytes new origin ≡ origin_bytes old origin
origin_kept (Held range) kept is = kept.bytes range is
origin_kept (Given bytes) kept is = refl

pub origin_stays : {old new : Region} (origin : Origin) → KeepsRanges old new → OriginIn old origin → OriginIn new origin
origin_stays (Held range) kept is = kept.of range is
origin_stays (Given bytes) kept is = tt

pub piece_kept : {old new : Region} (piece : StringPiece) → KeepsRanges old new → IsPieceIn old piece → piece_bytes new piece ≡ piece_bytes old piece
piece_kept (Copies origin count) kept is = ap (copies count) (origin_kept origin kept is.origin)
piece_kept (FilledLeft origin count) kept is = ap (filled_left count) (origin_kept origin kept is.origin)
piece_kept (FilledRight origin count) kept is = ap (filled_right count) (origin_kept origin kept is.origin)
piece_kept (Reversed origin) kept is = ap (λ bytes. reverse bytes) (origin_kept origin kept is.origin)
piece_kept (Mapped origin images) kept is = ap (λ bytes. map (slice_index images.now) bytes) (origin_kept origin kept is.origin)

pub piece_stays : {old new : Region} (piece : StringPiece) → KeepsRanges old new → IsPieceIn old piece → IsPieceIn new piece
piece_stays (Copies origin count) kept is = record { origin = origin_stays origin kept is.origin; fills = tt }
piece_stays (FilledLeft origin count) kept is = record { origin = origin_stays origin kept is.origin; fills = is.fills }
piece_stays (FilledRight origin count) kept is = record { origin = origin_stays origin kept is.origin; fills = is.fills }
piece_stays (Reversed origin) kept is = record { origin = origin_stays origin kept is.origin; fills = tt }
piece_stays (Mapped origin images) kept is = record { origin = origin_stays origin kept is.origin; fills = tt }

pub all_stay : {old new : Region} (pieces : List StringPiece) → KeepsRanges old new → All (IsPieceIn old) pieces → All (IsPieceIn new) pieces
all_stay {old} {new} pieces kept are =
    All-weaker (IsPieceIn old) (IsPieceIn new) (λ piece is. piece_stays piece kept is) pieces are

pub made_kept : {old new : Region} (pieces : List StringPiece) → KeepsRanges old new → All (IsPieceIn old) pieces → made_of new pieces ≡ made_of old pieces
made_kept {old} {new} [] kept are = refl
made_kept {old} {new} (piece ∷ pieces) kept are =
    ap (λ ys. ys ++ made_of new pieces) (piece_kept piece kept (are 0 piece (omega arith)))
    ∙ ap (λ ys. piece_bytes old piece ++ ys) (made_kept pieces kept (λ k d within. are (suc k) d (omega (arith, within))))

-- Pieces one after the other

-- the pieces up to one, and this one
made_more : (region : Region) (pieces : List StringPiece) (k : ℕ) (d : StringPiece) → k < length pieces
    → made_of region (take (k + 1) pieces) ≡ made_of region (take k pieces) ++ piece_bytes region (get_or pieces k d)
made_more region pieces k d within =
    ap (λ ps. made_of region ps) (take_more pieces k d within)
    ∙ (flat_map-append (piece_bytes region) (take k pieces) (get_or pieces k d ∷ [])
    ∙ ap (λ ys. made_of region (take k pieces) ++ ys) (append-nil (piece_bytes region (get_or pieces k d))))

all_front : (region : Region) (pieces : List StringPiece) (k : ℕ) → All (IsPieceIn region) pieces → All (IsPieceIn region) (take k pieces)
all_front region pieces k are = λ i d within.
    let long : length (take k pieces) ≡ min k (length pieces) = length-take k pieces in
    subst (IsPieceIn region) (sym (get_or-take k pieces i d (omega (arith, long, within)))) (are i d (omega (arith, long, within)))

module _ {old now : Region} (pieces : List StringPiece) (k : ℕ) (d : StringPiece) (within : k < length pieces) (are : All (IsPieceIn old) pieces) where
  kept_piece : Writes old now (made_of old (take k pieces)) → piece_bytes now (get_or pieces k d) ≡ piece_bytes old (get_or pieces k d)
  kept_piece so_far = piece_kept (get_or pieces k d) (writes_keep so_far) (are k d within)

  -- there is room for the next piece
  pub can_piece : CanWrite old (sum_by piece_length pieces) → Writes old now (made_of old (take k pieces)) → CanWrite now (piece_length (get_or pieces k d))
  can_piece can so_far =
      let before : sum_by piece_length (take k pieces) ≡ length (made_of old (take k pieces)) =
      sym (made_long old (take k pieces) (all_front old pieces k are)) in
      can_then (sum_by piece_length (take k pieces)) (piece_length (get_or pieces k d)) before
      (can_less _ (sum_by piece_length pieces) (sum_by_more_le piece_length pieces k d within) can) so_far

  -- the pieces up to it are written, and it is
  pub writes_piece : {new : Region} → Writes old now (made_of old (take k pieces)) → Writes now new (piece_bytes now (get_or pieces k d))
      → Writes old new (made_of old (take (k + 1) pieces))
  writes_piece {new} so_far next =
      subst (λ ys. Writes old new ys) (sym (made_more old pieces k d within))
      (writes_then so_far (subst (λ ys. Writes now new ys) (kept_piece so_far) next))

-- What stands behind the first so many bytes of the chunk is written, and then changed in its place

module _ (old mid : Region) (bytes : List ℕ) (kept : ℕ) (is : Writes old mid bytes) (same : kept ≡ length old.last.bytes.items) where
  pub kept_within : kept ≤ length mid.last.bytes.items
  kept_within =
      let long : length mid.last.bytes.items ≡ length old.last.bytes.items + length bytes =
      ap (λ (ys : List ℕ). length ys) is.bytes ∙ length-append old.last.bytes.items bytes in
      omega (arith, same, long)

  pub front_is : take kept mid.last.bytes.items ≡ old.last.bytes.items
  front_is = ap (λ ys. take kept ys) is.bytes ∙ take_at old.last.bytes.items bytes kept (sym same)

  pub behind_is : drop kept mid.last.bytes.items ≡ bytes
  behind_is = ap (λ ys. drop kept ys) is.bytes ∙ drop_at old.last.bytes.items bytes kept (sym same)

  pub behind_long : length mid.last.bytes.items - kept ≡ length bytes
  behind_long =
      let long : length mid.last.bytes.items ≡ length old.last.bytes.items + length bytes =
      ap (λ (ys : List ℕ). length ys) is.bytes ∙ length-append old.last.bytes.items bytes in
      omega (arith, same, long)

  -- what stands behind them now
  pub changed_end : (change : List ℕ → List ℕ) (new : Chunk)
      → new.bytes.items ≡ take kept mid.last.bytes.items ++ change (drop kept mid.last.bytes.items) → new.bytes.items ≡ old.last.bytes.items ++ change bytes
  changed_end change new now =
      now
      ∙ (ap (λ ys. ys ++ change (drop kept mid.last.bytes.items)) front_is
      ∙ ap (λ ys. old.last.bytes.items ++ change ys) behind_is)

-- the chunks are sound with it
pub sound_changed : (old mid : Region) (bytes more whole : List ℕ) (new : Chunk) → Writes old mid bytes → new.first ≡ mid.last.first
    → new.bytes.items ≡ old.last.bytes.items ++ more → whole ≡ old.written.bytes ++ more → length old.written.bytes + length more < 2 ^ 63 - 1
    → AreSoundChunks whole mid.closed new mid.sum mid.limit
sound_changed old mid bytes more whole new is first now same short =
    subst (λ cs. AreSoundChunks whole cs new mid.sum mid.limit) (sym is.closed)
    (subst (λ n. AreSoundChunks whole old.closed new n mid.limit) (sym is.sum)
    (subst (λ n. AreSoundChunks whole old.closed new old.sum n) (sym is.limit)
    (sound_more old.written.bytes whole more old.closed old.last new old.sum old.limit old.sound (first ∙ is.first) now same short)))
