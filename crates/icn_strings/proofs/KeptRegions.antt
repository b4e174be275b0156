-- What a region keeps over calls.
use Rattle.std.proofs.Common.{◌≡◌, ◌∙◌, ℕ, ◌+◌, ◌-◌, ◌^◌, ◌<◌, ◌≤◌, List, [], ◌∷◌, ◌++◌, length, take, drop, refl, sym, ap, subst, arith, append_assoc, length-append}
use Rattle.std.proofs.Math.Seq.{take-add}
use Rattle.std.proofs.lemmas.List.{drop-drop}
use Rattle.icn_strings.specs.declared.byte_range.ByteRange.{ByteRange}
use Rattle.icn_strings.specs.declared.region.Region.{Region}
use Rattle.icn_strings.specs.Chunks.{part_of_chunk, AreHeld}
use Rattle.icn_strings.specs.Ranges.{IsPart}
use Rattle.icn_strings.specs.Regions.{limit_of, sum_of, IsHeld, IsOf, bytes_of, AreWritten, IsWritten, KeepsBytes, KeepsRanges, IsUnchanged}
use Rattle.icn_strings.proofs.HeldRanges.{held_more, held_closed, held_last, held_part}
use Rattle.icn_strings.proofs.AddedBytes.{within_stays, as_many, part_bytes_of, part_short, within_all, last_ends, last_bytes, behind_bytes}

-- what was written over two calls, one after the other
means_then : {a b c : Region} → KeepsBytes a b → KeepsBytes b c → KeepsBytes a c
means_then {a} {b} {c} first second = record {
  limit = second.limit ∙ first.limit;
  written = λ range is. second.written range (first.written range is);
  bytes = λ range is. second.bytes range (first.written range is) ∙ first.bytes range is;
}

-- what is kept over them
pub keeps_then : {a b c : Region} → KeepsRanges a b → KeepsRanges b c → KeepsRanges a c
keeps_then {a} {b} {c} first second = record {
  means = means_then first.means second.means;
  limit = second.limit ∙ first.limit;
  of = λ range is. second.of range (first.of range is);
  bytes = λ range is. second.bytes range (first.of range is) ∙ first.bytes range is;
}

-- a range of a region lies within all bytes
pub lies_within : (region : Region) (range : ByteRange) → IsOf region range → 0 < range.len → range.start + range.len ≤ length region.written.bytes
unfolding IsHeld
lies_within region range is some =
    within_all region.written.bytes region.closed region.last range region.sound.agree region.sound.ends (is.held some)

-- so it was written
pub was_written_there : (region : Region) (range : ByteRange) → IsOf region range → IsWritten region range
unfolding AreWritten
was_written_there region range is = record { bytes = lies_within region range is }

-- it has as many bytes as it says
pub bytes_are : (region : Region) (range : ByteRange) → IsOf region range → length (bytes_of region range) ≡ range.len
unfolding bytes_of
bytes_are region range is = as_many region.written.bytes range.start range.len (lies_within region range is)

-- and so few that each position in them is an `i64`
pub short_bytes : (region : Region) (range : ByteRange) → length (bytes_of region range) < 2 ^ 63 - 1
unfolding bytes_of
short_bytes region range = part_short region.written.bytes range.start range.len (2 ^ 63 - 1) region.sound.short

-- what is charged is within the limit
pub sum_within : (region : Region) → sum_of region ≤ limit_of region
unfolding sum_of limit_of
sum_within region = region.sound.within

-- a part of a range is of the region
pub part_is_of : (region : Region) (part whole : ByteRange) → IsPart part whole → IsOf region whole → IsOf region part
unfolding IsHeld
part_is_of region part whole part_of is = record { held = held_part part whole region.closed region.last part_of is.held }

-- and has its part of the bytes
pub part_bytes : (region : Region) (part whole : ByteRange) → IsPart part whole
    → bytes_of region part ≡ take part.len (drop (part.start - whole.start) (bytes_of region whole))
unfolding bytes_of
part_bytes region part whole part_of = part_bytes_of region.written.bytes part whole part_of

-- more was written, and what was there before means the same
means_more : {old new : Region} (more : List ℕ) → new.written.bytes ≡ old.written.bytes ++ more → new.limit ≡ old.limit → KeepsBytes old new
unfolding limit_of bytes_of AreWritten
means_more {old} {new} more whole limit =
    let long : length new.written.bytes ≡ length old.written.bytes + length more = ap (λ (ys : List ℕ). length ys) whole ∙ rw length-append refl in
    record {
      limit = limit;
      written = λ range is. record { bytes = λ some. omega (arith, is.bytes some, long) };
      bytes = λ range is.
          ap (λ ys. take range.len (drop range.start ys)) whole ∙ within_stays range.len range.start old.written.bytes more is.bytes;
    }

-- what was written is the same
pub means_same : {old new : Region} → new.written ≡ old.written → new.limit ≡ old.limit → KeepsBytes old new
unfolding limit_of bytes_of AreWritten
means_same {old} {new} written limit = record {
  limit = limit;
  written = λ range is. record { bytes = λ some. subst (λ w. range.start + range.len ≤ length w.bytes) (sym written) (is.bytes some) };
  bytes = λ range is. ap (λ w. take range.len (drop range.start w.bytes)) written;
}

-- bytes were written into the last chunk
pub keeps_more : {old new : Region} (more : List ℕ) → new.closed ≡ old.closed → new.last.first ≡ old.last.first
    → new.last.bytes.items ≡ old.last.bytes.items ++ more → new.written.bytes ≡ old.written.bytes ++ more → new.limit ≡ old.limit
    → KeepsRanges old new
unfolding limit_of IsHeld bytes_of
keeps_more {old} {new} more closed first bytes whole limit = record {
  means = means_more more whole limit;
  limit = limit;
  of = λ range is. record {
    held =
        subst (λ cs. AreHeld cs new.last range) (sym closed)
        (held_more range old.closed old.last new.last more first bytes is.held);
  };
  bytes = λ range is.
      ap (λ ys. take range.len (drop range.start ys)) whole
      ∙ within_stays range.len range.start old.written.bytes more (lies_within old range is);
}

-- another chunk follows
pub keeps_closed : {old new : Region} → new.closed ≡ old.closed ++ part_of_chunk old.last ∷ [] → new.written ≡ old.written → new.limit ≡ old.limit
    → KeepsRanges old new
unfolding limit_of IsHeld bytes_of
keeps_closed {old} {new} closed written limit = record {
  means = means_same written limit;
  limit = limit;
  of = λ range is. record {
    held = subst (λ cs. AreHeld cs new.last range) (sym closed) (held_closed range old.closed old.last new.last is.held);
  };
  bytes = λ range is. ap (λ w. take range.len (drop range.start w.bytes)) written;
}

-- the chunks and what was written are the same
pub keeps_same : {old new : Region} → new.closed ≡ old.closed → new.last ≡ old.last → new.written ≡ old.written → new.limit ≡ old.limit
    → KeepsRanges old new
unfolding limit_of IsHeld bytes_of
keeps_same {old} {new} closed last written limit = record {
  means = means_same written limit;
  limit = limit;
  of = λ range is. record {
    held = subst (λ cs. AreHeld cs new.last range) (sym closed) (subst (λ chunk. AreHeld old.closed chunk range) (sym last) is.held);
  };
  bytes = λ range is. ap (λ w. take range.len (drop range.start w.bytes)) written;
}

-- and what is charged
pub unchanged : {old new : Region} → new.closed ≡ old.closed → new.last ≡ old.last → new.written ≡ old.written → new.limit ≡ old.limit
    → new.sum ≡ old.sum → IsUnchanged old new
unfolding sum_of
unchanged {old} {new} closed last written limit sum = record {
  sum = sum;
  kept = keeps_same closed last written limit;
  back = keeps_same (sym closed) (sym last) (sym written) (sym limit);
}

-- a range that ends within all bytes, from the last chunk's first one on, is of the region
pub is_of : (region : Region) (range : ByteRange) → region.last.first ≤ range.start → range.start + range.len ≤ length region.written.bytes
    → IsOf region range
unfolding IsHeld
is_of region range from to = record {
  held = held_last range region.closed region.last from (omega (arith, to, last_ends region.written.bytes region.last region.sound.ends));
}

-- how many bytes there are once those of a range were written again
pub added_length : (old new : Region) (range : ByteRange) → IsOf old range → new.written.bytes ≡ old.written.bytes ++ bytes_of old range
    → length new.written.bytes ≡ length old.written.bytes + range.len
added_length old new range is whole =
    ap (λ (ys : List ℕ). length ys) whole ∙ rw length-append (omega (arith, bytes_are old range is))

-- What is written behind all bytes, where there was room or a chunk was opened

pub is_new : (old mid new : Region) (range : ByteRange) (more : List ℕ) → mid.written ≡ old.written → new.last.first ≡ mid.last.first
    → new.written.bytes ≡ mid.written.bytes ++ more → range.start ≡ length old.written.bytes → range.len ≡ length more → IsOf new range
is_new old mid new range more same first whole start len =
    let before : length mid.written.bytes ≡ length old.written.bytes = ap (λ w. length w.bytes) same in
    let long : length new.written.bytes ≡ length mid.written.bytes + length more = ap (λ (ys : List ℕ). length ys) whole ∙ rw length-append refl in
    is_of new range (omega (arith, first, mid.sound.ends.from, before, start)) (omega (arith, long, before, start, len))

pub new_bytes : (old mid new : Region) (range : ByteRange) (more : List ℕ) → mid.written ≡ old.written
    → new.written.bytes ≡ mid.written.bytes ++ more → range.start ≡ length old.written.bytes → range.len ≡ length more → bytes_of new range ≡ more
unfolding bytes_of
new_bytes old mid new range more same whole start len =
    last_bytes old.written.bytes new.written.bytes more range.start range.len (whole ∙ ap (λ w. w.bytes ++ more) same) start len

-- Where two ranges are written so, one after the other

module _ (one two new : Region) (a b : ByteRange) (first : two.written.bytes ≡ one.written.bytes ++ bytes_of one a)
    (second : new.written.bytes ≡ two.written.bytes ++ bytes_of two b) where
  pub both_written : new.written.bytes ≡ one.written.bytes ++ (bytes_of one a ++ bytes_of two b)
  both_written = second ∙ (ap (λ ys. ys ++ bytes_of two b) first ∙ append_assoc one.written.bytes (bytes_of one a) (bytes_of two b))

module _ (old one two : Region) (a b : ByteRange) (is : IsOf old a) (also : IsOf old b) (first : KeepsRanges old one) (second : KeepsRanges one two) where
  pub both_bytes : bytes_of one a ++ bytes_of two b ≡ bytes_of old a ++ bytes_of old b
  both_bytes =
      ap (λ ys. ys ++ bytes_of two b) (first.bytes a is)
      ∙ ap (λ ys. bytes_of old a ++ ys) (second.bytes b (first.of b also) ∙ first.bytes b also)

  pub both_length : a.len + b.len ≡ length (bytes_of one a ++ bytes_of two b)
  both_length = sym (ap (λ (ys : List ℕ). length ys) both_bytes ∙ rw length-append (omega (arith, bytes_are old a is, bytes_are old b also)))

-- What lies right behind another range

pub adjacent_bytes : (region : Region) (a b range : ByteRange) → a.start + a.len ≡ b.start → range.start ≡ a.start → range.len ≡ a.len + b.len
    → bytes_of region range ≡ bytes_of region a ++ bytes_of region b
unfolding bytes_of
adjacent_bytes region a b range next start len =
    let all : List ℕ = region.written.bytes in
    ap (λ n. take n (drop range.start all)) len
    ∙ (ap (λ at. take (a.len + b.len) (drop at all)) start
    ∙ (take-add a.len b.len (drop a.start all)
    ∙ ap (λ ys. take a.len (drop a.start all) ++ take b.len ys) (drop-drop a.len a.start all ∙ ap (λ at. drop at all) next)))

-- What goes on where another range ends

pub joined_bytes : (old new : Region) (a b range : ByteRange) → new.written.bytes ≡ old.written.bytes ++ bytes_of old b
    → range.start ≡ a.start → a.start + a.len ≡ length old.written.bytes → range.len ≡ a.len + b.len → b.len ≡ length (bytes_of old b)
    → bytes_of new range ≡ bytes_of old a ++ bytes_of old b
unfolding bytes_of
joined_bytes old new a b range whole start ends len many =
    ap (λ n. take n (drop range.start new.written.bytes)) len
    ∙ (ap (λ at. take (a.len + b.len) (drop at new.written.bytes)) start
    ∙ behind_bytes old.written.bytes new.written.bytes (bytes_of old b) a.start a.len b.len whole ends many)
