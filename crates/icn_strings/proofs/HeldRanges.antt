-- Which ranges lie in parts, and where they are found.
use Rattle.std.proofs.Common.{inl, inr, ◌⊎◌, ◌≡◌, ◌∙◌, ℕ, ◌+◌, ◌-◌, ◌<◌, ◌≤◌, Bool, true, false, ◌||◌, List, [], ◌∷◌, ◌++◌, length, take, drop, get_or, refl, sym, ap, subst, arith, length-append, length-drop}
use Rattle.std.specs.List.{AllPairs, AllWithin, HoldsAt, list_any}
use Rattle.std.specs.List.Sorted.{IsNonDecreasingBy}
use Rattle.std.proofs.lemmas.Bool.{cases_lt, true≢false}
use Rattle.std.proofs.lemmas.List.{get_or_default, length-take-le}
use Rattle.std.proofs.lemmas.List.Folds.{Any-from_list_any, list_any_at, list_any-append}
use Rattle.icn_strings.specs.declared.byte_range.ByteRange.{ByteRange}
use Rattle.icn_strings.specs.declared.chunk.Chunk.{Chunk}
use Rattle.icn_strings.specs.Parts.{RegionPart, holds, end_of, EndsBefore}
use Rattle.icn_strings.specs.Chunks.{part_of_chunk, AreHeld}
use Rattle.icn_strings.specs.Ranges.{IsPart}

-- a range that lies in a part begins where the part does or behind, and ends within it
pub record LiesIn (range : ByteRange) (one : RegionPart) : Type 0 where
  pub from : one.first ≤ range.start
  pub to : range.start + range.len ≤ one.first + length one.bytes

pub lies : (range : ByteRange) (one : RegionPart) → holds range one ≡ true → LiesIn range one
lies range one is = record { from = grind arith; to = grind arith }

pub does_hold : (range : ByteRange) (one : RegionPart) → one.first ≤ range.start → range.start + range.len ≤ one.first + length one.bytes
    → holds range one ≡ true
does_hold range one from to = grind arith

-- a part of the bytes of a part has as many as it says
pub part_length : (range : ByteRange) (one : RegionPart) → holds range one ≡ true
    → length (take range.len (drop (range.start - one.first) one.bytes)) ≡ range.len
part_length range one is =
    let lay : LiesIn range one = lies range one is in
    length-take-le range.len (drop (range.start - one.first) one.bytes) (rw length-drop (omega (arith, lay.from, lay.to)))

-- two tests, one of which passes

pub either_way : (a b : Bool) → (a || b) ≡ true → (a ≡ true) ⊎ (b ≡ true)
either_way true b is = inl refl
either_way false b is = inr is

pub by_first : (a b : Bool) → a ≡ true → (a || b) ≡ true
by_first a b is = ap (λ c. c || b) is

pub by_second : (a b : Bool) → b ≡ true → (a || b) ≡ true
by_second true b is = refl
by_second false b is = is

pub not_first : (a b : Bool) → a ≡ false → (a || b) ≡ true → b ≡ true
not_first true b off is = absurd (true≢false off)
not_first false b off is = is

first_more : (a c b : Bool) → (a ≡ true → c ≡ true) → (a || b) ≡ true → (c || b) ≡ true
first_more true c b more is = by_first c b (more refl)
first_more false c b more is = by_second c b is

turned : (a b : Bool) → (b || a) ≡ true → (a || (b || false)) ≡ true
turned true b is = refl
turned false true is = refl
turned false false is = is

false_unless : (a : Bool) → (a ≡ true → ⊥) → false ≡ a
false_unless true is = absurd (is refl)
false_unless false is = refl

alike : (a b : Bool) → (a ≡ true → b ≡ true) → (b ≡ true → a ≡ true) → a ≡ b
alike true b to from = sym (to refl)
alike false true to from = from refl
alike false false to from = refl

-- a part to which bytes were added holds what it held
holds_more : (range : ByteRange) (one new : RegionPart) (more : List ℕ) → new.first ≡ one.first → new.bytes ≡ one.bytes ++ more
    → holds range one ≡ true → holds range new ≡ true
holds_more range one new more first bytes is =
    let long : length new.bytes ≡ length one.bytes + length more = rw bytes (rw length-append refl) in
    let lay : LiesIn range one = lies range one is in
    does_hold range new (omega (arith, first, lay.from)) (omega (arith, first, lay.to, long))

-- what is held stays so where bytes are added to the last chunk
pub held_more : (range : ByteRange) (closed : List RegionPart) (last new : Chunk) (more : List ℕ) → new.first ≡ last.first
    → new.bytes.items ≡ last.bytes.items ++ more → AreHeld closed last range → AreHeld closed new range
held_more range closed last new more first bytes is = λ some.
    first_more (holds range (part_of_chunk last)) (holds range (part_of_chunk new)) (list_any (holds range) closed)
    (holds_more range (part_of_chunk last) (part_of_chunk new) more first bytes) (is some)

-- and where another chunk follows
pub held_closed : (range : ByteRange) (closed : List RegionPart) (last new : Chunk) → AreHeld closed last range
    → AreHeld (closed ++ part_of_chunk last ∷ []) new range
held_closed range closed last new is = λ some.
    let one = part_of_chunk last in
    let both : list_any (holds range) (closed ++ one ∷ []) ≡ (list_any (holds range) closed || (holds range one || false)) =
    list_any-append (holds range) closed (one ∷ []) in
    by_second (holds range (part_of_chunk new)) (list_any (holds range) (closed ++ one ∷ []))
    (both ∙ turned (list_any (holds range) closed) (holds range one) (is some))

-- what lies in the last chunk is held
pub held_last : (range : ByteRange) (closed : List RegionPart) (last : Chunk) → last.first ≤ range.start
    → range.start + range.len ≤ last.first + length last.bytes.items → AreHeld closed last range
held_last range closed last from to = λ some.
    by_first (holds range (part_of_chunk last)) (list_any (holds range) closed) (does_hold range (part_of_chunk last) from to)

holds_part : (part whole : ByteRange) (one : RegionPart) → IsPart part whole → holds whole one ≡ true → holds part one ≡ true
holds_part part whole one part_of is =
    let lay : LiesIn whole one = lies whole one is in
    does_hold part one (omega (arith, part_of.from, lay.from)) (omega (arith, part_of.to, lay.to))

any_part : (part whole : ByteRange) (parts : List RegionPart) → IsPart part whole → list_any (holds whole) parts ≡ true → list_any (holds part) parts ≡ true
any_part part whole parts part_of is =
    let found = Any-from_list_any (holds whole) parts is in
    let one : holds whole (get_or parts found.0 found.1) ≡ true = ap (λ (one : RegionPart). holds whole one) found.3 ∙ found.4 in
    list_any_at (holds part) parts found.0 found.1 found.2 (holds_part part whole (get_or parts found.0 found.1) part_of one)

-- a part of what is held is held
pub held_part : (part whole : ByteRange) (closed : List RegionPart) (last : Chunk) → IsPart part whole → AreHeld closed last whole → AreHeld closed last part
held_part part whole closed last part_of is = λ some.
    let one = part_of_chunk last in
    elim (either_way (holds whole one) (list_any (holds whole) closed) (is (omega (arith, some, part_of.from, part_of.to)))) [
      | inl here ↦ by_first (holds part one) (list_any (holds part) closed) (holds_part part whole one part_of here)
      | inr there ↦ by_second (holds part one) (list_any (holds part) closed) (any_part part whole closed part_of there)
    ]

-- What is held in parts in order is found by where they begin

-- the parts begin one behind the other
pub firsts_rise : (parts : List RegionPart) → AllPairs EndsBefore parts → IsNonDecreasingBy (λ (one : RegionPart). one.first) parts
firsts_rise parts order i j d upto within =
    elim (cases_lt i j) [
      | inl less ↦
          (let ends : (get_or parts i d).first + length (get_or parts i d).bytes ≤ (get_or parts j d).first = order i j d less within in
          omega (arith, ends))
      | inr more ↦
          (let same : i ≡ j = omega (arith, upto, more) in
          let firsts : (get_or parts i d).first ≡ (get_or parts j d).first = ap (λ n. (get_or parts n d).first) same in
          omega (arith, firsts))
    ]

-- the part at an index has the range
record HasAt (range : ByteRange) (parts : List RegionPart) (k : ℕ) (one : RegionPart) : Type 0 where
  pub within : k < length parts
  pub same : get_or parts k one ≡ one
  pub lay : LiesIn range one

below : (parts : List RegionPart) (range : ByteRange) (count k : ℕ) (one : RegionPart) → HasAt range parts k one
    → AllWithin (λ (one : RegionPart). range.start < one.first) parts count (length parts) → k < count
below parts range count k one has behind =
    elim (cases_lt k count) [
      | inl less ↦ less
      | inr more ↦
          (let late : range.start < one.first = subst (λ (c : RegionPart). range.start < c.first) has.same (behind k one more has.within) in
          absurd (omega (arith, late, has.lay.from)))
    ]

last_of_them : (parts : List RegionPart) (range : ByteRange) (count k : ℕ) (one : RegionPart) → AllPairs EndsBefore parts → 0 < range.len
    → HasAt range parts k one → AllWithin (λ (one : RegionPart). one.first ≤ range.start) parts 0 count → count ≤ length parts → count ≤ k + 1
last_of_them parts range count k one order some has before few =
    elim (cases_lt (k + 1) count) [
      | inl less ↦
          (let next : (get_or parts (k + 1) one).first ≤ range.start = before (k + 1) one (omega arith) less in
          let ends : one.first + length one.bytes ≤ (get_or parts (k + 1) one).first =
          subst (λ (c : RegionPart). end_of c ≤ (get_or parts (k + 1) one).first) has.same
          (order k (k + 1) one (omega arith) (omega (arith, less, few))) in
          absurd (omega (arith, next, ends, has.lay.to, some)))
      | inr more ↦ more
    ]

-- the part before those that begin behind the range has it
pub record IsFoundThere (range : ByteRange) (parts : List RegionPart) (count : ℕ) : Type 0 where
  pub some : 0 < count
  pub within : count - 1 < length parts
  pub there : HoldsAt (λ (one : RegionPart). holds range one ≡ true) parts (count - 1)

pub found_before : (parts : List RegionPart) (range : ByteRange) (count : ℕ) → AllPairs EndsBefore parts → list_any (holds range) parts ≡ true
    → 0 < range.len → count ≤ length parts → AllWithin (λ (one : RegionPart). one.first ≤ range.start) parts 0 count
    → AllWithin (λ (one : RegionPart). range.start < one.first) parts count (length parts) → IsFoundThere range parts count
found_before parts range count order is some few before behind =
    let found = Any-from_list_any (holds range) parts is in
    let has : HasAt range parts found.0 found.1 = record { within = found.2; same = found.3; lay = lies range found.1 found.4 } in
    let low : found.0 < count = below parts range count found.0 found.1 has behind in
    let high : count ≤ found.0 + 1 = last_of_them parts range count found.0 found.1 order some has before few in
    let at_it : found.0 ≡ count - 1 = omega (arith, low, high) in
    let here : (d : RegionPart) → holds range (get_or parts found.0 d) ≡ true =
    λ d. subst (λ (c : RegionPart). holds range c ≡ true) (sym found.3 ∙ get_or_default parts found.0 found.1 d found.2) found.4 in
    record {
      some = omega (arith, low);
      within = omega (arith, low, few);
      there = subst (λ (n : ℕ). ((d : RegionPart) → holds range (get_or parts n d) ≡ true)) at_it here;
    }

-- Whether a range lies in parts in order is seen at the last of those that begin where it does or before

-- none begins so
pub none_begun : (parts : List RegionPart) (range : ByteRange) (count : ℕ) → AllPairs EndsBefore parts → 0 < range.len → count ≤ length parts
    → AllWithin (λ (one : RegionPart). one.first ≤ range.start) parts 0 count
    → AllWithin (λ (one : RegionPart). range.start < one.first) parts count (length parts) → count ≡ 0 → false ≡ list_any (holds range) parts
none_begun parts range count order some few before behind none =
    false_unless (list_any (holds range) parts)
    (λ held.
    let found : IsFoundThere range parts count = found_before parts range count order held some few before behind in
    omega (arith, none, found.some))

-- or one does
pub at_begun : (parts : List RegionPart) (range : ByteRange) (count : ℕ) (one : RegionPart) → AllPairs EndsBefore parts → 0 < range.len
    → count ≤ length parts → AllWithin (λ (one : RegionPart). one.first ≤ range.start) parts 0 count
    → AllWithin (λ (one : RegionPart). range.start < one.first) parts count (length parts) → 0 < count → one ≡ get_or parts (count - 1) one
    → holds range one ≡ list_any (holds range) parts
at_begun parts range count one order some few before behind begun same =
    alike (holds range one) (list_any (holds range) parts)
    (λ is. list_any_at (holds range) parts (count - 1) one (omega (arith, begun, few)) (ap (holds range) (sym same) ∙ is))
    (λ held.
    let found : IsFoundThere range parts count = found_before parts range count order held some few before behind in
    ap (holds range) same ∙ found.there one)
