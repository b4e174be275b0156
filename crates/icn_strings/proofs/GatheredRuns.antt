-- What is gathered in runs, as memory is given back.
use Rattle.std.proofs.Common.{inl, inr, ◌≡◌, ◌∙◌, ℕ, ◌+◌, ◌-◌, ◌<◌, ◌≤◌, max, Bool, true, false, ◌||◌, List, [], ◌∷◌, ◌++◌, length, take, drop, get_or}
use Rattle.std.proofs.Common.{refl, sym, ap, subst, arith, append-nil}
use Rattle.std.specs.List.{All, AllPairs, HoldsAt, list_any}
use Rattle.std.specs.List.Sorted.{IsNonDecreasingBy, IsPermutation}
use Rattle.std.proofs.lemmas.Bool.{cases_lt, true≢false}
use Rattle.std.proofs.lemmas.List.{drop_all, get_or_default, take_all, take_more}
use Rattle.std.proofs.lemmas.List.Elements.{All-push, All-weaker}
use Rattle.std.proofs.lemmas.List.Folds.{Any-from_list_any, list_any-append, list_any_at}
use Rattle.std.proofs.lemmas.List.Quantifiers.{all_pairs_push}
use Rattle.std.proofs.lemmas.List.Sorted.{All-permutation, IsPermutation-sym, sum_by-IsPermutation}
use Rattle.std.proofs.lemmas.List.Sums.{sum_by_more}
use Rattle.icn_strings.specs.declared.byte_range.ByteRange.{ByteRange}
use Rattle.icn_strings.specs.declared.chunk.Chunk.{Chunk}
use Rattle.icn_strings.specs.declared.region.Region.{Region}
use Rattle.icn_strings.specs.Parts.{RegionPart, part, holds, end_of, sizes, EndsBefore, HasItsPart, IsWhole}
use Rattle.icn_strings.specs.Chunks.{part_of_chunk, AreSoundChunks}
use Rattle.icn_strings.specs.KeptRuns.{AreGathered, AreKeptRuns, AreRunsBefore, IsGathered, IsJoined, IsKeptIn, IsPutBehind, IsTaken}
use Rattle.icn_strings.specs.Ranges.{IsPart, total_length}
use Rattle.icn_strings.specs.Regions.{bytes_of, IsHeld, IsOf}
use Rattle.icn_strings.proofs.ChunkSizes.{sizes_more}
use Rattle.icn_strings.proofs.HeldRanges.{LiesIn, lies, does_hold, either_way, by_first, by_second}
use Rattle.icn_strings.proofs.KeptRegions.{bytes_are, lies_within}

-- Two ranges that share a byte lie in one part, since parts are in order

-- the second begins within the first, and both have bytes
pub record IsOverlap (a b both : ByteRange) : Type 0 where
  pub first : 0 < a.len
  pub second : 0 < b.len
  pub from : a.start ≤ b.start
  pub to : b.start < a.start + a.len
  pub start : both.start ≡ a.start
  pub ending : both.start + both.len ≡ max (a.start + a.len) (b.start + b.len)

in_one_chunk : (a b both : ByteRange) (one : RegionPart) → IsOverlap a b both → holds a one ≡ true → holds b one ≡ true → holds both one ≡ true
in_one_chunk a b both one is first second =
    let lay : LiesIn a one = lies a one first in
    let also : LiesIn b one = lies b one second in
    does_hold both one (omega (arith, is.start, lay.from)) (omega (arith, is.ending, lay.to, also.to))

-- the part of the one does not end before that of the other
not_before : (a b both : ByteRange) (one other : RegionPart) → IsOverlap a b both → holds a one ≡ true → holds b other ≡ true → EndsBefore one other
    → ⊥
not_before a b both one other is first second ends =
    let lay : LiesIn a one = lies a one first in
    let also : LiesIn b other = lies b other second in
    let apart : one.first + length one.bytes ≤ other.first = ends in
    omega (arith, is.to, lay.to, also.from, apart)

not_behind : (a b both : ByteRange) (one other : RegionPart) → IsOverlap a b both → holds a one ≡ true → holds b other ≡ true → EndsBefore other one
    → ⊥
not_behind a b both one other is first second ends =
    let lay : LiesIn a one = lies a one first in
    let also : LiesIn b other = lies b other second in
    let apart : other.first + length other.bytes ≤ one.first = ends in
    omega (arith, is.from, is.second, lay.from, also.to, apart)

-- an item of a list, by its index
at_index : (p : RegionPart → Bool) (parts : List RegionPart) (i : ℕ) (d e : RegionPart) → i < length parts → get_or parts i d ≡ d → p d ≡ true
    → p (get_or parts i e) ≡ true
at_index p parts i d e within same is = ap p (sym (get_or_default parts i d e within) ∙ same) ∙ is

among_closed : (closed : List RegionPart) (a b both : ByteRange) → AllPairs EndsBefore closed → IsOverlap a b both → list_any (holds a) closed ≡ true
    → list_any (holds b) closed ≡ true → list_any (holds both) closed ≡ true
among_closed closed a b both order is first second =
    let one = Any-from_list_any (holds a) closed first in
    let other = Any-from_list_any (holds b) closed second in
    let d : RegionPart = one.1 in
    let has : holds a (get_or closed one.0 d) ≡ true = ap (λ (one : RegionPart). holds a one) one.3 ∙ one.4 in
    let also : holds b (get_or closed other.0 d) ≡ true = at_index (holds b) closed other.0 other.1 d other.2 other.3 other.4 in
    elim (cases_lt one.0 other.0) [
      | inl less ↦
          absurd (not_before a b both (get_or closed one.0 d) (get_or closed other.0 d) is has also (order one.0 other.0 d less other.2))
      | inr more ↦
          elim (cases_lt other.0 one.0) [
            | inl less ↦
                absurd (not_behind a b both (get_or closed one.0 d) (get_or closed other.0 d) is has also (order other.0 one.0 d less one.2))
            | inr same ↦
                (let at : other.0 ≡ one.0 = omega (arith, more, same) in
                let here : holds b (get_or closed one.0 d) ≡ true = subst (λ (n : ℕ). holds b (get_or closed n d) ≡ true) at also in
                list_any_at (holds both) closed one.0 d one.2 (in_one_chunk a b both (get_or closed one.0 d) is has here))
          ]
    ]

in_closed_and_last : (closed : List RegionPart) (last : RegionPart) (a b both : ByteRange) → All (λ one. EndsBefore one last) closed → IsOverlap a b both
    → list_any (holds a) closed ≡ true → holds b last ≡ true → ⊥
in_closed_and_last closed last a b both before is first second =
    let one = Any-from_list_any (holds a) closed first in
    not_before a b both (get_or closed one.0 one.1) last is (ap (λ (one : RegionPart). holds a one) one.3 ∙ one.4) second (before one.0 one.1 one.2)

in_last_and_closed : (closed : List RegionPart) (last : RegionPart) (a b both : ByteRange) → All (λ one. EndsBefore one last) closed → IsOverlap a b both
    → holds a last ≡ true → list_any (holds b) closed ≡ true → ⊥
in_last_and_closed closed last a b both before is first second =
    let other = Any-from_list_any (holds b) closed second in
    not_behind a b both last (get_or closed other.0 other.1) is first (ap (λ (one : RegionPart). holds b one) other.3 ∙ other.4) (before other.0 other.1 other.2)

both_held : (closed : List RegionPart) (last : RegionPart) (a b both : ByteRange) → AllPairs EndsBefore closed → All (λ one. EndsBefore one last) closed
    → IsOverlap a b both → (holds a last || list_any (holds a) closed) ≡ true → (holds b last || list_any (holds b) closed) ≡ true
    → (holds both last || list_any (holds both) closed) ≡ true
both_held closed last a b both order before is first second =
    elim (either_way (holds a last) (list_any (holds a) closed) first) [
      | inl here ↦
          elim (either_way (holds b last) (list_any (holds b) closed) second) [
            | inl also ↦ by_first (holds both last) (list_any (holds both) closed) (in_one_chunk a b both last is here also)
            | inr there ↦ absurd (in_last_and_closed closed last a b both before is here there)
          ]
      | inr there ↦
          elim (either_way (holds b last) (list_any (holds b) closed) second) [
            | inl here ↦ absurd (in_closed_and_last closed last a b both before is there here)
            | inr also ↦ by_second (holds both last) (list_any (holds both) closed) (among_closed closed a b both order is there also)
          ]
    ]

-- so both together are of the region
pub overlap_is_of : (region : Region) (a b both : ByteRange) → IsOverlap a b both → IsOf region a → IsOf region b → IsOf region both
unfolding IsHeld
overlap_is_of region a b both is first second = record {
  held = λ some.
      both_held region.closed (part_of_chunk region.last) a b both region.sound.order region.sound.before is (first.held is.first) (second.held is.second);
}

-- A run with a range that begins in it or right behind it

pub joined_of : (region : Region) (run range both : ByteRange) (to : ℕ) → run.start ≤ range.start → range.start ≤ run.start + run.len
    → to ≡ max (run.start + run.len) (range.start + range.len) → both.start ≡ run.start → both.len ≡ to - run.start → IsOf region both
    → IsJoined region run range both
joined_of region run range both to begins next max_is start len is = record {
  of = is;
  start = start;
  has_run = record { from = omega (arith, start); to = omega (arith, start, len, max_is) };
  has_range = record { from = omega (arith, start, begins); to = omega (arith, start, len, max_is, begins) };
  few = omega (arith, len, max_is, next, begins);
}

pub overlap_of : (run range both : ByteRange) (to : ℕ) → 0 < range.len → run.start ≤ range.start → range.start < run.start + run.len
    → to ≡ max (run.start + run.len) (range.start + range.len) → both.start ≡ run.start → both.len ≡ to - run.start → IsOverlap run range both
overlap_of run range both to some begins within max_is start len = record {
  first = omega (arith, begins, within);
  second = some;
  from = begins;
  to = within;
  start = start;
  ending = omega (arith, start, len, max_is);
}

-- A run becomes a part

-- a part of the bytes of a range has its part of all bytes
has_run : (region : Region) (run : ByteRange) (one : RegionPart) → IsOf region run → 0 < run.len → one.first ≡ run.start
    → one.bytes ≡ bytes_of region run → HasItsPart region.written.bytes one
unfolding bytes_of
has_run region run one is some first bytes =
    let long : length one.bytes ≡ run.len = ap (λ (ys : List ℕ). length ys) bytes ∙ bytes_are region run is in
    let ends : one.first + length one.bytes ≤ length region.written.bytes = omega (arith, long, first, lies_within region run is some) in
    record {
      within = ends;
      bytes =
          bytes
          ∙ (ap (λ n. take n (drop run.start region.written.bytes)) (sym long)
          ∙ ap (λ at. take (length one.bytes) (drop at region.written.bytes)) (sym first));
    }

at_most : (a n m : ℕ) → a ≤ n → n ≤ m → a ≤ m
at_most a n m first second = omega (arith, first, second)

-- the parts are in order with it
runs_more : (all : List ℕ) (parts : List RegionPart) (new : RegionPart) (start len : ℕ) → AreRunsBefore all parts start → new.first ≡ start
    → length new.bytes ≡ len → HasItsPart all new → AreRunsBefore all (parts ++ new ∷ []) (start + len)
runs_more all parts new start len are first long part =
    let ends : new.first + length new.bytes ≤ start + len = omega (arith, first, long) in
    record {
      agree = All-push (HasItsPart all) parts new are.agree part;
      order =
          all_pairs_push EndsBefore parts new are.order
          (λ k d within. subst (λ n. end_of (get_or parts k d) ≤ n) (sym first) (are.before k d within));
      before =
          All-push (λ one. end_of one ≤ start + len) parts new
          (All-weaker (λ one. end_of one ≤ start) (λ one. end_of one ≤ start + len)
          (λ one less. at_most (end_of one) start (start + len) less (omega arith)) parts are.before) ends;
    }

-- they end before each later place
runs_later : (all : List ℕ) (parts : List RegionPart) (place later : ℕ) → place ≤ later → AreRunsBefore all parts place
    → AreRunsBefore all parts later
runs_later all parts place later less are = record {
  agree = are.agree;
  order = are.order;
  before =
      All-weaker (λ one. end_of one ≤ place) (λ one. end_of one ≤ later) (λ one ends. at_most (end_of one) place later ends less) parts
      are.before;
}

no_runs : (all : List ℕ) (parts : List RegionPart) (place : ℕ) → parts ≡ [] → AreRunsBefore all parts place
no_runs all parts place none =
    subst (λ (cs : List RegionPart). AreRunsBefore all cs place) (sym none)
    (record {
      agree = λ k d within. absurd (omega (arith, within));
      order = λ i j d less within. absurd (omega (arith, within));
      before = λ k d within. absurd (omega (arith, within));
    })

-- all parts end within all bytes
runs_within : (all : List ℕ) (parts : List RegionPart) (place : ℕ) → AreRunsBefore all parts place → AreRunsBefore all parts (length all)
runs_within all parts place are = record {
  agree = are.agree;
  order = are.order;
  before = All-weaker (HasItsPart all) (λ one. end_of one ≤ length all) (λ one part. part.within) parts are.agree;
}

-- the parts of a region that has these runs, and behind them an empty chunk
pub sound_swept : (all : List ℕ) (old closed : List RegionPart) (before last : Chunk) (sum limit : ℕ) → AreSoundChunks all old before sum limit
    → AreRunsBefore all closed (length all) → last.first ≡ length all → last.bytes.items ≡ [] → AreSoundChunks all closed last sum limit
sound_swept all old closed before last sum limit is runs first none = record {
  agree = runs.agree;
  order = runs.order;
  before =
      All-weaker (λ (one : RegionPart). end_of one ≤ length all) (λ (one : RegionPart). end_of one ≤ last.first)
      (λ one ends. subst (λ n. end_of one ≤ n) (sym first) ends) closed runs.before;
  ends = record { from = omega (arith, first); bytes = none ∙ sym (drop_all last.first all (omega (arith, first))) };
  short = is.short;
  within = is.within;
}

-- what is kept in them is of the region
pub kept_is_of : (region : Region) (ranges : List ByteRange) → All (IsKeptIn region.closed) ranges → All (IsOf region) ranges
unfolding IsHeld
kept_is_of region ranges are =
    All-weaker (IsKeptIn region.closed) (IsOf region)
    (λ range is. record { held = λ some. by_second (holds range (part_of_chunk region.last)) (list_any (holds range) region.closed) (is some) }) ranges are

-- so is what lies in the last chunk, or in one of the parts
pub last_is_of : (region : Region) (range : ByteRange) → holds range (part_of_chunk region.last) ≡ true → IsOf region range
unfolding IsHeld
last_is_of region range is = record {
  held = λ some. by_first (holds range (part_of_chunk region.last)) (list_any (holds range) region.closed) is;
}

pub closed_is_of : (region : Region) (range : ByteRange) → list_any (holds range) region.closed ≡ true → IsOf region range
unfolding IsHeld
closed_is_of region range is = record {
  held = λ some. by_second (holds range (part_of_chunk region.last)) (list_any (holds range) region.closed) is;
}

-- What is gathered is kept

or_else : (a b : Bool) → (a ≡ false → b ≡ true) → (a || (b || false)) ≡ true
or_else true b is = refl
or_else false b is = ap (λ c. c || false) (is refl)

true_unless : (a : Bool) → (a ≡ false → ⊥) → a ≡ true
true_unless true is = refl
true_unless false is = absurd (is refl)

-- once the run is a part
gathered_kept : (range run : ByteRange) (parts : List RegionPart) (new : RegionPart) → new.first ≡ run.start → length new.bytes ≡ run.len
    → IsGathered parts run range → IsKeptIn (parts ++ new ∷ []) range
gathered_kept range run parts new first long is = λ some.
    list_any-append (holds range) parts (new ∷ [])
    ∙ or_else (list_any (holds range) parts) (holds range new)
    (λ off.
    let part : IsPart range run = is some off in
    does_hold range new (omega (arith, first, part.from)) (omega (arith, first, long, part.to)))

-- a run of no bytes has nothing
gathered_without : (range run : ByteRange) (parts : List RegionPart) → run.len ≡ 0 → IsGathered parts run range → IsKeptIn parts range
gathered_without range run parts none is = λ some.
    true_unless (list_any (holds range) parts)
    (λ off.
    let part : IsPart range run = is some off in
    omega (arith, none, some, part.from, part.to))

-- what is kept is gathered, whatever run is next
kept_gathered : (range run : ByteRange) (parts : List RegionPart) → IsKeptIn parts range → IsGathered parts run range
kept_gathered range run parts is = λ some off. absurd (true≢false (sym (is some) ∙ off))

part_then : {one two three : ByteRange} → IsPart one two → IsPart two three → IsPart one three
part_then first second = record { from = omega (arith, first.from, second.from); to = omega (arith, first.to, second.to) }

-- what is gathered with a run is so with a longer one
gathered_longer : (range run both : ByteRange) (parts : List RegionPart) → IsPart run both → IsGathered parts run range → IsGathered parts both range
gathered_longer range run both parts part is = λ some off. part_then (is some off) part

-- and what lies in the run
part_gathered : (range run : ByteRange) (parts : List RegionPart) → IsPart range run → IsGathered parts run range
part_gathered range run parts part = λ some off. part

-- the range of no bytes
none_gathered : (range run : ByteRange) (parts : List RegionPart) → range.len ≡ 0 → IsGathered parts run range
none_gathered range run parts none = λ some off. absurd (omega (arith, none, some))

-- A run that is kept, and a range that is taken in

-- the run is a part behind the others
pub put_behind : (region : Region) (before after : List RegionPart) (run : ByteRange) (new : RegionPart) → IsOf region run → 0 < run.len → new.first ≡ run.start
    → new.bytes ≡ bytes_of region run → after ≡ before ++ new ∷ [] → IsPutBehind region before after run
put_behind region before after run new is some first bytes behind =
    let long : length new.bytes ≡ run.len = ap (λ (ys : List ℕ). length ys) bytes ∙ bytes_are region run is in
    subst (λ (cs : List RegionPart). IsPutBehind region before cs run) (sym behind)
    (record {
      runs = λ are. runs_more region.written.bytes before new run.start run.len are first long (has_run region run new is some first bytes);
      kept = λ range gathered. gathered_kept range run before new first long gathered;
      few = sizes_more before new run.len long;
    })

-- it is so already, where it is the next of those that the region holds
pub put_again : (region : Region) (same : ℕ) (fresh : List RegionPart) (run : ByteRange) → IsOf region run → 0 < run.len → fresh ≡ []
    → same < length region.closed
    → HoldsAt (IsWhole run) region.closed same
    → IsPutBehind region (take same region.closed ++ fresh) (take (same + 1) region.closed ++ fresh) run
unfolding bytes_of
put_again region same fresh run is some none within whole =
    let closed = region.closed in
    let all = region.written.bytes in
    let new : RegionPart = get_or closed same (part 0 []) in
    let here = whole (part 0 []) in
    let agrees : HasItsPart all new = region.sound.agree same (part 0 []) within in
    let bytes : new.bytes ≡ take run.len (drop run.start all) =
    agrees.bytes
    ∙ (ap (λ n. take n (drop new.first all)) here.len
    ∙ ap (λ at. take run.len (drop at all)) here.first) in
    let more : take (same + 1) closed ++ fresh ≡ (take same closed ++ fresh) ++ new ∷ [] =
    ap (λ (parts : List RegionPart). take (same + 1) closed ++ parts) none
    ∙ (append-nil (take (same + 1) closed)
    ∙ (take_more closed same (part 0 []) within
    ∙ ap (λ (parts : List RegionPart). parts ++ new ∷ []) (sym (append-nil (take same closed)) ∙ ap (λ (parts : List RegionPart). take same closed ++ parts) (sym none)))) in
    put_behind region (take same closed ++ fresh) (take (same + 1) closed ++ fresh) run new is some here.first bytes more

-- one of no bytes is nowhere
pub put_nowhere : (region : Region) (before : List RegionPart) (run : ByteRange) → run.len ≡ 0 → IsPutBehind region before before run
put_nowhere region before run none = record {
  runs = λ are. runs_later region.written.bytes before run.start (run.start + run.len) (omega arith) are;
  kept = λ range gathered. gathered_without range run before none gathered;
  few = omega (arith, none);
}

-- a range of no bytes
pub taken_nowhere : (region : Region) (before : List RegionPart) (run range : ByteRange) → IsOf region run → run.start ≤ range.start → range.len ≡ 0
    → IsTaken region before before run range run
taken_nowhere region before run range is begins none = record {
  of = is;
  from = begins;
  runs = λ are. are;
  gathered = λ other gathered. gathered;
  taken = none_gathered range run before none;
  few = omega (arith, none);
}

-- a range that goes on where the run is
pub taken_with : (region : Region) (before : List RegionPart) (run range both : ByteRange) → run.start ≤ range.start → IsJoined region run range both
    → IsTaken region before before run range both
taken_with region before run range both begins joined = record {
  of = joined.of;
  from = omega (arith, joined.start, begins);
  runs = λ are. runs_later region.written.bytes before run.start both.start (omega (arith, joined.start)) are;
  gathered = λ other gathered. gathered_longer other run both before joined.has_run gathered;
  taken = part_gathered range both before joined.has_range;
  few = omega (arith, joined.few);
}

-- a range that begins the next run
pub taken_next : (region : Region) (before after : List RegionPart) (run range : ByteRange) → IsOf region range → run.start + run.len ≤ range.start
    → IsPutBehind region before after run → IsTaken region before after run range range
taken_next region before after run range is apart put = record {
  of = is;
  from = omega arith;
  runs = λ are. runs_later region.written.bytes after (run.start + run.len) range.start apart (put.runs are);
  gathered = λ other gathered. kept_gathered other range after (put.kept other gathered);
  taken = part_gathered range range after (record { from = omega arith; to = omega arith });
  few = omega (arith, put.few);
}

-- What holds of each item so far, and of the next one

each_more : {X : Type 0} (P : X → Type 0) (xs : List X) (i : ℕ) (e : X) → i < length xs → ((k : ℕ) (d : X) → k < i → P (get_or xs k d))
    → P (get_or xs i e) → (k : ℕ) (d : X) → k < i + 1 → P (get_or xs k d)
each_more P xs i e within before is k d below =
    elim (cases_lt k i) [
      | inl less ↦ before k d less
      | inr more ↦
          (let at : i ≡ k = omega arith in
          subst P (get_or_default xs i e d within ∙ ap (λ n. get_or xs n d) at) is)
    ]

-- Ranges in the order of their starts, one after the other

-- a range of no bytes is of each region
none_is_of : (region : Region) (range : ByteRange) → range.len ≡ 0 → IsOf region range
unfolding IsHeld
none_is_of region range none = record { held = λ some. absurd (omega (arith, none, some)) }

-- what begins before one begins before all behind it
begins_before : (ranges : List ByteRange) (i : ℕ) (e : ByteRange) (start : ℕ) → IsNonDecreasingBy (λ (range : ByteRange). range.start) ranges
    → i < length ranges → start ≤ (get_or ranges i e).start → (k : ℕ) (d : ByteRange) → i + 1 ≤ k → k < length ranges
    → start ≤ (get_or ranges k d).start
begins_before ranges i e start order there first k d upto within =
    let same : (get_or ranges i e).start ≡ (get_or ranges i d).start = ap (λ (range : ByteRange). range.start) (get_or_default ranges i e d there) in
    let rise : (get_or ranges i d).start ≤ (get_or ranges k d).start = order i k d (omega (arith, upto)) within in
    omega (arith, first, same, rise)

-- none is gathered yet
pub gathered_none : (region : Region) (ranges : List ByteRange) (parts : List RegionPart) (run : ByteRange) → parts ≡ [] → run.start ≡ 0 → run.len ≡ 0
    → AreGathered region ranges 0 parts run
gathered_none region ranges parts run none start len =
    let no_size : sizes parts ≡ 0 = ap (λ (cs : List RegionPart). sizes cs) none in
    record {
      of = none_is_of region run len;
      from = λ k d upto within. omega (arith, start);
      runs = no_runs region.written.bytes parts run.start none;
      gathered = λ k d below. absurd (omega (arith, below));
      few = omega (arith, no_size, len);
    }

-- one more is
pub gathered_next : (region : Region) (ranges : List ByteRange) (i : ℕ) (e : ByteRange) (before after : List RegionPart) (run next : ByteRange)
    → IsNonDecreasingBy (λ (range : ByteRange). range.start) ranges → i < length ranges → AreGathered region ranges i before run
    → IsTaken region before after run (get_or ranges i e) next → AreGathered region ranges (i + 1) after next
gathered_next region ranges i e before after run next order within are taken = record {
  of = taken.of;
  from = begins_before ranges i e next.start order within taken.from;
  runs = taken.runs are.runs;
  gathered =
      each_more (λ range. IsGathered after next range) ranges i e within
      (λ k d below. taken.gathered (get_or ranges k d) (are.gathered k d below)) taken.taken;
  few = omega (arith, taken.few, are.few, sum_by_more (λ (range : ByteRange). range.len) ranges i e within);
}

-- all are, and the last run is a part too
pub gathered_all : (region : Region) (ranges : List ByteRange) (i : ℕ) (before after : List RegionPart) (run : ByteRange) → length ranges ≤ i
    → AreGathered region ranges i before run → IsPutBehind region before after run → AreKeptRuns region ranges after
gathered_all region ranges i before after run end are put =
    let whole : total_length (take i ranges) ≡ total_length ranges = ap (λ rs. total_length rs) (take_all i ranges end) in
    record {
      runs = runs_within region.written.bytes after (run.start + run.len) (put.runs are.runs);
      kept = λ k d within. put.kept (get_or ranges k d) (are.gathered k d (omega (arith, within, end)));
      few = omega (arith, put.few, are.few, whole);
    }

-- in whatever order they come
pub kept_permuted : (region : Region) (ranges sorted : List ByteRange) (parts : List RegionPart) → IsPermutation ranges sorted
    → AreKeptRuns region sorted parts → AreKeptRuns region ranges parts
kept_permuted region ranges sorted parts moved are = record {
  runs = are.runs;
  kept = All-permutation (IsKeptIn parts) sorted ranges (IsPermutation-sym ranges sorted moved) are.kept;
  few = omega (arith, are.few, sum_by-IsPermutation (λ (range : ByteRange). range.len) ranges sorted moved);
}
