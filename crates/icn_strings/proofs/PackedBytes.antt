-- Runs in one block, as they come and are looked for.
use Rattle.std.proofs.Common.{◌≡◌, ◌∙◌, refl, sym, ap, subst, ℕ, ◌+◌, ◌-◌, ◌<◌, ◌≤◌, Bool, true, false, nat_le, ◌&&◌, List, [], ◌∷◌, ◌++◌, length, take, drop, get_or, if◌then◌else◌, arith, drop_at, length-append, take_at}
use Rattle.std.specs.List.{All, AllPairs, AllWithin, list_any, sum_by}
use Rattle.std.specs.List.Sorted.{IsNonDecreasingBy}
use Rattle.std.proofs.lemmas.List.{drop-append-le, drop-drop, drop-take, get_or-map, length-drop, length-map, length-take-le, map_push, take-append-le, take-take, take_all}
use Rattle.std.proofs.lemmas.List.Sums.{sum_by-cons, sum_by_push}
use Rattle.std.proofs.lemmas.List.Elements.{All-get_or, All-head, All-nil, All-push, All-tail, All-weaker}
use Rattle.icn_strings.specs.declared.packed.PackedRun.{PackedRun}
use Rattle.icn_strings.specs.Parts.{EndsBefore, HasItsPart, RegionPart, holds, part, sizes}
use Rattle.icn_strings.specs.PackedRuns.{AreLaid, IsWithin, LieInRow, part_of, parts_of, run_holds, run_sizes}
use Rattle.icn_strings.specs.declared.byte_range.ByteRange.{ByteRange}
use Rattle.icn_strings.proofs.HeldRanges.{IsFoundThere, LiesIn, at_begun, found_before, lies, none_begun}

no_run : PackedRun
no_run = record { first = 0; at = 0; len = 0 }

-- a list of no length is empty
pub no_items : {X : Type 0} (xs : List X) → length xs ≡ 0 → xs ≡ []
no_items [] none = refl
no_items (x ∷ xs) none = absurd (omega (arith, none))

-- Runs that lie one right behind the other

pub row_more : (from : ℕ) (runs : List PackedRun) (new : PackedRun) → LieInRow from runs → new.at ≡ from + run_sizes runs → LieInRow from (runs ++ new ∷ [])
row_more from [] new row is =
    let none : run_sizes [] ≡ 0 = refl in
    let at : new.at ≡ from = omega (arith, is, none) in
    (at, tt)
row_more from (run ∷ runs) new row is =
    let all : run_sizes (run ∷ runs) ≡ run.len + run_sizes runs = sum_by-cons (λ (one : PackedRun). one.len) run runs in
    (row.0, row_more (from + run.len) runs new row.1 (omega (arith, is, all)))

-- what lies within a block is the same where bytes come behind it
same_part : (bytes more : List ℕ) (run : PackedRun) → IsWithin bytes run → part_of (bytes ++ more) run ≡ part_of bytes run
same_part bytes more run within =
    let front : run.at ≤ length bytes = omega (arith, within) in
    let long = length-drop run.at bytes in
    let low : run.len ≤ length (drop run.at bytes) = omega (arith, long, within) in
    ap (λ (xs : List ℕ). part run.first (take run.len xs)) (drop-append-le run.at bytes more front)
    ∙ ap (part run.first) (take-append-le run.len (drop run.at bytes) more low)

pub same_parts : (bytes more : List ℕ) (runs : List PackedRun) → All (IsWithin bytes) runs → parts_of (bytes ++ more) runs ≡ parts_of bytes runs
same_parts bytes more [] are = refl
same_parts bytes more (run ∷ runs) are =
    ap (λ (one : RegionPart). one ∷ parts_of (bytes ++ more) runs) (same_part bytes more run (All-head (IsWithin bytes) run runs are))
    ∙ ap (λ (some : List RegionPart). part_of bytes run ∷ some) (same_parts bytes more runs (All-tail (IsWithin bytes) run runs are))

-- the parts have as many bytes as the runs say
pub sizes_are : (bytes : List ℕ) (runs : List PackedRun) → All (IsWithin bytes) runs → sizes (parts_of bytes runs) ≡ sum_by (λ (run : PackedRun). run.len) runs
sizes_are bytes [] are = refl
sizes_are bytes (run ∷ runs) are =
    let within : run.at + run.len ≤ length bytes = All-head (IsWithin bytes) run runs are in
    let behind = length-drop run.at bytes in
    let one : length (take run.len (drop run.at bytes)) ≡ run.len = length-take-le run.len (drop run.at bytes) (omega (arith, within, behind)) in
    let rest = sizes_are bytes runs (All-tail (IsWithin bytes) run runs are) in
    let parts : sizes (parts_of bytes (run ∷ runs)) ≡ length (take run.len (drop run.at bytes)) + sizes (parts_of bytes runs) =
    sum_by-cons (λ (some : RegionPart). length some.bytes) (part_of bytes run) (parts_of bytes runs) in
    let all : sum_by (λ (some : PackedRun). some.len) (run ∷ runs) ≡ run.len + sum_by (λ (some : PackedRun). some.len) runs =
    sum_by-cons (λ (some : PackedRun). some.len) run runs in
    omega (arith, one, rest, parts, all)

-- they have as many as the block
pub size_is : (bytes : List ℕ) (runs : List PackedRun) (now : List RegionPart) → AreLaid bytes runs → parts_of bytes runs ≡ now → sizes now ≡ length bytes
size_is bytes runs now laid view = sym (ap (λ (parts : List RegionPart). sizes parts) view) ∙ (sizes_are bytes runs laid.within ∙ laid.full)

pub laid_none : (bytes : List ℕ) (runs : List PackedRun) → bytes ≡ [] → runs ≡ [] → AreLaid bytes runs
laid_none bytes runs no_bytes no_runs = rw (no_bytes, no_runs) (record { within = All-nil (IsWithin []); full = refl; row = tt })

-- one run more

pub parts_more : (bytes more : List ℕ) (runs : List PackedRun) (first at len : ℕ) → All (IsWithin bytes) runs → at ≡ length bytes → len ≡ length more
    → parts_of (bytes ++ more) (runs ++ record { first = first; at = at; len = len } ∷ []) ≡ parts_of bytes runs ++ part first more ∷ []
parts_more bytes more runs first at len are at_is len_is =
    let run : PackedRun = record { first = first; at = at; len = len } in
    let here : take len (drop at (bytes ++ more)) ≡ more = ap (take len) (drop_at bytes more at (sym at_is)) ∙ take_all len more (omega (arith, len_is)) in
    map_push (part_of (bytes ++ more)) runs run
    ∙ (ap (λ (some : List RegionPart). some ++ part_of (bytes ++ more) run ∷ []) (same_parts bytes more runs are)
    ∙ ap (λ (xs : List ℕ). parts_of bytes runs ++ part first xs ∷ []) here)

pub laid_more : (bytes more : List ℕ) (runs : List PackedRun) (first at len : ℕ) → AreLaid bytes runs → at ≡ length bytes → len ≡ length more
    → AreLaid (bytes ++ more) (runs ++ record { first = first; at = at; len = len } ∷ [])
laid_more bytes more runs first at len laid at_is len_is =
    let run : PackedRun = record { first = first; at = at; len = len } in
    let long = length-append bytes more in
    let all = sum_by_push (λ (some : PackedRun). some.len) runs run in
    let full = laid.full in
    record {
      within = All-push (IsWithin (bytes ++ more)) runs run
          (All-weaker (IsWithin bytes) (IsWithin (bytes ++ more)) (λ some is. omega (arith, long, is)) runs laid.within)
          (omega (arith, long, at_is, len_is));
      full = omega (arith, long, all, full, len_is);
      row = row_more 0 runs run laid.row (omega (arith, at_is, full));
    }

-- where runs begin, their parts do

first_at : (bytes : List ℕ) (runs : List PackedRun) (k : ℕ) (d : RegionPart) (e : PackedRun) → k < length runs
    → (get_or (parts_of bytes runs) k d).first ≡ (get_or runs k e).first
first_at bytes runs k d e within = ap (λ (one : RegionPart). one.first) (get_or-map (part_of bytes) runs k e d within)

pub runs_rise : (bytes : List ℕ) (runs : List PackedRun) → IsNonDecreasingBy (λ (one : RegionPart). one.first) (parts_of bytes runs)
    → IsNonDecreasingBy (λ (run : PackedRun). run.first) runs
runs_rise bytes runs rise i j d upto within =
    let long = length-map runs (part_of bytes) in
    let order = rise i j (part_of bytes d) upto (omega (arith, within, long)) in
    let one = first_at bytes runs i (part_of bytes d) d (omega (arith, upto, within)) in
    let other = first_at bytes runs j (part_of bytes d) d within in
    omega (arith, order, one, other)

pub parts_before : (bytes : List ℕ) (runs : List PackedRun) (start count : ℕ) → count ≤ length runs
    → AllWithin (λ (run : PackedRun). run.first ≤ start) runs 0 count
    → AllWithin (λ (one : RegionPart). one.first ≤ start) (parts_of bytes runs) 0 count
parts_before bytes runs start count few before k d from to =
    let run = before k no_run from to in
    let one = first_at bytes runs k d no_run (omega (arith, to, few)) in
    omega (arith, run, one)

pub parts_behind : (bytes : List ℕ) (runs : List PackedRun) (start count : ℕ)
    → AllWithin (λ (run : PackedRun). start < run.first) runs count (length runs)
    → AllWithin (λ (one : RegionPart). start < one.first) (parts_of bytes runs) count (length (parts_of bytes runs))
parts_behind bytes runs start count behind k d from to =
    let long = length-map runs (part_of bytes) in
    let within : k < length runs = omega (arith, to, long) in
    let run = behind k no_run from within in
    let one = first_at bytes runs k d no_run within in
    omega (arith, run, one)

-- What is looked for

pub part_long : (bytes : List ℕ) (run : PackedRun) → IsWithin bytes run → length (take run.len (drop run.at bytes)) ≡ run.len
part_long bytes run within =
    let behind = length-drop run.at bytes in
    length-take-le run.len (drop run.at bytes) (omega (arith, within, behind))

holds_same : (range : ByteRange) (bytes : List ℕ) (run : PackedRun) → IsWithin bytes run → run_holds range run ≡ holds range (part_of bytes run)
holds_same range bytes run within =
    ap (λ (n : ℕ). nat_le run.first range.start && nat_le (range.start + range.len) (run.first + n)) (sym (part_long bytes run within))

-- a run in which a range lies
pub record IsRunOf (range : ByteRange) (bytes : List ℕ) (run : PackedRun) : Type 0 where
  pub from : run.first ≤ range.start
  pub to : range.start + range.len ≤ run.first + run.len
  pub within : run.at + run.len ≤ length bytes
  pub held : holds range (part_of bytes run) ≡ true

module _ (range : ByteRange) (bytes : List ℕ) (runs : List PackedRun) (count : ℕ) (laid : AreLaid bytes runs) (order : AllPairs EndsBefore (parts_of bytes runs))
    (some : 0 < range.len) (few : count ≤ length runs) (before : AllWithin (λ (run : PackedRun). run.first ≤ range.start) runs 0 count)
    (behind : AllWithin (λ (run : PackedRun). range.start < run.first) runs count (length runs)) where
  few_parts : count ≤ length (parts_of bytes runs)
  few_parts = let long = length-map runs (part_of bytes) in omega (arith, few, long)

  pub none_there : count ≡ 0 → false ≡ list_any (holds range) (parts_of bytes runs)
  none_there = none_begun (parts_of bytes runs) range count order some few_parts (parts_before bytes runs range.start count few before)
      (parts_behind bytes runs range.start count behind)

  run_at : (run : PackedRun) → 0 < count → run ≡ get_or runs (count - 1) run → part_of bytes run ≡ get_or (parts_of bytes runs) (count - 1) (part_of bytes run)
  run_at run begun is = ap (part_of bytes) is ∙ sym (get_or-map (part_of bytes) runs (count - 1) run (part_of bytes run) (omega (arith, begun, few)))

  run_within : (run : PackedRun) → 0 < count → run ≡ get_or runs (count - 1) run → run.at + run.len ≤ length bytes
  run_within run begun is =
      subst (λ (one : PackedRun). one.at + one.len ≤ length bytes) (sym is) (All-get_or (IsWithin bytes) runs (count - 1) run (omega (arith, begun, few)) laid.within)

  pub held_there : (run : PackedRun) → 0 < count → run ≡ get_or runs (count - 1) run → run_holds range run ≡ list_any (holds range) (parts_of bytes runs)
  held_there run begun is =
      holds_same range bytes run (run_within run begun is)
      ∙ at_begun (parts_of bytes runs) range count (part_of bytes run) order some few_parts (parts_before bytes runs range.start count few before)
      (parts_behind bytes runs range.start count behind) begun (run_at run begun is)

  pub found_there : list_any (holds range) (parts_of bytes runs) ≡ true → IsFoundThere range (parts_of bytes runs) count
  found_there held = found_before (parts_of bytes runs) range count order held some few_parts (parts_before bytes runs range.start count few before)
      (parts_behind bytes runs range.start count behind)

  pub run_found : list_any (holds range) (parts_of bytes runs) ≡ true → (run : PackedRun) → run ≡ get_or runs (count - 1) run → IsRunOf range bytes run
  run_found held run is =
      let found = found_there held in
      let begun : 0 < count = found.some in
      let there = found.there (part_of bytes run) in
      let here : holds range (part_of bytes run) ≡ true = ap (holds range) (run_at run begun is) ∙ there in
      let lay : LiesIn range (part_of bytes run) = lies range (part_of bytes run) here in
      let within = run_within run begun is in
      let long = part_long bytes run within in
      let to = lay.to in
      record { from = lay.from; to = omega (arith, to, long); within = within; held = here }

  pub its_part : list_any (holds range) (parts_of bytes runs) ≡ true → (run : PackedRun) → run ≡ get_or runs (count - 1) run → (all : List ℕ)
      → All (HasItsPart all) (parts_of bytes runs)
      → HasItsPart all (part_of bytes run)
  its_part held run is all are =
      let found = found_there held in
      subst (HasItsPart all) (sym (run_at run found.some is)) (are (count - 1) (part_of bytes run) found.within)

-- The bytes of a range

inner : (xs : List ℕ) (k n len : ℕ) → k + n ≤ len → take n (drop k (take len xs)) ≡ take n (drop k xs)
inner xs k n len fits =
    let same : len ≡ k + (len - k) = omega (arith, fits) in
    ap (λ (m : ℕ). take n (drop k (take m xs))) same
    ∙ (ap (take n) (drop-take k (len - k) xs) ∙ take-take n (len - k) (drop k xs) (omega (arith, fits)))

pub part_bytes : (range : ByteRange) (bytes : List ℕ) (run : PackedRun) (all : List ℕ) → IsRunOf range bytes run → HasItsPart all (part_of bytes run)
    → take range.len (drop (run.at + (range.start - run.first)) bytes) ≡ take range.len (drop range.start all)
part_bytes range bytes run all of part_has =
    let k = range.start - run.first in
    let from = of.from in
    let to = of.to in
    let fits : (range.start - run.first) + range.len ≤ run.len = omega (arith, from, to) in
    let starts : run.first + (range.start - run.first) ≡ range.start = omega (arith, from) in
    let long = part_long bytes run of.within in
    let same : take run.len (drop run.at bytes) ≡ take run.len (drop run.first all) =
    part_has.bytes ∙ ap (λ (n : ℕ). take n (drop run.first all)) long in
    ap (take range.len) (sym (drop-drop (range.start - run.first) run.at bytes))
    ∙ (sym (inner (drop run.at bytes) (range.start - run.first) range.len run.len fits)
    ∙ (ap (λ (xs : List ℕ). take range.len (drop (range.start - run.first) xs)) same
    ∙ (inner (drop run.first all) (range.start - run.first) range.len run.len fits
    ∙ (ap (take range.len) (drop-drop (range.start - run.first) run.first all)
    ∙ ap (λ (m : ℕ). take range.len (drop m all)) starts))))

-- What a push leaves

pub not_pushed : (ok : Bool) (xs ys zs : List PackedRun) → zs ≡ (if ok then ys else xs) → ok ≡ false → zs ≡ xs
not_pushed ok xs ys zs is failed = is ∙ ap (λ (flag : Bool). if flag then ys else xs) failed

pub pushed : (ok : Bool) (xs ys zs : List PackedRun) → zs ≡ (if ok then ys else xs) → ok ≡ true → zs ≡ ys
pushed ok xs ys zs is done = is ∙ ap (λ (flag : Bool). if flag then ys else xs) done

pub cut_back : (xs ys old new : List ℕ) (n : ℕ) → old ≡ xs ++ ys → n ≡ length xs → new ≡ take n old → new ≡ xs
cut_back xs ys old new n is long rest = rest ∙ (ap (take n) is ∙ take_at xs ys n (sym long))

pub laid_same : (bytes new : List ℕ) (runs others : List PackedRun) → new ≡ bytes → others ≡ runs → AreLaid bytes runs → AreLaid new others
laid_same bytes new runs others same_bytes same_runs laid = rw (same_bytes, same_runs) laid

pub parts_same : (bytes new : List ℕ) (runs others : List PackedRun) → new ≡ bytes → others ≡ runs → parts_of new others ≡ parts_of bytes runs
parts_same bytes new runs others same_bytes same_runs = rw (same_bytes, same_runs) refl
