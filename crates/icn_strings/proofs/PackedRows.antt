-- Runs in one block that lie one right behind the other: some are cut off, and others come.
use Rattle.std.proofs.Common.{◌≡◌, ◌∙◌, refl, sym, ap, subst, ℕ, zero, suc, ◌+◌, ◌<◌, ◌≤◌, List, [], ◌∷◌, ◌++◌, length, map, take, drop, get_or, arith, append_assoc, length-append}
use Rattle.std.specs.List.{All}
use Rattle.std.proofs.Math.Seq.{drop-append-add}
use Rattle.std.proofs.lemmas.List.{get_or-map, length-take-le, map-append, map_push, take-append-drop, take-map, take_all, take_more}
use Rattle.std.proofs.lemmas.List.Sums.{sum_by-append, sum_by-cons, sum_by-take-le}
use Rattle.std.proofs.lemmas.List.Elements.{All-get_or, All-take, All-weaker}
use Rattle.icn_strings.specs.declared.byte_range.ByteRange.{ByteRange}
use Rattle.icn_strings.specs.declared.packed.PackedRun.{PackedRun}
use Rattle.icn_strings.specs.Parts.{IsWhole, RegionPart, part, sizes}
use Rattle.icn_strings.specs.PackedRuns.{AreLaid, IsWithin, LieInRow, part_of, parts_of, run_sizes, shifted}
use Rattle.icn_strings.proofs.PackedBytes.{part_long, same_parts, sizes_are}

sizes_with : (run : PackedRun) (runs : List PackedRun) → run_sizes (run ∷ runs) ≡ run.len + run_sizes runs
sizes_with run runs = sum_by-cons (λ (one : PackedRun). one.len) run runs

row_behind : (from : ℕ) (xs ys : List PackedRun) → LieInRow from xs → LieInRow (from + run_sizes xs) ys → LieInRow from (xs ++ ys)
row_behind from [] ys row more =
    let none : run_sizes [] ≡ 0 = refl in
    let same : from + run_sizes [] ≡ from = omega (arith, none) in
    subst (λ (n : ℕ). LieInRow n ys) same more
row_behind from (run ∷ runs) ys row more =
    let all = sizes_with run runs in
    let same : from + run_sizes (run ∷ runs) ≡ (from + run.len) + run_sizes runs = omega (arith, all) in
    (row.0, row_behind (from + run.len) runs ys row.1 (subst (λ (n : ℕ). LieInRow n ys) same more))

row_shifted : (more from : ℕ) (runs : List PackedRun) → LieInRow from runs → LieInRow (more + from) (map (shifted more) runs)
row_shifted more from [] row = tt
row_shifted more from (run ∷ runs) row =
    let same : more + (from + run.len) ≡ (more + from) + run.len = omega arith in
    (ap (λ (n : ℕ). more + n) row.0, subst (λ (n : ℕ). LieInRow n (map (shifted more) runs)) same (row_shifted more (from + run.len) runs row.1))

row_taken : (k from : ℕ) (runs : List PackedRun) → LieInRow from runs → LieInRow from (take k runs)
row_taken zero from runs row = tt
row_taken (suc k) from [] row = tt
row_taken (suc k) from (run ∷ runs) row = (row.0, row_taken k (from + run.len) runs row.1)

row_within : (from : ℕ) (runs : List PackedRun) → LieInRow from runs → All (λ (run : PackedRun). run.at + run.len ≤ from + run_sizes runs) runs
row_within from [] row k d within = absurd (omega (arith, within))
row_within from (run ∷ runs) row zero d within =
    let all = sizes_with run runs in
    let at = row.0 in
    omega (arith, all, at)
row_within from (run ∷ runs) row (suc k) d within =
    let all = sizes_with run runs in
    let rest = row_within (from + run.len) runs row.1 k d (omega (arith, within)) in
    omega (arith, all, rest)

-- a run begins behind all bytes of those before it
pub row_at : (from : ℕ) (runs : List PackedRun) (k : ℕ) (d : PackedRun) → LieInRow from runs → k < length runs
    → (get_or runs k d).at ≡ from + run_sizes (take k runs)
row_at from [] k d row within = absurd (omega (arith, within))
row_at from (run ∷ runs) zero d row within =
    let none : run_sizes (take 0 (run ∷ runs)) ≡ 0 = refl in
    let at = row.0 in
    omega (arith, none, at)
row_at from (run ∷ runs) (suc k) d row within =
    let all : run_sizes (take (suc k) (run ∷ runs)) ≡ run.len + run_sizes (take k runs) = sizes_with run (take k runs) in
    let rest = row_at (from + run.len) runs k d row.1 (omega (arith, within)) in
    omega (arith, all, rest)

sizes_shifted : (more : ℕ) (runs : List PackedRun) → run_sizes (map (shifted more) runs) ≡ run_sizes runs
sizes_shifted more [] = refl
sizes_shifted more (run ∷ runs) =
    let new : run_sizes (map (shifted more) (run ∷ runs)) ≡ run.len + run_sizes (map (shifted more) runs) =
    sizes_with (shifted more run) (map (shifted more) runs) in
    let old = sizes_with run runs in
    let rest = sizes_shifted more runs in
    omega (arith, new, old, rest)

-- runs in a row that have all bytes are laid
laid_of : (bytes : List ℕ) (runs : List PackedRun) → LieInRow 0 runs → run_sizes runs ≡ length bytes → AreLaid bytes runs
laid_of bytes runs row full = record {
  within =
      All-weaker (λ (run : PackedRun). run.at + run.len ≤ 0 + run_sizes runs) (IsWithin bytes) (λ run is. omega (arith, is, full)) runs
      (row_within 0 runs row);
  full = full;
  row = row;
}

-- The first so many

cut_laid : (bytes : List ℕ) (runs : List PackedRun) (same at : ℕ) → AreLaid bytes runs → at ≡ run_sizes (take same runs)
    → AreLaid (take at bytes) (take same runs)
cut_laid bytes runs same at laid is =
    let few = sum_by-take-le (λ (run : PackedRun). run.len) runs same in
    let full = laid.full in
    let long = length-take-le at bytes (omega (arith, few, full, is)) in
    laid_of (take at bytes) (take same runs) (row_taken same 0 runs laid.row) (omega (arith, long, is))

cut_parts : (bytes : List ℕ) (runs : List PackedRun) (same at : ℕ) → AreLaid bytes runs → at ≡ run_sizes (take same runs)
    → parts_of (take at bytes) (take same runs) ≡ take same (parts_of bytes runs)
cut_parts bytes runs same at laid is =
    sym (same_parts (take at bytes) (drop at bytes) (take same runs) (cut_laid bytes runs same at laid is).within)
    ∙ (ap (λ (some : List ℕ). parts_of some (take same runs)) (take-append-drop at bytes) ∙ sym (take-map (part_of bytes) same runs))

-- how many bytes the first so many parts have
pub front_sizes : (bytes : List ℕ) (runs : List PackedRun) (now : List RegionPart) (same : ℕ) → AreLaid bytes runs → parts_of bytes runs ≡ now
    → sizes (take same now) ≡ run_sizes (take same runs)
front_sizes bytes runs now same laid view =
    sym (ap (λ (parts : List RegionPart). sizes (take same parts)) view)
    ∙ (ap (λ (parts : List RegionPart). sizes parts) (take-map (part_of bytes) same runs)
    ∙ sizes_are bytes (take same runs) (All-take (IsWithin bytes) same runs laid.within))

-- a run begins where all before it end, and the block ends where all do
pub run_place : (bytes : List ℕ) (runs : List PackedRun) (now : List RegionPart) (index : ℕ) (run : PackedRun) → AreLaid bytes runs → parts_of bytes runs ≡ now
    → index < length runs → run ≡ get_or runs index run → run.at ≡ sizes (take index now)
run_place bytes runs now index run laid view within same =
    let at = row_at 0 runs index run laid.row within in
    let here : run.at ≡ (get_or runs index run).at = ap (λ (one : PackedRun). one.at) same in
    let front = front_sizes bytes runs now index laid view in
    omega (arith, at, here, front)

pub block_end : (bytes : List ℕ) (runs : List PackedRun) (now : List RegionPart) (index : ℕ) → AreLaid bytes runs → parts_of bytes runs ≡ now
    → length runs ≤ index → length bytes ≡ sizes (take index now)
block_end bytes runs now index laid view end =
    sym laid.full
    ∙ (sym (ap (λ (some : List PackedRun). run_sizes some) (take_all index runs end)) ∙ sym (front_sizes bytes runs now index laid view))

-- Others behind

moved_parts : (front more : List ℕ) (runs : List PackedRun) → parts_of (front ++ more) (map (shifted (length front)) runs) ≡ parts_of more runs
moved_parts front more [] = refl
moved_parts front more (run ∷ runs) =
    ap (λ (bytes : List ℕ). part run.first (take run.len bytes) ∷ parts_of (front ++ more) (map (shifted (length front)) runs))
    (drop-append-add front more run.at)
    ∙ ap (λ (parts : List RegionPart). part_of more run ∷ parts) (moved_parts front more runs)

both_laid : (front more : List ℕ) (runs fresh : List PackedRun) (at : ℕ) → AreLaid front runs → AreLaid more fresh → at ≡ length front
    → AreLaid (front ++ more) (runs ++ map (shifted at) fresh)
both_laid front more runs fresh at laid other is =
    let full = laid.full in
    let full_other = other.full in
    let long = length-append front more in
    let both = sum_by-append (λ (run : PackedRun). run.len) runs (map (shifted at) fresh) in
    let moved = sizes_shifted at fresh in
    let begins : at + 0 ≡ 0 + run_sizes runs = omega (arith, is, full) in
    laid_of (front ++ more) (runs ++ map (shifted at) fresh)
    (row_behind 0 runs (map (shifted at) fresh) laid.row
    (subst (λ (n : ℕ). LieInRow n (map (shifted at) fresh)) begins (row_shifted at 0 fresh other.row)))
    (omega (arith, both, moved, full, full_other, long))

both_parts : (front more : List ℕ) (runs fresh : List PackedRun) (at : ℕ) → AreLaid front runs → at ≡ length front
    → parts_of (front ++ more) (runs ++ map (shifted at) fresh) ≡ parts_of front runs ++ parts_of more fresh
both_parts front more runs fresh at laid is =
    ap (λ (n : ℕ). parts_of (front ++ more) (runs ++ map (shifted n) fresh)) is
    ∙ (map-append (part_of (front ++ more)) runs (map (shifted (length front)) fresh)
    ∙ (ap (λ (parts : List RegionPart). parts ++ parts_of (front ++ more) (map (shifted (length front)) fresh)) (same_parts front more runs laid.within)
    ∙ ap (λ (parts : List RegionPart). parts_of front runs ++ parts) (moved_parts front more fresh)))

-- Other runs in place of all but the first so many

module _ (bytes more after : List ℕ) (runs fresh all : List PackedRun) (same at : ℕ) (laid : AreLaid bytes runs) (other : AreLaid more fresh)
    (is : at ≡ run_sizes (take same runs)) (bytes_are : after ≡ take at bytes ++ more) (runs_are : all ≡ take same runs ++ map (shifted at) fresh) where
  at_long : at ≡ length (take at bytes)
  at_long =
      let few = sum_by-take-le (λ (run : PackedRun). run.len) runs same in
      let full = laid.full in
      let long = length-take-le at bytes (omega (arith, few, full, is)) in
      sym long

  pub put_laid : AreLaid after all
  put_laid =
      rw (bytes_are, runs_are)
      (both_laid (take at bytes) more (take same runs) fresh at (cut_laid bytes runs same at laid is) other at_long)

  pub put_parts : parts_of after all ≡ take same (parts_of bytes runs) ++ parts_of more fresh
  put_parts =
      ap (λ (some : List ℕ). parts_of some all) bytes_are
      ∙ (ap (λ (some : List PackedRun). parts_of (take at bytes ++ more) some) runs_are
      ∙ (both_parts (take at bytes) more (take same runs) fresh at (cut_laid bytes runs same at laid is) at_long
      ∙ ap (λ (parts : List RegionPart). parts ++ parts_of more fresh) (cut_parts bytes runs same at laid is)))

-- the same, by what the block was seen as

pub put_seen : (bytes more after : List ℕ) (runs fresh all : List PackedRun) (now other : List RegionPart) (same at : ℕ) → AreLaid bytes runs
    → AreLaid more fresh
    → parts_of bytes runs ≡ now → parts_of more fresh ≡ other → at ≡ sizes (take same now) → after ≡ take at bytes ++ more
    → all ≡ take same runs ++ map (shifted at) fresh → parts_of after all ≡ take same now ++ other
put_seen bytes more after runs fresh all now other same at laid also view view_other is bytes_are runs_are =
    put_parts bytes more after runs fresh all same at laid also (is ∙ front_sizes bytes runs now same laid view) bytes_are runs_are
    ∙ (ap (λ (parts : List RegionPart). take same parts ++ parts_of more fresh) view ∙ ap (λ (parts : List RegionPart). take same now ++ parts) view_other)

pub put_sound : (bytes more after : List ℕ) (runs fresh all : List PackedRun) (now : List RegionPart) (same at : ℕ) → AreLaid bytes runs → AreLaid more fresh
    → parts_of bytes runs ≡ now → at ≡ sizes (take same now) → after ≡ take at bytes ++ more → all ≡ take same runs ++ map (shifted at) fresh
    → AreLaid after all
put_sound bytes more after runs fresh all now same at laid also view is bytes_are runs_are =
    put_laid bytes more after runs fresh all same at laid also (is ∙ front_sizes bytes runs now same laid view) bytes_are runs_are

-- a run that is just a range is such a part
pub run_whole : (range : ByteRange) (bytes : List ℕ) (runs : List PackedRun) (now : List RegionPart) (index : ℕ) (run : PackedRun) (d : RegionPart)
    → AreLaid bytes runs
    → parts_of bytes runs ≡ now → index < length runs → run ≡ get_or runs index run → run.first ≡ range.start → run.len ≡ range.len
    → IsWhole range (get_or now index d)
run_whole range bytes runs now index run d laid view within same first len =
    let here : run.at + run.len ≤ length bytes =
    subst (λ (one : PackedRun). one.at + one.len ≤ length bytes) (sym same) (All-get_or (IsWithin bytes) runs index run within laid.within) in
    let whole : IsWhole range (part_of bytes run) = record { first = first; len = part_long bytes run here ∙ len } in
    subst (λ (parts : List RegionPart). IsWhole range (get_or parts index d)) view
    (subst (λ (one : RegionPart). IsWhole range one) (ap (part_of bytes) same ∙ sym (get_or-map (part_of bytes) runs index run d within)) whole)

-- Runs that are added one by one, so much further on

taken_more : (at : ℕ) (fresh : List PackedRun) (i : ℕ) (e : PackedRun) → i < length fresh
    → map (shifted at) (take (i + 1) fresh) ≡ map (shifted at) (take i fresh) ++ shifted at (get_or fresh i e) ∷ []
taken_more at fresh i e within =
    ap (λ (runs : List PackedRun). map (shifted at) runs) (take_more fresh i e within) ∙ map_push (shifted at) (take i fresh) (get_or fresh i e)

pub added_more : (old now new fresh : List PackedRun) (at i : ℕ) (e : PackedRun) → i < length fresh → now ≡ old ++ map (shifted at) (take i fresh)
    → new ≡ now ++ shifted at (get_or fresh i e) ∷ [] → new ≡ old ++ map (shifted at) (take (i + 1) fresh)
added_more old now new fresh at i e within so_far added =
    let item : PackedRun = get_or fresh i e in
    added
    ∙ (ap (λ (runs : List PackedRun). runs ++ shifted at item ∷ []) so_far
    ∙ (append_assoc old (map (shifted at) (take i fresh)) (shifted at item ∷ [])
    ∙ ap (λ (runs : List PackedRun). old ++ runs) (sym (taken_more at fresh i e within))))

-- each run of a block begins within it
pub run_fits : (bytes : List ℕ) (runs : List PackedRun) (at most : ℕ) → AreLaid bytes runs → at + length bytes < most
    → All (λ (run : PackedRun). at + run.at < most) runs
run_fits bytes runs at most laid few =
    All-weaker (IsWithin bytes) (λ (run : PackedRun). at + run.at < most) (λ run is. omega (arith, is, few)) runs laid.within
