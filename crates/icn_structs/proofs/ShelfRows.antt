-- The rows of a shelf, as things come, change and are given back.
use Rattle.std.specs.Prelude.{◌/◌, ◌%◌}
use Rattle.std.proofs.Common.{◌≡◌, ◌∙◌, refl, sym, ap, subst, ℕ, zero, suc, ◌+◌, ◌*◌, ◌^◌, ◌<◌, ◌≤◌, Bool, true, false, List, [], ◌∷◌, ◌++◌, length, map, set, get_or, if◌then◌else◌, not, ◌&&◌, arith, length-append, length-set}
use Rattle.std.specs.List.{All, flat_map}
use Rattle.std.proofs.lemmas.List.{append-nil, append_assoc, get_or_past, length-map, map-append}
use Rattle.std.proofs.lemmas.List.Concat.{flat_map-append, flat_map-cons}
use Rattle.std.proofs.lemmas.List.Elements.{All-append, All-cons, All-get_or, All-head, All-nil, All-set, All-tail}
use Rattle.icn_structs.specs.PlacedThings.{AreFull, AreInRows, IsLevel, shelf_seen}
use Rattle.icn_structs.specs.Shelves.{IsSet, ShelfView, Shelved, all_unset, empty_view, view_given, view_marked, view_unmarked, view_with, with_mark, with_new}
use Rattle.icn_structs.proofs.FlatRows.{flat_at, flat_set}
use Rattle.icn_structs.proofs.PlacedSteps.{lent_view, same_view}
use Rattle.icn_structs.proofs.ShelvedThings.{set_below}

abbrev pub things_of : {X : Type 0} → ShelfView X → List X
things_of row = row.shelf.things

abbrev pub held_of : {X : Type 0} → ShelfView X → List Bool
held_of row = row.shelf.held

abbrev pub marks_of : {X : Type 0} → ShelfView X → List Bool
marks_of row = row.marks

module _ {X Y : Type 0} (f : ShelfView X → List Y) where
  flat_length : (row : ShelfView X) (rows : List (ShelfView X)) → length (flat_map f (row ∷ rows)) ≡ length (f row) + length (flat_map f rows)
  flat_length row rows = ap length (flat_map-cons f row rows) ∙ length-append (f row) (flat_map f rows)

  -- another row with the same in it
  pub flat_same : (rows : List (ShelfView X)) (q : ℕ) (e new : ShelfView X) → f new ≡ f (get_or rows q e) → flat_map f (set rows q new) ≡ flat_map f rows
  flat_same [] q e new is = refl
  flat_same (row ∷ rows) zero e new is = flat_map-cons f new rows ∙ (ap (λ ys. ys ++ flat_map f rows) is ∙ sym (flat_map-cons f row rows))
  flat_same (row ∷ rows) (suc q) e new is =
      flat_map-cons f row (set rows q new) ∙ (ap (λ ys. f row ++ ys) (flat_same rows q e new is) ∙ sym (flat_map-cons f row rows))

  -- more in the last row
  pub flat_last : (rows : List (ShelfView X)) (k : ℕ) (e new : ShelfView X) (ys : List Y) → suc k ≡ length rows → f new ≡ f (get_or rows k e) ++ ys
      → flat_map f (set rows k new) ≡ flat_map f rows ++ ys
  flat_last [] k e new ys last is = absurd (omega (arith, last))
  flat_last (row ∷ []) zero e new ys last is =
      flat_map-cons f new []
      ∙ (append-nil (f new)
      ∙ (is
      ∙ ap (λ (zs : List Y). zs ++ ys) (sym (flat_map-cons f row [] ∙ append-nil (f row)))))
  flat_last (row ∷ []) (suc k) e new ys last is = absurd (omega (arith, last))
  flat_last (row ∷ next ∷ rows) zero e new ys last is = absurd (omega (arith, last))
  flat_last (row ∷ next ∷ rows) (suc k) e new ys last is =
      flat_map-cons f row (set (next ∷ rows) k new)
      ∙ (ap (λ (zs : List Y). f row ++ zs) (flat_last (next ∷ rows) k e new ys (omega (arith, last)) is)
      ∙ (sym (append_assoc (f row) (flat_map f (next ∷ rows)) ys) ∙ ap (λ (zs : List Y). zs ++ ys) (sym (flat_map-cons f row (next ∷ rows)))))

  -- one row more
  pub flat_more : (rows : List (ShelfView X)) (new : ShelfView X) → flat_map f (rows ++ new ∷ []) ≡ flat_map f rows ++ f new
  flat_more rows new =
      flat_map-append f rows (new ∷ []) ∙ ap (λ (ys : List Y). flat_map f rows ++ ys) (flat_map-cons f new [] ∙ append-nil (f new))

  -- rows that were changed
  pub flat_mapped : (F : ShelfView X → ShelfView X) (rows : List (ShelfView X)) → flat_map f (map F rows) ≡ flat_map (λ row. f (F row)) rows
  flat_mapped F [] = refl
  flat_mapped F (row ∷ rows) =
      flat_map-cons f (F row) (map F rows)
      ∙ (ap (λ (ys : List Y). f (F row) ++ ys) (flat_mapped F rows) ∙ sym (flat_map-cons (λ (some : ShelfView X). f (F some)) row rows))

-- where no flag is set in each row, none is in all of them
pub flat_unset : {X : Type 0} (f : ShelfView X → List Bool) (rows : List (ShelfView X))
    → flat_map (λ row. all_unset (f row)) rows ≡ all_unset (flat_map f rows)
flat_unset f [] = refl
flat_unset {X} f (row ∷ rows) =
    flat_map-cons (λ (some : ShelfView X). all_unset (f some)) row rows
    ∙ (ap (λ (flags : List Bool). all_unset (f row) ++ flags) (flat_unset f rows)
    ∙ (sym (map-append (λ (flag : Bool). false) (f row) (flat_map f rows)) ∙ ap all_unset (sym (flat_map-cons f row rows))))

module _ {X : Type 0} where
  -- Rows that are full

  pub full_before : (rows : List (ShelfView X)) (e : ShelfView X) → AreFull rows → (k : ℕ) → suc k < length rows
      → length (get_or rows k e).shelf.things ≡ 128
  full_before [] e full k low = absurd (omega (arith, low))
  full_before (row ∷ []) e full k low = absurd (omega (arith, low))
  full_before (row ∷ next ∷ rows) e full zero low = full.0
  full_before (row ∷ next ∷ rows) e full (suc k) low = full_before (next ∷ rows) e full.1 k (omega (arith, low))

  -- the row and the place of a thing
  pub place_within : (rows : List (ShelfView X)) (q r : ℕ) (e : ShelfView X) → AreFull rows → r < 128 → 128 * q + r < length (flat_map things_of rows)
      → (q < length rows) × (r < length (get_or rows q e).shelf.things)
  place_within [] q r e full low within = absurd (omega (arith, within))
  place_within (row ∷ []) zero r e full low within =
      let long = flat_length things_of row [] in
      ((omega arith), (omega (arith, within, long)))
  place_within (row ∷ []) (suc q) r e full low within =
      absurd (
      let long = flat_length things_of row [] in
      let most = full.1 in
      omega (arith, within, long, most))
  place_within (row ∷ next ∷ rows) zero r e full low within =
      let first = full.0 in
      ((omega arith), (omega (arith, low, first)))
  place_within (row ∷ next ∷ rows) (suc q) r e full low within =
      let first = full.0 in
      let long = flat_length things_of row (next ∷ rows) in
      let rest = place_within (next ∷ rows) q r e full.1 low (omega (arith, within, long, first)) in
      let some = rest.0 in
      ((omega (arith, some)), rest.1)

  -- how many there are up to the last row
  pub rows_length : (rows : List (ShelfView X)) (k : ℕ) (e : ShelfView X) → AreFull rows → suc k ≡ length rows
      → length (flat_map things_of rows) ≡ 128 * k + length (get_or rows k e).shelf.things
  rows_length [] k e full last = absurd (omega (arith, last))
  rows_length (row ∷ []) zero e full last = let long = flat_length things_of row [] in omega (arith, long)
  rows_length (row ∷ []) (suc k) e full last = absurd (omega (arith, last))
  rows_length (row ∷ next ∷ rows) zero e full last = absurd (omega (arith, last))
  rows_length (row ∷ next ∷ rows) (suc k) e full last =
      let first = full.0 in
      let long = flat_length things_of row (next ∷ rows) in
      let rest = rows_length (next ∷ rows) k e full.1 (omega (arith, last)) in
      omega (arith, first, long, rest)

  pub last_few : (rows : List (ShelfView X)) (k : ℕ) (e : ShelfView X) → AreFull rows → suc k ≡ length rows
      → (0 < length (get_or rows k e).shelf.things) × (length (get_or rows k e).shelf.things ≤ 128)
  last_few [] k e full last = absurd (omega (arith, last))
  last_few (row ∷ []) zero e full last = full
  last_few (row ∷ []) (suc k) e full last = absurd (omega (arith, last))
  last_few (row ∷ next ∷ rows) zero e full last = absurd (omega (arith, last))
  last_few (row ∷ next ∷ rows) (suc k) e full last = last_few (next ∷ rows) k e full.1 (omega (arith, last))

  full_more : (rows : List (ShelfView X)) (new : ShelfView X) → AreFull rows → length (flat_map things_of rows) % 128 ≡ 0
      → 0 < length new.shelf.things → length new.shelf.things ≤ 128
      → AreFull (rows ++ new ∷ [])
  full_more [] new full even some few = (some, few)
  full_more (row ∷ []) new full even some few =
      let long = flat_length things_of row [] in
      let low = full.0 in
      let most = full.1 in
      ((omega (arith, even, long, low, most)), (some, few))
  full_more (row ∷ next ∷ rows) new full even some few =
      let first = full.0 in
      let long = flat_length things_of row (next ∷ rows) in
      (full.0, full_more (next ∷ rows) new full.1 (omega (arith, even, first, long)) some few)

  full_last : (rows : List (ShelfView X)) (k : ℕ) (new : ShelfView X) → AreFull rows → suc k ≡ length rows
      → 0 < length new.shelf.things → length new.shelf.things ≤ 128
      → AreFull (set rows k new)
  full_last [] k new full last some few = absurd (omega (arith, last))
  full_last (row ∷ []) zero new full last some few = (some, few)
  full_last (row ∷ []) (suc k) new full last some few = absurd (omega (arith, last))
  full_last (row ∷ next ∷ rows) zero new full last some few = absurd (omega (arith, last))
  full_last (row ∷ next ∷ rows) (suc zero) new full last some few = (full.0, full_last (next ∷ rows) zero new full.1 (omega (arith, last)) some few)
  full_last (row ∷ next ∷ rows) (suc (suc k)) new full last some few =
      (full.0, full_last (next ∷ rows) (suc k) new full.1 (omega (arith, last)) some few)

  full_set : (rows : List (ShelfView X)) (q : ℕ) (e new : ShelfView X) → AreFull rows → length new.shelf.things ≡ length (get_or rows q e).shelf.things
      → AreFull (set rows q new)
  full_set [] q e new full same = full
  full_set (row ∷ []) zero e new full same =
      let low = full.0 in
      let most = full.1 in
      ((omega (arith, same, low)), (omega (arith, same, most)))
  full_set (row ∷ []) (suc q) e new full same = full
  full_set (row ∷ next ∷ rows) zero e new full same = (same ∙ full.0, full.1)
  full_set (row ∷ next ∷ rows) (suc zero) e new full same = (full.0, full_set (next ∷ rows) zero e new full.1 same)
  full_set (row ∷ next ∷ rows) (suc (suc q)) e new full same = (full.0, full_set (next ∷ rows) (suc q) e new full.1 same)

  full_map : (F : ShelfView X → ShelfView X) → ((row : ShelfView X) → (F row).shelf.things ≡ row.shelf.things) → (rows : List (ShelfView X)) → AreFull rows
      → AreFull (map F rows)
  full_map F same [] full = full
  full_map F same (row ∷ []) full =
      let long = ap length (same row) in
      let low = full.0 in
      let most = full.1 in
      ((omega (arith, long, low)), (omega (arith, long, most)))
  full_map F same (row ∷ next ∷ rows) full = (ap length (same row) ∙ full.0, full_map F same (next ∷ rows) full.1)

  level_map : (F : ShelfView X → ShelfView X) → ((row : ShelfView X) → IsLevel row → IsLevel (F row)) → (rows : List (ShelfView X)) → All IsLevel rows
      → All IsLevel (map F rows)
  level_map F same [] are = All-nil IsLevel
  level_map F same (row ∷ rows) are =
      All-cons IsLevel (F row) (map F rows) (same row (All-head IsLevel row rows are)) (level_map F same rows (All-tail IsLevel row rows are))

  -- there are as many flags and marks as things
  held_long : (rows : List (ShelfView X)) → All IsLevel rows → length (flat_map held_of rows) ≡ length (flat_map things_of rows)
  held_long [] are = refl
  held_long (row ∷ rows) are =
      let first = (All-head IsLevel row rows are).held in
      let rest = held_long rows (All-tail IsLevel row rows are) in
      flat_length held_of row rows ∙ ((let same : length row.shelf.held + length (flat_map held_of rows)
      ≡ length row.shelf.things + length (flat_map things_of rows) = omega (arith, first, rest) in same) ∙ sym (flat_length things_of row rows))

same_shelf : {X : Type 0} (things more : List X) (held flags : List Bool) → things ≡ more → held ≡ flags
    → ◌≡◌ {A = Shelved X} (record { things = things; held = held }) (record { things = more; held = flags })
same_shelf things more held flags same_things same_held = cc

level_with : {X : Type 0} (row : ShelfView X) (x : X) → IsLevel row → IsLevel (view_with row x)
level_with row x level =
    let more = length-append row.shelf.things (x ∷ []) in
    let more_held = length-append row.shelf.held (true ∷ []) in
    let more_marks = length-append row.marks (false ∷ []) in
    let held = level.held in
    let marks = level.marks in
    record { held = omega (arith, more, more_held, held); marks = omega (arith, more, more_marks, marks) }

pub level_of_one : {X : Type 0} (x : X) → IsLevel (view_with empty_view x)
level_of_one x = record { held = refl; marks = refl }

-- a row with one more mark has as many
mark_length : (held marks : List Bool) (n : ℕ) → length (with_mark held marks n) ≡ length marks
mark_length held marks n = by_flag (get_or held n false)
  where
    by_flag : (b : Bool) → length (if b then set marks n true else marks) ≡ length marks
    by_flag true = length-set marks n true
    by_flag false = refl

level_marked : {X : Type 0} (row : ShelfView X) (n : ℕ) → IsLevel row → IsLevel (view_marked row n)
level_marked row n level = record { held = level.held; marks = mark_length row.shelf.held row.marks n ∙ level.marks }

module _ {X : Type 0} (number : ℕ) (rows : List (ShelfView X)) (e : ShelfView X) (are : AreInRows number rows) where
  row_full : (k : ℕ) → suc k < length rows → length (get_or rows k e).shelf.things ≡ 128
  row_full = full_before rows e are.full

  level_at : (q : ℕ) → q < length rows → IsLevel (get_or rows q e)
  level_at q within = All-get_or IsLevel rows q e within are.level

  held_full : (k : ℕ) → suc k < length rows → length (get_or rows k e).shelf.held ≡ 128
  held_full k low = (level_at k (omega (arith, low))).held ∙ row_full k low

  marks_full : (k : ℕ) → suc k < length rows → length (get_or rows k e).marks ≡ 128
  marks_full k low = (level_at k (omega (arith, low))).marks ∙ row_full k low

  -- what is there came
  pub set_within : (n : ℕ) → IsSet (flat_map held_of rows) n → n < number
  set_within n is =
      let below = set_below (flat_map held_of rows) n is in
      let long = held_long rows are.level in
      let all = are.count in
      omega (arith, below, long, all)

  -- the row and the place of a number
  parts : (n : ℕ) → 128 * (n / 128) + n % 128 ≡ n
  parts n = omega arith

  pub stands : (n : ℕ) → n < number → (n / 128 < length rows) × (n % 128 < length (get_or rows (n / 128) e).shelf.things)
  stands n within =
      let all = are.count in
      let same = parts n in
      place_within rows (n / 128) (n % 128) e are.full (omega arith) (omega (arith, within, all, same))

  pub thing_there : (n : ℕ) (d : X) → n < number → get_or (flat_map things_of rows) n d ≡ get_or (get_or rows (n / 128) e).shelf.things (n % 128) d
  thing_there n d within =
      let at = stands n within in
      ap (λ (i : ℕ). get_or (flat_map things_of rows) i d) (sym (parts n)) ∙ flat_at things_of rows (n / 128) (n % 128) e d row_full at.0 at.1

  pub held_there : (n : ℕ) → n < number → get_or (flat_map held_of rows) n false ≡ get_or (get_or rows (n / 128) e).shelf.held (n % 128) false
  held_there n within =
      let at = stands n within in
      let level = (level_at (n / 128) at.0).held in
      let low = at.1 in
      ap (λ (i : ℕ). get_or (flat_map held_of rows) i false) (sym (parts n))
      ∙ flat_at held_of rows (n / 128) (n % 128) e false held_full at.0 (omega (arith, level, low))

  pub mark_there : (n : ℕ) → n < number → get_or (flat_map marks_of rows) n false ≡ get_or (get_or rows (n / 128) e).marks (n % 128) false
  mark_there n within =
      let at = stands n within in
      let level = (level_at (n / 128) at.0).marks in
      let low = at.1 in
      ap (λ (i : ℕ). get_or (flat_map marks_of rows) i false) (sym (parts n))
      ∙ flat_at marks_of rows (n / 128) (n % 128) e false marks_full at.0 (omega (arith, level, low))

  -- another thing, and another mark
  pub thing_put : (n : ℕ) (new : ShelfView X) (x : X) → n < number → new.shelf.things ≡ set (get_or rows (n / 128) e).shelf.things (n % 128) x
      → flat_map things_of (set rows (n / 128) new) ≡ set (flat_map things_of rows) n x
  thing_put n new x within is =
      let at = stands n within in
      flat_set things_of rows (n / 128) (n % 128) e new x row_full at.0 at.1 is
      ∙ ap (λ (i : ℕ). set (flat_map things_of rows) i x) (parts n)

  pub mark_put : (n : ℕ) (new : ShelfView X) (flag : Bool) → n < number → new.marks ≡ set (get_or rows (n / 128) e).marks (n % 128) flag
      → flat_map marks_of (set rows (n / 128) new) ≡ set (flat_map marks_of rows) n flag
  mark_put n new flag within is =
      let at = stands n within in
      let level = (level_at (n / 128) at.0).marks in
      let low = at.1 in
      flat_set marks_of rows (n / 128) (n % 128) e new flag marks_full at.0 (omega (arith, level, low)) is
      ∙ ap (λ (i : ℕ). set (flat_map marks_of rows) i flag) (parts n)

  -- The rows afterwards

  -- another row with as many things
  pub rows_set : (q : ℕ) (new : ShelfView X) → length new.shelf.things ≡ length (get_or rows q e).shelf.things → IsLevel new
      → length (flat_map things_of (set rows q new)) ≡ length (flat_map things_of rows)
      → AreInRows number (set rows q new)
  rows_set q new same level long = record {
    full = full_set rows q e new are.full same;
    level = All-set IsLevel rows q new level are.level;
    count = are.count ∙ sym long;
    few = are.few;
  }

  -- one row more
  pub rows_more : (new : ShelfView X) → number % 128 ≡ 0 → length new.shelf.things ≡ 1 → IsLevel new → number + 1 < 2 ^ 63
      → AreInRows (number + 1) (rows ++ new ∷ [])
  rows_more new even one level few =
      let all = are.count in
      let long = ap length (flat_more things_of rows new) ∙ length-append (flat_map things_of rows) new.shelf.things in
      record {
        full = full_more rows new are.full (ap (λ (n : ℕ). n % 128) (sym are.count) ∙ even) (omega (arith, one)) (omega (arith, one));
        level = All-append IsLevel rows (new ∷ []) are.level (All-cons IsLevel new [] level (All-nil IsLevel));
        count = omega (arith, all, long, one);
        few = few;
      }

  -- one thing more in the last row
  pub last_not_full : (k : ℕ) → suc k ≡ length rows → 0 < number % 128 → length (get_or rows k e).shelf.things < 128
  last_not_full k last odd =
      let all = are.count in
      let long = rows_length rows k e are.full last in
      let most = (last_few rows k e are.full last).1 in
      omega (arith, all, long, most, odd)

  pub some_row : 0 < number → 0 < length rows
  some_row some = let all = are.count in rows_of rows (omega (arith, some, all))
    where
      rows_of : (xs : List (ShelfView X)) → 0 < length (flat_map things_of xs) → 0 < length xs
      rows_of [] more = absurd (omega (arith, more))
      rows_of (x ∷ xs) more = omega arith

  pub rows_last : (k : ℕ) (new : ShelfView X) (x : X) → suc k ≡ length rows → 0 < number % 128
      → new.shelf.things ≡ (get_or rows k e).shelf.things ++ x ∷ [] → IsLevel new → number + 1 < 2 ^ 63
      → AreInRows (number + 1) (set rows k new)
  rows_last k new x last odd is level few =
      let all = are.count in
      let room = last_not_full k last odd in
      let more = ap length is ∙ length-append (get_or rows k e).shelf.things (x ∷ []) in
      let long = ap length (flat_last things_of rows k e new (x ∷ []) last is) ∙ length-append (flat_map things_of rows) (x ∷ []) in
      record {
        full = full_last rows k new are.full last (omega (arith, more)) (omega (arith, more, room));
        level = All-set IsLevel rows k new level are.level;
        count = omega (arith, all, long);
        few = few;
      }

  -- the last row with one thing more

  with_more : (k : ℕ) (x : X) (row new : ShelfView X) → row ≡ get_or rows k e → new ≡ view_with row x → new ≡ view_with (get_or rows k e) x
  with_more k x row new found is = is ∙ ap (λ (some : ShelfView X). view_with some x) found

  pub last_rows : (k : ℕ) (x : X) (row new : ShelfView X) → suc k ≡ length rows → 0 < number % 128 → row ≡ get_or rows k e → new ≡ view_with row x
      → number + 1 < 2 ^ 63
      → AreInRows (number + 1) (set rows k new)
  last_rows k x row new last odd found is few =
      let same = with_more k x row new found is in
      let level = level_with (get_or rows k e) x (level_at k (omega (arith, last))) in
      rows_last k new x last odd (ap things_of same) (subst IsLevel (sym same) level) few

  pub last_shelf : (k : ℕ) (x : X) (row new : ShelfView X) → suc k ≡ length rows → row ≡ get_or rows k e → new ≡ view_with row x
      → (shelf_seen (set rows k new)).shelf ≡ with_new (shelf_seen rows).shelf x
  last_shelf k x row new last found is =
      let same = with_more k x row new found is in
      same_shelf (flat_map things_of (set rows k new)) (flat_map things_of rows ++ x ∷ []) (flat_map held_of (set rows k new))
      (flat_map held_of rows ++ true ∷ [])
      (flat_last things_of rows k e new (x ∷ []) last (ap things_of same)) (flat_last held_of rows k e new (true ∷ []) last (ap held_of same))

  -- all rows changed
  pub rows_given : AreInRows number (map view_given rows)
  rows_given = record {
    full = full_map view_given (λ row. refl) rows are.full;
    level = level_map view_given (λ row level. record { held = level.marks; marks = length-map row.shelf.held (λ flag. false) ∙ level.held }) rows are.level;
    count = are.count ∙ ap length (sym (flat_mapped things_of view_given rows));
    few = are.few;
  }

  pub rows_unmarked : AreInRows number (map view_unmarked rows)
  rows_unmarked = record {
    full = full_map view_unmarked (λ row. refl) rows are.full;
    level = level_map view_unmarked (λ row level. record { held = level.held; marks = length-map row.shelf.held (λ flag. false) ∙ level.held }) rows are.level;
    count = are.count ∙ ap length (sym (flat_mapped things_of view_unmarked rows));
    few = are.few;
  }

  -- A thing that is lent, or marked

  -- a number that is past all of them
  pub gone_past : (n : ℕ) → number ≤ n → get_or (flat_map held_of rows) n false ≡ false
  gone_past n past =
      let long = held_long rows are.level in
      let all = are.count in
      get_or_past (flat_map held_of rows) n false (omega (arith, past, long, all))

  pub lent_rows : (n : ℕ) (x : X) → n < number → (row : ShelfView X) → row ≡ get_or rows (n / 128) e
      → AreInRows number (set rows (n / 128) (lent_view row (n % 128) x))
  lent_rows n x within row is =
      let at = stands n within in
      let level = level_at (n / 128) at.0 in
      let long = length-set row.shelf.things (n % 128) x in
      let same = ap things_of is in
      let put = thing_put n (lent_view row (n % 128) x) x within (ap (λ (xs : List X). set xs (n % 128) x) same) in
      rows_set (n / 128) (lent_view row (n % 128) x) (long ∙ ap length same)
      (record {
        held = ap (λ (some : ShelfView X). length some.shelf.held) is ∙ (level.held ∙ (ap length (sym same) ∙ sym long));
        marks = ap (λ (some : ShelfView X). length some.marks) is ∙ (level.marks ∙ (ap length (sym same) ∙ sym long));
      })
      (ap length put ∙ length-set (flat_map things_of rows) n x)

  pub lent_shelf : (n : ℕ) (x : X) → n < number → (row : ShelfView X) → row ≡ get_or rows (n / 128) e
      → shelf_seen (set rows (n / 128) (lent_view row (n % 128) x)) ≡ lent_view (shelf_seen rows) n x
  lent_shelf n x within row is =
      let new = lent_view row (n % 128) x in
      same_view (flat_map things_of (set rows (n / 128) new)) (set (flat_map things_of rows) n x)
      (flat_map held_of (set rows (n / 128) new)) (flat_map held_of rows) (flat_map marks_of (set rows (n / 128) new)) (flat_map marks_of rows)
      (thing_put n new x within (ap (λ (some : ShelfView X). set some.shelf.things (n % 128) x) is))
      (flat_same held_of rows (n / 128) e new (ap held_of is))
      (flat_same marks_of rows (n / 128) e new (ap marks_of is))

  -- a row that was marked at a place

  marked_as : (n : ℕ) (row new : ShelfView X) → row ≡ get_or rows (n / 128) e → new ≡ view_marked row (n % 128)
      → new ≡ view_marked (get_or rows (n / 128) e) (n % 128)
  marked_as n row new is marked = marked ∙ ap (λ (some : ShelfView X). view_marked some (n % 128)) is

  pub marked_rows : (n : ℕ) → n < number → (row new : ShelfView X) → row ≡ get_or rows (n / 128) e → new ≡ view_marked row (n % 128)
      → AreInRows number (set rows (n / 128) new)
  marked_rows n within row new is marked =
      let same = marked_as n row new is marked in
      let level = level_marked (get_or rows (n / 128) e) (n % 128) (level_at (n / 128) (stands n within).0) in
      rows_set (n / 128) new (ap (λ (some : ShelfView X). length some.shelf.things) same) (subst IsLevel (sym same) level)
      (ap length (flat_same things_of rows (n / 128) e new (ap things_of same)))

  pub marked_shelf : (n : ℕ) → n < number → (row new : ShelfView X) → row ≡ get_or rows (n / 128) e → new ≡ view_marked row (n % 128)
      → shelf_seen (set rows (n / 128) new) ≡ view_marked (shelf_seen rows) n
  marked_shelf n within row new is marked =
      same_view (flat_map things_of (set rows (n / 128) new)) (flat_map things_of rows)
      (flat_map held_of (set rows (n / 128) new)) (flat_map held_of rows) (flat_map marks_of (set rows (n / 128) new))
      (with_mark (flat_map held_of rows) (flat_map marks_of rows) n)
      (flat_same things_of rows (n / 128) e new (ap things_of (marked_as n row new is marked)))
      (flat_same held_of rows (n / 128) e new (ap held_of (marked_as n row new is marked)))
      (by_flag (get_or (get_or rows (n / 128) e).shelf.held (n % 128) false) refl)
    where
      by_flag : (b : Bool) → get_or (get_or rows (n / 128) e).shelf.held (n % 128) false ≡ b
          → flat_map marks_of (set rows (n / 128) new) ≡ with_mark (flat_map held_of rows) (flat_map marks_of rows) n
      by_flag true flag =
          mark_put n new true within
          (ap marks_of (marked_as n row new is marked)
          ∙ ap (λ (some : Bool). if some then set (get_or rows (n / 128) e).marks (n % 128) true else (get_or rows (n / 128) e).marks) flag)
          ∙ ap (λ (some : Bool). if some then set (flat_map marks_of rows) n true else flat_map marks_of rows) (sym (held_there n within ∙ flag))
      by_flag false flag =
          flat_same marks_of rows (n / 128) e new
          (ap marks_of (marked_as n row new is marked)
          ∙ ap (λ (some : Bool). if some then set (get_or rows (n / 128) e).marks (n % 128) true else (get_or rows (n / 128) e).marks) flag)
          ∙ ap (λ (some : Bool). if some then set (flat_map marks_of rows) n true else flat_map marks_of rows) (sym (held_there n within ∙ flag))

  -- whether it was not marked before
  pub fresh_shelf : (n : ℕ) → n < number → (row : ShelfView X) → row ≡ get_or rows (n / 128) e
      → (get_or row.shelf.held (n % 128) false && not (get_or row.marks (n % 128) false))
      ≡ (get_or (flat_map held_of rows) n false && not (get_or (flat_map marks_of rows) n false))
  fresh_shelf n within row is =
      ap (λ (some : ShelfView X). get_or some.shelf.held (n % 128) false && not (get_or some.marks (n % 128) false)) is
      ∙ (ap (λ (flag : Bool). flag && not (get_or (get_or rows (n / 128) e).marks (n % 128) false)) (sym (held_there n within))
      ∙ ap (λ (flag : Bool). get_or (flat_map held_of rows) n false && not flag) (sym (mark_there n within)))

module _ {X : Type 0} where
  -- no rows
  pub no_rows : (rows : List (ShelfView X)) → rows ≡ [] → AreInRows 0 rows
  no_rows rows none = subst (λ (some : List (ShelfView X)). AreInRows 0 some) (sym none)
      (record { full = tt; level = All-nil IsLevel; count = refl; few = omega arith })

  pub seen_unmarked : (rows : List (ShelfView X)) → shelf_seen (map view_unmarked rows) ≡ view_unmarked (shelf_seen rows)
  seen_unmarked rows =
      same_view (flat_map things_of (map view_unmarked rows)) (flat_map things_of rows)
      (flat_map held_of (map view_unmarked rows)) (flat_map held_of rows)
      (flat_map marks_of (map view_unmarked rows)) (all_unset (flat_map held_of rows))
      (flat_mapped things_of view_unmarked rows) (flat_mapped held_of view_unmarked rows)
      (flat_mapped marks_of view_unmarked rows ∙ flat_unset held_of rows)

  pub seen_given : (rows : List (ShelfView X)) → shelf_seen (map view_given rows) ≡ view_given (shelf_seen rows)
  seen_given rows =
      same_view (flat_map things_of (map view_given rows)) (flat_map things_of rows)
      (flat_map held_of (map view_given rows)) (flat_map marks_of rows)
      (flat_map marks_of (map view_given rows)) (all_unset (flat_map held_of rows))
      (flat_mapped things_of view_given rows) (flat_mapped held_of view_given rows)
      (flat_mapped marks_of view_given rows ∙ flat_unset held_of rows)
