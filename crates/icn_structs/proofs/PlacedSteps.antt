-- The places of a row, as things come, change and go.
use Rattle.std.specs.Prelude.{not, ◌&&◌}
use Rattle.std.proofs.Common.{◌≡◌, ◌∙◌, refl, sym, ap, subst, ℕ, zero, suc, ◌+◌, ◌-◌, ◌<◌, ◌≤◌, Bool, true, false, List, [], ◌∷◌, ◌++◌, length, map, take, drop, set, get_or, if◌then◌else◌, ◌⊎◌, inl, inr, length-append, length-set, take_at, nat_lt, lt-ltb, arith}
use Rattle.std.proofs.lemmas.List.{get_or_past, get_or_read}
use Rattle.icn_structs.specs.declared.row.OnShelf.{OnShelf}
use Rattle.icn_structs.specs.PlacedThings.{IsNumbered, IsRow, held_places, marked_places, merged, renumbered, row_seen}
use Rattle.icn_structs.specs.Shelves.{IsSet, ShelfView, all_unset, view_marked, view_with, with_mark, with_other}

-- What a row is seen as

abbrev with_marks : {X : Type 0} → ShelfView X → List Bool → ShelfView X
with_marks row flags = record row { marks = flags }

-- where the thing is gone nothing is marked
pub unmarked_stays : {X : Type 0} (row : ShelfView X) (place : ℕ) → get_or row.shelf.held place false ≡ false → row ≡ view_marked row place
unmarked_stays {X} row place gone =
    ap (λ (flag : Bool). with_marks row (if flag then set row.marks place true else row.marks)) (sym gone)

pub never_fresh : (held marks : List Bool) (place : ℕ) → get_or held place false ≡ false → false ≡ (get_or held place false && not (get_or marks place false))
never_fresh held marks place gone = ap (λ (flag : Bool). flag && not (get_or marks place false)) (sym gone)

pub same_view : {X : Type 0} (things more : List X) (held flags marks others : List Bool) → things ≡ more → held ≡ flags → marks ≡ others
    → ◌≡◌ {A = ShelfView X} (record { shelf = record { things = things; held = held }; marks = marks })
    (record { shelf = record { things = more; held = flags }; marks = others })
same_view things more held flags marks others same_things same_held same_marks = cc

-- lists of flags that are not set
pub same_unset : (flags others : List Bool) → length flags ≡ length others → all_unset flags ≡ all_unset others
same_unset [] [] long = refl
same_unset [] (other ∷ others) long = absurd (omega (arith, long))
same_unset (flag ∷ flags) [] long = absurd (omega (arith, long))
same_unset (flag ∷ flags) (other ∷ others) long = ap (λ some. false ∷ some) (same_unset flags others (omega (arith, long)))

-- Numbers

pub numbered_order : (from to : ℕ) (numbers : List ℕ) → IsNumbered from to numbers → from ≤ to
numbered_order from to [] is = omega (arith, is)
numbered_order from to (zero ∷ numbers) is = numbered_order from to numbers is
numbered_order from to (suc n ∷ numbers) is = let rest = numbered_order (suc from) to numbers is.1 in omega (arith, rest)

-- there are as many numbers as things, or more
pub numbered_few : (from to : ℕ) (numbers : List ℕ) → IsNumbered from to numbers → to ≤ from + length numbers
numbered_few from to [] is = omega (arith, is)
numbered_few from to (zero ∷ numbers) is = let rest = numbered_few from to numbers is in omega (arith, rest)
numbered_few from to (suc n ∷ numbers) is = let rest = numbered_few (suc from) to numbers is.1 in omega (arith, rest)

-- no number is above how many things are there
pub number_most : (numbers : List ℕ) (from to place : ℕ) → IsNumbered from to numbers → get_or numbers place 0 ≤ to
number_most [] from to place is = omega arith
number_most (zero ∷ numbers) from to zero is = omega arith
number_most (zero ∷ numbers) from to (suc place) is = number_most numbers from to place is
number_most (suc n ∷ numbers) from to zero is =
    let same = is.0 in
    let order = numbered_order (suc from) to numbers is.1 in
    omega (arith, same, order)
number_most (suc n ∷ numbers) from to (suc place) is = number_most numbers (suc from) to place is.1

-- a place that has a number is one of them
place_below : (numbers : List ℕ) (place : ℕ) → 0 < get_or numbers place 0 → place < length numbers
place_below [] place some = absurd (omega (arith, some))
place_below (n ∷ numbers) zero some = omega arith
place_below (n ∷ numbers) (suc place) some = let rest = place_below numbers place some in omega (arith, rest)

-- no more numbers than places
pub numbers_few : (all there : ℕ) (numbers : List ℕ) → IsRow all there numbers → length numbers ≤ all
numbers_few all there numbers row = either_few (length numbers) all row.long
  where
    either_few : (m n : ℕ) → (m ≡ n) ⊎ ((m ≡ 0) × (n ≡ 128)) → m ≤ n
    either_few m n (inl same) = omega (arith, same)
    either_few m n (inr none) = let nothing = none.0 in omega (arith, nothing)

-- a row that has room has a number for each place
pub numbers_full : (all there : ℕ) (numbers : List ℕ) → IsRow all there numbers → all < 128 → length numbers ≡ all
numbers_full all there numbers row room = either_full (length numbers) all room row.long
  where
    either_full : (m n : ℕ) → n < 128 → (m ≡ n) ⊎ ((m ≡ 0) × (n ≡ 128)) → m ≡ n
    either_full m n low (inl same) = same
    either_full m n low (inr none) = absurd (let full = none.1 in omega (arith, full, low))

-- no more things than places
pub there_few : (all there : ℕ) (numbers : List ℕ) → IsRow all there numbers → there ≤ all
there_few all there numbers row =
    let few = numbers_few all there numbers row in
    let most = numbered_few 0 there numbers row.numbered in
    omega (arith, few, most)

-- rows without things
pub row_of_none : {X Y : Type 0} (was : List X) (there : List Y) (numbers : List ℕ) → was ≡ [] → there ≡ [] → numbers ≡ []
    → IsRow (length was) (length there) numbers
row_of_none was there numbers none gone no_numbers =
    rw (none, gone, no_numbers) (record { numbered = refl; long = inl refl; few = omega arith })

pub row_of_no_numbers : (all there : ℕ) (numbers : List ℕ) → there ≡ 0 → all ≡ 128 → numbers ≡ [] → IsRow all there numbers
row_of_no_numbers all there numbers none full no_numbers =
    rw (no_numbers, none) (record { numbered = refl; long = inr (refl, full); few = omega (arith, full) })

pub is_row_same : (all more there kept : ℕ) (numbers others : List ℕ) → more ≡ all → kept ≡ there → others ≡ numbers → IsRow all there numbers
    → IsRow more kept others
is_row_same all more there kept numbers others same_all same_there same_numbers row = rw (same_all, same_there, same_numbers) row

-- a row of which a thing is another one
pub row_set : {Y : Type 0} (all : ℕ) (numbers : List ℕ) (there : List Y) (i : ℕ) (y : Y) → IsRow all (length there) numbers
    → IsRow all (length (set there i y)) numbers
row_set all numbers there i y row = subst (λ (n : ℕ). IsRow all n numbers) (sym (length-set there i y)) row

-- what a shelf is seen as whose thing at a place is another one
abbrev pub lent_view : {X : Type 0} → ShelfView X → ℕ → X → ShelfView X
lent_view view place x = record { shelf = with_other view.shelf place x; marks = view.marks }

pub from_none : (numbers : List ℕ) (to : ℕ) → IsNumbered 0 to numbers → IsNumbered 0 (0 + to) numbers
from_none numbers to are = subst (λ (n : ℕ). IsNumbered 0 n numbers) (let same : to ≡ 0 + to = omega arith in same) are

-- one number more
pub numbered_more : (numbers : List ℕ) (from to : ℕ) → IsNumbered from to numbers → IsNumbered from (suc to) (numbers ++ suc to ∷ [])
numbered_more [] from to are = (sym are, ap suc are)
numbered_more (zero ∷ numbers) from to are = numbered_more numbers from to are
numbered_more (suc n ∷ numbers) from to are = (are.0, numbered_more numbers (suc from) to are.1)

next_index : (m from : ℕ) → suc from < m → m - 1 - from ≡ suc (m - 1 - suc from)
next_index m from low = omega (arith, low)

first_index : (n from : ℕ) → n ≡ from → suc n - 1 - from ≡ 0
first_index n from same = omega (arith, same)

-- the number of a thing that is there
pub number_within : {X : Type 0} (was : List X) (numbers : List ℕ) (from to place : ℕ) → IsNumbered from to numbers → IsSet (held_places was numbers) place
    → (from < get_or numbers place 0) × (get_or numbers place 0 ≤ to)
number_within [] numbers from to place are is = absurd (grind (arith, is))
number_within (w ∷ was) [] from to zero are is = absurd (grind (arith, is))
number_within (w ∷ was) [] from to (suc place) are is = absurd (none_held was place is)
  where
    none_held : {V : Type 0} (vs : List V) (k : ℕ) → IsSet (held_places vs []) k → ⊥
    none_held [] k is = grind (arith, is)
    none_held (v ∷ vs) zero is = grind (arith, is)
    none_held (v ∷ vs) (suc k) is = none_held vs k is
number_within (w ∷ was) (zero ∷ numbers) from to zero are is = absurd (grind (arith, is))
number_within (w ∷ was) (zero ∷ numbers) from to (suc place) are is = number_within was numbers from to place are is
number_within (w ∷ was) (suc n ∷ numbers) from to zero are is =
    let order = numbered_order (suc from) to numbers are.1 in
    let same = are.0 in
    ((omega (arith, same)), (omega (arith, same, order)))
number_within (w ∷ was) (suc n ∷ numbers) from to (suc place) are is =
    let rest = number_within was numbers (suc from) to place are.1 is in
    let low = rest.0 in
    ((omega (arith, low)), rest.1)

-- whether a thing is there, by its number
pub held_at : {X : Type 0} (was : List X) (numbers : List ℕ) (place n : ℕ) → length numbers ≤ length was → get_or numbers place 0 ≡ suc n
    → get_or (held_places was numbers) place false ≡ true
held_at [] [] place n long some = absurd (omega (arith, some))
held_at [] (m ∷ numbers) place n long some = absurd (omega (arith, long))
held_at (w ∷ was) [] place n long some = absurd (omega (arith, some))
held_at (w ∷ was) (zero ∷ numbers) zero n long some = absurd (omega (arith, some))
held_at (w ∷ was) (zero ∷ numbers) (suc place) n long some = held_at was numbers place n (omega (arith, long)) some
held_at (w ∷ was) (suc m ∷ numbers) zero n long some = refl
held_at (w ∷ was) (suc m ∷ numbers) (suc place) n long some = held_at was numbers place n (omega (arith, long)) some

pub none_at : {X : Type 0} (was : List X) (numbers : List ℕ) (place : ℕ) → get_or numbers place 0 ≡ 0 → get_or (held_places was numbers) place false ≡ false
none_at [] numbers place none = refl
none_at (w ∷ was) [] zero none = refl
none_at (w ∷ was) [] (suc place) none = none_at was [] place none
none_at (w ∷ was) (zero ∷ numbers) zero none = refl
none_at (w ∷ was) (zero ∷ numbers) (suc place) none = none_at was numbers place none
none_at (w ∷ was) (suc m ∷ numbers) zero none = absurd (omega (arith, none))
none_at (w ∷ was) (suc m ∷ numbers) (suc place) none = none_at was numbers place none

-- what a number tells that was looked up
pub flag_at : {X : Type 0} (was : List X) (numbers : List ℕ) (place n : ℕ) → length numbers ≤ length was → n ≡ get_or numbers place 0
    → nat_lt 0 n ≡ get_or (held_places was numbers) place false
flag_at was numbers place zero long is = sym (none_at was numbers place (sym is))
flag_at was numbers place (suc n) long is = lt-ltb 0 (suc n) (omega arith) ∙ sym (held_at was numbers place n long (sym is))

pub flag_past : {X : Type 0} (was : List X) (numbers : List ℕ) (place : ℕ) → length numbers ≤ place → false ≡ get_or (held_places was numbers) place false
flag_past was numbers place past = sym (none_at was numbers place (get_or_past numbers place 0 past))

-- How many places there are

pub held_length : {X : Type 0} (was : List X) (numbers : List ℕ) → length (held_places was numbers) ≡ length was
held_length [] numbers = refl
held_length (w ∷ was) [] = ap suc (held_length was [])
held_length (w ∷ was) (zero ∷ numbers) = ap suc (held_length was numbers)
held_length (w ∷ was) (suc n ∷ numbers) = ap suc (held_length was numbers)

module _ {X : Type 0} where
  pub things_length : (was : List X) (numbers : List ℕ) (there : List (OnShelf X)) → length (merged was numbers there) ≡ length was
  things_length [] numbers there = refl
  things_length (w ∷ was) [] there = ap suc (things_length was [] there)
  things_length (w ∷ was) (zero ∷ numbers) there = ap suc (things_length was numbers there)
  things_length (w ∷ was) (suc n ∷ numbers) [] = ap suc (things_length was numbers [])
  things_length (w ∷ was) (suc n ∷ numbers) (kept ∷ there) = ap suc (things_length was numbers there)

  pub marks_length : (was : List X) (numbers : List ℕ) (there : List (OnShelf X)) → length (marked_places was numbers there) ≡ length was
  marks_length [] numbers there = refl
  marks_length (w ∷ was) [] there = ap suc (marks_length was [] there)
  marks_length (w ∷ was) (zero ∷ numbers) there = ap suc (marks_length was numbers there)
  marks_length (w ∷ was) (suc n ∷ numbers) [] = ap suc (marks_length was numbers [])
  marks_length (w ∷ was) (suc n ∷ numbers) (kept ∷ there) = ap suc (marks_length was numbers there)

  -- The thing at a place is the one of its number

  pub thing_at : (was : List X) (numbers : List ℕ) (there : List (OnShelf X)) (from place : ℕ) (d : X) (e : OnShelf X)
      → IsNumbered from (from + length there) numbers → IsSet (held_places was numbers) place
      → get_or (merged was numbers there) place d ≡ (get_or there (get_or numbers place 0 - 1 - from) e).thing
  thing_at [] numbers there from place d e are is = absurd (grind (arith, is))
  thing_at (w ∷ was) [] there from zero d e are is = absurd (grind (arith, is))
  thing_at (w ∷ was) [] there from (suc place) d e are is =
      absurd (let some = number_within (w ∷ was) [] from (from + length there) (suc place) are is in omega (arith, some.0))
  thing_at (w ∷ was) (zero ∷ numbers) there from zero d e are is = absurd (grind (arith, is))
  thing_at (w ∷ was) (zero ∷ numbers) there from (suc place) d e are is = thing_at was numbers there from place d e are is
  thing_at (w ∷ was) (suc n ∷ numbers) [] from place d e are is =
      absurd (let order = numbered_order (suc from) (from + 0) numbers are.1 in omega (arith, order))
  thing_at (w ∷ was) (suc n ∷ numbers) (kept ∷ there) from zero d e are is =
      ap (λ (i : ℕ). (get_or (kept ∷ there) i e).thing) (sym (first_index n from are.0))
  thing_at (w ∷ was) (suc n ∷ numbers) (kept ∷ there) from (suc place) d e are is =
      let more : from + suc (length there) ≡ suc from + length there = omega arith in
      let rest : IsNumbered (suc from) (suc from + length there) numbers = subst (λ (to : ℕ). IsNumbered (suc from) to numbers) more are.1 in
      let some = number_within was numbers (suc from) (suc from + length there) place rest is in
      thing_at was numbers there (suc from) place d e rest is
      ∙ ap (λ (i : ℕ). (get_or (kept ∷ there) i e).thing) (sym (next_index (get_or numbers place 0) from some.0))

  -- and so is its mark
  pub mark_at : (was : List X) (numbers : List ℕ) (there : List (OnShelf X)) (from place : ℕ) (e : OnShelf X)
      → IsNumbered from (from + length there) numbers → IsSet (held_places was numbers) place
      → get_or (marked_places was numbers there) place false ≡ (get_or there (get_or numbers place 0 - 1 - from) e).marked
  mark_at [] numbers there from place e are is = absurd (grind (arith, is))
  mark_at (w ∷ was) [] there from zero e are is = absurd (grind (arith, is))
  mark_at (w ∷ was) [] there from (suc place) e are is =
      absurd (let some = number_within (w ∷ was) [] from (from + length there) (suc place) are is in omega (arith, some.0))
  mark_at (w ∷ was) (zero ∷ numbers) there from zero e are is = absurd (grind (arith, is))
  mark_at (w ∷ was) (zero ∷ numbers) there from (suc place) e are is = mark_at was numbers there from place e are is
  mark_at (w ∷ was) (suc n ∷ numbers) [] from place e are is =
      absurd (let order = numbered_order (suc from) (from + 0) numbers are.1 in omega (arith, order))
  mark_at (w ∷ was) (suc n ∷ numbers) (kept ∷ there) from zero e are is =
      ap (λ (i : ℕ). (get_or (kept ∷ there) i e).marked) (sym (first_index n from are.0))
  mark_at (w ∷ was) (suc n ∷ numbers) (kept ∷ there) from (suc place) e are is =
      let more : from + suc (length there) ≡ suc from + length there = omega arith in
      let rest : IsNumbered (suc from) (suc from + length there) numbers = subst (λ (to : ℕ). IsNumbered (suc from) to numbers) more are.1 in
      let some = number_within was numbers (suc from) (suc from + length there) place rest is in
      mark_at was numbers there (suc from) place e rest is
      ∙ ap (λ (i : ℕ). (get_or (kept ∷ there) i e).marked) (sym (next_index (get_or numbers place 0) from some.0))

  -- what is changed in one of them only

  pub things_same : (was : List X) (numbers : List ℕ) (there : List (OnShelf X)) (i : ℕ) (new e : OnShelf X) → new.thing ≡ (get_or there i e).thing
      → merged was numbers (set there i new) ≡ merged was numbers there
  things_same [] numbers there i new e is = refl
  things_same (w ∷ was) [] there i new e is = ap (λ xs. w ∷ xs) (things_same was [] there i new e is)
  things_same (w ∷ was) (zero ∷ numbers) there i new e is = ap (λ xs. w ∷ xs) (things_same was numbers there i new e is)
  things_same (w ∷ was) (suc n ∷ numbers) [] i new e is = refl
  things_same (w ∷ was) (suc n ∷ numbers) (kept ∷ there) zero new e is = ap (λ x. x ∷ merged was numbers there) is
  things_same (w ∷ was) (suc n ∷ numbers) (kept ∷ there) (suc i) new e is = ap (λ xs. kept.thing ∷ xs) (things_same was numbers there i new e is)

  pub marks_same : (was : List X) (numbers : List ℕ) (there : List (OnShelf X)) (i : ℕ) (new e : OnShelf X) → new.marked ≡ (get_or there i e).marked
      → marked_places was numbers (set there i new) ≡ marked_places was numbers there
  marks_same [] numbers there i new e is = refl
  marks_same (w ∷ was) [] there i new e is = ap (λ flags. false ∷ flags) (marks_same was [] there i new e is)
  marks_same (w ∷ was) (zero ∷ numbers) there i new e is = ap (λ flags. false ∷ flags) (marks_same was numbers there i new e is)
  marks_same (w ∷ was) (suc n ∷ numbers) [] i new e is = refl
  marks_same (w ∷ was) (suc n ∷ numbers) (kept ∷ there) zero new e is = ap (λ flag. flag ∷ marked_places was numbers there) is
  marks_same (w ∷ was) (suc n ∷ numbers) (kept ∷ there) (suc i) new e is = ap (λ flags. kept.marked ∷ flags) (marks_same was numbers there i new e is)

  -- another thing in its place

  pub thing_set : (was : List X) (numbers : List ℕ) (there : List (OnShelf X)) (from place : ℕ) (new : OnShelf X)
      → IsNumbered from (from + length there) numbers → IsSet (held_places was numbers) place
      → merged was numbers (set there (get_or numbers place 0 - 1 - from) new) ≡ set (merged was numbers there) place new.thing
  thing_set [] numbers there from place new are is = absurd (grind (arith, is))
  thing_set (w ∷ was) [] there from zero new are is = absurd (grind (arith, is))
  thing_set (w ∷ was) [] there from (suc place) new are is =
      absurd (let some = number_within (w ∷ was) [] from (from + length there) (suc place) are is in omega (arith, some.0))
  thing_set (w ∷ was) (zero ∷ numbers) there from zero new are is = absurd (grind (arith, is))
  thing_set (w ∷ was) (zero ∷ numbers) there from (suc place) new are is =
      ap (λ xs. w ∷ xs) (thing_set was numbers there from place new are is)
  thing_set (w ∷ was) (suc n ∷ numbers) [] from place new are is =
      absurd (let order = numbered_order (suc from) (from + 0) numbers are.1 in omega (arith, order))
  thing_set (w ∷ was) (suc n ∷ numbers) (kept ∷ there) from zero new are is =
      ap (λ (i : ℕ). merged (w ∷ was) (suc n ∷ numbers) (set (kept ∷ there) i new)) (first_index n from are.0)
  thing_set (w ∷ was) (suc n ∷ numbers) (kept ∷ there) from (suc place) new are is =
      let more : from + suc (length there) ≡ suc from + length there = omega arith in
      let rest : IsNumbered (suc from) (suc from + length there) numbers = subst (λ (to : ℕ). IsNumbered (suc from) to numbers) more are.1 in
      let some = number_within was numbers (suc from) (suc from + length there) place rest is in
      ap (λ (i : ℕ). merged (w ∷ was) (suc n ∷ numbers) (set (kept ∷ there) i new)) (next_index (get_or numbers place 0) from some.0)
      ∙ ap (λ xs. kept.thing ∷ xs) (thing_set was numbers there (suc from) place new rest is)

  pub mark_set : (was : List X) (numbers : List ℕ) (there : List (OnShelf X)) (from place : ℕ) (new : OnShelf X)
      → IsNumbered from (from + length there) numbers → IsSet (held_places was numbers) place
      → marked_places was numbers (set there (get_or numbers place 0 - 1 - from) new) ≡ set (marked_places was numbers there) place new.marked
  mark_set [] numbers there from place new are is = absurd (grind (arith, is))
  mark_set (w ∷ was) [] there from zero new are is = absurd (grind (arith, is))
  mark_set (w ∷ was) [] there from (suc place) new are is =
      absurd (let some = number_within (w ∷ was) [] from (from + length there) (suc place) are is in omega (arith, some.0))
  mark_set (w ∷ was) (zero ∷ numbers) there from zero new are is = absurd (grind (arith, is))
  mark_set (w ∷ was) (zero ∷ numbers) there from (suc place) new are is =
      ap (λ xs. false ∷ xs) (mark_set was numbers there from place new are is)
  mark_set (w ∷ was) (suc n ∷ numbers) [] from place new are is =
      absurd (let order = numbered_order (suc from) (from + 0) numbers are.1 in omega (arith, order))
  mark_set (w ∷ was) (suc n ∷ numbers) (kept ∷ there) from zero new are is =
      ap (λ (i : ℕ). marked_places (w ∷ was) (suc n ∷ numbers) (set (kept ∷ there) i new)) (first_index n from are.0)
  mark_set (w ∷ was) (suc n ∷ numbers) (kept ∷ there) from (suc place) new are is =
      let more : from + suc (length there) ≡ suc from + length there = omega arith in
      let rest : IsNumbered (suc from) (suc from + length there) numbers = subst (λ (to : ℕ). IsNumbered (suc from) to numbers) more are.1 in
      let some = number_within was numbers (suc from) (suc from + length there) place rest is in
      ap (λ (i : ℕ). marked_places (w ∷ was) (suc n ∷ numbers) (set (kept ∷ there) i new)) (next_index (get_or numbers place 0) from some.0)
      ∙ ap (λ xs. kept.marked ∷ xs) (mark_set was numbers there (suc from) place new rest is)

  -- By the number

  -- where a thing stands that is there
  pub found_place : (was : List X) (numbers : List ℕ) (to place : ℕ) → IsNumbered 0 to numbers → IsSet (held_places was numbers) place
      → (place < length numbers) × ((0 < get_or numbers place 0) × (get_or numbers place 0 ≤ to))
  found_place was numbers to place are is =
      let within = number_within was numbers 0 to place are is in
      (place_below numbers place within.0, within)

  pub thing_by_number : (was : List X) (numbers : List ℕ) (there : List (OnShelf X)) (place n : ℕ) (d : X) (e : OnShelf X)
      → IsNumbered 0 (length there) numbers → IsSet (held_places was numbers) place → n ≡ get_or numbers place 0
      → get_or (merged was numbers there) place d ≡ (get_or there (n - 1) e).thing
  thing_by_number was numbers there place n d e are is same =
      let at : get_or numbers place 0 - 1 - 0 ≡ n - 1 = omega (arith, same) in
      thing_at was numbers there 0 place d e (from_none numbers (length there) are) is ∙ ap (λ (i : ℕ). (get_or there i e).thing) at

  pub mark_by_number : (was : List X) (numbers : List ℕ) (there : List (OnShelf X)) (place n : ℕ) (e : OnShelf X)
      → IsNumbered 0 (length there) numbers → IsSet (held_places was numbers) place → n ≡ get_or numbers place 0
      → get_or (marked_places was numbers there) place false ≡ (get_or there (n - 1) e).marked
  mark_by_number was numbers there place n e are is same =
      let at : get_or numbers place 0 - 1 - 0 ≡ n - 1 = omega (arith, same) in
      mark_at was numbers there 0 place e (from_none numbers (length there) are) is ∙ ap (λ (i : ℕ). (get_or there i e).marked) at

  -- a row whose thing at a place is another one
  pub lent_row : (was : List X) (numbers : List ℕ) (there : List (OnShelf X)) (place n : ℕ) (e : OnShelf X) (x : X)
      → IsNumbered 0 (length there) numbers → IsSet (held_places was numbers) place → n ≡ get_or numbers place 0 → e ≡ get_or there (n - 1) e
      → row_seen was numbers (set there (n - 1) (record { thing = x; marked = e.marked }))
      ≡ record { shelf = with_other (row_seen was numbers there).shelf place x; marks = marked_places was numbers there }
  lent_row was numbers there place n e x are is same found =
      let new : OnShelf X = record { thing = x; marked = e.marked } in
      let at : n - 1 ≡ get_or numbers place 0 - 1 - 0 = omega (arith, same) in
      same_view (merged was numbers (set there (n - 1) new)) (set (merged was numbers there) place x) (held_places was numbers) (held_places was numbers)
      (marked_places was numbers (set there (n - 1) new)) (marked_places was numbers there)
      (ap (λ (i : ℕ). merged was numbers (set there i new)) at ∙ thing_set was numbers there 0 place new (from_none numbers (length there) are) is)
      refl
      (marks_same was numbers there (n - 1) new e (ap (λ (some : OnShelf X). some.marked) found))

  -- a row with one more mark
  pub marked_row : (was : List X) (numbers : List ℕ) (there : List (OnShelf X)) (place n : ℕ) (e : OnShelf X)
      → IsNumbered 0 (length there) numbers → IsSet (held_places was numbers) place → n ≡ get_or numbers place 0 → e ≡ get_or there (n - 1) e
      → row_seen was numbers (set there (n - 1) (record { thing = e.thing; marked = true })) ≡ view_marked (row_seen was numbers there) place
  marked_row was numbers there place n e are is same found =
      let new : OnShelf X = record { thing = e.thing; marked = true } in
      let at : n - 1 ≡ get_or numbers place 0 - 1 - 0 = omega (arith, same) in
      same_view (merged was numbers (set there (n - 1) new)) (merged was numbers there) (held_places was numbers) (held_places was numbers)
      (marked_places was numbers (set there (n - 1) new))
      (with_mark (held_places was numbers) (marked_places was numbers there) place)
      (things_same was numbers there (n - 1) new e (ap (λ (some : OnShelf X). some.thing) found))
      refl
      (ap (λ (i : ℕ). marked_places was numbers (set there i new)) at
      ∙ (mark_set was numbers there 0 place new (from_none numbers (length there) are) is
      ∙ ap (λ (flag : Bool). if flag then set (marked_places was numbers there) place true else marked_places was numbers there) (sym is)))

  -- whether it was not marked before
  pub fresh_mark : (was : List X) (numbers : List ℕ) (there : List (OnShelf X)) (place n : ℕ) (e : OnShelf X)
      → IsNumbered 0 (length there) numbers → IsSet (held_places was numbers) place → n ≡ get_or numbers place 0 → e ≡ get_or there (n - 1) e
      → not e.marked ≡ (get_or (held_places was numbers) place false && not (get_or (marked_places was numbers there) place false))
  fresh_mark was numbers there place n e are is same found =
      let mark : get_or (marked_places was numbers there) place false ≡ e.marked =
      mark_by_number was numbers there place n e are is same ∙ ap (λ (some : OnShelf X). some.marked) (sym found) in
      ap not (sym mark) ∙ ap (λ (flag : Bool). flag && not (get_or (marked_places was numbers there) place false)) (sym is)

  -- One thing more

  pub things_more : (was : List X) (numbers : List ℕ) (there : List (OnShelf X)) (from : ℕ) (w : X) (n : ℕ) (new : OnShelf X) → length numbers ≡ length was
      → IsNumbered from (from + length there) numbers
      → merged (was ++ w ∷ []) (numbers ++ suc n ∷ []) (there ++ new ∷ []) ≡ merged was numbers there ++ new.thing ∷ []
  things_more [] [] [] from w n new long are = refl
  things_more [] [] (kept ∷ there) from w n new long are = absurd (omega (arith, are))
  things_more [] (m ∷ numbers) there from w n new long are = absurd (omega (arith, long))
  things_more (v ∷ was) [] there from w n new long are = absurd (omega (arith, long))
  things_more (v ∷ was) (zero ∷ numbers) there from w n new long are =
      ap (λ xs. v ∷ xs) (things_more was numbers there from w n new (omega (arith, long)) are)
  things_more (v ∷ was) (suc m ∷ numbers) [] from w n new long are =
      absurd (let order = numbered_order (suc from) (from + 0) numbers are.1 in omega (arith, order))
  things_more (v ∷ was) (suc m ∷ numbers) (kept ∷ there) from w n new long are =
      let more : from + suc (length there) ≡ suc from + length there = omega arith in
      let rest : IsNumbered (suc from) (suc from + length there) numbers = subst (λ (to : ℕ). IsNumbered (suc from) to numbers) more are.1 in
      ap (λ xs. kept.thing ∷ xs) (things_more was numbers there (suc from) w n new (omega (arith, long)) rest)

  pub marks_more : (was : List X) (numbers : List ℕ) (there : List (OnShelf X)) (from : ℕ) (w : X) (n : ℕ) (new : OnShelf X) → length numbers ≡ length was
      → IsNumbered from (from + length there) numbers
      → marked_places (was ++ w ∷ []) (numbers ++ suc n ∷ []) (there ++ new ∷ []) ≡ marked_places was numbers there ++ new.marked ∷ []
  marks_more [] [] [] from w n new long are = refl
  marks_more [] [] (kept ∷ there) from w n new long are = absurd (omega (arith, are))
  marks_more [] (m ∷ numbers) there from w n new long are = absurd (omega (arith, long))
  marks_more (v ∷ was) [] there from w n new long are = absurd (omega (arith, long))
  marks_more (v ∷ was) (zero ∷ numbers) there from w n new long are =
      ap (λ flags. false ∷ flags) (marks_more was numbers there from w n new (omega (arith, long)) are)
  marks_more (v ∷ was) (suc m ∷ numbers) [] from w n new long are =
      absurd (let order = numbered_order (suc from) (from + 0) numbers are.1 in omega (arith, order))
  marks_more (v ∷ was) (suc m ∷ numbers) (kept ∷ there) from w n new long are =
      let more : from + suc (length there) ≡ suc from + length there = omega arith in
      let rest : IsNumbered (suc from) (suc from + length there) numbers = subst (λ (to : ℕ). IsNumbered (suc from) to numbers) more are.1 in
      ap (λ flags. kept.marked ∷ flags) (marks_more was numbers there (suc from) w n new (omega (arith, long)) rest)

  pub held_more : (was : List X) (numbers : List ℕ) (w : X) (n : ℕ) → length numbers ≡ length was
      → held_places (was ++ w ∷ []) (numbers ++ suc n ∷ []) ≡ held_places was numbers ++ true ∷ []
  held_more [] [] w n long = refl
  held_more [] (m ∷ numbers) w n long = absurd (omega (arith, long))
  held_more (v ∷ was) [] w n long = absurd (omega (arith, long))
  held_more (v ∷ was) (zero ∷ numbers) w n long = ap (λ xs. false ∷ xs) (held_more was numbers w n (omega (arith, long)))
  held_more (v ∷ was) (suc m ∷ numbers) w n long = ap (λ xs. true ∷ xs) (held_more was numbers w n (omega (arith, long)))

  -- a row with one thing more
  pub seen_more : (was : List X) (numbers : List ℕ) (there : List (OnShelf X)) (w x : X) (n : ℕ) → length numbers ≡ length was
      → IsNumbered 0 (length there) numbers → n ≡ length there + 1
      → row_seen (was ++ w ∷ []) (numbers ++ n ∷ []) (there ++ record { thing = x; marked = false } ∷ []) ≡ view_with (row_seen was numbers there) x
  seen_more was numbers there w x n long are is =
      let new : OnShelf X = record { thing = x; marked = false } in
      let next : n ≡ suc (length there) = omega (arith, is) in
      ap (λ (k : ℕ). row_seen (was ++ w ∷ []) (numbers ++ k ∷ []) (there ++ new ∷ [])) next
      ∙ same_view (merged (was ++ w ∷ []) (numbers ++ suc (length there) ∷ []) (there ++ new ∷ [])) (merged was numbers there ++ x ∷ [])
      (held_places (was ++ w ∷ []) (numbers ++ suc (length there) ∷ [])) (held_places was numbers ++ true ∷ [])
      (marked_places (was ++ w ∷ []) (numbers ++ suc (length there) ∷ []) (there ++ new ∷ [])) (marked_places was numbers there ++ false ∷ [])
      (things_more was numbers there 0 w (length there) new long (from_none numbers (length there) are))
      (held_more was numbers w (length there) long)
      (marks_more was numbers there 0 w (length there) new long (from_none numbers (length there) are))

pub row_more : {Y Z : Type 0} (was : List Y) (there : List Z) (numbers : List ℕ) (w : Y) (kept : Z) (n : ℕ) → IsRow (length was) (length there) numbers
    → length was < 128 → n ≡ length there + 1
    → IsRow (length (was ++ w ∷ [])) (length (there ++ kept ∷ [])) (numbers ++ n ∷ [])
row_more was there numbers w kept n row room is =
    let next : n ≡ suc (length there) = omega (arith, is) in
    let more = length-append was (w ∷ []) in
    let more_there = length-append there (kept ∷ []) in
    let more_numbers = length-append numbers (n ∷ []) in
    let full = numbers_full (length was) (length there) numbers row room in
    let one_more : length (there ++ kept ∷ []) ≡ suc (length there) = omega (arith, more_there) in
    record {
      numbered = subst (λ (to : ℕ). IsNumbered 0 to (numbers ++ n ∷ [])) (sym one_more)
          (subst (λ (m : ℕ). IsNumbered 0 (suc (length there)) (numbers ++ m ∷ [])) (sym next) (numbered_more numbers 0 (length there) row.numbered));
      long = inl (omega (arith, more, more_numbers, full));
      few = omega (arith, more, room);
    }

-- What a push or a pop leaves

pub not_pushed : {Y : Type 0} (ok : Bool) (xs ys zs : List Y) → zs ≡ (if ok then ys else xs) → ok ≡ false → zs ≡ xs
not_pushed ok xs ys zs is failed = is ∙ ap (λ (flag : Bool). if flag then ys else xs) failed

pub pushed : {Y : Type 0} (ok : Bool) (xs ys zs : List Y) → zs ≡ (if ok then ys else xs) → ok ≡ true → zs ≡ ys
pushed ok xs ys zs is done = is ∙ ap (λ (flag : Bool). if flag then ys else xs) done

pub popped : {Y : Type 0} (xs old new : List Y) (y : Y) (n : ℕ) → old ≡ xs ++ y ∷ [] → n ≡ length old → new ≡ take (n - 1) old → new ≡ xs
popped xs old new y n is long rest =
    let more = ap length is ∙ length-append xs (y ∷ []) in
    let before : length xs ≡ n - 1 = omega (arith, more, long) in
    rest ∙ (ap (take (n - 1)) is ∙ take_at xs (y ∷ []) (n - 1) before)

pub row_same : {Y Z : Type 0} (was new : List Y) (there kept : List Z) (numbers others : List ℕ) → new ≡ was → kept ≡ there → others ≡ numbers
    → IsRow (length was) (length there) numbers
    → IsRow (length new) (length kept) others
row_same was new there kept numbers others same_was same_there same_numbers row = rw (same_was, same_there, same_numbers) row

-- A list that is changed from its front on

module _ {X : Type 0} (f : X → X) where
  -- what stands at the place that is next is as it was
  pub next_as_was : (xs : List X) (i : ℕ) (d : X) → i < length xs → get_or (map f (take i xs) ++ drop i xs) i d ≡ get_or xs i d
  next_as_was [] i d within = absurd (omega (arith, within))
  next_as_was (x ∷ xs) zero d within = refl
  next_as_was (x ∷ xs) (suc i) d within = next_as_was xs i d (omega (arith, within))

  -- one more
  pub one_changed : (xs : List X) (i : ℕ) (y : X) (d : X) → i < length xs → y ≡ f (get_or xs i d)
      → set (map f (take i xs) ++ drop i xs) i y ≡ map f (take (suc i) xs) ++ drop (suc i) xs
  one_changed [] i y d within is = absurd (omega (arith, within))
  one_changed (x ∷ xs) zero y d within is = ap (λ z. z ∷ xs) is
  one_changed (x ∷ xs) (suc i) y d within is = ap (λ zs. f x ∷ zs) (one_changed xs i y d (omega (arith, within)) is)

  pub one_more_changed : (xs now : List X) (i : ℕ) (old new : X) → i < length xs → now ≡ map f (take i xs) ++ drop i xs → old ≡ get_or now i old
      → new ≡ f old
      → set now i new ≡ map f (take (i + 1) xs) ++ drop (i + 1) xs
  one_more_changed xs now i old new within so_far found is =
      let next : suc i ≡ i + 1 = omega arith in
      let before : old ≡ get_or xs i old = found ∙ (ap (λ ys. get_or ys i old) so_far ∙ next_as_was xs i old within) in
      ap (λ ys. set ys i new) so_far ∙ (one_changed xs i new old within (is ∙ ap f before) ∙ ap (λ n. map f (take n xs) ++ drop n xs) next)

  -- all of them
  pub all_changed : (xs : List X) (n : ℕ) → length xs ≤ n → map f (take n xs) ++ drop n xs ≡ map f xs
  all_changed [] zero all = refl
  all_changed [] (suc n) all = refl
  all_changed (x ∷ xs) zero all = absurd (omega (arith, all))
  all_changed (x ∷ xs) (suc n) all = ap (λ zs. f x ∷ zs) (all_changed xs n (omega (arith, all)))

-- Numbers that are given anew

-- how many of these are not 0
abbrev pub counted : List ℕ → ℕ
counted [] = 0
counted (zero ∷ numbers) = counted numbers
counted (suc n ∷ numbers) = suc (counted numbers)

-- there are no more of them than numbers
pub counted_few : (numbers : List ℕ) → counted numbers ≤ length numbers
counted_few [] = omega arith
counted_few (zero ∷ numbers) = let rest = counted_few numbers in omega (arith, rest)
counted_few (suc n ∷ numbers) = let rest = counted_few numbers in omega (arith, rest)

pub renumbered_length : (numbers : List ℕ) (from : ℕ) → length (renumbered from numbers) ≡ length numbers
renumbered_length [] from = refl
renumbered_length (zero ∷ numbers) from = ap suc (renumbered_length numbers from)
renumbered_length (suc n ∷ numbers) from = ap suc (renumbered_length numbers (suc from))

-- what stands at the place that is next is as it was
pub number_as_was : (numbers : List ℕ) (from i : ℕ) → get_or (renumbered from (take i numbers) ++ drop i numbers) i 0 ≡ get_or numbers i 0
number_as_was [] from zero = refl
number_as_was [] from (suc i) = refl
number_as_was (n ∷ numbers) from zero = refl
number_as_was (zero ∷ numbers) from (suc i) = number_as_was numbers from i
number_as_was (suc n ∷ numbers) from (suc i) = number_as_was numbers (suc from) i

-- one more that is 0
pub nought_stays : (numbers : List ℕ) (from i : ℕ) → get_or numbers i 0 ≡ 0
    → (renumbered from (take i numbers) ++ drop i numbers ≡ renumbered from (take (suc i) numbers) ++ drop (suc i) numbers)
    × (counted (take (suc i) numbers) ≡ counted (take i numbers))
nought_stays [] from zero none = (refl, refl)
nought_stays [] from (suc i) none = (refl, refl)
nought_stays (zero ∷ numbers) from zero none = (refl, refl)
nought_stays (suc n ∷ numbers) from zero none = absurd (omega (arith, none))
nought_stays (zero ∷ numbers) from (suc i) none =
    let rest = nought_stays numbers from i none in
    (ap (λ ns. zero ∷ ns) rest.0, rest.1)
nought_stays (suc n ∷ numbers) from (suc i) none =
    let rest = nought_stays numbers (suc from) i none in
    (ap (λ ns. suc from ∷ ns) rest.0, ap suc rest.1)

-- one more that is not
pub number_rises : (numbers : List ℕ) (from i n new : ℕ) → get_or numbers i 0 ≡ suc n → new ≡ suc (from + counted (take i numbers))
    → (set (renumbered from (take i numbers) ++ drop i numbers) i new ≡ renumbered from (take (suc i) numbers) ++ drop (suc i) numbers)
    × (counted (take (suc i) numbers) ≡ suc (counted (take i numbers)))
number_rises [] from i n new some is = absurd (omega (arith, some))
number_rises (zero ∷ numbers) from zero n new some is = absurd (omega (arith, some))
number_rises (suc m ∷ numbers) from zero n new some is =
    let same : new ≡ suc from = omega (arith, is) in
    (ap (λ k. k ∷ numbers) same, refl)
number_rises (zero ∷ numbers) from (suc i) n new some is =
    let rest = number_rises numbers from i n new some is in
    (ap (λ ns. zero ∷ ns) rest.0, rest.1)
number_rises (suc m ∷ numbers) from (suc i) n new some is =
    let here : new ≡ suc (suc from + counted (take i numbers)) = omega (arith, is) in
    let rest = number_rises numbers (suc from) i n new some here in
    (ap (λ ns. suc from ∷ ns) rest.0, ap suc rest.1)

pub renumbered_all : (numbers : List ℕ) (n : ℕ) → length numbers ≤ n → renumbered 0 (take n numbers) ++ drop n numbers ≡ renumbered 0 numbers
renumbered_all numbers n all = all_of numbers 0 n all
  where
    all_of : (ms : List ℕ) (from k : ℕ) → length ms ≤ k → renumbered from (take k ms) ++ drop k ms ≡ renumbered from ms
    all_of [] from zero within = refl
    all_of [] from (suc k) within = refl
    all_of (m ∷ ms) from zero within = absurd (omega (arith, within))
    all_of (zero ∷ ms) from (suc k) within = ap (λ ns. zero ∷ ns) (all_of ms from k (omega (arith, within)))
    all_of (suc m ∷ ms) from (suc k) within = ap (λ ns. suc from ∷ ns) (all_of ms (suc from) k (omega (arith, within)))

-- One more place in a loop that numbers anew

number_here : (before now : List ℕ) (i n : ℕ) → i < length before → length now ≡ length before
    → now ≡ renumbered 0 (take i before) ++ drop i before → n ≡ get_or now i n
    → n ≡ get_or before i 0
number_here before now i n within long so_far found =
    get_or_read now i n (omega (arith, within, long)) found 0 ∙ (ap (λ ns. get_or ns i 0) so_far ∙ number_as_was before 0 i)

pub renumbered_more : (before now new : List ℕ) (i n kept more : ℕ) → i < length before → length now ≡ length before
    → now ≡ renumbered 0 (take i before) ++ drop i before → kept ≡ counted (take i before) → n ≡ get_or now i n → 0 < n
    → new ≡ set now i (kept + 1) → more ≡ kept + 1
    → (new ≡ renumbered 0 (take (i + 1) before) ++ drop (i + 1) before) × (more ≡ counted (take (i + 1) before))
renumbered_more before now new i n kept more within long so_far count found some is more_is =
    let next : suc i ≡ i + 1 = omega arith in
    let here = number_here before now i n within long so_far found in
    let some_here : get_or before i 0 ≡ suc (n - 1) = omega (arith, here, some) in
    let number : kept + 1 ≡ suc (0 + counted (take i before)) = omega (arith, count) in
    let rises = number_rises before 0 i (n - 1) (kept + 1) some_here number in
    let counts : counted (take (i + 1) before) ≡ suc (counted (take i before)) = ap (λ k. counted (take k before)) (sym next) ∙ rises.1 in (
      is ∙ (ap (λ ns. set ns i (kept + 1)) so_far ∙ (rises.0 ∙ ap (λ k. renumbered 0 (take k before) ++ drop k before) next)),
      omega (arith, more_is, counts, count),
    )

pub renumbered_less : (before now : List ℕ) (i n kept : ℕ) → i < length before → length now ≡ length before
    → now ≡ renumbered 0 (take i before) ++ drop i before → kept ≡ counted (take i before) → n ≡ get_or now i n → n ≤ 0
    → (now ≡ renumbered 0 (take (i + 1) before) ++ drop (i + 1) before) × (kept ≡ counted (take (i + 1) before))
renumbered_less before now i n kept within long so_far count found none =
    let next : suc i ≡ i + 1 = omega arith in
    let here = number_here before now i n within long so_far found in
    let none_here : get_or before i 0 ≡ 0 = omega (arith, here, none) in
    let stays = nought_stays before 0 i none_here in
    let counts : counted (take (i + 1) before) ≡ counted (take i before) = ap (λ k. counted (take k before)) (sym next) ∙ stays.1 in (
      so_far ∙ (stays.0 ∙ ap (λ k. renumbered 0 (take k before) ++ drop k before) next),
      omega (arith, counts, count),
    )

pub number_next : (f : ℕ → ℕ) (before now : List ℕ) (i n : ℕ) → i < length before → now ≡ map f (take i before) ++ drop i before → n ≡ get_or now i n
    → n ≡ get_or before i 0
number_next f before now i n within so_far found =
    get_or_read before i n within (found ∙ (ap (λ ns. get_or ns i n) so_far ∙ next_as_was f before i n within)) 0
