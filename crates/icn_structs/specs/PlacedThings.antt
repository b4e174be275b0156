-- The places of a row, and the rows of a shelf.
use Rattle.std.specs.Prelude.{◌≡◌, ◌⊎◌, ℕ, zero, suc, ◌≤◌, ◌<◌, ◌^◌, Bool, true, false, Option, None, Some, List, [], ◌∷◌, length, map, if◌then◌else◌, not, ⊤}
use Rattle.std.specs.List.{All, flat_map, slice_get}
use Rattle.std.specs.declared.snapshot.Snapshot.{Snapshot}
use Rattle.icn_structs.specs.declared.row.OnShelf.{OnShelf}
use Rattle.icn_structs.specs.Shelves.{ShelfView}

-- what is remembered of the things of a row
abbrev pub memories : {X : Type 0} → List (Snapshot X) → List X
memories was = map (λ memory. memory.value) was

-- the things of a row: at a place that has a number stands the next of those that are there, at the others what is
-- remembered
abbrev pub merged : {X : Type 0} → List X → List ℕ → List (OnShelf X) → List X
merged [] numbers there = []
merged (x ∷ was) [] there = x ∷ merged was [] there
merged (x ∷ was) (zero ∷ numbers) there = x ∷ merged was numbers there
merged (x ∷ was) (suc n ∷ numbers) [] = x ∷ merged was numbers []
merged (x ∷ was) (suc n ∷ numbers) (kept ∷ there) = kept.thing ∷ merged was numbers there

-- of each place whether its thing is there
abbrev pub held_places : {X : Type 0} → List X → List ℕ → List Bool
held_places [] numbers = []
held_places (x ∷ was) [] = false ∷ held_places was []
held_places (x ∷ was) (zero ∷ numbers) = false ∷ held_places was numbers
held_places (x ∷ was) (suc n ∷ numbers) = true ∷ held_places was numbers

-- of each place whether its thing is marked
abbrev pub marked_places : {X : Type 0} → List X → List ℕ → List (OnShelf X) → List Bool
marked_places [] numbers there = []
marked_places (x ∷ was) [] there = false ∷ marked_places was [] there
marked_places (x ∷ was) (zero ∷ numbers) there = false ∷ marked_places was numbers there
marked_places (x ∷ was) (suc n ∷ numbers) [] = false ∷ marked_places was numbers []
marked_places (x ∷ was) (suc n ∷ numbers) (kept ∷ there) = kept.marked ∷ marked_places was numbers there

-- a row as clauses see it
abbrev pub row_seen : {X : Type 0} → List X → List ℕ → List (OnShelf X) → ShelfView X
row_seen was numbers there = record {
  shelf = record { things = merged was numbers there; held = held_places was numbers };
  marks = marked_places was numbers there;
}

-- the numbers that are not 0 go up by one each, from this one on, to how many things are there
abbrev pub IsNumbered : ℕ → ℕ → List ℕ → Type 0
IsNumbered from to [] = from ≡ to
IsNumbered from to (zero ∷ numbers) = IsNumbered from to numbers
IsNumbered from to (suc n ∷ numbers) = (n ≡ from) × IsNumbered (suc from) to numbers

-- each place has a number, or nothing is there and no place is free
pub record IsRow (all there : ℕ) (numbers : List ℕ) : Type 0 where
  pub numbered : IsNumbered 0 there numbers
  pub long : (length numbers ≡ all) ⊎ ((length numbers ≡ 0) × (all ≡ 128))
  pub few : all ≤ 128

-- What is given back

-- whether a thing is marked
abbrev pub is_marked : {X : Type 0} → OnShelf X → Bool
is_marked kept = kept.marked

-- whether the thing that was found is marked
abbrev pub found_marked : {X : Type 0} → Option (OnShelf X) → Bool
found_marked None = false
found_marked (Some kept) = kept.marked

-- whether a number is one of a thing that is not marked
abbrev pub must_go : {X : Type 0} → List (OnShelf X) → ℕ → Bool
must_go there zero = false
must_go there (suc n) = not (found_marked (slice_get there n))

-- the number of a thing, if it is marked
abbrev pub kept_number : {X : Type 0} → List (OnShelf X) → ℕ → ℕ
kept_number there zero = zero
kept_number there (suc n) = if found_marked (slice_get there n) then suc n else zero

-- what is remembered of a place: the thing that was found, unless it is marked
abbrev pub memory_of : {X : Type 0} → Option (OnShelf X) → X → X
memory_of None x = x
memory_of (Some kept) x = if kept.marked then x else kept.thing

-- what is remembered of a place with this number
abbrev pub memory_at : {X : Type 0} → List (OnShelf X) → ℕ → X → X
memory_at there zero x = x
memory_at there (suc n) x = memory_of (slice_get there n) x

-- what is remembered of all places
abbrev pub remembered : {X : Type 0} → List X → List ℕ → List (OnShelf X) → List X
remembered [] numbers there = []
remembered (x ∷ was) [] there = x ∷ remembered was [] there
remembered (x ∷ was) (zero ∷ numbers) there = x ∷ remembered was numbers there
remembered (x ∷ was) (suc n ∷ numbers) there = memory_of (slice_get there n) x ∷ remembered was numbers there

-- the numbers that are not 0 anew, from one number on
abbrev pub renumbered : ℕ → List ℕ → List ℕ
renumbered from [] = []
renumbered from (zero ∷ numbers) = zero ∷ renumbered from numbers
renumbered from (suc n ∷ numbers) = suc from ∷ renumbered (suc from) numbers

-- the thing without its mark
abbrev pub unmarked : {X : Type 0} → OnShelf X → OnShelf X
unmarked kept = record kept { marked = false }

-- Rows

-- the rows of a shelf, one behind the other
abbrev pub shelf_seen : {X : Type 0} → List (ShelfView X) → ShelfView X
shelf_seen rows = record {
  shelf = record {
    things = flat_map (λ row. row.shelf.things) rows;
    held = flat_map (λ row. row.shelf.held) rows;
  };
  marks = flat_map (λ row. row.marks) rows;
}

-- each row but the last has 128 things, the last one at least and 128 at most
abbrev pub AreFull : {X : Type 0} → List (ShelfView X) → Type 0
AreFull [] = ⊤
AreFull (row ∷ []) = (0 < length row.shelf.things) × (length row.shelf.things ≤ 128)
AreFull (row ∷ next ∷ rows) = (length row.shelf.things ≡ 128) × AreFull (next ∷ rows)

-- there are as many flags and marks as things
pub record IsLevel {X : Type 0} (row : ShelfView X) : Type 0 where
  pub held : length row.shelf.held ≡ length row.shelf.things
  pub marks : length row.marks ≡ length row.shelf.things

-- the rows hold so many things
pub record AreInRows {X : Type 0} (number : ℕ) (rows : List (ShelfView X)) : Type 0 where
  pub full : AreFull rows
  pub level : All IsLevel rows
  pub count : number ≡ length (flat_map (λ row. row.shelf.things) rows)
  pub few : number < 2 ^ 63
