-- Things that are named by how many came before them, and of which some were given back.
use Rattle.std.specs.Prelude.{◌≡◌, ℕ, Bool, true, false, List, [], ◌∷◌, ◌++◌, map, slice_index_or, slice_set, if◌then◌else◌}

-- all things that ever came, in their order, and of each whether it is there still
pub record Shelved (X : Type 0) : Type 0 where
  pub things : List X
  pub held : List Bool

-- a shelf as clauses see it: what came and what is there, and what is marked of it
pub record ShelfView (X : Type 0) : Type 0 where
  pub shelf : Shelved X
  pub marks : List Bool

-- nothing came
abbrev pub empty_view : {X : Type 0} → ShelfView X
empty_view = record { shelf = record { things = []; held = [] }; marks = [] }

-- the flag of this number is set; none is behind the last
abbrev pub IsSet : List Bool → ℕ → Type 0
IsSet flags number = slice_index_or flags number false ≡ true

-- no things
abbrev pub no_things : {X : Type 0} → Shelved X
no_things = record { things = []; held = [] }

-- with one more thing, which is there
abbrev pub with_new : {X : Type 0} → Shelved X → X → Shelved X
with_new shelf thing = record { things = shelf.things ++ thing ∷ []; held = shelf.held ++ true ∷ [] }

-- with this thing in the place of the one of this number
abbrev pub with_other : {X : Type 0} → Shelved X → ℕ → X → Shelved X
with_other shelf number thing = record shelf { things = slice_set shelf.things number thing }

-- with these flags alone set: the other things were given back
abbrev pub with_held : {X : Type 0} → Shelved X → List Bool → Shelved X
with_held shelf flags = record shelf { held = flags }

-- the elements whose flags are set
abbrev pub those_set : {X : Type 0} → List Bool → List X → List X
those_set flags [] = []
those_set [] (x ∷ xs) = []
those_set (flag ∷ flags) (x ∷ xs) = if flag then x ∷ those_set flags xs else those_set flags xs

-- the things that are there, in their order
abbrev pub things_there : {X : Type 0} → Shelved X → List X
things_there shelf = those_set shelf.held shelf.things

-- no flag is set
abbrev pub all_unset : List Bool → List Bool
all_unset flags = map (λ flag. false) flags

-- the flags with one more that is set, where it is one of these
abbrev pub with_mark : List Bool → List Bool → ℕ → List Bool
with_mark held marks number = if slice_index_or held number false then slice_set marks number true else marks

-- with one more thing, which is there and not marked
abbrev pub view_with : {X : Type 0} → ShelfView X → X → ShelfView X
view_with view thing = record { shelf = with_new view.shelf thing; marks = view.marks ++ false ∷ [] }

-- with a mark at this number, if the thing is there
abbrev pub view_marked : {X : Type 0} → ShelfView X → ℕ → ShelfView X
view_marked view number = record view { marks = with_mark view.shelf.held view.marks number }

-- with no mark
abbrev pub view_unmarked : {X : Type 0} → ShelfView X → ShelfView X
view_unmarked view = record view { marks = all_unset view.shelf.held }

-- with what is marked alone, and no mark
abbrev pub view_given : {X : Type 0} → ShelfView X → ShelfView X
view_given view = record { shelf = with_held view.shelf view.marks; marks = all_unset view.shelf.held }
