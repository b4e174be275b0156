-- In which order things came whose numbers close up.
use Rattle.std.specs.Prelude.{ℕ, ◌-◌, ◌<◌, ◌≡◌, not, ◌==◌, List, [], ◌∷◌, ◌++◌, length, filter, map, if◌then◌else◌, slice_get, slice_index_or, option_to_list, Option, Some}
use Rattle.icn_structs.specs.GapLists.{present}

-- the number that a thing has once another went and the last one took the number of that
abbrev pub renamed : ℕ → ℕ → ℕ → ℕ
renamed last gone number = if number == last then gone else number

-- the numbers in their order without one, whose number the last one takes
abbrev pub without_number : ℕ → List ℕ → List ℕ
without_number gone numbers =
    map (renamed (length numbers - 1) gone) (filter (λ number. not (number == gone)) numbers)

-- things in the order in which their numbers stand
abbrev pub in_order : {A : Type 0} → List A → List ℕ → List A
in_order things [] = []
in_order things (number ∷ numbers) = option_to_list (slice_get things number) ++ in_order things numbers

-- the numbers from 0 on, each once
pub record IsNumbering (numbers : List ℕ) : Type 0 where
  pub small : (place number : ℕ) → slice_get numbers place ≡ Some number → number < length numbers
  pub once : (one other number : ℕ) → slice_get numbers one ≡ Some number
      → slice_get numbers other ≡ Some number → one ≡ other
  pub all : (number : ℕ) → number < length numbers → (place : ℕ) × (slice_get numbers place ≡ Some number)

-- each number stands in the order at the place that is kept for it, and nothing else stands there
pub record IsStanding (places : List ℕ) (order : List (Option ℕ)) : Type 0 where
  pub count : length (present order) ≡ length places
  pub there : (number : ℕ) → number < length places
      → slice_get order (slice_index_or places number 0) ≡ Some (Some number)
  pub back : (place number : ℕ) → slice_get order place ≡ Some (Some number)
      → (number < length places) × (slice_index_or places number 0 ≡ place)

-- each of the things has its number in the order
pub record HasTurns (A : Type 0) (things : List A) (numbers : List ℕ) : Type 0 where
  pub count : length things ≡ length numbers
  pub numbering : IsNumbering numbers
