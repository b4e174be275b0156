-- Where the entries of a table stand among those that stay.
use Rattle.std.specs.Prelude.{◌≡◌, ◌<◌, ◌+◌, ◌^◌, ℕ, suc, List, [], ◌∷◌, length, slice_get, Option, None, Some}

-- how many entries have no new place
abbrev pub unset_count : List (Option ℕ) → ℕ
unset_count [] = 0
unset_count (None ∷ new) = suc (unset_count new)
unset_count (Some place ∷ new) = unset_count new

-- The new place of each entry that stays is where it stands among these, and no other has one.
pub record ArePlaces (left : List ℕ) (new : List (Option ℕ)) : Type 0 where
  pub told : (place at : ℕ) → slice_get new place ≡ Some (Some at) → slice_get left at ≡ Some place
  pub stands : (at place : ℕ) → slice_get left at ≡ Some place → slice_get new place ≡ Some (Some at)
  pub counted : length left + unset_count new ≡ length new
  pub few : length new < 2 ^ 32
