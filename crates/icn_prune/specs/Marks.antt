-- Marks of procedures while those that are kept are looked for.
use Rattle.std.specs.Prelude.{◌≡◌, ◌==◌, ◌+◌, ℕ, suc, Bool, true, false, List, [], ◌∷◌, length, slice_get, Some}
use Rattle.std.specs.List.{list_any}
use Rattle.icn_defs.specs.KeptProcedures.{IsIn, with_kept}

-- how many are not marked
abbrev pub missing : List Bool → ℕ
missing [] = 0
missing (true ∷ keep) = missing keep
missing (false ∷ keep) = suc (missing keep)

-- the numbers that were met are those of the marked ones, each once
pub record IsMarked (keep : List Bool) (met : List ℕ) : Type 0 where
  pub met_marked : (place number : ℕ) → slice_get met place ≡ Some number → IsIn keep number
  pub marked_met : (number : ℕ) → IsIn keep number → list_any (λ other. other == number) met ≡ true
  pub counted : length met + missing keep ≡ length keep

-- these were marked, and nothing else; what was met stays where it is
pub record AddsMarks (before : List Bool) (met : List ℕ) (after : List Bool) (grown numbers : List ℕ) : Type 0 where
  pub marks : after ≡ with_kept numbers before
  pub stay : (place number : ℕ) → slice_get met place ≡ Some number → slice_get grown place ≡ Some number
