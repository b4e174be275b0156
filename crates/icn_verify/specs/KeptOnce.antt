-- Entries that are kept once.
use Rattle.std.specs.Prelude.{◌≡◌, ℕ, ◌⊎◌, List, [], ◌∷◌, ◌++◌, Some, slice_get}
use Rattle.icn_verify.specs.declared.arena.StackedLevel.{StackedLevel}

-- an entry that is there stays where it is, and a new one goes last
pub record IsEntered (old : List StackedLevel) (entry : StackedLevel) (new : List StackedLevel) : Type 0 where
  pub is : (new ≡ old) ⊎ ((new ≡ old ++ entry ∷ []) × ((k : ℕ) → slice_get old k ≡ Some entry → ⊥))
