-- How values lie in the places of a segment.
use Rattle.std.specs.Prelude.{◌≡◌, ℕ, get_or, List, Option, Some, None}

-- the place at an index holds a value
abbrev pub IsFilled : {X : Type 0} → List (Option X) → ℕ → Type 0
IsFilled {X} places index = (x : X) × (get_or places index None ≡ Some x)
