-- What became of a buffer that a call appends to.
use Rattle.std.specs.Prelude.{◌≡◌, ℕ, List, ◌++◌}

-- it begins with what it had
pub record Extends (had has : List ℕ) : Type 0 where
  pub more : List ℕ
  pub is : has ≡ had ++ more
