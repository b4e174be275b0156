-- Sets of bytes, as lists of their members in ascending order.
use Rattle.std.specs.Prelude.{◌==◌, ℕ, zero, suc, List, [], ◌∷◌, ◌++◌, if◌then◌else◌}
use Rattle.std.specs.List.{list_any}

-- the numbers below one that stand in a list, each once and in ascending order
unfoldable pub members_below : ℕ → List ℕ → List ℕ
members_below zero bytes = []
members_below (suc n) bytes = members_below n bytes ++ (if list_any (λ b. b == n) bytes then n ∷ [] else [])

-- the bytes that stand in a list, each once and in ascending order
abbrev pub members_of : List ℕ → List ℕ
members_of bytes = members_below 256 bytes
