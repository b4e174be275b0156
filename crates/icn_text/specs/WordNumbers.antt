-- Numbers as words of a command.
use Rattle.std.specs.Prelude.{ℕ, ◌+◌, ◌-◌, ◌*◌, Bool, ◌&&◌, nat_le, List, [], ◌∷◌, Option, None, Some, if◌then◌else◌}
use Rattle.std.specs.List.{list_all}

-- a decimal digit
abbrev pub is_digit : ℕ → Bool
is_digit b = nat_le 48 b && nat_le b 57

-- the number that decimal digits write behind those of a number
abbrev pub value_from : ℕ → List ℕ → ℕ
value_from n [] = n
value_from n (b ∷ rest) = value_from (n * 10 + (b - 48)) rest

-- a number from one to another, both included
abbrev pub within : ℕ → ℕ → ℕ → Option ℕ
within low high n = if nat_le low n && nat_le n high then Some n else None

-- a number from one to another: one or more decimal digits
abbrev pub number_within : ℕ → ℕ → List ℕ → Option ℕ
number_within low high [] = None
number_within low high (b ∷ rest) =
    if list_all is_digit (b ∷ rest) then within low high (value_from 0 (b ∷ rest)) else None
