-- More digits make no smaller number.
use Rattle.std.proofs.Common.{◌≡◌, ℕ, ◌+◌, ◌-◌, ◌*◌, ◌^◌, ◌≤◌, ap, List, [], ◌∷◌, arith}
use Rattle.icn_text.specs.WordNumbers.{value_from}

pub grows : (n : ℕ) (digits : List ℕ) → n ≤ value_from n digits
grows n [] = omega arith
grows n (b ∷ rest) = omega (arith, grows (n * 10 + (b - 48)) rest)

pub too_large : (n b : ℕ) (all rest others : List ℕ) → rest ≡ b ∷ others → 2 ^ 64 ≤ n * 10 + (b - 48) → value_from n rest ≡ value_from 0 all
    → 2 ^ 64 ≤ value_from 0 all
too_large n b all rest others is large same =
    let here : value_from n rest ≡ value_from (n * 10 + (b - 48)) others = ap (value_from n) is in
    omega (arith, grows (n * 10 + (b - 48)) others, here, same, large)
