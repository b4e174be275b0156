-- Positions, and integers as texts.
use Rattle.std.proofs.Common.{arith, ◌^◌, ◌&&◌, FitsSigned, ◌≡◌, refl, ap, ℕ, zero, suc, ℤ, pos, negsuc, ◌+◌, ◌-◌, ◌<◌, ◌≤◌, nat_le, nat_lt, Bool, true, false, if◌then◌else◌, Some, None}
use Rattle.std.proofs.lemmas.Option.{none-some, same_Some}
use Rattle.std.proofs.lemmas.Bool.{le-leb, leb-true, lt-ltb, ltb-true}
use Rattle.std.specs.Int.{w64}
use Rattle.icn_defs.specs.Conversions.{fits, position_of}

found_if : (t : Bool) (n place : ℕ) → (if t then Some n else None) ≡ Some place → (t ≡ true) × (n ≡ place)
found_if true n place is = (refl, same_Some n place is)
found_if false n place is = absurd (none-some place is)

pub low : (n : ℤ) (size place : ℕ) → position_of n size ≡ Some place → 1 ≤ place
low (pos zero) size place is = let same : size + 1 ≡ place = same_Some _ _ is in omega (arith, same)
low (pos (suc n)) size place is = let found = found_if (nat_le n size) (suc n) place is in omega (arith, found.1)
low (negsuc n) size place is =
    let found = found_if (nat_lt n size) (size - n) place is in let within = ltb-true n size found.0 in omega (arith, found.1, within)

pub high : (n : ℤ) (size place : ℕ) → position_of n size ≡ Some place → place ≤ size + 1
high (pos zero) size place is = let same : size + 1 ≡ place = same_Some _ _ is in omega (arith, same)
high (pos (suc n)) size place is =
    let found = found_if (nat_le n size) (suc n) place is in let within = leb-true n size found.0 in omega (arith, found.1, within)
high (negsuc n) size place is = let found = found_if (nat_lt n size) (size - n) place is in omega (arith, found.1)

pub from_the_start : (size place : ℕ) → 1 ≤ place → place ≤ size + 1 → position_of (pos place) size ≡ Some place
from_the_start size zero some within = absurd (omega (arith, some))
from_the_start size (suc n) some within = ap (λ (t : Bool). if t then Some (suc n) else None) (le-leb n size (omega (arith, within)))

pub from_the_end : (size n : ℕ) → suc n ≤ size → position_of (negsuc n) size ≡ Some (size - n)
from_the_end size n within = ap (λ (t : Bool). if t then Some (size - n) else None) (lt-ltb n size within)

-- an integer that passes the test is one of 64 bits
small_fits : (n : ℕ) → n ≤ 9223372036854775807 → n < 2 ^ 63
small_fits n small = omega arith

is_left : (b : Bool) → (b && true) ≡ true → b ≡ true
is_left true h = refl
is_left false h = h

pub so_fits : (n : ℤ) → fits n ≡ true → FitsSigned w64 n
so_fits (pos n) h = record { sfits = small_fits n (leb-true n 9223372036854775807 h) }
so_fits (negsuc n) h = record { sfits = small_fits n (leb-true n 9223372036854775807 (is_left (nat_le n 9223372036854775807) h)) }
