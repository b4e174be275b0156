-- The test for 64 bits is the range of a signed integer.
use Rattle.std.proofs.Common.{◌≡◌, ℕ, ℤ, pos, negsuc, ◌^◌, ◌≤◌, ◌<◌, ◌&&◌, nat_le, Bool, true, false, Option, None, Some, Ok, refl, sym, ap, ◌∙◌, arith, cond, FitsSigned}
use Rattle.std.specs.Option.{SomeIff}
use Rattle.std.specs.Prelude.{ok_or}
use Rattle.std.proofs.lemmas.Bool.{le-leb, leb-true}
use Rattle.std.proofs.lemmas.Option.{none-some, same_Some}
use Rattle.std.specs.Int.{w64}
use Rattle.icn_text.specs.declared.arithmetic.Arith.TheVariants.{Overflow}
use Rattle.icn_text.specs.IntegerArithmetic.{fits, if_fits, within_64_bits}

-- an integer of 64 bits passes the test
pub fits_so : (n : ℤ) → FitsSigned w64 n → fits n ≡ true
fits_so (pos n) h = let below : n < 2 ^ 63 = h.sfits in let small : n ≤ 9223372036854775807 = omega arith in le-leb n 9223372036854775807 small
fits_so (negsuc n) h =
    let below : n < 2 ^ 63 = h.sfits in let small : n ≤ 9223372036854775807 = omega arith in ap (λ b. b && true) (le-leb n 9223372036854775807 small)

small_fits : (n : ℕ) → n ≤ 9223372036854775807 → n < 2 ^ 63
small_fits n small = omega arith

is_left : (b : Bool) → (b && true) ≡ true → b ≡ true
is_left true h = refl
is_left false h = h

-- and one that passes it is of 64 bits
pub so_fits : (n : ℤ) → fits n ≡ true → FitsSigned w64 n
so_fits (pos n) h = record { sfits = small_fits n (leb-true n 9223372036854775807 h) }
so_fits (negsuc n) h = record { sfits = small_fits n (leb-true n 9223372036854775807 (is_left (nat_le n 9223372036854775807) h)) }

pub fitting_so : (n : ℤ) → FitsSigned w64 n → if_fits n ≡ Some n
fitting_so n h = ap (λ b. cond b (Some n) None) (fits_so n h)

by_test : (z n : ℤ) (b : Bool) → fits z ≡ b → cond b (Some z) None ≡ Some n → (z ≡ n) × FitsSigned w64 z
by_test z n true is h = (same_Some z n h, so_fits z is)
by_test z n false is h = absurd (none-some n h)

pub so_fitting : (z n : ℤ) → if_fits z ≡ Some n → (z ≡ n) × FitsSigned w64 z
so_fitting z n h = by_test z n (fits z) refl h

none_by : (z : ℤ) (b : Bool) → fits z ≡ b → ¬ FitsSigned w64 z → cond b (Some z) None ≡ None
none_by z true is h = absurd (h (so_fits z is))
none_by z false is h = refl

pub not_fitting : (z : ℤ) → ¬ FitsSigned w64 z → if_fits z ≡ None
not_fitting z h = none_by z (fits z) refl h

-- what a checked operation finds
pub checked : (z : ℤ) (result : Option ℤ) → SomeIff result (FitsSigned w64 z) z → result ≡ if_fits z
checked z (Some n) h = ap Some h.1 ∙ sym (fitting_so z h.0)
checked z None h = sym (not_fitting z h)

pub within : (z : ℤ) → FitsSigned w64 z → Ok z ≡ within_64_bits z
within z h = sym (ap (λ found. ok_or found Overflow) (fitting_so z h))
