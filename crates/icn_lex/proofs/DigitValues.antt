-- The number that digits write.
use Rattle.std.proofs.Common.{◌≡◌, ℕ, ◌+◌, ◌*◌, ◌<◌, ◌≤◌, Bool, true, false, cond, not, nat_le, List, [], ◌∷◌, length, get_or, drop, None, Some, refl, sym, ◌∙◌, ap, arith, ◌&&◌}
use Rattle.std.proofs.lemmas.Bool.{cond-true, cond-false}
use Rattle.std.proofs.lemmas.Bool.Decides.{nat_tests}
use Rattle.std.proofs.lemmas.List.{at_drop_more, drop_all}
use Rattle.std.proofs.Math.Nat.{mul-le-mul_left}
use Rattle.icn_tree.specs.Characters.{digit_value}
use Rattle.icn_tree.specs.IntegerLiterals.{number_from, number_in, is_nothing}
use Rattle.icn_lex.specs.Reading.{within_limit, value_in}

-- a number with more digits is no smaller
pub from_grows : (radix n : ℕ) (digits : List ℕ) → 1 ≤ radix → n ≤ number_from radix n digits
from_grows radix n [] h = omega arith
from_grows radix n (b ∷ rest) h =
    let more : n * 1 ≤ n * radix = mul-le-mul_left n h in
    omega (arith, from_grows radix (n * radix + digit_value b) rest h)

-- one digit more
pub digit_more : (radix n : ℕ) (digits : List ℕ) (i all : ℕ) → i < length digits → number_from radix n (drop i digits) ≡ all
    → number_from radix (n * radix + digit_value (get_or digits i 0)) (drop (i + 1) digits) ≡ all
digit_more radix n digits i all within h = sym (at_drop_more (number_from radix n) digits i 0 within) ∙ h

limited_none : (n : ℕ) → None ≡ within_limit n → 9223372036854775807 < n
limited_none n h = by_test (nat_le n 9223372036854775807) refl h where
  by_test : (test : Bool) → nat_le n 9223372036854775807 ≡ test → None ≡ cond test (Some n) None → 9223372036854775807 < n
  by_test true t h = absurd (cc)
  by_test false t h = grind (arith, nat_tests)

pub too_large : (n : ℕ) → 9223372036854775807 < n → within_limit n ≡ None
too_large n h = cond-false (nat_le n 9223372036854775807) _ _ (grind (arith, nat_tests))

pub small_enough : (n : ℕ) → n ≤ 9223372036854775807 → within_limit n ≡ Some n
small_enough n h = cond-true (nat_le n 9223372036854775807) _ _ (grind (arith, nat_tests))

-- what a number came to before the last of its digits is too large
pub stays_large : (radix n : ℕ) (digits : List ℕ) (i b : ℕ) → 1 ≤ radix → i < length digits → number_from radix n (drop i digits) ≡ number_in radix digits
    → b ≡ get_or digits i 0 → None ≡ within_limit (n * radix + digit_value b) → None ≡ value_in radix digits
stays_large radix n digits i b radix_in within so_far is none =
    let rest : number_from radix (n * radix + digit_value (get_or digits i 0)) (drop (i + 1) digits)
    ≡ number_in radix digits = digit_more radix n digits i _ within so_far in
    let large : 9223372036854775807
    < n * radix + digit_value (get_or digits i 0) = limited_none _ (none ∙ ap (λ b. within_limit (n * radix + digit_value b)) is) in
    sym (too_large (number_in radix digits)
    (omega (arith, rest, large, from_grows radix (n * radix + digit_value (get_or digits i 0)) (drop (i + 1) digits) radix_in)))

pub nothing_left : (radix n : ℕ) (digits : List ℕ) (i : ℕ) → length digits ≤ i → number_from radix n (drop i digits) ≡ number_in radix digits
    → n ≤ 9223372036854775807
    → Some n ≡ value_in radix digits
nothing_left radix n digits i h so_far small =
    let same : n ≡ number_in radix digits = sym (ap (number_from radix n) (drop_all i digits h)) ∙ so_far in
    sym (small_enough n small) ∙ ap within_limit same

pub some_digit : (digits : List ℕ) (p : Bool) → (length digits ≡ 0 → Unit {0}) → 0 < length digits → p ≡ (not (is_nothing digits) && p)
some_digit [] p e h = absurd (omega arith)
some_digit (b ∷ rest) p e h = refl
