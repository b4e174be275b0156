-- The number that digits write, one digit after the other.
use Rattle.std.proofs.Common.{◌≡◌, ℕ, ◌+◌, ◌*◌, ◌^◌, ◌<◌, ◌≤◌, nat_lt, false, true, None, Some, List, [], ◌∷◌, length, get_or, drop, refl, sym, ap, ◌∙◌, arith, cond, le_trans, mul-le-mul_left, Bool}
use Rattle.std.proofs.lemmas.Bool.{le-ltb, ltb-false, lt-ltb, ltb-true}
use Rattle.std.proofs.lemmas.Option.{none-some, same_Some}
use Rattle.std.specs.Char.{digit_value}
use Rattle.std.specs.Str.Parse.{digits_value_after}
use Rattle.std.proofs.lemmas.List.{at_drop_more, drop_all}
use Rattle.icn_text.specs.Reading.{in_64_bits}

-- one digit more
pub value_step : (radix : ℕ) (digits : List ℕ) (i n all next : ℕ) → i < length digits → digits_value_after radix n (drop i digits) ≡ all
    → next ≡ n * radix + digit_value (get_or digits i 0) → digits_value_after radix next (drop (i + 1) digits) ≡ all
value_step radix digits i n all next within h is =
    ap (λ m. digits_value_after radix m (drop (i + 1) digits)) is ∙ sym (at_drop_more (digits_value_after radix n) digits i 0 within) ∙ h

grows : (radix n : ℕ) (digits : List ℕ) → 1 ≤ radix → n ≤ digits_value_after radix n digits
grows radix n [] h = omega arith
grows radix n (digit ∷ digits) h =
    let more : n * 1 ≤ n * radix = mul-le-mul_left n h in
    let later : n * radix + digit_value digit
    ≤ digits_value_after radix (n * radix + digit_value digit) digits = grows radix (n * radix + digit_value digit) digits h in
    le_trans (omega (arith, more)) later

pub held_not : (n : ℕ) → 2 ^ 64 ≤ n → in_64_bits n ≡ None
held_not n h = ap (λ b. cond b (Some n) None) (le-ltb n (2 ^ 64) h)

by_test : (n : ℕ) (b : Bool) → nat_lt n (2 ^ 64) ≡ b → cond b (Some n) None ≡ None → 2 ^ 64 ≤ n
by_test n true is h = absurd (none-some n (sym h))
by_test n false is h = ltb-false n (2 ^ 64) is

pub none_above : (n : ℕ) → in_64_bits n ≡ None → 2 ^ 64 ≤ n
none_above n h = by_test n (nat_lt n (2 ^ 64)) refl h

some_test : (n m : ℕ) (b : Bool) → nat_lt n (2 ^ 64) ≡ b → Some m ≡ cond b (Some n) None → (m ≡ n) × (m < 2 ^ 64)
some_test n m true is h = let same : m ≡ n = same_Some m n h in (same, rw same (ltb-true n (2 ^ 64) is))
some_test n m false is h = absurd (none-some m (sym h))

-- what is held is the number, and fits
pub some_held : (n m : ℕ) → Some m ≡ in_64_bits n → (m ≡ n) × (m < 2 ^ 64)
some_held n m h = some_test n m (nat_lt n (2 ^ 64)) refl h

-- what is too great stays so
pub stays_out : (radix next all : ℕ) (digits : List ℕ) → 1 ≤ radix → digits_value_after radix next digits ≡ all → in_64_bits next ≡ None → in_64_bits all ≡ None
stays_out radix next all digits h is out = held_not all (rw (sym is) (le_trans (none_above next out) (grows radix next digits h)))

pub whole : (radix n i all : ℕ) (digits : List ℕ) → length digits ≤ i → digits_value_after radix n (drop i digits) ≡ all → n < 2 ^ 64 → Some n ≡ in_64_bits all
whole radix n i all digits past is fits =
    let same : n ≡ all = ap (digits_value_after radix n) (sym (drop_all i digits past)) ∙ is in
    rw (sym same) (sym (ap (λ b. cond b (Some n) None) (lt-ltb n (2 ^ 64) fits)))
