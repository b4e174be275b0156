-- The powers of an integer, by those of half the exponent.
use Rattle.std.proofs.Common.{◌≡◌, ◌≢◌, inl, inr, cond, ℕ, zero, suc, ◌+◌, ◌*◌, ◌/◌, ◌%◌, ◌^◌, ◌<◌, ◌≤◌, ◌==◌, Bool, true, false, ℤ, pos, negsuc, neg_ℤ, FitsSigned, Option, None, Some, Result, Ok, refl, sym, ap, ◌∙◌, arith, add-one, le_trans}
use Rattle.std.proofs.Math.Nat.{pow-le-pow_right, pow-suc}
use Rattle.std.proofs.lemmas.Bool.{lt-ltb, cases_lt, eq-eqb, ne_eqb}
use Rattle.std.proofs.lemmas.Nat.{pow-add}
use Rattle.std.specs.Option.{SomeIff}
use Rattle.std.specs.Int.{w64, cast_unsigned, cast_signed, int_pow, FitsUnsignedBits}
use Rattle.std.specs.Prelude.{int_rem}
use Rattle.std.proofs.lemmas.Int.{to_z-of_z}
use Rattle.icn_text.specs.declared.arithmetic.Arith.{Arith}
use Rattle.icn_text.specs.IntegerArithmetic.{power}
use Rattle.icn_text.specs.Reading.{in_64_bits}
use Rattle.icn_text.proofs.DigitSteps.{held_not, none_above, some_held}

-- a power past 64 bits stays past them at a greater exponent
grows : (b k e : ℕ) → k ≤ e → 2 ^ 64 ≤ b ^ k → 2 ^ 64 ≤ b ^ e
grows zero zero e h past = absurd (let small : 2 ^ 64 ≤ 1 = past in omega arith)
grows zero (suc k) e h past = absurd (let small : 2 ^ 64 ≤ zero ^ k * zero = rw (sym (pow-suc zero k)) past in omega arith)
grows (suc b) k e h past = le_trans past (pow-le-pow_right (omega arith) h)

pub half_overflows : (b e : ℕ) → in_64_bits (b ^ (e / 2)) ≡ None → in_64_bits (b ^ e) ≡ None
half_overflows b e h = held_not (b ^ e) (grows b (e / 2) e (omega arith) (none_above (b ^ (e / 2)) h))

square_of : (b k half : ℕ) → half ≡ b ^ k → half * half ≡ b ^ (k + k)
square_of b k half h = ap (λ n. n * n) h ∙ sym (pow-add b k k)

not_below : (n : ℕ) → ¬ (n < 2 ^ 64) → 2 ^ 64 ≤ n
not_below n h = elim (cases_lt n (2 ^ 64)) [ inl small ↦ absurd (h small) | inr large ↦ large ]

pub square_overflows : (b e half : ℕ) → Some half ≡ in_64_bits (b ^ (e / 2)) → ¬ (half * half < 2 ^ 64) → in_64_bits (b ^ e) ≡ None
square_overflows b e half h past =
    let square = square_of b (e / 2) half (some_held (b ^ (e / 2)) half h).0 in
    let above : 2 ^ 64 ≤ b ^ (e / 2 + e / 2) = rw (sym square) (not_below (half * half) past) in
    held_not (b ^ e) (grows b (e / 2 + e / 2) e (omega arith) above)

is_held : (n : ℕ) → n < 2 ^ 64 → Some n ≡ in_64_bits n
is_held n h = sym (ap (λ b. cond b (Some n) None) (lt-ltb n (2 ^ 64) h))

pub even_power : (b e half square : ℕ) → e % 2 ≡ 0 → Some half ≡ in_64_bits (b ^ (e / 2)) → square ≡ half * half → half * half < 2 ^ 64
    → Some square ≡ in_64_bits (b ^ e)
even_power b e half square even h is fits =
    let twice : e / 2 + e / 2 ≡ e = omega arith in
    let same : square ≡ b ^ e = is ∙ square_of b (e / 2) half (some_held (b ^ (e / 2)) half h).0 ∙ ap (λ n. b ^ n) twice in
    is_held square (rw is fits) ∙ ap in_64_bits same

by_product : (n m : ℕ) (result : Option ℕ) → n ≡ m → SomeIff result (n < 2 ^ 64) n → result ≡ in_64_bits m
by_product n m None is h = sym (held_not m (rw (sym is) (not_below n h)))
by_product n m (Some x) is h = ap Some h.1 ∙ is_held n h.0 ∙ ap in_64_bits is

pub odd_power : (b e half square : ℕ) (result : Option ℕ) → e % 2 ≢ 0 → Some half ≡ in_64_bits (b ^ (e / 2)) → square ≡ half * half
    → SomeIff result (square * b < 2 ^ 64) (square * b) → result ≡ in_64_bits (b ^ e)
odd_power b e half square result odd h is times =
    let k = e / 2 in
    let more : suc (k + k) ≡ e = omega arith in
    let same : square * b ≡ b ^ e = ap (λ n. n * b) (is ∙ square_of b k half (some_held (b ^ k) half h).0) ∙ sym (pow-suc b (k + k)) ∙ ap (λ n. b ^ n) more in
    by_product (square * b) (b ^ e) result same times

-- Powers of -1

one_power : (n : ℕ) → 1 ^ n ≡ 1
one_power zero = refl
one_power (suc n) = pow-suc 1 n ∙ ap (λ m. m * 1) (one_power n)

pub minus_one : (n : ℤ) → FitsSigned w64 n → cast_unsigned w64 n ≡ 18446744073709551615 → n ≡ negsuc 0
minus_one n h is = sym (to_z-of_z w64 n h) ∙ ap (cast_signed w64) is

-- the remainder of an integer below 0
zero_by : (r : ℕ) → r < 2 → cast_unsigned w64 (neg_ℤ (pos r)) ≡ 0 → r ≡ 0
zero_by zero h is = refl
zero_by (suc zero) h is = absurd (let clash : 18446744073709551615 ≡ 0 = is in omega arith)
zero_by (suc (suc r)) h is = absurd (omega arith)

abbrev whole : ℤ → Result ℤ Arith
whole z = Ok z

power_of_minus_one : (e : ℕ) (b : Bool) → (suc e % 2 == 0) ≡ b → power (negsuc 0) (negsuc e) ≡ Ok (cond b (pos 1) (negsuc 0))
power_of_minus_one e b is =
    ap (λ (z : ℤ). whole z) (ap (int_pow (negsuc 0)) (add-one e) ∙ ap (λ t. cond t (pos (1 ^ suc e)) (neg_ℤ (pos (1 ^ suc e)))) is
    ∙ ap (λ n. cond b (pos n) (neg_ℤ (pos n))) (one_power (suc e)))

even_at : (n : ℤ) → ¬ FitsUnsignedBits 64 n → FitsSigned w64 n → cast_unsigned w64 (int_rem n (pos 2)) ≡ 0 → Ok (pos 1) ≡ power (negsuc 0) n
even_at (pos e) below h is = absurd (below (let small : e < 2 ^ 63 = h.sfits in omega arith))
even_at (negsuc e) below h is = sym (power_of_minus_one e true (eq-eqb _ _ (zero_by (suc e % 2) (omega arith) is)))

odd_at : (n : ℤ) → ¬ FitsUnsignedBits 64 n → FitsSigned w64 n → cast_unsigned w64 (int_rem n (pos 2)) ≢ 0 → Ok (negsuc 0) ≡ power (negsuc 0) n
odd_at (pos e) below h is = absurd (below (let small : e < 2 ^ 63 = h.sfits in omega arith))
odd_at (negsuc e) below h is = sym (power_of_minus_one e false (ne_eqb _ _ (λ even. is (ap (λ r. cast_unsigned w64 (neg_ℤ (pos r))) even))))

pub even_inverse : (m n : ℤ) → FitsSigned w64 m → cast_unsigned w64 m ≡ 18446744073709551615 → ¬ FitsUnsignedBits 64 n → FitsSigned w64 n
    → cast_unsigned w64 (int_rem n (pos 2)) ≡ 0 → Ok (pos 1) ≡ power m n
even_inverse m n f is below h even = even_at n below h even ∙ ap (λ z. power z n) (sym (minus_one m f is))

pub odd_inverse : (m n : ℤ) → FitsSigned w64 m → cast_unsigned w64 m ≡ 18446744073709551615 → ¬ FitsUnsignedBits 64 n → FitsSigned w64 n
    → cast_unsigned w64 (int_rem n (pos 2)) ≢ 0 → Ok (negsuc 0) ≡ power m n
odd_inverse m n f is below h odd = odd_at n below h odd ∙ ap (λ z. power z n) (sym (minus_one m f is))
