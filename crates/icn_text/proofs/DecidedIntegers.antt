-- Whether a text writes an integer is decided by what is read of it.
use Rattle.std.proofs.Common.{ℤ, ◌≡◌, ℕ, zero, suc, lit<, ◌^◌, ◌<◌, Bool, true, false, cond, List, Option, None, Some, IfOk, OnErr, Ok, Err, Result, refl, sym, ap, ◌∙◌, arith, subst, FitsSigned}
use Rattle.std.proofs.lemmas.Bool.{lt-ltb}
use Rattle.std.proofs.lemmas.Option.{none-some, same_Some}
use Rattle.std.specs.Int.{w64}
use Rattle.std.specs.Option.{option_and_then, option_map}
use Rattle.std.specs.Result.{OkIff}
use Rattle.icn_text.specs.Integers.{with_sign, WritesInteger}
use Rattle.icn_text.specs.Reading.{in_64_bits, pair_held, integer_read}
use Rattle.icn_text.proofs.ReadingComplete.{integer_again}
use Rattle.icn_text.proofs.DigitSteps.{some_held}
use Rattle.icn_text.proofs.ReadingSound.{integer_sound}

held_pair : (is_negative negative : Bool) (n m : ℕ) (found : Option ℕ) → in_64_bits m ≡ found
    → Some (is_negative, n) ≡ option_map {U = Bool × ℕ} (λ k. (negative, k)) found → (negative ≡ is_negative) × (m ≡ n)
held_pair is_negative negative n m None is h = absurd (none-some (is_negative, n) (sym h))
held_pair is_negative negative n m (Some k) is h =
    let same : (is_negative, n) ≡ (negative, k) = same_Some (is_negative, n) (negative, k) h in
    (ap (λ p. p.0) (sym same), sym (some_held m k (sym is)).0 ∙ ap (λ p. p.1) (sym same))

from_held : (is_negative : Bool) (n : ℕ) (found : Option (Bool × ℕ)) → Some (is_negative, n) ≡ option_and_then pair_held found → found ≡ Some (is_negative, n)
from_held is_negative n None h = absurd (none-some (is_negative, n) (sym h))
from_held is_negative n (Some (negative, m)) h =
    let same = held_pair is_negative negative n m (in_64_bits m) refl h in
    ap Some (ap (λ b. (b, m)) same.0 ∙ ap (λ k. (is_negative, k)) same.1)

magnitude_fits : (is_negative : Bool) (n : ℕ) → FitsSigned w64 (with_sign is_negative n) → n < 2 ^ 64
magnitude_fits true zero h = lit< tt
magnitude_fits true (suc n) h = let small : n < 2 ^ 63 = h.sfits in omega arith
magnitude_fits false n h = let small : n < 2 ^ 63 = h.sfits in omega arith

not_none : (is_negative : Bool) (n : ℕ) (found : Option (Bool × ℕ)) → found ≡ Some (is_negative, n) → n < 2 ^ 64 → None ≡ option_and_then pair_held found → ⊥
not_none is_negative n found is fits h =
    none-some (is_negative, n)
    (h ∙ ap (option_and_then pair_held) is ∙ ap (λ t. option_map {U = Bool × ℕ} (λ k. (is_negative, k)) (cond t (Some n) None)) (lt-ltb n (2 ^ 64) fits))

pub no_integer : (text : List ℕ) → None ≡ option_and_then pair_held (integer_read text) → (n : ℤ) → WritesInteger text n → ⊥
no_integer text h n w = not_none w.is_negative w.magnitude (integer_read text) (integer_again w)
    (magnitude_fits w.is_negative w.magnitude (subst (FitsSigned w64) w.value w.fits)) h

pub read : {E : Type 0} (text : List ℕ) (is_negative : Bool) (n : ℕ) (result : Result ℤ E)
    → Some (is_negative, n) ≡ option_and_then pair_held (integer_read text)
    → OkIff result (FitsSigned w64 (with_sign is_negative n)) (with_sign is_negative n) → IfOk result (WritesInteger text)
read text is_negative n (Ok z) h (fits, is) =
    subst (WritesInteger text) (sym is) (integer_sound text is_negative n (from_held is_negative n (integer_read text) h) fits)
read text is_negative n (Err e) h refuses = tt

pub refused : {E : Type 0} (text : List ℕ) (is_negative : Bool) (n : ℕ) (result : Result ℤ E)
    → Some (is_negative, n) ≡ option_and_then pair_held (integer_read text)
    → OkIff result (FitsSigned w64 (with_sign is_negative n)) (with_sign is_negative n) → OnErr result ((z : ℤ) → WritesInteger text z → ⊥)
refused text is_negative n (Ok z) h (fits, is) = tt
refused text is_negative n (Err e) h refuses = λ z w.
    let same : (w.is_negative, w.magnitude)
    ≡ (is_negative, n) = same_Some (w.is_negative, w.magnitude) (is_negative, n) (sym (integer_again w) ∙ from_held is_negative n (integer_read text) h) in
    refuses (subst (λ p. FitsSigned w64 (with_sign p.0 p.1)) same (subst (FitsSigned w64) w.value w.fits))

-- a text writes at most one integer
pub one_integer : (text : List ℕ) (a b : ℤ) → WritesInteger text a → WritesInteger text b → a ≡ b
one_integer text a b v w =
    let same : (v.is_negative, v.magnitude)
    ≡ (w.is_negative, w.magnitude) = same_Some (v.is_negative, v.magnitude) (w.is_negative, w.magnitude) (sym (integer_again v) ∙ integer_again w) in
    v.value ∙ ap (λ p. with_sign p.0 p.1) same ∙ sym w.value
