-- The integer that a text writes is the one that is found in it, and the decimal text of an integer writes it.
use Rattle.std.proofs.Common.{append-nil, ◌≡◌, ℕ, suc, ℤ, pos, negsuc, ◌^◌, ◌<◌, ◌&&◌, Bool, true, false, List, [], ◌∷◌, Option, None, Some, refl, sym, ap, ◌∙◌, subst, arith, FitsSigned}
use Rattle.std.specs.Prelude.{Result, Ok, Err, IfOk, OnErr}
use Rattle.std.specs.Result.{result_ok}
use Rattle.std.proofs.lemmas.Bool.{lt-ltb}
use Rattle.std.proofs.lemmas.Fmt.{decimal_is_IsNumeral}
use Rattle.std.proofs.lemmas.Option.{none-some}
use Rattle.std.specs.Char.{digit_value}
use Rattle.std.specs.Fmt.{decimal as decimal_text, signed_decimal}
use Rattle.std.specs.Int.{w64}
use Rattle.std.specs.List.{list_all}
use Rattle.std.specs.Option.{option_and_then}
use Rattle.std.specs.Str.Parse.{AllDigits}
use Rattle.icn_text.specs.IntegerArithmetic.{if_fits}
use Rattle.icn_text.specs.Integers.{is_digit_of, WritesNumeral, decimal, with_sign, WritesSigned, plain, minus, WritesInteger}
use Rattle.icn_text.specs.Reading.{integer_read, written_integer}
use Rattle.icn_text.proofs.ReadingComplete.{integer_again}
use Rattle.icn_text.proofs.FitsIn64Bits.{fitting_so, so_fitting}
use Rattle.icn_text.proofs.ReadingSound.{integer_sound}

-- what the relation says is found
pub written : (text : List ℕ) (n : ℤ) → WritesInteger text n → written_integer text ≡ Some n
written text n w =
    ap (option_and_then (λ (found : Bool × ℕ). if_fits (with_sign found.0 found.1))) (integer_again w)
    ∙ subst (λ z. if_fits z ≡ Some n) w.value (fitting_so n w.fits)

so_read : (text : List ℕ) (n : ℤ) (read : Option (Bool × ℕ)) → integer_read text ≡ read
    → option_and_then (λ (found : Bool × ℕ). if_fits (with_sign found.0 found.1)) read ≡ Some n → WritesInteger text n
so_read text n None is h = absurd (none-some n h)
so_read text n (Some found) is h =
    let both = so_fitting (with_sign found.0 found.1) n h in
    subst (WritesInteger text) both.0 (integer_sound text found.0 found.1 is both.1)

-- and what is found, it says
pub so_written : (text : List ℕ) (n : ℤ) → written_integer text ≡ Some n → WritesInteger text n
so_written text n h = so_read text n (integer_read text) refl h

unwritten_by : (text : List ℕ) (found : Option ℤ) → written_integer text ≡ found → ((n : ℤ) → WritesInteger text n → ⊥) → found ≡ None
unwritten_by text None is none = refl
unwritten_by text (Some n) is none = absurd (none n (so_written text n is))

-- nothing is found where it says nothing
pub unwritten : (text : List ℕ) → ((n : ℤ) → WritesInteger text n → ⊥) → written_integer text ≡ None
unwritten text none = unwritten_by text (written_integer text) refl none

-- what a call of `read_integer` answers is what is found
pub read_is : {E : Type 0} (text : List ℕ) (result : Result ℤ E) → IfOk result (WritesInteger text) → OnErr result ((n : ℤ) → WritesInteger text n → ⊥)
    → result_ok result ≡ written_integer text
read_is text (Ok n) read refused = sym (written text n read)
read_is text (Err e) read refused = sym (unwritten text refused)

-- Decimal texts

digits_pass : (digits : List ℕ) → AllDigits 10 digits → list_all (is_digit_of 10) digits ≡ true
digits_pass [] h = refl
digits_pass (digit ∷ digits) h = ap (λ b. b && list_all (is_digit_of 10) digits) (lt-ltb (digit_value digit) 10 h.0) ∙ digits_pass digits h.1

numeral : (n : ℕ) → n < 2 ^ 64 → WritesNumeral (decimal_text n) n
numeral n h =
    let is = decimal_is_IsNumeral n h in
    subst (WritesNumeral (decimal_text n)) is.1 (decimal (decimal_text n) (record { some = is.0.0; each = digits_pass (decimal_text n) is.0.1 }))

alone : (middle : List ℕ) (is_negative : Bool) (magnitude : ℕ) (n : ℤ) → WritesSigned middle is_negative magnitude → n ≡ with_sign is_negative magnitude
    → FitsSigned w64 n → WritesInteger middle n
alone middle is_negative magnitude n written value fits =
    record {
      before = [];
      middle = middle;
      after = [];
      whole = sym (append-nil middle);
      space_before = refl;
      space_after = refl;
      is_negative = is_negative;
      magnitude = magnitude;
      written = written;
      value = value;
      fits = fits;
    }

-- the decimal text of an integer writes it
pub decimal_writes : (n : ℤ) → FitsSigned w64 n → WritesInteger (signed_decimal n) n
decimal_writes (pos n) h =
    let below : n < 2 ^ 63 = h.sfits in
    alone (decimal_text n) false n (pos n) (plain (decimal_text n) n (numeral n (omega arith))) refl h
decimal_writes (negsuc n) h =
    let below : n < 2 ^ 63 = h.sfits in
    alone (45 ∷ decimal_text (suc n)) true (suc n) (negsuc n) (minus (decimal_text (suc n)) (suc n) (numeral (suc n) (omega arith))) refl h

pub decimal_found : (n : ℤ) → FitsSigned w64 n → written_integer (signed_decimal n) ≡ Some n
decimal_found n h = written (signed_decimal n) n (decimal_writes n h)
