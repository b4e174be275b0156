-- What is read of a text is written in it.
use Rattle.std.proofs.Common.{◌≡◌, ℕ, ◌≤◌, ◌==◌, ◌&&◌, nat_lt, nat_le, Bool, true, false, cond, List, [], ◌∷◌, ◌++◌, take, drop, Option, None, Some, refl, sym, ap, ◌∙◌, arith, subst, append_assoc, FitsSigned}
use Rattle.std.proofs.lemmas.Bool.{ltb-true, leb-true, eqb-true}
use Rattle.std.proofs.lemmas.List.{take-append-drop}
use Rattle.std.proofs.lemmas.List.Folds.{length-prefix_len}
use Rattle.std.proofs.lemmas.Option.{none-some, same_Some}
use Rattle.std.specs.Int.{w64}
use Rattle.std.specs.List.{list_all, prefix_len}
use Rattle.std.specs.Option.{option_map}
use Rattle.std.specs.Str.Parse.{digits_value}
use Rattle.icn_text.specs.Integers.{is_space, is_digit_of, is_radix_mark, IsDigits, WritesNumeral, decimal, radix, with_sign, WritesSigned, plain, plus, minus, WritesInteger}
use Rattle.icn_text.specs.Reading.{digits_read, radix_read, numeral_by, numeral_read, signed_read, integer_read}
use Rattle.icn_text.proofs.Numerals.{and_parts, run_all}

-- digits of the base stand in front of white space, and write the number
record Digits (base : ℕ) (text : List ℕ) (n : ℕ) : Type 0 where
  digits : List ℕ
  after : List ℕ
  whole : text ≡ digits ++ after
  is : IsDigits base digits
  space : list_all is_space after ≡ true
  value : n ≡ digits_value base digits

digits_by : (base : ℕ) (text : List ℕ) (n : ℕ) (t : Bool)
    → (nat_lt 0 (prefix_len (is_digit_of base) text) && list_all is_space (drop (prefix_len (is_digit_of base) text) text)) ≡ t
    → cond t (Some (digits_value base (take (prefix_len (is_digit_of base) text) text))) None ≡ Some n → Digits base text n
digits_by base text n false is h = absurd (none-some n h)
digits_by base text n true is h =
    let count = prefix_len (is_digit_of base) text in
    let tests = and_parts (nat_lt 0 count) (list_all is_space (drop count text)) is in
    record {
      digits = take count text;
      after = drop count text;
      whole = sym (take-append-drop count text);
      is = record { some = rw (length-prefix_len (is_digit_of base) text) (ltb-true 0 count tests.0); each = run_all (is_digit_of base) text };
      space = tests.1;
      value = sym (same_Some (digits_value base (take count text)) n h);
    }

digits_sound : (base : ℕ) (text : List ℕ) (n : ℕ) → digits_read base text ≡ Some n → Digits base text n
digits_sound base text n h = digits_by base text n _ refl h

-- a numeral stands in front of white space, and writes the number
record Numeral (text : List ℕ) (n : ℕ) : Type 0 where
  middle : List ℕ
  after : List ℕ
  whole : text ≡ middle ++ after
  written : WritesNumeral middle n
  space : list_all is_space after ≡ true

of_digits : (text : List ℕ) (n : ℕ) → Digits 10 text n → Numeral text n
of_digits text n d = record {
  middle = d.digits;
  after = d.after;
  whole = d.whole;
  written = subst (WritesNumeral d.digits) (sym d.value) (decimal d.digits d.is);
  space = d.space;
}

of_radix : (text base rest : List ℕ) (mark n : ℕ) → text ≡ base ++ mark ∷ rest → IsDigits 10 base → is_radix_mark mark ≡ true → 2 ≤ digits_value 10 base
    → digits_value 10 base ≤ 36
    → Digits (digits_value 10 base) rest n → Numeral text n
of_radix text base rest mark n whole is marked least most d =
    record {
      middle = base ++ mark ∷ d.digits;
      after = d.after;
      whole = whole ∙ ap (λ later. base ++ mark ∷ later) d.whole ∙ sym (append_assoc base (mark ∷ d.digits) d.after);
      written = subst (WritesNumeral (base ++ mark ∷ d.digits)) (sym d.value) (radix base d.digits mark is least most marked d.is);
      space = d.space;
    }

radix_by : (text base rest : List ℕ) (mark n : ℕ) (t : Bool) → (nat_le 2 (digits_value 10 base) && nat_le (digits_value 10 base) 36) ≡ t
    → cond t (digits_read (digits_value 10 base) rest) None ≡ Some n
    → text ≡ base ++ mark ∷ rest → list_all (is_digit_of 10) base ≡ true → is_radix_mark mark ≡ true → Numeral text n
radix_by text base rest mark n false is h whole each marked = absurd (none-some n h)
radix_by text [] rest mark n true is h whole each marked = absurd (let clash : false ≡ true = is in cc)
radix_by text (b ∷ base) rest mark n true is h whole each marked =
    let tests = and_parts (nat_le 2 (digits_value 10 (b ∷ base))) (nat_le (digits_value 10 (b ∷ base)) 36) is in
    of_radix text (b ∷ base) rest mark n whole (record { some = omega arith; each = each }) marked
    (leb-true 2 (digits_value 10 (b ∷ base)) tests.0) (leb-true (digits_value 10 (b ∷ base)) 36 tests.1) (digits_sound (digits_value 10 (b ∷ base)) rest n h)

mark_by : (text base rest : List ℕ) (mark n : ℕ) (t : Bool) → is_radix_mark mark ≡ t
    → cond t (radix_read (digits_value 10 base) rest) (digits_read 10 text) ≡ Some n
    → text ≡ base ++ mark ∷ rest → list_all (is_digit_of 10) base ≡ true → Numeral text n
mark_by text base rest mark n true is h whole each = radix_by text base rest mark n _ refl h whole each is
mark_by text base rest mark n false is h whole each = of_digits text n (digits_sound 10 text n h)

numeral_by_sound : (text base rest : List ℕ) (n : ℕ) → numeral_by text base rest ≡ Some n → text ≡ base ++ rest → list_all (is_digit_of 10) base ≡ true
    → Numeral text n
numeral_by_sound text base [] n h whole each = of_digits text n (digits_sound 10 text n h)
numeral_by_sound text base (mark ∷ rest) n h whole each = mark_by text base rest mark n _ refl h whole each

numeral_sound : (text : List ℕ) (n : ℕ) → numeral_read text ≡ Some n → Numeral text n
numeral_sound text n h =
    let count = prefix_len (is_digit_of 10) text in
    numeral_by_sound text (take count text) (drop count text) n h (sym (take-append-drop count text)) (run_all (is_digit_of 10) text)

-- a signed numeral stands in front of white space
record SignedNumeral (text : List ℕ) (is_negative : Bool) (n : ℕ) : Type 0 where
  middle : List ℕ
  after : List ℕ
  whole : text ≡ middle ++ after
  written : WritesSigned middle is_negative n
  space : list_all is_space after ≡ true

mapped : (negative is_negative : Bool) (n : ℕ) (found : Option ℕ) → option_map {U = Bool × ℕ} (λ m. (negative, m)) found ≡ Some (is_negative, n)
    → (found ≡ Some n) × (negative ≡ is_negative)
mapped negative is_negative n None h = absurd (none-some (is_negative, n) h)
mapped negative is_negative n (Some m) h =
    let same : (negative, m) ≡ (is_negative, n) = same_Some (negative, m) (is_negative, n) h in
    (ap Some (ap (λ p. p.1) same), ap (λ p. p.0) same)

of_minus : (rest : List ℕ) (is_negative : Bool) (n : ℕ) → true ≡ is_negative → Numeral rest n → SignedNumeral (45 ∷ rest) is_negative n
of_minus rest is_negative n is m = record {
  middle = 45 ∷ m.middle;
  after = m.after;
  whole = ap (λ later. 45 ∷ later) m.whole;
  written = subst (λ t. WritesSigned (45 ∷ m.middle) t n) is (minus m.middle n m.written);
  space = m.space;
}

of_plus : (rest : List ℕ) (is_negative : Bool) (n : ℕ) → false ≡ is_negative → Numeral rest n → SignedNumeral (43 ∷ rest) is_negative n
of_plus rest is_negative n is m = record {
  middle = 43 ∷ m.middle;
  after = m.after;
  whole = ap (λ later. 43 ∷ later) m.whole;
  written = subst (λ t. WritesSigned (43 ∷ m.middle) t n) is (plus m.middle n m.written);
  space = m.space;
}

of_plain : (text : List ℕ) (is_negative : Bool) (n : ℕ) → false ≡ is_negative → Numeral text n → SignedNumeral text is_negative n
of_plain text is_negative n is m = record {
  middle = m.middle;
  after = m.after;
  whole = m.whole;
  written = subst (λ t. WritesSigned m.middle t n) is (plain m.middle n m.written);
  space = m.space;
}

plus_by : (sign : ℕ) (rest : List ℕ) (is_negative : Bool) (n : ℕ) (t : Bool) → sign == 43 ≡ t
    → cond t (option_map {U = Bool × ℕ} (λ m. (false, m)) (numeral_read rest)) (option_map {U = Bool × ℕ} (λ m. (false, m)) (numeral_read (sign ∷ rest)))
    ≡ Some (is_negative, n) → SignedNumeral (sign ∷ rest) is_negative n
plus_by sign rest is_negative n true is h =
    let found = mapped false is_negative n (numeral_read rest) h in
    subst (λ s. SignedNumeral (s ∷ rest) is_negative n) (sym (eqb-true sign 43 is)) (of_plus rest is_negative n found.1 (numeral_sound rest n found.0))
plus_by sign rest is_negative n false is h =
    let found = mapped false is_negative n (numeral_read (sign ∷ rest)) h in
    of_plain (sign ∷ rest) is_negative n found.1 (numeral_sound (sign ∷ rest) n found.0)

minus_by : (sign : ℕ) (rest : List ℕ) (is_negative : Bool) (n : ℕ) (t : Bool) → sign == 45 ≡ t
    → cond t (option_map {U = Bool × ℕ} (λ m. (true, m)) (numeral_read rest)) (cond (sign == 43) (option_map {U = Bool
    × ℕ} (λ m. (false, m)) (numeral_read rest)) (option_map {U = Bool × ℕ} (λ m. (false, m)) (numeral_read (sign ∷ rest)))) ≡ Some (is_negative, n)
    → SignedNumeral (sign ∷ rest) is_negative n
minus_by sign rest is_negative n true is h =
    let found = mapped true is_negative n (numeral_read rest) h in
    subst (λ s. SignedNumeral (s ∷ rest) is_negative n) (sym (eqb-true sign 45 is)) (of_minus rest is_negative n found.1 (numeral_sound rest n found.0))
minus_by sign rest is_negative n false is h = plus_by sign rest is_negative n _ refl h

signed_sound : (text : List ℕ) (is_negative : Bool) (n : ℕ) → signed_read text ≡ Some (is_negative, n) → SignedNumeral text is_negative n
signed_sound [] is_negative n h = absurd (none-some (is_negative, n) h)
signed_sound (sign ∷ rest) is_negative n h = minus_by sign rest is_negative n _ refl h

pub integer_sound : (text : List ℕ) (is_negative : Bool) (n : ℕ) → integer_read text ≡ Some (is_negative, n) → FitsSigned w64 (with_sign is_negative n)
    → WritesInteger text (with_sign is_negative n)
integer_sound text is_negative n h fits =
    let count = prefix_len is_space text in
    let found = signed_sound (drop count text) is_negative n h in
    record {
      before = take count text;
      middle = found.middle;
      after = found.after;
      whole = sym (take-append-drop count text) ∙ ap (λ later. take count text ++ later) found.whole
          ∙ sym (append_assoc (take count text) found.middle found.after);
      space_before = run_all is_space text;
      space_after = found.space;
      is_negative = is_negative;
      magnitude = n;
      written = found.written;
      value = refl;
      fits = fits;
    }
