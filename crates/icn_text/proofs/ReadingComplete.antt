-- What a text writes is read of it.
use Rattle.std.proofs.Common.{ℤ, ◌≡◌, ℕ, ◌<◌, ◌≤◌, ◌==◌, ◌&&◌, nat_lt, nat_le, Bool, true, false, cond, List, [], ◌∷◌, ◌++◌, length, take, drop, None, Some, refl, sym, ap, ◌∙◌, arith, subst, append_assoc}
use Rattle.std.proofs.lemmas.Bool.{lt-ltb, le-leb}
use Rattle.std.proofs.Math.Seq.{take-append_seam, drop-append_seam}
use Rattle.std.specs.List.{list_all, prefix_len}
use Rattle.std.specs.Option.{option_map}
use Rattle.std.specs.Str.Parse.{digits_value}
use Rattle.icn_text.specs.Integers.{is_space, is_digit_of, IsDigits, WritesNumeral, decimal, radix, WritesSigned, plain, plus, minus, WritesInteger}
use Rattle.icn_text.specs.Reading.{digits_read, radix_read, numeral_by, numeral_read, signed_read, integer_read}
use Rattle.icn_text.proofs.Numerals.{and_parts, Stops, run_len, space_no_digit, space_no_mark, mark_no_digit, digit_above, above_no_space, above_no_sign}

space_stops : (base : ℕ) (after : List ℕ) → base ≤ 36 → list_all is_space after ≡ true → Stops (is_digit_of base) after
space_stops base [] most h = tt
space_stops base (b ∷ after) most h = space_no_digit base b most (and_parts (is_space b) (list_all is_space after) h).0

digits_again : (base : ℕ) (digits after : List ℕ) → base ≤ 36 → IsDigits base digits → list_all is_space after ≡ true
    → digits_read base (digits ++ after) ≡ Some (digits_value base digits)
digits_again base digits after most is space =
    let count : prefix_len (is_digit_of base) (digits ++ after)
    ≡ length digits = run_len (is_digit_of base) digits after is.each (space_stops base after most space) in
    ap (λ n. cond (nat_lt 0 n && list_all is_space (drop n (digits ++ after))) (Some (digits_value base (take n (digits ++ after)))) None) count
    ∙ ap (λ rest. cond (nat_lt 0 (length digits) && list_all is_space rest) (Some (digits_value base (take (length digits) (digits ++ after)))) None)
    (drop-append_seam digits after)
    ∙ ap (λ front. cond (nat_lt 0 (length digits) && list_all is_space after) (Some (digits_value base front)) None) (take-append_seam digits after)
    ∙ ap (λ t. cond (t && list_all is_space after) (Some (digits_value base digits)) None) (lt-ltb 0 (length digits) is.some)
    ∙ ap (λ t. cond t (Some (digits_value base digits)) None) space

radix_again : (base : ℕ) (digits after : List ℕ) → 2 ≤ base → base ≤ 36 → IsDigits base digits → list_all is_space after ≡ true
    → radix_read base (digits ++ after) ≡ Some (digits_value base digits)
radix_again base digits after least most is space =
    ap (λ t. cond (t && nat_le base 36) (digits_read base (digits ++ after)) None) (le-leb 2 base least)
    ∙ ap (λ t. cond t (digits_read base (digits ++ after)) None) (le-leb base 36 most)
    ∙ digits_again base digits after most is space

-- behind the digits stands no mark
plain_by : (text digits after : List ℕ) → list_all is_space after ≡ true → numeral_by text digits after ≡ digits_read 10 text
plain_by text digits [] space = refl
plain_by text digits (b ∷ after) space =
    ap (λ t. cond t (radix_read (digits_value 10 digits) after) (digits_read 10 text))
    (space_no_mark b (and_parts (is_space b) (list_all is_space after) space).0)

cut : (text digits rest : List ℕ) → text ≡ digits ++ rest → list_all (is_digit_of 10) digits ≡ true → Stops (is_digit_of 10) rest
    → numeral_read text ≡ numeral_by text digits rest
cut text digits rest is each stops =
    let count : prefix_len (is_digit_of 10) text ≡ length digits = ap (prefix_len (is_digit_of 10)) is ∙ run_len (is_digit_of 10) digits rest each stops in
    ap (λ n. numeral_by text (take n text) (drop n text)) count
    ∙ ap (λ whole. numeral_by text (take (length digits) whole) (drop (length digits) whole)) is
    ∙ ap (λ front. numeral_by text front (drop (length digits) (digits ++ rest))) (take-append_seam digits rest)
    ∙ ap (numeral_by text digits) (drop-append_seam digits rest)

pub numeral_again : (middle : List ℕ) (n : ℕ) (after : List ℕ) → WritesNumeral middle n → list_all is_space after ≡ true
    → numeral_read (middle ++ after) ≡ Some n
numeral_again _ _ after (decimal digits is) space =
    cut (digits ++ after) digits after refl is.each (space_stops 10 after (omega arith) space)
    ∙ plain_by (digits ++ after) digits after space
    ∙ digits_again 10 digits after (omega arith) is space
numeral_again _ _ after (radix base digits mark is least most marked each) space =
    cut (base ++ (mark ∷ digits) ++ after) base (mark ∷ (digits ++ after)) (append_assoc base (mark ∷ digits) after) is.each (mark_no_digit mark marked)
    ∙ ap (λ t. cond t (radix_read (digits_value 10 base) (digits ++ after)) (digits_read 10 (base ++ (mark ∷ digits) ++ after))) marked
    ∙ radix_again (digits_value 10 base) digits after least most each space

-- a numeral begins with a digit
first_of_digits : (digits rest : List ℕ) → IsDigits 10 digits → (b : ℕ) × (later : List ℕ) × (digits ++ rest ≡ b ∷ later) × (48 ≤ b)
first_of_digits [] rest is = absurd (let none : 0 < 0 = is.some in omega arith)
first_of_digits (b ∷ digits) rest is = (b, digits ++ rest, refl, digit_above b (and_parts (is_digit_of 10 b) (list_all (is_digit_of 10) digits) is.each).0)

first_of : (middle : List ℕ) (n : ℕ) (after : List ℕ) → WritesNumeral middle n → (b : ℕ) × (later : List ℕ) × (middle ++ after ≡ b ∷ later) × (48 ≤ b)
first_of _ _ after (decimal digits is) = first_of_digits digits after is
first_of _ _ after (radix base digits mark is least most marked each) =
    let found = first_of_digits base (mark ∷ (digits ++ after)) is in
    (found.0, found.1, append_assoc base (mark ∷ digits) after ∙ found.2, found.3)

signed_by : (text : List ℕ) (b : ℕ) (later : List ℕ) → text ≡ b ∷ later → 48 ≤ b → signed_read text ≡ option_map (λ n. (false, n)) (numeral_read text)
signed_by text b later is above =
    let signs = above_no_sign b above in
    ap signed_read is
    ∙ ap (λ t. cond t (option_map (λ n. (true, n)) (numeral_read later))
    (cond (b == 43) (option_map (λ n. (false, n)) (numeral_read later)) (option_map (λ n. (false, n)) (numeral_read (b ∷ later))))) signs.0
    ∙ ap (λ t. cond t (option_map (λ n. (false, n)) (numeral_read later)) (option_map (λ n. (false, n)) (numeral_read (b ∷ later)))) signs.1
    ∙ ap (λ whole. option_map (λ n. (false, n)) (numeral_read whole)) (sym is)

signed_again : (middle : List ℕ) (is_negative : Bool) (n : ℕ) (after : List ℕ) → WritesSigned middle is_negative n → list_all is_space after ≡ true
    → signed_read (middle ++ after) ≡ Some (is_negative, n)
signed_again _ _ _ after (plain text n written) space =
    let first = first_of text n after written in
    signed_by (text ++ after) first.0 first.1 first.2 first.3 ∙ ap (option_map (λ m. (false, m))) (numeral_again text n after written space)
signed_again _ _ _ after (plus text n written) space = ap (option_map (λ m. (false, m))) (numeral_again text n after written space)
signed_again _ _ _ after (minus text n written) space = ap (option_map (λ m. (true, m))) (numeral_again text n after written space)

signed_stops : (middle : List ℕ) (is_negative : Bool) (n : ℕ) (after : List ℕ) → WritesSigned middle is_negative n → Stops is_space (middle ++ after)
signed_stops _ _ _ after (plain text n written) =
    let first = first_of text n after written in
    subst (Stops is_space) (sym first.2) (above_no_space first.0 first.3)
signed_stops _ _ _ after (plus text n written) = refl
signed_stops _ _ _ after (minus text n written) = refl

skip : (text before rest : List ℕ) → text ≡ before ++ rest → list_all is_space before ≡ true → Stops is_space rest → integer_read text ≡ signed_read rest
skip text before rest is space stops =
    let count : prefix_len is_space text ≡ length before = ap (prefix_len is_space) is ∙ run_len is_space before rest space stops in
    ap (λ n. signed_read (drop n text)) count ∙ ap (λ whole. signed_read (drop (length before) whole)) is ∙ ap signed_read (drop-append_seam before rest)

pub integer_again : {text : List ℕ} {n : ℤ} (w : WritesInteger text n) → integer_read text ≡ Some (w.is_negative, w.magnitude)
integer_again {text} {n} w =
    skip text w.before (w.middle ++ w.after) (w.whole ∙ append_assoc w.before w.middle w.after) w.space_before
    (signed_stops w.middle w.is_negative w.magnitude w.after w.written)
    ∙ signed_again w.middle w.is_negative w.magnitude w.after w.written w.space_after
