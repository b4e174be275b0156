-- What an operand's spelling is read as.
use Rattle.std.proofs.Common.{◌≡◌, ℕ, ◌+◌, ◌-◌, ◌*◌, ◌/◌, ◌%◌, ◌^◌, ◌<◌, ◌≤◌, Bool, true, false, cond, ◌&&◌, ◌||◌, nat_le, nat_lt, List, [], ◌∷◌, ◌++◌, length, None, Some, refl, ◌∙◌, ap, arith}
use Rattle.std.specs.Prelude.{codes}
use Rattle.std.specs.Fmt.{decimal}
use Rattle.std.specs.List.{list_all, flat_map}
use Rattle.std.specs.Option.{option_map}
use Rattle.std.specs.Str.{bytes_eq}
use Rattle.std.proofs.lemmas.Bool.{cond-true, cond-false}
use Rattle.std.proofs.lemmas.Bool.Decides.{nat_tests}
use Rattle.std.proofs.lemmas.Fmt.{decimal_by_steps}
use Rattle.icn_tree.specs.Characters.{is_between, is_digit}
use Rattle.icn_unit.specs.UnitOperands.{bytes_of, hexadecimal_bytes, hexadecimal_value, is_hexadecimal, label_of, number_of, value_from}
use Rattle.icn_unit.specs.UnitRules.{is_byte, is_byte_text, is_number}
use Rattle.icn_unit.specs.UnitTexts.{byte_text, bytes_text, hexadecimal_digit, label_text}
use Rattle.icn_unit.proofs.Decimals.{equal_texts, other_texts}
use Rattle.icn_ucode.proofs.CleanWords.{all_of_both, is_clean, is_word_byte, word_byte}
use Rattle.icn_ucode.proofs.ListTests.{and_intro, and_parts}
use Rattle.icn_ucode.proofs.KeptInstrs.{twice_as_long}

-- Numbers

value_last : (n : ℕ) (digits : List ℕ) (c : ℕ) → value_from n (digits ++ c ∷ []) ≡ value_from n digits * 10 + (c - 48)
value_last n [] c = refl
value_last n (b ∷ digits) c = value_last (n * 10 + (b - 48)) digits c

abbrev IsDecimal : ℕ → List ℕ → Type 0
IsDecimal n text = (value_from 0 text ≡ n) × (is_clean text ≡ true)

one_digit : (n : ℕ) → n < 10 → IsDecimal n ((48 + n) ∷ [])
one_digit n h = (omega arith, and_intro (is_word_byte (48 + n)) true (word_byte (48 + n) (omega arith)) refl)

more_digits : (n : ℕ) (text : List ℕ) → 10 ≤ n → IsDecimal (n / 10) text → IsDecimal n (text ++ (48 + n % 10) ∷ [])
more_digits n text h is = (
  value_last 0 text (48 + n % 10) ∙ (ap (λ m. m * 10 + (48 + n % 10 - 48)) is.0 ∙ omega arith),
  all_of_both is_word_byte text ((48 + n % 10) ∷ []) is.1 (and_intro (is_word_byte (48 + n % 10)) true (word_byte (48 + n % 10) (omega arith)) refl),
)

decimal_is : (n : ℕ) → n < 2 ^ 64 → IsDecimal n (decimal n)
decimal_is n h = decimal_by_steps (λ m ds. IsDecimal m ds) one_digit more_digits n h

small : (n greatest : ℕ) → nat_le n greatest ≡ true → greatest ≤ 9223372036854775807 → n < 2 ^ 64
small n greatest h g = let most : n ≤ greatest = grind (arith, nat_tests) in omega (arith, most, g)

pub number_again : (greatest n : ℕ) → nat_le n greatest ≡ true → greatest ≤ 9223372036854775807 → number_of greatest (decimal n) ≡ Some n
number_again greatest n h g =
    ap (λ v. cond (nat_le v greatest && bytes_eq (decimal v) (decimal n)) (Some v) None) (decimal_is n (small n greatest h g)).0
    ∙ cond-true (nat_le n greatest && bytes_eq (decimal n) (decimal n))
    _ _ (and_intro (nat_le n greatest) (bytes_eq (decimal n) (decimal n)) h (equal_texts (decimal n) (decimal n) refl))

pub decimal_clean : (greatest n : ℕ) → nat_le n greatest ≡ true → greatest ≤ 9223372036854775807 → is_clean (decimal n) ≡ true
decimal_clean greatest n h g = (decimal_is n (small n greatest h g)).1

largest : 4294967295 ≤ 9223372036854775807
largest = omega arith

pub small_again : (n : ℕ) → is_number n ≡ true → number_of 4294967295 (decimal n) ≡ Some n
small_again n h = number_again 4294967295 n h largest

pub small_clean : (n : ℕ) → is_number n ≡ true → is_clean (decimal n) ≡ true
small_clean n h = decimal_clean 4294967295 n h largest

pub label_again : (n : ℕ) → is_number n ≡ true → label_of (label_text n) ≡ Some n
label_again n h = small_again n h

pub label_clean : (n : ℕ) → is_number n ≡ true → is_clean (label_text n) ≡ true
label_clean n h = small_clean n h

-- Bytes

digit_read : (n : ℕ) → n < 16 → (is_hexadecimal (hexadecimal_digit n) ≡ true) × (hexadecimal_value (hexadecimal_digit n) ≡ n) × (48 ≤ hexadecimal_digit n)
digit_read n h = by_small (nat_lt n 10) refl where
  by_small : (test : Bool) → nat_lt n 10 ≡ test
      → (is_hexadecimal (cond test (n + 48) (n + 87)) ≡ true) × (hexadecimal_value (cond test (n + 48) (n + 87)) ≡ n) × (48 ≤ cond test (n + 48) (n + 87))
  by_small true t = low where
    below : n < 10
    below = grind (arith, nat_tests)

    digit : is_digit (n + 48) ≡ true
    digit = grind (arith, nat_tests, below)

    low : (is_hexadecimal (n + 48) ≡ true) × (hexadecimal_value (n + 48) ≡ n) × (48 ≤ n + 48)
    low = (ap (λ test. test || is_between 97 102 (n + 48)) digit, cond-true (is_digit (n + 48)) _ _ digit ∙ omega arith, omega arith)
  by_small false t = high where
    above : 10 ≤ n
    above = grind (arith, nat_tests)

    letter : is_between 97 102 (n + 87) ≡ true
    letter = grind (arith, nat_tests, above, h)

    no_digit : is_digit (n + 87) ≡ false
    no_digit = grind (arith, nat_tests, above)

    high : (is_hexadecimal (n + 87) ≡ true) × (hexadecimal_value (n + 87) ≡ n) × (48 ≤ n + 87)
    high = (ap (λ test. test || is_between 97 102 (n + 87)) no_digit ∙ letter, cond-false (is_digit (n + 87)) _ _ no_digit ∙ omega arith, omega arith)

byte_read : (a b : ℕ) (text : List ℕ) → is_hexadecimal a ≡ true → is_hexadecimal b ≡ true
    → hexadecimal_bytes (a ∷ b ∷ text) ≡ option_map (λ bytes. (hexadecimal_value a * 16 + hexadecimal_value b) ∷ bytes) (hexadecimal_bytes text)
byte_read a b text h g = cond-true (is_hexadecimal a && is_hexadecimal b) _ _ (and_intro (is_hexadecimal a) (is_hexadecimal b) h g)

below_256 : (b : ℕ) → is_byte b ≡ true → b < 256
below_256 b h = grind (arith, nat_tests)

hexadecimal_again : (bytes : List ℕ) → list_all is_byte bytes ≡ true → hexadecimal_bytes (flat_map byte_text bytes) ≡ Some bytes
hexadecimal_again [] h = refl
hexadecimal_again (b ∷ bytes) h =
    let parts = and_parts (is_byte b) (list_all is_byte bytes) h in
    let less = below_256 b parts.0 in
    let high = digit_read (b / 16) (omega (arith, less)) in
    let low = digit_read (b % 16) (omega arith) in
    let whole : b / 16 * 16 + b % 16 ≡ b = omega arith in
    byte_read (hexadecimal_digit (b / 16)) (hexadecimal_digit (b % 16)) (flat_map byte_text bytes) high.0 low.0
    ∙ (ap (λ found. option_map (λ bytes. (hexadecimal_value (hexadecimal_digit (b / 16)) * 16 + hexadecimal_value (hexadecimal_digit (b % 16))) ∷ bytes) found)
    (hexadecimal_again bytes parts.1)
    ∙ (ap (λ v. Some ((v * 16 + hexadecimal_value (hexadecimal_digit (b % 16))) ∷ bytes)) high.1
    ∙ (ap (λ v. Some ((b / 16 * 16 + v) ∷ bytes)) low.1 ∙ ap (λ v. Some (v ∷ bytes)) whole)))

hexadecimal_clean : (bytes : List ℕ) → list_all is_byte bytes ≡ true → is_clean (flat_map byte_text bytes) ≡ true
hexadecimal_clean [] h = refl
hexadecimal_clean (b ∷ bytes) h =
    let parts = and_parts (is_byte b) (list_all is_byte bytes) h in
    let less = below_256 b parts.0 in
    let high = digit_read (b / 16) (omega (arith, less)) in
    let low = digit_read (b % 16) (omega arith) in
    and_intro (is_word_byte (hexadecimal_digit (b / 16))) (is_clean (hexadecimal_digit (b % 16) ∷ flat_map byte_text bytes))
    (word_byte (hexadecimal_digit (b / 16)) (omega (arith, high.2)))
    (and_intro (is_word_byte (hexadecimal_digit (b % 16))) (is_clean (flat_map byte_text bytes)) (word_byte (hexadecimal_digit (b % 16)) (omega (arith, low.2)))
    (hexadecimal_clean bytes parts.1))

no_dash : (text : List ℕ) → 2 ≤ length text → bytes_eq text (codes "-") ≡ false
no_dash text h = other_texts text (codes "-") (λ e. omega (arith, h, ap length e))

some_bytes : (text bytes : List ℕ) → hexadecimal_bytes text ≡ Some bytes → 2 ≤ length text → nat_le (length text) 131070 ≡ true → bytes_of text ≡ Some bytes
some_bytes text bytes e h g =
    let least : nat_le 1 (length text) ≡ true = grind (arith, nat_tests, h) in
    cond-false (bytes_eq text (codes "-")) _ _ (no_dash text h)
    ∙ (cond-true (nat_le 1 (length text) && nat_le (length text) 131070) _ _ (and_intro (nat_le 1 (length text)) (nat_le (length text) 131070) least g) ∙ e)

long_enough : (bytes : List ℕ) → nat_le (length bytes) 65535 ≡ true → nat_le (length (flat_map byte_text bytes)) 131070 ≡ true
long_enough bytes h = let twice = twice_as_long bytes in grind (arith, nat_tests, twice)

pub bytes_again : (bytes : List ℕ) → is_byte_text bytes ≡ true → bytes_of (bytes_text bytes) ≡ Some bytes
bytes_again [] h = refl
bytes_again (b ∷ bytes) h =
    let parts = and_parts (list_all is_byte (b ∷ bytes)) (nat_le (length (b ∷ bytes)) 65535) h in
    some_bytes (flat_map byte_text (b ∷ bytes)) (b ∷ bytes) (hexadecimal_again (b ∷ bytes) parts.0) (omega arith) (long_enough (b ∷ bytes) parts.1)

pub bytes_clean : (bytes : List ℕ) → is_byte_text bytes ≡ true → is_clean (bytes_text bytes) ≡ true
bytes_clean [] h = refl
bytes_clean (b ∷ bytes) h = hexadecimal_clean (b ∷ bytes) (and_parts (list_all is_byte (b ∷ bytes)) (nat_le (length (b ∷ bytes)) 65535) h).0
