-- The byte that an escape stands for is one.
use Rattle.std.proofs.Common.{◌≡◌, ℕ, ◌+◌, ◌%◌, ◌<◌, ◌≤◌, zero, suc, Bool, true, false, cond, ◌&&◌, ◌==◌, nat_le, List, [], ◌∷◌, length, take, Option, None, Some, refl, min, mod-lt, arith}
use Rattle.std.specs.Prelude.{nat_lt}
use Rattle.std.specs.List.{list_all, prefix_len}
use Rattle.std.proofs.lemmas.Bool.{and_parts}
use Rattle.std.proofs.lemmas.Bool.Decides.{nat_tests}
use Rattle.icn_tree.specs.Characters.{is_octal, is_hexadecimal, digit_value}
use Rattle.icn_tree.specs.Literals.{octal_escape, hexadecimal_escape, control_escape, escaped_byte, escape_of}
use Rattle.icn_tree.specs.IntegerLiterals.{number_in}
use Rattle.icn_tree.specs.TokenBounds.{is_byte}
use Rattle.law_source.proofs.ByteLists.{AreBytes, byte_below, first_byte}

-- an escape that is one stands for a byte
abbrev pub IsByteOf : Option (ℕ × ℕ) → Type 0
IsByteOf None = Unit {0}
IsByteOf (Some found) = is_byte found.0 ≡ true

found_so : (test : Bool) (byte count : ℕ) → (test ≡ true → byte < 256)
    → IsByteOf (cond test (Some (byte, count)) None)
found_so true byte count h = byte_below byte (h refl)
found_so false byte count h = tt

found_chosen : (test : Bool) (x y : Option (ℕ × ℕ)) → IsByteOf x → IsByteOf y → IsByteOf (cond test x y)
found_chosen true x y h g = h
found_chosen false x y h g = g

-- Octal and hexadecimal digits

low_enough : (value : ℕ) → nat_le value 255 ≡ true → value < 256
low_enough value h = grind (arith, nat_tests)

octal_byte : (bytes : List ℕ) → IsByteOf (octal_escape bytes)
octal_byte bytes =
    let count = min (prefix_len is_octal bytes) 3 in
    let value = number_in 8 (take count bytes) in
    found_so (nat_le value 255) value count (low_enough value)

digit_below : (b : ℕ) → is_hexadecimal b ≡ true → digit_value b < 16
digit_below b h = grind (arith, nat_tests)

front_passes : (n : ℕ) (bytes : List ℕ) → n ≤ prefix_len is_hexadecimal bytes
    → list_all is_hexadecimal (take n bytes) ≡ true
front_passes zero bytes h = refl
front_passes (suc n) [] h = refl
front_passes (suc n) (b ∷ rest) h = by (is_hexadecimal b) (λ k. front_passes n rest k) h where
  by : (test : Bool) → (n ≤ prefix_len is_hexadecimal rest → list_all is_hexadecimal (take n rest) ≡ true)
      → suc n ≤ cond test (1 + prefix_len is_hexadecimal rest) 0
      → (test && list_all is_hexadecimal (take n rest)) ≡ true
  by true later h = later (omega arith)
  by false later h = absurd (omega arith)

pair_below : (digits : List ℕ) → length digits ≤ 2 → list_all is_hexadecimal digits ≡ true
    → number_in 16 digits < 256
pair_below [] few h = omega arith
pair_below (a ∷ []) few h = let first = digit_below a (and_parts _ _ h).0 in omega arith
pair_below (a ∷ b ∷ []) few h =
    let both = and_parts _ _ h in
    let first = digit_below a both.0 in
    let second = digit_below b (and_parts _ _ both.1).0 in
    omega arith
pair_below (a ∷ b ∷ c ∷ rest) few h = absurd (omega arith)

taken_few : (n : ℕ) (bytes : List ℕ) → length (take n bytes) ≤ n
taken_few zero bytes = omega arith
taken_few (suc n) [] = omega arith
taken_few (suc n) (b ∷ rest) = let later = taken_few n rest in omega arith

hexadecimal_byte : (bytes : List ℕ) → IsByteOf (hexadecimal_escape bytes)
hexadecimal_byte bytes =
    let count = min (prefix_len is_hexadecimal bytes) 2 in
    let few : count ≤ 2 = omega arith in
    let within : count ≤ prefix_len is_hexadecimal bytes = omega arith in
    let taken = taken_few count bytes in
    found_so (nat_lt 0 count) (number_in 16 (take count bytes)) (count + 1)
    (λ some. pair_below (take count bytes) (omega arith) (front_passes count bytes within))

-- All escapes

control_byte : (bytes : List ℕ) → IsByteOf (control_escape bytes)
control_byte [] = tt
control_byte (b ∷ rest) = let low : b % 32 < 32 = mod-lt b (omega arith) in byte_below (b % 32) (omega arith)

record IsByte (b : ℕ) : Type 0 where
  is : is_byte b ≡ true

is_chosen : (test : Bool) {a b : ℕ} → IsByte a → IsByte b → IsByte (cond test a b)
is_chosen true h g = h
is_chosen false h g = g

-- a byte is one by computing
number_is : (b : ℕ) → is_byte b ≡ true → IsByte b
number_is b h = record { is = h }

letter_is : (b : ℕ) → is_byte b ≡ true → IsByte (escaped_byte b)
letter_is b h =
    is_chosen (b == 98) (number_is 8 refl) (is_chosen (b == 100) (number_is 127 refl)
    (is_chosen (b == 101) (number_is 27 refl)
    (is_chosen (b == 102) (number_is 12 refl)
    (is_chosen (b == 108) (number_is 10 refl) (is_chosen (b == 110) (number_is 10 refl)
    (is_chosen (b == 114) (number_is 13 refl)
    (is_chosen (b == 116) (number_is 9 refl) (is_chosen (b == 118) (number_is 11 refl)
    (number_is b h)))))))))

pub escape_byte : (bytes : List ℕ) → AreBytes bytes → IsByteOf (escape_of bytes)
unfolding escape_of
escape_byte [] h = tt
escape_byte (b ∷ rest) h =
    found_chosen (is_octal b) _ _ (octal_byte (b ∷ rest))
    (found_chosen (b == 120) _ _ (hexadecimal_byte rest)
    (found_chosen (b == 94) (control_escape rest) (Some (escaped_byte b, 1)) (control_byte rest)
    (letter_is b (first_byte h)).is))
