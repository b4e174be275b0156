-- What a text writes as an integer.
use Rattle.std.specs.Prelude.{◌≡◌, ◌≤◌, ◌==◌, ◌&&◌, ◌||◌, ◌<◌, nat_lt, nat_le, length, ℕ, ℤ, pos, neg_ℤ, FitsSigned, Bool, true, false, List, ◌∷◌, ◌++◌, if◌then◌else◌}
use Rattle.std.specs.Int.{w64}
use Rattle.std.specs.List.{list_all}
use Rattle.std.specs.Char.{digit_value}
use Rattle.std.specs.Str.Parse.{digits_value}

-- tab, newline, vertical tab, form feed, carriage return or blank
abbrev pub is_space : ℕ → Bool
is_space b = nat_le 9 b && nat_le b 13 || b == 32

-- `r` or `R`
abbrev pub is_radix_mark : ℕ → Bool
is_radix_mark b = b == 114 || b == 82

-- a decimal digit or a letter whose value, from 10 to 35 for a letter, is below the radix
abbrev pub is_digit_of : ℕ → ℕ → Bool
is_digit_of radix b = nat_lt (digit_value b) radix

-- one digit of the radix or more
pub record IsDigits (radix : ℕ) (text : List ℕ) : Type 0 where
  pub some : 0 < length text
  pub each : list_all (is_digit_of radix) text ≡ true

-- decimal digits; or a radix from 2 to 36 in decimal digits, its mark, and digits of that radix
pub data WritesNumeral : List ℕ → ℕ → Type 0 where
  decimal : (digits : List ℕ) → IsDigits 10 digits → WritesNumeral digits (digits_value 10 digits)
  radix : (radix digits : List ℕ) (mark : ℕ) → IsDigits 10 radix → 2 ≤ digits_value 10 radix
      → digits_value 10 radix ≤ 36 → is_radix_mark mark ≡ true
      → IsDigits (digits_value 10 radix) digits
      → WritesNumeral (radix ++ mark ∷ digits) (digits_value (digits_value 10 radix) digits)

-- a magnitude as an integer, negative or not
abbrev pub with_sign : Bool → ℕ → ℤ
with_sign is_negative n = if is_negative then neg_ℤ (pos n) else pos n

-- a numeral, perhaps behind a sign
pub data WritesSigned : List ℕ → Bool → ℕ → Type 0 where
  plain : (text : List ℕ) (n : ℕ) → WritesNumeral text n → WritesSigned text false n
  plus : (text : List ℕ) (n : ℕ) → WritesNumeral text n → WritesSigned (43 ∷ text) false n
  minus : (text : List ℕ) (n : ℕ) → WritesNumeral text n → WritesSigned (45 ∷ text) true n

-- a signed numeral between white space, whose value is an integer of 64 bits
pub record WritesInteger (text : List ℕ) (n : ℤ) : Type 0 where
  pub before : List ℕ
  pub middle : List ℕ
  pub after : List ℕ
  pub whole : text ≡ before ++ middle ++ after
  pub space_before : list_all is_space before ≡ true
  pub space_after : list_all is_space after ≡ true
  pub is_negative : Bool
  pub magnitude : ℕ
  pub written : WritesSigned middle is_negative magnitude
  pub value : n ≡ with_sign is_negative magnitude
  pub fits : FitsSigned w64 n
