-- The bytes of a source text by what they can be part of.
use Rattle.std.specs.Prelude.{◌==◌, ℕ, ◌-◌, Bool, ◌&&◌, ◌||◌, nat_le, if◌then◌else◌}
use Rattle.icn_profile.specs.Bytes.{double_quote, number_sign, single_quote, underscore}

-- a byte from one to another, both included
abbrev pub is_between : ℕ → ℕ → ℕ → Bool
is_between low high b = nat_le low b && nat_le b high

-- tab, vertical tab, form feed, carriage return or blank
abbrev pub is_space : ℕ → Bool
is_space b = b == 9 || is_between 11 13 b || b == 32

-- what a continued literal passes over at the front of a line
abbrev pub is_blank : ℕ → Bool
is_blank b = b == 9 || b == 32

-- `#`
abbrev pub begins_comment : ℕ → Bool
begins_comment b = b == number_sign

-- a letter or an underscore
abbrev pub begins_identifier : ℕ → Bool
begins_identifier b = is_between 65 90 b || is_between 97 122 b || b == underscore

-- a decimal digit
abbrev pub is_digit : ℕ → Bool
is_digit b = is_between 48 57 b

-- a letter, an underscore or a digit
abbrev pub continues_identifier : ℕ → Bool
continues_identifier b = begins_identifier b || is_digit b

-- a letter or a digit
abbrev pub is_alphanumeric : ℕ → Bool
is_alphanumeric b = is_digit b || is_between 65 90 b || is_between 97 122 b

-- an octal digit
abbrev pub is_octal : ℕ → Bool
is_octal b = is_between 48 55 b

-- a hexadecimal digit, in small or capital letters
abbrev pub is_hexadecimal : ℕ → Bool
is_hexadecimal b = is_digit b || is_between 65 70 b || is_between 97 102 b

-- what a digit counts: letters in either case stand for 10 to 35
abbrev pub digit_value : ℕ → ℕ
digit_value b = if is_digit b then b - 48 else (if is_between 97 122 b then b - 87 else b - 55)

-- `"` or `'`
abbrev pub is_quote : ℕ → Bool
is_quote b = b == double_quote || b == single_quote
