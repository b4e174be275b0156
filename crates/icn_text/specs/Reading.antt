-- What the functions that read an integer find, step by step.
use Rattle.std.specs.Prelude.{◌==◌, ◌^◌, ◌&&◌, nat_lt, nat_le, ℕ, Bool, true, false, List, [], ◌∷◌, take, drop, ℤ, Option, Some, None, option_and_then, if◌then◌else◌}
use Rattle.std.specs.List.{list_all, prefix_len}
use Rattle.std.specs.Option.{option_map}
use Rattle.std.specs.Str.Parse.{digits_value}
use Rattle.icn_text.specs.IntegerArithmetic.{if_fits}
use Rattle.icn_text.specs.Integers.{is_space, is_digit_of, is_radix_mark, with_sign}

-- a number that 64 bits hold
abbrev pub in_64_bits : ℕ → Option ℕ
in_64_bits n = if nat_lt n (2 ^ 64) then Some n else None

-- digits of the radix, behind which white space alone stands
abbrev pub digits_read : ℕ → List ℕ → Option ℕ
digits_read radix text = let count = prefix_len (is_digit_of radix) text in
    if nat_lt 0 count && list_all is_space (drop count text) then Some (digits_value radix (take count text))
    else None

-- what stands behind a radix and its mark
abbrev pub radix_read : ℕ → List ℕ → Option ℕ
radix_read radix text = if nat_le 2 radix && nat_le radix 36 then digits_read radix text else None

-- a numeral by what stands behind its first digits
abbrev pub numeral_by : List ℕ → List ℕ → List ℕ → Option ℕ
numeral_by text digits [] = digits_read 10 text
numeral_by text digits (mark ∷ rest) =
    if is_radix_mark mark then radix_read (digits_value 10 digits) rest else digits_read 10 text

-- the magnitude of a numeral without a sign, in decimal digits or with a radix
abbrev pub numeral_read : List ℕ → Option ℕ
numeral_read text =
    let count = prefix_len (is_digit_of 10) text in numeral_by text (take count text) (drop count text)

-- whether a sign makes it negative, and its magnitude
abbrev pub signed_read : List ℕ → Option (Bool × ℕ)
signed_read [] = None
signed_read (sign ∷ rest) =
    if sign == 45 then option_map (λ n. (true, n)) (numeral_read rest)
    else (if sign == 43 then option_map (λ n. (false, n)) (numeral_read rest)
    else option_map (λ n. (false, n)) (numeral_read (sign ∷ rest)))

-- an integer with its sign, behind spaces
abbrev pub integer_read : List ℕ → Option (Bool × ℕ)
integer_read text = signed_read (drop (prefix_len is_space text) text)

-- a sign and a magnitude, where the magnitude fits into 64 bits
abbrev pub pair_held : Bool × ℕ → Option (Bool × ℕ)
pair_held found = option_map (λ n. (found.0, n)) (in_64_bits found.1)

-- the integer of 64 bits that a text writes
abbrev pub written_integer : List ℕ → Option ℤ
written_integer text = option_and_then (λ found. if_fits (with_sign found.0 found.1)) (integer_read text)
