-- Integer literals.
use Rattle.std.specs.Prelude.{◌==◌, ℕ, ◌+◌, ◌*◌, pos, Bool, true, false, ◌&&◌, ◌||◌, not, nat_le, nat_lt, List, [], ◌∷◌, ◌++◌, length, take, drop, Option, Some, None, Result, Ok, Err, if◌then◌else◌}
use Rattle.std.specs.List.{prefix_len, list_all}
use Rattle.icn_profile.specs.Bytes.{full_stop}
use Rattle.icn_profile.specs.Numbers.{greatest_integer, most_bytes_of_name}
use Rattle.icn_tree.specs.declared.rule.Rule.{Rule}
use Rattle.icn_tree.specs.declared.rule.Rule.TheVariants.{L4, L5, L6, L7}
use Rattle.icn_tree.specs.declared.token.Kind.{Kind}
use Rattle.icn_tree.specs.declared.token.Kind.TheVariants.{Integer}
use Rattle.icn_tree.specs.Characters.{is_between, is_digit, is_alphanumeric, digit_value}

-- the number that digits write behind those of a number
abbrev pub number_from : ℕ → ℕ → List ℕ → ℕ
number_from radix n [] = n
number_from radix n (b ∷ rest) = number_from radix (n * radix + digit_value b) rest

-- the number that digits write in a radix
abbrev pub number_in : ℕ → List ℕ → ℕ
number_in radix digits = number_from radix 0 digits

-- no byte is left
abbrev pub is_nothing : List ℕ → Bool
is_nothing [] = true
is_nothing (b ∷ rest) = false

-- `r` or `R`, which stands between a radix and its digits
abbrev pub is_radix_mark : ℕ → Bool
is_radix_mark b = b == 114 || b == 82

-- `.`, `e` or `E`, which make digits before them a number that is not whole
abbrev pub is_real_mark : ℕ → Bool
is_real_mark b = b == full_stop || b == 101 || b == 69

-- a text that is not too long for a literal has this sense
abbrev pub within_size : List ℕ → Result Kind Rule → Result Kind Rule
within_size text sense = if nat_le (length text) most_bytes_of_name then sense else Err L7

-- an integer literal of this value, or the rule that it breaks where it is too large
abbrev pub integer_kind : ℕ → Result Kind Rule
integer_kind n = if nat_le n greatest_integer then Ok (Integer (pos n)) else Err L4

-- there are digits, and each is below the radix
abbrev pub are_digits : ℕ → List ℕ → Bool
are_digits radix digits = not (is_nothing digits) && list_all (λ b. nat_lt (digit_value b) radix) digits

-- the integer that digits write in a radix from 2 to 36
abbrev pub integer : ℕ → List ℕ → Result Kind Rule
integer radix digits =
    if is_between 2 36 radix && are_digits radix digits then integer_kind (number_in radix digits) else Err L5

-- What decimal digits and the bytes behind them are as one literal: a number, or a radix with its digits. With the first
-- byte of a fraction or an exponent they are one that is not whole.
abbrev pub number_by : List ℕ → List ℕ → Option (Result Kind Rule)
number_by digits [] = Some (within_size digits (integer_kind (number_in 10 digits)))
number_by digits (mark ∷ rest) =
    if is_radix_mark mark && list_all is_alphanumeric rest
    then Some (within_size (digits ++ mark ∷ rest) (integer (number_in 10 digits) rest))
    else (if is_real_mark mark && is_nothing rest then Some (Err L6) else None)

-- what bytes that begin with a digit are as one literal
unfoldable pub number : List ℕ → Option (Result Kind Rule)
number bytes = let count = prefix_len is_digit bytes in number_by (take count bytes) (drop count bytes)
