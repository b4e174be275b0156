-- The operands of a line of ucode.
use Rattle.std.specs.Prelude.{◌==◌, ℕ, ◌+◌, ◌-◌, ◌*◌, Bool, true, false, ◌&&◌, ◌||◌, nat_le, nat_lt, List, [], ◌∷◌, length, take, drop, map, codes, Option, Some, None, if◌then◌else◌}
use Rattle.std.specs.Fmt.{decimal}
use Rattle.std.specs.List.{prefix_len, list_all}
use Rattle.std.specs.Option.{option_map}
use Rattle.std.specs.Str.{bytes_eq}
use Rattle.icn_profile.specs.Numbers.{greatest_number, most_bytes_of_name, most_hexadecimal_digits}
use Rattle.icn_text.specs.declared.keyword.Keyword.{Keyword}
use Rattle.icn_text.specs.declared.keyword.Keyword.TheVariants.{Ascii, Cset, Current, Digits, Errout, Fail, Input, Lcase, Letters, Level, Main, Null, Output, Pos, Random, Source, Subject, Ucase, Error, ErrorNumber, ErrorValue, ErrorText}
use Rattle.icn_text.specs.Keywords.{keyword_name}
use Rattle.icn_tree.specs.Characters.{begins_identifier, continues_identifier, is_digit, is_between}
use Rattle.icn_tree.specs.Spellings.{lookup_text}

-- the words of a line: what stands before the first blank, and what stands behind it
abbrev pub is_inside : ℕ → Bool
is_inside b = if b == 32 then false else true

-- what stands behind the first byte, if there is one
abbrev pub behind : List ℕ → Option (List ℕ)
behind [] = None
behind (b ∷ rest) = Some rest

-- a text up to its first blank, and what stands behind that blank, if there is one
abbrev pub first_field : List ℕ → List ℕ × Option (List ℕ)
first_field text = let count = prefix_len is_inside text in (take count text, behind (drop count text))

-- the number that decimal digits write behind those of a number
abbrev pub value_from : ℕ → List ℕ → ℕ
value_from n [] = n
value_from n (b ∷ rest) = value_from (n * 10 + (b - 48)) rest

-- a number up to a greatest one is its decimal: digits without a leading zero
abbrev pub number_of : ℕ → List ℕ → Option ℕ
number_of greatest text =
    let n = value_from 0 text in if nat_le n greatest && bytes_eq (decimal n) text then Some n else None

-- `L` and the number of a label
abbrev pub label_of : List ℕ → Option ℕ
label_of [] = None
label_of (b ∷ rest) = if b == 76 then number_of greatest_number rest else None

-- a letter or an underscore, and letters, underscores and digits: no longer than a name
abbrev pub is_name : List ℕ → Bool
is_name [] = false
is_name (b ∷ rest) =
    begins_identifier b && list_all continues_identifier rest && nat_le (length (b ∷ rest)) most_bytes_of_name

-- a lower-case hexadecimal digit
abbrev pub is_hexadecimal : ℕ → Bool
is_hexadecimal b = is_digit b || is_between 97 102 b

-- the value of a hexadecimal digit, from 0 to 15
abbrev pub hexadecimal_value : ℕ → ℕ
hexadecimal_value b = if is_digit b then b - 48 else b - 87

-- bytes of two digits each
abbrev pub hexadecimal_bytes : List ℕ → Option (List ℕ)
hexadecimal_bytes [] = Some []
hexadecimal_bytes (a ∷ []) = None
hexadecimal_bytes (a ∷ b ∷ rest) = if is_hexadecimal a && is_hexadecimal b then option_map (λ bytes.
    (hexadecimal_value a * 16 + hexadecimal_value b) ∷ bytes) (hexadecimal_bytes rest) else None

-- at most 65535 bytes in hexadecimal, or `-` where there are none
abbrev pub bytes_of : List ℕ → Option (List ℕ)
bytes_of text =
    if bytes_eq text (codes "-") then Some []
    else (if nat_le 1 (length text) && nat_le (length text) most_hexadecimal_digits then hexadecimal_bytes text else None)

-- each byte is below the next
abbrev pub ascends : List ℕ → Bool
ascends [] = true
ascends (a ∷ []) = true
ascends (a ∷ b ∷ rest) = nat_lt a b && ascends (b ∷ rest)

-- the keywords that an instruction may name
abbrev pub keywords : List Keyword
keywords = Ascii ∷ Cset ∷ Current ∷ Digits ∷ Errout ∷ Fail ∷ Input ∷ Lcase ∷ Letters ∷ Level ∷ Main ∷ Null
    ∷ Output ∷ Pos ∷ Random ∷ Source ∷ Subject ∷ Ucase
    ∷ Error ∷ ErrorNumber ∷ ErrorValue ∷ ErrorText ∷ []

-- the keyword of this name, if there is one
unfoldable pub keyword_of : List ℕ → Option Keyword
keyword_of text = lookup_text (map (λ keyword. (keyword_name keyword, keyword)) keywords) text
