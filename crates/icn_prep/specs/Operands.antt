-- The operands of directives. `None` is an operand that is missing, wrong or surplus.
use Rattle.std.specs.Prelude.{ℕ, ◌+◌, ◌-◌, ◌*◌, Bool, true, false, List, [], ◌∷◌, Option, None, Some, if◌then◌else◌, ◌==◌, ◌&&◌, not, nat_le, take, drop, fold, option_and_then}
use Rattle.std.specs.Str.{is_utf8}
use Rattle.std.specs.List.{prefix_len, list_any}
use Rattle.icn_profile.specs.Bytes.{double_quote}
use Rattle.icn_prep.specs.FileLines.{begins_with}
use Rattle.icn_tree.specs.Characters.{is_digit, is_blank}
use Rattle.icn_tree.specs.TokenBounds.{is_name}
use Rattle.icn_prep.specs.Words.{first_word, behind_word, trim, trimmed_start}

-- nothing stands there
abbrev pub is_empty : List ℕ → Bool
is_empty [] = true
is_empty (b ∷ rest) = false

-- one name
abbrev pub name_operand : List ℕ → Option (List ℕ)
name_operand operand = if is_name operand then Some operand else None

-- a name, and its text
abbrev pub define_operand : List ℕ → Option (List ℕ × List ℕ)
define_operand operand =
    if is_name (first_word operand) && not (begins_with 40 (behind_word operand))
    then Some (first_word operand, trim (behind_word operand))
    else None

-- a byte that may stand inside a quoted name: any but the quote
abbrev pub is_unquoted : ℕ → Bool
is_unquoted b = not (b == double_quote)

-- a double quote, and nothing behind it
abbrev pub is_quote_alone : List ℕ → Bool
is_quote_alone [] = false
is_quote_alone (b ∷ []) = b == double_quote
is_quote_alone (b ∷ c ∷ rest) = false

-- what stands in double quotes, up to the next one, where nothing stands behind it
abbrev pub text_in_quotes : List ℕ → Option (List ℕ)
text_in_quotes [] = None
text_in_quotes (b ∷ rest) =
    if (b == double_quote) && is_quote_alone (drop (prefix_len is_unquoted rest) rest)
    then Some (take (prefix_len is_unquoted rest) rest)
    else None

-- a run of bytes without a blank
abbrev pub plain_run : List ℕ → Option (List ℕ)
plain_run operand = if list_any is_blank operand then None else Some operand

-- text that is not empty can name a file
abbrev pub file_name : List ℕ → Option (List ℕ)
file_name name = if not (is_empty name) && is_utf8 name then Some name else None

-- the name of a file, in double quotes or as a run of bytes that begins with none
abbrev pub file_operand : List ℕ → Option (List ℕ)
file_operand operand =
    option_and_then file_name (if begins_with double_quote operand then text_in_quotes operand
    else plain_run operand)

-- the number that digits write
abbrev pub number_of : List ℕ → ℕ
number_of digits = fold (λ value digit. value * 10 + (digit - 48)) 0 digits

-- a number, and perhaps a name in double quotes
abbrev pub number_with : ℕ → Option (List ℕ) → Option (ℕ × Option (List ℕ))
number_with number None = None
number_with number (Some name) = Some (number, Some name)

-- the same, by what stands behind the number
abbrev pub number_and_name : ℕ → List ℕ → Option (ℕ × Option (List ℕ))
number_and_name number rest =
    if is_empty rest then Some (number, None) else number_with number (text_in_quotes rest)

-- 1 to 9 digits, and perhaps a name in double quotes
abbrev pub line_operand : List ℕ → Option (ℕ × Option (List ℕ))
line_operand operand =
    let count = prefix_len is_digit operand in
    if nat_le 1 count && nat_le count 9
    then number_and_name (number_of (take count operand)) (trimmed_start (drop count operand)) else None
