-- What the functions that scan a text find, step by step.
use Rattle.std.specs.Prelude.{◌==◌, ℕ, ◌+◌, ◌-◌, pos, nat_eq, nat_le, List, [], ◌∷◌, length, take, drop, slice_get, Option, Some, None, Result, Ok, Err, unwrap_or, if◌then◌else◌}
use Rattle.std.specs.List.{prefix_len, starts_with}
use Rattle.std.specs.Option.{option_map, option_map_or, ok_or}
use Rattle.icn_profile.specs.Bytes.{full_stop}
use Rattle.icn_profile.specs.Numbers.{greatest_integer, most_bytes_of_name}
use Rattle.icn_tree.specs.declared.rule.Rule.{Rule}
use Rattle.icn_tree.specs.declared.rule.Rule.TheVariants.{L1, L4, L6, L7}
use Rattle.icn_tree.specs.declared.token.Kind.{Kind}
use Rattle.icn_tree.specs.declared.token.Kind.TheVariants.{Identifier, Integer, Word, Operator, Punctuation}
use Rattle.icn_tree.specs.declared.token.Operator.TheVariants.{Dot}
use Rattle.icn_tree.specs.declared.token.Punctuation.TheVariants.{Semicolon}
use Rattle.icn_tree.specs.declared.token.Token.{Token}
use Rattle.icn_tree.specs.Characters.{begins_identifier, is_digit, continues_identifier, is_alphanumeric}
use Rattle.icn_tree.specs.IntegerLiterals.{number_in, is_radix_mark, is_real_mark, integer}
use Rattle.icn_tree.specs.Semicolons.{LineToken, between}
use Rattle.icn_tree.specs.Spellings.{lookup_text, words_of, marks_of}

-- the first spelling that the bytes start with: what it stands for, and how many bytes it has
abbrev pub first_match : {A : Type 0} → List (List ℕ × A) → List ℕ → Option (A × ℕ)
first_match [] bytes = None
first_match (row ∷ rows) bytes =
    if starts_with nat_eq bytes row.0 then Some (row.1, length row.0) else first_match rows bytes

-- a number that is not too large
abbrev pub within_limit : ℕ → Option ℕ
within_limit n = if nat_le n greatest_integer then Some n else None

-- the integer that digits write in a radix, where it fits
abbrev pub value_in : ℕ → List ℕ → Option ℕ
value_in radix digits = within_limit (number_in radix digits)

-- an integer literal, unless its number is too large
abbrev pub bounded_by : Option ℕ → Result Kind Rule
bounded_by None = Err L4
bounded_by (Some n) = Ok (Integer (pos n))

-- the byte that digits write in a radix, unless their number is above 255
abbrev pub byte_in : ℕ → List ℕ → Option ℕ
byte_in radix digits = let value = number_in radix digits in if nat_le value 255 then Some value else None

-- a literal of so many bytes
abbrev pub with_count : ℕ → Result Kind Rule → Result (Kind × ℕ) Rule
with_count count (Ok kind) = Ok (kind, count)
with_count count (Err rule) = Err rule

-- a literal or name of so many bytes, unless it is too long
abbrev pub with_length : ℕ → Result Kind Rule → Result (Kind × ℕ) Rule
with_length count sense = if nat_le count most_bytes_of_name then with_count count sense else Err L7

-- the integer literal that begins with decimal digits, by what stands behind them
abbrev pub number_read_by : List ℕ → ℕ → List ℕ → Result (Kind × ℕ) Rule
number_read_by digits count [] = with_length count (bounded_by (value_in 10 digits))
number_read_by digits count (mark ∷ rest) =
    if is_radix_mark mark then (let written = prefix_len is_alphanumeric rest in
    with_length (count + 1 + written) (integer (number_in 10 digits) (take written rest)))
    else (if is_real_mark mark then Err L6 else with_length count (bounded_by (value_in 10 digits)))

-- the kind of the number that stands first, with its length in bytes; or the rule that it breaks
abbrev pub number_read : List ℕ → Result (Kind × ℕ) Rule
number_read bytes =
    let count = prefix_len is_digit bytes in number_read_by (take count bytes) count (drop count bytes)

-- a dot, behind which no digit may stand
abbrev pub dot_read : List ℕ → Result (Kind × ℕ) Rule
dot_read [] = Ok (Operator Dot, 1)
dot_read (b ∷ rest) = if is_digit b then Err L6 else Ok (Operator Dot, 1)

-- the token that bytes begin with, where that is no word or identifier
abbrev pub bare_read : ℕ → List ℕ → List ℕ → Result (Kind × ℕ) Rule
bare_read first bytes rest = if is_digit first then number_read bytes
    else (if first == full_stop then dot_read rest else ok_or (first_match (marks_of first) bytes) L1)

-- the word or identifier that a name is, by its first byte
abbrev pub name_by : ℕ → List ℕ → Kind
name_by first name =
    unwrap_or (option_map (λ word. Word word) (lookup_text (words_of first) name)) (Identifier name)

-- the word or identifier that stands first, with its length in bytes, unless it is too long
abbrev pub name_read : ℕ → List ℕ → Result (Kind × ℕ) Rule
name_read first rest = let count = prefix_len continues_identifier rest + 1 in
    if nat_le count most_bytes_of_name then Ok (name_by first (take count (first ∷ rest)), count) else Err L7

-- the kind of the token that stands first, with its length in bytes; or the rule that it breaks
abbrev pub first_read : List ℕ → Result (Kind × ℕ) Rule
first_read [] = Err L1
first_read (b ∷ rest) = if begins_identifier b then name_read b rest else bare_read b (b ∷ rest) rest

-- what stands between the last of the tokens and a further one
abbrev pub with_piece : List Token → LineToken → List Token
with_piece tokens next = option_map_or (λ last. between last next) (slice_get tokens (length tokens - 1)) []

-- the semicolon of a place, a line and a file, if there is one
abbrev pub semicolon_of : Option (ℕ × ℕ) → List Token
semicolon_of None = []
semicolon_of (Some place) = record { kind = Punctuation Semicolon; line = place.0; file = place.1 } ∷ []
