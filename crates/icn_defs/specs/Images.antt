-- The names of types and procedures, the image of a value, and the order of sort.
use Rattle.std.specs.Prelude.{◌==◌, ◌+◌, ◌/◌, ◌%◌, ◌&&◌, ℕ, false, nat_lt, nat_le, List, [], ◌∷◌, ◌++◌, length, map, flat_map, take, slice_get, count_by, codes, decimal, Option, unwrap_or, if◌then◌else◌}
use Rattle.std.specs.List.{range_with_len}
use Rattle.std.specs.Option.{option_map_or}
use Rattle.std.specs.Fmt.{signed_decimal, digit_glyph}
use Rattle.std.specs.Str.{bytes_eq}
use Rattle.std.specs.Map.{lookup}
use Rattle.std.specs.declared.cmp.Ordering.{Ordering}
use Rattle.icn_profile.specs.Bytes.{backslash, double_quote, single_quote}
use Rattle.icn_text.specs.declared.func.Func.{Func}
use Rattle.icn_text.specs.declared.func.TheConstants.Func.{ALL}
use Rattle.icn_text.specs.Funcs.{func_name}
use Rattle.icn_value.specs.Values.{Value, Null, Integer, Text, Chars, Std, Procedure, ARecord, AList, ASet, ATable, ACoexp, File, Input, Output, Errout, Opened}
use Rattle.icn_value.specs.Store.{Heap, Record, Names, file_at, record_at}
use Rattle.icn_defs.specs.Conversions.{ValueRank, shape_of, shape_cmp, size_of}

-- Names

-- the functions in the order of their numbers
abbrev pub functions : List Func
functions = ALL

-- the name of a procedure, record constructor or function by its number, and that of a record by its
-- constructor's number among the constructors
abbrev pub procedure_name : Names → ℕ → List ℕ
procedure_name names number =
    unwrap_or (slice_get (names.procedures ++ (names.records ++ map func_name functions)) number) []

-- the name of a record's type
abbrev pub record_name : Names → Heap → ℕ → List ℕ
record_name names heap id = unwrap_or (slice_get names.records (record_at heap id).kind) []

-- the image of a file: of an opened one the name is in it, with its bytes as they are
abbrev pub file_image : Heap → File → List ℕ
file_image heap Input = codes "&input"
file_image heap Output = codes "&output"
file_image heap Errout = codes "&errout"
file_image heap (Opened number) = codes "file(" ++ ((file_at heap number).name ++ codes ")")

-- the name of its type
abbrev pub type_name : Names → Heap → Value → List ℕ
type_name names heap Null = codes "null"
type_name names heap (Integer n) = codes "integer"
type_name names heap (Text bytes) = codes "string"
type_name names heap (Chars bytes) = codes "cset"
type_name names heap (Std file) = codes "file"
type_name names heap (Procedure number) = codes "procedure"
type_name names heap (ARecord id) = record_name names heap id
type_name names heap (AList id) = codes "list"
type_name names heap (ASet id) = codes "set"
type_name names heap (ATable id) = codes "table"
type_name names heap (ACoexp id) = codes "co-expression"

-- Quoted texts

-- the letter that a byte is written by behind a backslash
abbrev pub letter_of : ℕ → Option ℕ
letter_of byte =
    lookup (λ other. other == byte) ((8, 98) ∷ (127, 100) ∷ (27, 101) ∷ (12, 102) ∷ (10, 110) ∷ (13, 114)
    ∷ (9, 116) ∷ (11, 118) ∷ (backslash, backslash) ∷ [])

-- a byte as it is, or in hexadecimal where it is no printable one
abbrev pub plain_or_hex : ℕ → List ℕ
plain_or_hex byte =
    if nat_le 32 byte && nat_le byte 126 then byte ∷ []
    else backslash ∷ 120 ∷ digit_glyph false (byte / 16) ∷ digit_glyph false (byte % 16) ∷ []

-- a byte between such quotes
abbrev pub escape_of : ℕ → ℕ → List ℕ
escape_of quote byte =
    if byte == quote then backslash ∷ quote ∷ []
    else option_map_or (λ letter. backslash ∷ letter ∷ []) (letter_of byte) (plain_or_hex byte)

-- a text in quotes
abbrev pub in_quotes : ℕ → List ℕ → List ℕ
in_quotes quote text = quote ∷ (flat_map (escape_of quote) text ++ quote ∷ [])

-- `&ucase`
abbrev pub ucase : List ℕ
ucase = range_with_len 65 26

-- `&lcase`
abbrev pub lcase : List ℕ
lcase = range_with_len 97 26

-- `&letters`
abbrev pub letters : List ℕ
letters = ucase ++ lcase

-- `&digits`
abbrev pub digit_bytes : List ℕ
digit_bytes = range_with_len 48 10

-- the csets whose image is a keyword
abbrev pub keyword_csets : List (List ℕ × List ℕ)
keyword_csets =
    (range_with_len 0 128, codes "&ascii") ∷ (range_with_len 0 256, codes "&cset")
    ∷ (digit_bytes, codes "&digits") ∷ (lcase, codes "&lcase")
    ∷ (letters, codes "&letters") ∷ (ucase, codes "&ucase") ∷ []

-- the image of a cset
abbrev pub cset_image : List ℕ → List ℕ
cset_image bytes = unwrap_or (lookup (bytes_eq bytes) keyword_csets) (in_quotes single_quote bytes)

-- Images

-- the image of a procedure, a record constructor or a function
abbrev pub procedure_image : Names → ℕ → List ℕ
procedure_image names number =
    if nat_lt number (length names.procedures) then codes "procedure " ++ procedure_name names number
    else (if nat_lt number (length names.procedures + length names.records)
    then codes "record constructor " ++ procedure_name names number
    else codes "function " ++ procedure_name names number)

-- the number of a record among those of its name, from 1 on
abbrev pub record_number : Names → Heap → ℕ → ℕ
record_number names heap id =
    1 + count_by
    (λ (other : Record).
    bytes_eq (unwrap_or (slice_get names.records other.kind) []) (record_name names heap id))
    (take id heap.records)

-- a structure, by its type or name, its number and its size
abbrev pub numbered_image : List ℕ → ℕ → Option ℕ → List ℕ
numbered_image name number size =
    name ++ (codes "_" ++ (decimal number ++ (codes "(" ++ (decimal (unwrap_or size 0) ++ codes ")"))))

-- `image(x)`: the text that shows a value
abbrev pub image : Names → Heap → Value → List ℕ
image names heap Null = codes "&null"
image names heap (Integer n) = signed_decimal n
image names heap (Text bytes) = in_quotes double_quote bytes
image names heap (Chars bytes) = cset_image bytes
image names heap (Std file) = file_image heap file
image names heap (Procedure number) = procedure_image names number
image names heap (ARecord id) =
    numbered_image (codes "record " ++ record_name names heap id) (record_number names heap id)
    (size_of heap (ARecord id))
image names heap (AList id) = numbered_image (codes "list") (id + 1) (size_of heap (AList id))
image names heap (ASet id) = numbered_image (codes "set") (id + 1) (size_of heap (ASet id))
image names heap (ATable id) = numbered_image (codes "table") (id + 1) (size_of heap (ATable id))
image names heap (ACoexp id) = numbered_image (codes "co-expression") (id + 1) (size_of heap (ACoexp id))

-- The order of sort: procedures go by name and then by number, records by record name and then by creation

-- a shape with a name
abbrev pub named_shape : ValueRank → List ℕ → ValueRank
named_shape shape name = record { rank = shape.rank; text = name; number = shape.number }

-- what the order of sort looks at
abbrev pub sorted_shape : Names → Heap → Value → ValueRank
sorted_shape names heap (Procedure number) =
    named_shape (shape_of (Procedure number)) (procedure_name names number)
sorted_shape names heap (ARecord id) = named_shape (shape_of (ARecord id)) (record_name names heap id)
sorted_shape names heap value = shape_of value

-- the order of sort
abbrev pub value_cmp : Names → Heap → Value → Value → Ordering
value_cmp names heap a b = shape_cmp (sorted_shape names heap a) (sorted_shape names heap b)
