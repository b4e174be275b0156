-- The functions over integers, texts and csets.
use Rattle.std.specs.Prelude.{◌==◌, ◌+◌, ◌-◌, ◌*◌, ◌/◌, ◌%◌, ◌^◌, ℕ, ℤ, pos, negsuc, unsigned_abs, not, nat_lt, List, [], ◌∷◌, ◌++◌, length, map, reverse, take, drop, replicate, fold, zip, slice_index, codes, None, Some, if◌then◌else◌}
use Rattle.std.specs.Int.{w64, cast_unsigned, cast_signed, int_bit_and, int_bit_or, int_bit_xor, int_bit_not}
use Rattle.std.specs.List.{concat, suffix_len}
use Rattle.std.specs.Ordering.{int_eq}
use Rattle.icn_text.specs.IntegerArithmetic.{sum, within_64_bits}
use Rattle.icn_value.specs.Values.{Value, Integer, Text, Chars, Val}
use Rattle.icn_value.specs.Store.{Names}
use Rattle.icn_defs.specs.Conversions.{contains, integer_of, text_of, cset_of}
use Rattle.icn_defs.specs.Rows.{◌>>=◌, ◌>>◌, Row, Sequence, gives_value, suspends, check, number_or_error, thing_or_failure, natural, here, costs_text, costs_texts, builds}
use Rattle.icn_defs.specs.Arguments.{arg, arg_or, number, integer, string, cset}
use Rattle.icn_defs.specs.Images.{image, type_name, ucase, lcase}

-- it gives an integer
abbrev pub gives_integer : ℤ → Row
gives_integer n = gives_value (Integer n)

-- the integer 1
abbrev pub one : Value
one = Integer (pos 1)

-- Integers

-- `abs(n)`
abbrev pub abs_row : List Value → Row
abs_row args = do
  n ← number (arg args 0)
  result ← number_or_error (within_64_bits (pos (unsigned_abs n)))
  gives_integer result

-- an operation on the bits of two integers
abbrev pub bits_row : (ℤ → ℤ → ℤ) → List Value → Row
bits_row operation args = do
  m ← integer (arg args 0)
  n ← integer (arg args 1)
  gives_integer (operation m n)

-- `iand(i, j)`
abbrev pub iand_row : List Value → Row
iand_row args = bits_row (int_bit_and w64) args

-- `ior(i, j)`
abbrev pub ior_row : List Value → Row
ior_row args = bits_row (int_bit_or w64) args

-- `ixor(i, j)`
abbrev pub ixor_row : List Value → Row
ixor_row args = bits_row (int_bit_xor w64) args

-- `icom(i)`
abbrev pub icom_row : List Value → Row
icom_row args = do
  n ← integer (arg args 0)
  gives_integer (int_bit_not w64 n)

-- to the left, or to the right with zeros; 0 from 64 on
abbrev pub shift_by : ℤ → ℤ → ℤ
shift_by m (pos k) = if nat_lt k 64 then cast_signed w64 (cast_unsigned w64 m * 2 ^ k % 2 ^ 64) else pos 0
shift_by m (negsuc k) =
    if nat_lt (k + 1) 64 then cast_signed w64 (cast_unsigned w64 m / 2 ^ (k + 1)) else pos 0

-- `ishift(i, j)`
abbrev pub ishift_row : List Value → Row
ishift_row args = do
  m ← integer (arg args 0)
  n ← integer (arg args 1)
  gives_integer (shift_by m n)

-- the next integer of a sequence, which has no end
abbrev pub sequence_from : ℤ → ℤ → Row
sequence_from n step = suspends (Val (Integer n)) (Sequence n step)

-- `seq(i, j)`
abbrev pub seq_row : List Value → Row
seq_row args = do
  first ← integer (arg_or one args 0)
  step ← integer (arg_or one args 1)
  check (not (int_eq step (pos 0))) 211 None
  sequence_from first step

-- resumed, the sequence goes on: 203 past 64 bits
abbrev pub sequence_again : ℤ → ℤ → Row
sequence_again n step = do
  later ← number_or_error (sum n step)
  sequence_from later step

-- Conversions

-- `integer(x)`, `numeric(x)`
abbrev pub integer_row : List Value → Row
integer_row args = do
  n ← thing_or_failure (integer_of (arg args 0))
  gives_integer n

-- `string(x)`
abbrev pub string_row : List Value → Row
string_row args = do
  text ← thing_or_failure (text_of (arg args 0))
  costs_text (arg args 0)
  gives_value (Text text)

-- `cset(x)`
abbrev pub cset_row : List Value → Row
cset_row args = do
  bytes ← thing_or_failure (cset_of (arg args 0))
  gives_value (Chars bytes)

-- `char(i)`
abbrev pub char_row : List Value → Row
char_row args = do
  n ← integer (arg args 0)
  byte ← natural n (arg args 0)
  check (nat_lt byte 256) 205 (Some (arg args 0))
  gives_value (Text (byte ∷ []))

-- `ord(s)`
abbrev pub ord_row : List Value → Row
ord_row args = do
  text ← string (arg args 0)
  check (length text == 1) 205 (Some (arg args 0))
  costs_text (arg args 0)
  gives_integer (pos (slice_index text 0))

-- `image(x)`
abbrev pub image_row : Names → List Value → Row
image_row names args = do
  setting ← here
  builds (image names setting.world.heap (arg args 0))

-- `type(x)`
abbrev pub type_row : Names → List Value → Row
type_row names args = do
  setting ← here
  gives_value (Text (type_name names setting.world.heap (arg args 0)))

-- Texts

-- the text that a field is filled with: a blank where it is empty
abbrev pub filling_text : List ℕ → List ℕ
filling_text [] = 32 ∷ []
filling_text (byte ∷ bytes) = byte ∷ bytes

-- so many bytes of a text put again and again, aligned at the left end
abbrev pub filled_left : List ℕ → ℕ → List ℕ
filled_left fill count = take count (concat (replicate count (filling_text fill)))

-- so many bytes of a text put again and again, aligned at the right end
abbrev pub filled_right : List ℕ → ℕ → List ℕ
filled_right fill count =
    let text = concat (replicate count (filling_text fill)) in drop (length text - count) text

-- a text at the left end of a field of so many bytes
abbrev pub left_text : List ℕ → ℕ → List ℕ → List ℕ
left_text text width fill = take width text ++ filled_right fill (width - length text)

-- a text at the right end of a field
abbrev pub right_text : List ℕ → ℕ → List ℕ → List ℕ
right_text text width fill = filled_left fill (width - length text) ++ drop (length text - width) text

-- a text in the middle of a field
abbrev pub center_text : List ℕ → ℕ → List ℕ → List ℕ
center_text text width fill =
    let missing = width - length text in
    filled_left fill (missing / 2) ++ (take width (drop ((length text - width + 1) / 2) text)
    ++ filled_right fill (missing - missing / 2))

-- a text in a field: 205 where its width is below 0
abbrev pub field_row : (List ℕ → ℕ → List ℕ → List ℕ) → List Value → Row
field_row laid_out args = do
  text ← string (arg args 0)
  n ← integer (arg_or one args 1)
  fill ← string (arg_or (Text (codes " ")) args 2)
  width ← natural n (arg args 1)
  costs_texts (arg args 0 ∷ arg args 2 ∷ [])
  builds (laid_out text width fill)

-- `left(s, i, s2)`
abbrev pub left_row : List Value → Row
left_row args = field_row left_text args

-- `right(s, i, s2)`
abbrev pub right_row : List Value → Row
right_row args = field_row right_text args

-- `center(s, i, s2)`
abbrev pub center_row : List Value → Row
center_row args = field_row center_text args

-- the byte that stands at the last place of a byte in the first text, in the second; itself where it is not
-- there
abbrev pub map_byte : List ℕ → List ℕ → ℕ → ℕ
map_byte from to byte = fold (λ result pair. if pair.0 == byte then pair.1 else result) byte (zip from to)

-- `map(s1, s2, s3)`
abbrev pub map_row : List Value → Row
map_row args = do
  text ← string (arg args 0)
  from ← string (arg_or (Text ucase) args 1)
  to ← string (arg_or (Text lcase) args 2)
  check (length from == length to) 208 None
  costs_texts (arg args 0 ∷ arg args 1 ∷ arg args 2 ∷ [])
  builds (map (map_byte from to) text)

-- `repl(s, i)`
abbrev pub repl_row : List Value → Row
repl_row args = do
  text ← string (arg args 0)
  n ← integer (arg args 1)
  count ← natural n (arg args 1)
  costs_text (arg args 0)
  builds (concat (replicate count text))

-- `reverse(s)`
abbrev pub reverse_row : List Value → Row
reverse_row args = do
  text ← string (arg args 0)
  costs_text (arg args 0)
  builds (reverse text)

-- `trim(s, c)`
abbrev pub trim_row : List Value → Row
trim_row args = do
  text ← string (arg args 0)
  bytes ← cset (arg_or (Chars (codes " ")) args 1)
  costs_text (arg args 0)
  gives_value (Text (take (length text - suffix_len (contains bytes) text) text))
