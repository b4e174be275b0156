-- The functions that look at a text from a position on, and those that move in the subject.
use Rattle.std.specs.Prelude.{◌==◌, ◌+◌, ◌-◌, ◌&&◌, ℕ, zero, suc, ℤ, pos, negsuc, ◌+ℤ◌, Bool, true, min, max, nat_lt, nat_le, List, [], ◌∷◌, length, find, slice_index, slice_range, Option, None, Some, option_and_then, codes, if◌then◌else◌}
use Rattle.std.specs.List.{range_with_len, prefix_len}
use Rattle.std.specs.Str.{bytes_eq}
use Rattle.icn_value.specs.Values.{Value, Integer, Text, Chars, Item, Val}
use Rattle.icn_value.specs.Store.{having_position}
use Rattle.icn_defs.specs.Conversions.{contains, members, position_of, is_null}
use Rattle.icn_defs.specs.Rows.{◌>>=◌, ◌>>◌, Row, Finds, UndoPosition, Balanced, Found, Among, fails, gives_value, suspends, check, fails_unless, thing_or_failure, here, changes, costs_text, costs_texts}
use Rattle.icn_defs.specs.ReadAndAssign.{the_value}
use Rattle.icn_defs.specs.Arguments.{arg, arg_or, integer, string, cset}
use Rattle.icn_defs.specs.Variables.{places}

-- A text and two positions in it

-- a text, and two positions in it
pub record SearchedText : Type 0 where
  pub text : List ℕ
  pub first : ℤ
  pub last : ℤ

-- the byte behind a position
abbrev pub byte_behind : List ℕ → ℕ → ℕ
byte_behind text position = slice_index text (position - 1)

-- the bytes between two places
abbrev pub between : List ℕ → ℕ → ℕ → List ℕ
between text a b = slice_range text (a - 1) (b - 1)

-- The arguments from this one on: a text, and two positions. The text is `&subject` where it is null, and
-- then the first position is `&pos` where that is null; else 1. The second is 0 where it is null.
abbrev pub region_from : List Value → ℕ → Finds SearchedText
region_from args n next = do
  setting ← here
  text ← string (arg_or (Text setting.world.subject) args n)
  let start = if is_null (arg args n) then setting.world.position else 1
  first ← integer (arg_or (Integer (pos start)) args (n + 1))
  last ← integer (arg_or (Integer (pos 0)) args (n + 2))
  next (record { text = text; first = first; last = last })

-- the two places, the smaller first; it fails where one is out of range
abbrev pub ends_of : SearchedText → Finds (ℕ × ℕ)
ends_of region = places region.first region.last (length region.text)

-- Tests at the first position

-- it gives a position
abbrev pub gives_position : ℕ → Row
gives_position position = gives_value (Integer (pos position))

-- `any(c, s, i, j)`
abbrev pub any_row : List Value → Row
any_row args = do
  bytes ← cset (arg args 0)
  region ← region_from args 1
  costs_text (arg args 1)
  ends ← ends_of region
  fails_unless (nat_lt ends.0 ends.1 && contains bytes (byte_behind region.text ends.0))
  gives_position (ends.0 + 1)

-- `many(c, s, i, j)`
abbrev pub many_row : List Value → Row
many_row args = do
  bytes ← cset (arg args 0)
  region ← region_from args 1
  costs_text (arg args 1)
  ends ← ends_of region
  let count = prefix_len (contains bytes) (between region.text ends.0 ends.1)
  fails_unless (nat_lt 0 count)
  gives_position (ends.0 + count)

-- whether a text stands behind a position and ends by another one
abbrev pub stands : List ℕ → List ℕ → ℕ → ℕ → Bool
stands wanted text position last =
    nat_le (position + length wanted) last && bytes_eq wanted (between text position (position + length wanted))

-- `match(s1, s, i, j)`
abbrev pub match_row : List Value → Row
match_row args = do
  wanted ← string (arg args 0)
  region ← region_from args 1
  costs_texts (arg args 0 ∷ arg args 1 ∷ [])
  ends ← ends_of region
  fails_unless (stands wanted region.text ends.0 ends.1)
  gives_position (ends.0 + length wanted)

-- Searches: each position is given, and the search goes on behind it

-- the next position from this one on at which the text stands
abbrev pub found_from : List ℕ → List ℕ → ℕ → ℕ → Row
found_from wanted text position last = do
  position ← thing_or_failure
      (find (λ position. stands wanted text position last) (range_with_len position (last + 1 - position)))
  suspends (Val (Integer (pos position))) (Found wanted text position last)

-- `find(s1, s, i, j)`
abbrev pub find_row : List Value → Row
find_row args = do
  wanted ← string (arg args 0)
  region ← region_from args 1
  costs_texts (arg args 0 ∷ arg args 1 ∷ [])
  ends ← ends_of region
  found_from wanted region.text ends.0 ends.1

-- the next position from this one on before a byte of the cset
abbrev pub among_from : List ℕ → List ℕ → ℕ → ℕ → Row
among_from bytes text position last = do
  let positions = range_with_len position (last - position)
  position ← thing_or_failure (find (λ position. contains bytes (byte_behind text position)) positions)
  suspends (Val (Integer (pos position))) (Among bytes text position last)

-- `upto(c, s, i, j)`
abbrev pub upto_row : List Value → Row
upto_row args = do
  bytes ← cset (arg args 0)
  region ← region_from args 1
  costs_text (arg args 1)
  ends ← ends_of region
  among_from bytes region.text ends.0 ends.1

-- The count behind a byte: one that opens adds 1, else one that closes takes 1, and there is none below 0.
abbrev pub close_one : ℕ → Option ℕ
close_one zero = None
close_one (suc count) = Some count

-- the count behind a byte
abbrev pub count_behind : List ℕ → List ℕ → ℕ → ℕ → Option ℕ
count_behind opening closing byte count =
    if contains opening byte then Some (count + 1)
    else (if contains closing byte then close_one count else Some count)

-- the first position at which the count is 0 and a byte of the cset stands; these are the bytes behind the
-- position that is said
abbrev pub balanced_position : List ℕ → List ℕ → List ℕ → List ℕ → ℕ → ℕ → Option ℕ
balanced_position wanted opening closing [] position count = None
balanced_position wanted opening closing (byte ∷ bytes) position count =
    if (count == 0) && contains wanted byte then Some position
    else option_and_then (λ later. balanced_position wanted opening closing bytes (position + 1) later)
    (count_behind opening closing byte count)

-- the next position from this one on, with this count there
abbrev pub balanced_from : List ℕ → List ℕ → List ℕ → List ℕ → ℕ → ℕ → ℕ → Row
balanced_from wanted opening closing text position last count = do
  position ← thing_or_failure (balanced_position wanted opening closing (between text position last) position count)
  suspends (Val (Integer (pos position))) (Balanced wanted opening closing text position last)

-- resumed, the search goes on behind the byte at its last position, where the count was 0
abbrev pub balanced_again : List ℕ → List ℕ → List ℕ → List ℕ → ℕ → ℕ → Row
balanced_again wanted opening closing text position last = do
  count ← thing_or_failure (count_behind opening closing (byte_behind text position) 0)
  balanced_from wanted opening closing text (position + 1) last count

-- `bal(c1, c2, c3, s, i, j)`
abbrev pub bal_row : List Value → Row
bal_row args = do
  wanted ← cset (arg_or (Chars (members (λ byte. true))) args 0)
  opening ← cset (arg_or (Chars (codes "(")) args 1)
  closing ← cset (arg_or (Chars (codes ")")) args 2)
  region ← region_from args 3
  costs_text (arg args 3)
  ends ← ends_of region
  balanced_from wanted opening closing region.text ends.0 ends.1 0

-- Moving in the subject

-- to a position: the bytes between it and the old one are given; resumed, `&pos` gets its old value
abbrev pub tabs_to : ℕ → Row
tabs_to position = do
  setting ← here
  let old = setting.world.position
  changes (having_position position)
  suspends (Val (Text (between setting.world.subject (min old position) (max old position)))) (UndoPosition old)

-- 205 where the subject is too short now
abbrev pub undo_position_again : ℕ → Row
undo_position_again old = do
  setting ← here
  check (nat_le old (length setting.world.subject + 1)) 205 None
  changes (having_position old)
  fails

-- `tab(i)`
abbrev pub tab_row : List Value → Row
tab_row args = do
  n ← integer (arg args 0)
  setting ← here
  position ← thing_or_failure (position_of n (length setting.world.subject))
  tabs_to position

-- a sum that is a position; it does not count from the end
abbrev pub plain_position : ℤ → ℕ → Option ℕ
plain_position (pos n) size = if nat_le 1 n && nat_le n (size + 1) then Some n else None
plain_position (negsuc n) size = None

-- `move(i)`
abbrev pub move_row : List Value → Row
move_row args = do
  n ← integer (arg args 0)
  setting ← here
  position ← thing_or_failure (plain_position (pos setting.world.position +ℤ n) (length setting.world.subject))
  tabs_to position

-- `pos(i)`
abbrev pub pos_row : List Value → Row
pos_row args = do
  n ← integer (arg args 0)
  setting ← here
  position ← thing_or_failure (position_of n (length setting.world.subject))
  fails_unless (position == setting.world.position)
  gives_position position

-- `=s`
abbrev pub tab_match_row : Item → Row
tab_match_row x = do
  v ← the_value x
  wanted ← string v
  costs_text v
  setting ← here
  let position = setting.world.position
  fails_unless (stands wanted setting.world.subject position (length setting.world.subject + 1))
  tabs_to (position + length wanted)
