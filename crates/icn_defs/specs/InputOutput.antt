-- The functions that read, write and end the program.
use Rattle.std.specs.Prelude.{◌-◌, ℕ, pos, unsigned_abs, Bool, true, false, not, nat_lt, List, [], ◌∷◌, length, map, Option, None, Some, if◌then◌else◌}
use Rattle.std.specs.Int.{int_rem_euclid}
use Rattle.icn_value.specs.Values.{Value, Integer, Text, Std, File, Input, Output, Errout, Opened}
use Rattle.icn_value.specs.Store.{Event, OutputByte, ErrorByte, Heap, Setting, having_heap, value_at, with_events}
use Rattle.icn_value.specs.Changes.{added_to}
use Rattle.icn_defs.specs.Conversions.{text_of, is_null}
use Rattle.icn_defs.specs.Rows.{◌>>=◌, ◌>>◌, Row, Finds, gives_value, ends, check, present, natural, here, changes}
use Rattle.icn_defs.specs.Arguments.{arg, arg_or, integer, file_of, file}
use Rattle.icn_defs.specs.OpenFiles.{is_writable, readable}
use Rattle.icn_defs.specs.Lines.{bytes_from, line_from}

-- `exit(i)`
abbrev pub exit_row : List Value → Row
exit_row args = do
  n ← integer (arg_or (Integer (pos 0)) args 0)
  ends (unsigned_abs (int_rem_euclid n (pos 256)))

-- Reading

-- `read(f)`
abbrev pub read_row : List Value → Row
read_row args = do
  named ← file (arg_or (Std Input) args 0)
  from ← readable named (arg args 0)
  line ← line_from from
  gives_value (Text line)

-- `reads(f, i)`
abbrev pub reads_row : List Value → Row
reads_row args = do
  named ← file (arg_or (Std Input) args 0)
  n ← integer (arg_or (Integer (pos 1)) args 1)
  count ← natural n (arg args 1)
  check (nat_lt 0 count) 205 (Some (arg args 1))
  from ← readable named (arg args 0)
  bytes ← bytes_from count from
  gives_value (Text bytes)

-- Writing

-- more was done outside
abbrev pub having_events : List Event → Setting → Setting
having_events done setting = record setting { outside = with_events done setting.outside }

-- what is put on an output, and what goes behind what an opened file holds; nothing is put on the input
abbrev pub put_on : File → List ℕ → Setting → Setting
put_on Input text setting = setting
put_on Output text setting = having_events (map OutputByte text) setting
put_on Errout text setting = having_events (map ErrorByte text) setting
put_on (Opened number) text setting = having_heap (added_to number text) setting

-- an argument of `write` puts a text, or selects where the next ones go
pub data WriteArgument : Type 0 where
  Puts : List ℕ → WriteArgument
  Selects : File → WriteArgument

-- a text is put
abbrev pub texts_piece : Option (List ℕ) → Option WriteArgument
texts_piece None = None
texts_piece (Some text) = Some (Puts text)

-- a file selects, and null puts nothing
abbrev pub piece_by : Value → Option File → Option WriteArgument
piece_by value (Some file) = Some (Selects file)
piece_by value None = if is_null value then Some (Puts []) else texts_piece (text_of value)

-- what an argument of `write` does, if it may stand there
abbrev pub piece_of : Value → Option WriteArgument
piece_of value = piece_by value (file_of value)

-- only a file that is open for writing is selected
abbrev pub takes_output : Heap → WriteArgument → Bool
takes_output heap (Puts text) = true
takes_output heap (Selects file) = is_writable heap file

-- the arguments as pieces: 109 where one is none, 213 where it is a file that is not open for writing
abbrev pub pieces : Heap → List Value → Finds (List WriteArgument)
pieces heap [] next = next []
pieces heap (value ∷ values) next = do
  piece ← present (piece_of value) 109 (Some value)
  check (takes_output heap piece) 213 (Some value)
  others ← pieces heap values
  next (piece ∷ others)

-- Where the next piece goes, and the setting. Where lines end, one that selects is put behind a newline,
-- unless it is the first argument.
abbrev pub put_pieces : List ℕ → Bool → List WriteArgument → File → Setting → File × Setting
put_pieces newline is_first [] file setting = (file, setting)
put_pieces newline is_first (Puts text ∷ others) file setting =
    put_pieces newline false others file (put_on file text setting)
put_pieces newline is_first (Selects other ∷ others) file setting =
    put_pieces newline false others other (put_on file (if is_first then [] else newline) setting)

-- all pieces are put, and then a newline where lines end
abbrev pub line_put : List ℕ → Bool → List WriteArgument → File → Setting → Setting
line_put newline is_first parts file setting =
    let end = put_pieces newline is_first parts file setting in put_on end.0 newline end.1

-- The arguments are checked, and then put as a line, the first ones on this file; then it goes on.
abbrev pub puts_line : List ℕ → File → List Value → Row → Row
puts_line newline file args next = do
  setting ← here
  parts ← pieces setting.world.heap args
  changes (line_put newline true parts file)
  next

-- the last argument, or null
abbrev pub last_of : List Value → Value
last_of values = value_at values (length values - 1)

-- the end of a line
abbrev pub newline : List ℕ
newline = 10 ∷ []

-- `write(x, ..)`
abbrev pub write_row : List Value → Row
write_row args = do
  puts_line newline Output args
  gives_value (last_of args)

-- `writes(x, ..)`
abbrev pub writes_row : List Value → Row
writes_row args = do
  puts_line [] Output args
  gives_value (last_of args)

-- `stop(x, ..)`
abbrev pub stop_row : List Value → Row
stop_row args = do
  puts_line newline Errout args
  ends 1
