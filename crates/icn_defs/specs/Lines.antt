-- The lines and the bytes of the input and of opened files.
use Rattle.std.specs.Prelude.{◌==◌, ◌+◌, ℕ, not, List, length, drop, take, take_while, nat_lt}
use Rattle.icn_value.specs.Values.{Text, Std, File, Val}
use Rattle.icn_value.specs.Store.{Request, ALine, SomeBytes, file_at, having_left, with_reading}
use Rattle.icn_value.specs.Changes.{read_on}
use Rattle.icn_defs.specs.OpenFiles.{Readable, FromInput, FromOpened, left_in, readable}
use Rattle.icn_defs.specs.Rows.{◌>>=◌, ◌>>◌, Row, Finds, FileLines, suspends, fails_unless, here, changes, changes_heap, costs_bytes}

-- The input

-- the input has so many bytes less
abbrev pub takes_input : ℕ → Row → Row
takes_input count next =
    changes (λ setting. having_left (drop count setting.outside.left) setting) next

-- the input is read: the history of readings keeps what is asked
abbrev pub reads_input : Request → Row → Row
reads_input asked next =
    changes (λ setting. record setting { outside = with_reading asked setting.outside }) next

-- The bytes before the next newline, or all that are left. They are taken, with the newline, and then
-- charged. It fails at the end.
abbrev pub next_line : Finds (List ℕ)
next_line next = do
  reads_input ALine
  setting ← here
  let left = setting.outside.left
  fails_unless (nat_lt 0 (length left))
  let line = take_while (λ byte. not (byte == 10)) left
  takes_input (length line + 1)
  costs_bytes (length line)
  next line

-- So many bytes, or all that are left if these are fewer. They are taken and then charged. It fails at the
-- end.
abbrev pub next_bytes : ℕ → Finds (List ℕ)
next_bytes count next = do
  reads_input (SomeBytes count)
  setting ← here
  let bytes = take count setting.outside.left
  fails_unless (nat_lt 0 (length bytes))
  takes_input (length bytes)
  costs_bytes (length bytes)
  next bytes

-- Opened files

-- so many bytes more of an opened file are read
abbrev pub takes_opened : ℕ → ℕ → Row → Row
takes_opened number count next = changes_heap (read_on number count) next

-- the same of an opened file: its next line
abbrev pub next_opened_line : ℕ → Finds (List ℕ)
next_opened_line number next = do
  setting ← here
  let left = left_in (file_at setting.world.heap number)
  fails_unless (nat_lt 0 (length left))
  let line = take_while (λ byte. not (byte == 10)) left
  takes_opened number (length line + 1)
  costs_bytes (length line)
  next line

-- so many bytes of an opened file
abbrev pub next_opened_bytes : ℕ → ℕ → Finds (List ℕ)
next_opened_bytes number count next = do
  setting ← here
  let bytes = take count (left_in (file_at setting.world.heap number))
  fails_unless (nat_lt 0 (length bytes))
  takes_opened number (length bytes)
  costs_bytes (length bytes)
  next bytes

-- What is open for reading

-- the next line
abbrev pub line_from : Readable → Finds (List ℕ)
line_from FromInput next = next_line next
line_from (FromOpened number) next = next_opened_line number next

-- the next bytes, so many at most
abbrev pub bytes_from : ℕ → Readable → Finds (List ℕ)
bytes_from count FromInput next = next_bytes count next
bytes_from count (FromOpened number) next = next_opened_bytes number count next

-- `!f`: the next line of a file, and then those behind it: 212 where it is not open for reading
abbrev pub lines_row : File → Row
lines_row file = do
  from ← readable file (Std file)
  line ← line_from from
  suspends (Val (Text line)) (FileLines file)
