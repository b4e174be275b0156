-- Parts of the rows that read.
use Rattle.std.specs.Prelude.{ℕ, ℤ, pos, List, nat_lt, Some}
use Rattle.icn_value.specs.Values.{Value, Integer, Text, File}
use Rattle.icn_value.specs.Store.{Request}
use Rattle.icn_defs.specs.Arguments.{arg, arg_or, integer}
use Rattle.icn_defs.specs.OpenFiles.{Readable, FromInput, FromOpened, readable}
use Rattle.icn_defs.specs.Rows.{Row, Finds, check, gives_value, natural}
use Rattle.icn_streams.specs.Readings.{next_opened, next_read}

-- a number above 0: 205
abbrev pub positive : ℤ → Value → Finds ℕ
positive n value next = natural n value (λ count. check (nat_lt 0 count) 205 (Some value) (next count))

-- how many bytes are asked for
abbrev pub count_read : List Value → Finds ℕ
count_read args next = integer (arg_or (Integer (pos 1)) args 1) (λ n. positive n (arg args 1) next)

-- what is read of the input is given
abbrev pub reads_input : Request → Row
reads_input asked = next_read asked (λ text. gives_value (Text text))

-- what is read of an opened file is given
abbrev pub reads_opened : Request → ℕ → Row
reads_opened asked number = next_opened asked number (λ text. gives_value (Text text))

-- what is read is given
abbrev pub reads_of : Request → Readable → Row
reads_of asked FromInput = reads_input asked
reads_of asked (FromOpened number) = reads_opened asked number

-- 212 where the file is not open for reading
abbrev pub read_from : Request → File → Value → Row
read_from asked file named = readable file named (reads_of asked)
