-- The check of an argument of `write`.
use Rattle.std.specs.Prelude.{Some}
use Rattle.icn_value.specs.Values.{Value}
use Rattle.icn_value.specs.Store.{Heap}
use Rattle.icn_defs.specs.InputOutput.{WriteArgument, piece_of, takes_output}
use Rattle.icn_defs.specs.Rows.{◌>>=◌, ◌>>◌, Finds, check, present}

-- one argument is checked as `pieces` checks it
abbrev pub one_piece : Heap → Value → Finds WriteArgument
one_piece heap value next = do
  piece ← present (piece_of value) 109 (Some value)
  check (takes_output heap piece) 213 (Some value)
  next piece
