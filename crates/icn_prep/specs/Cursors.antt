-- Where in a file reading is.
use Rattle.std.specs.Prelude.{ℕ, ◌+◌, Bool, true, List, []}
use Rattle.icn_prep.specs.declared.cursor.Conditional.{Conditional}

-- A file by the index of its name, the number of the line that comes next, whether what stands there is taken, and the
-- conditionals that are open there, the innermost first.
pub record Cursor : Type 0 where
  pub file : ℕ
  pub line : ℕ
  pub taken : Bool
  pub conditionals : List Conditional

-- the first line of this file, with no conditional open
abbrev pub start_of : ℕ → Cursor
start_of file = record { file = file; line = 1; taken = true; conditionals = [] }

-- the line behind this one
abbrev pub next_line : Cursor → Cursor
next_line cursor = record cursor { line = cursor.line + 1 }
