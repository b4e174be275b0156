-- The rows that write, as what they put and how they go on.
use Rattle.std.specs.Prelude.{Bool, List, [], if◌then◌else◌}
use Rattle.icn_value.specs.Values.{Value, Output}
use Rattle.icn_defs.specs.InputOutput.{last_of, newline, puts_line}
use Rattle.icn_defs.specs.Rows.{Row, gives_value}

-- `write` where lines end, and `writes` where none do
abbrev pub write_by : Bool → List Value → Row
write_by ends args = puts_line (if ends then newline else []) Output args (gives_value (last_of args))
