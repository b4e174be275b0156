-- Lines that are bytes.
use Rattle.std.specs.Prelude.{Bool, List}
use Rattle.std.specs.List.{list_all}
use Rattle.icn_tree.specs.declared.lines.SourceLine.{SourceLine}
use Rattle.law_source.specs.Bytes.{are_bytes}

-- each number of a line is below 256
abbrev pub line_is_of_bytes : SourceLine → Bool
line_is_of_bytes line = are_bytes line.bytes

-- all bytes of all lines are below 256
abbrev pub lines_are_of_bytes : List SourceLine → Bool
lines_are_of_bytes lines = list_all line_is_of_bytes lines
