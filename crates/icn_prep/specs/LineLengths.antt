-- How long lines are.
use Rattle.std.specs.Prelude.{ℕ, ◌+◌, List, length, sum_by}
use Rattle.icn_tree.specs.declared.lines.SourceLine.{SourceLine}

-- how many bytes the lines have, with a newline behind each
abbrev pub ended_len : List SourceLine → ℕ
ended_len lines = sum_by (λ line. length line.bytes + 1) lines
