use Rattle.std.proofs.Common.{◌≡◌, ◌≤◌, ◌<◌, ◌+◌, ◌-◌, length, drop}
use Rattle.std.specs.Prelude.{slice_get, vec_len}
use Rattle.icn_prep.specs.FileLines.{lines_of}
use Rattle.icn_prep.specs.CursorViews.{cursor_of}
use Rattle.icn_prep.specs.SourceLines.{IncludeStep, lines_read}
use Rattle.icn_prep.specs.StateViews.{state_of}
use Rattle.icn_prep.proofs.file.read_lines.Given as goal

abbrev pub invariant-loop-at : goal.invariant-loop-at
invariant-loop-at l = record {
  so : (includes : IncludeStep) → lines_read includes (state_of l.fn.reading) (cursor_of l.fn.cursor) (lines_of (drop l.fn.from l.content))
      ≡ lines_read includes (state_of l.reading) (cursor_of l.cursor) (lines_of (drop l.at l.content));
  within : l.at ≤ length l.content;
  named : l.cursor.file < vec_len l.reading.names;
  numbered : l.cursor.line + (length l.content - l.at) ≤ 1016777216;
  first : slice_get l.reading.names.items 0 ≡ slice_get l.fn.reading.names.items 0;
  kept : vec_len l.fn.reading.names ≤ vec_len l.reading.names;
  longer : l.fn.reading.size ≤ l.reading.size;
}

abbrev pub decreases-loop-at : goal.decreases-loop-at
decreases-loop-at l = length l.content - l.at
