-- What reading keeps within over one line.
use Rattle.std.specs.Prelude.{◌≡◌, ◌<◌, ◌≤◌, ◌+◌, ◌^◌, IfErr, OnOk, Result, max, slice_get, vec_len}
use Rattle.icn_profile.specs.Numbers.{greatest_line_operand}
use Rattle.icn_prep.specs.declared.cursor.Cursor.{Cursor}
use Rattle.icn_prep.specs.declared.fault.PrepFault.{PrepFault}
use Rattle.icn_prep.specs.declared.source_reader.SourceReader.{SourceReader}
use Rattle.icn_prep.specs.Refusals.{IsOfPrep, IsOfText}

-- The file of the next line has a name, and its number is the next one or one that `$line` can set. No name is lost, the
-- first one stays, and so do the lines that were given.
pub record LeavesLine (before after : SourceReader) (here next : Cursor) : Type 0 where
  pub named : next.file < vec_len after.names
  pub numbered : next.line ≤ max (here.line + 1) greatest_line_operand
  pub first : slice_get after.names.items 0 ≡ slice_get before.names.items 0
  pub kept : vec_len before.names ≤ vec_len after.names
  pub longer : before.size ≤ after.size

-- the file of the next line has a name, and the number behind its own has 32 bits
pub record StandsIn (reading : SourceReader) (cursor : Cursor) : Type 0 where
  pub named : cursor.file < vec_len reading.names
  pub numbered : cursor.line + 1 < 2 ^ 32

-- reading goes on behind the line, or the answer is want of memory, or a rule of the text that is broken
pub record PassesLine {A : Type 0} (before after : SourceReader) (here next : Cursor)
    (result : Result A PrepFault) : Type 0 where
  pub leaves : OnOk result (LeavesLine before after here next)
  pub fault : IfErr result IsOfText
  pub rule : IfErr result IsOfPrep
