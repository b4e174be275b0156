-- A cursor as the definitions see it.
use Rattle.std.specs.Prelude.{reverse}
use Rattle.icn_prep.specs.declared.cursor.Cursor.{Cursor as FileCursor}
use Rattle.icn_prep.specs.Cursors.{Cursor}

-- the cursor that is kept, with the innermost conditional first
abbrev pub cursor_of : FileCursor → Cursor
cursor_of p =
    record { file = p.file; line = p.line; taken = p.taken; conditionals = reverse p.conditionals.items }
