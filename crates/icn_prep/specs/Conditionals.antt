-- Which parts of a file are taken.
use Rattle.std.specs.Prelude.{Bool, true, false, List, ◌∷◌, ◌&&◌, not}
use Rattle.icn_prep.specs.declared.cursor.Conditional.{Conditional}
use Rattle.icn_prep.specs.Cursors.{Cursor}

-- a conditional begins, whose first part is chosen or not
abbrev pub open_conditional : Cursor → Bool → Cursor
open_conditional cursor chosen = record cursor {
  taken = cursor.taken && chosen;
  conditionals = (record { around = cursor.taken; in_else = false; file = cursor.file; line = cursor.line })
      ∷ cursor.conditionals;
}

-- the innermost one goes on with its other part
abbrev pub other_part : Cursor → Conditional → List Conditional → Cursor
other_part cursor innermost others = record cursor {
  taken = innermost.around && not cursor.taken;
  conditionals = (record innermost { in_else = true }) ∷ others;
}

-- the innermost one ends
abbrev pub close_conditional : Cursor → Conditional → List Conditional → Cursor
close_conditional cursor innermost others = record cursor { taken = innermost.around; conditionals = others }
