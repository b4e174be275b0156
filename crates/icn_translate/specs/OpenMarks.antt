-- The marks and loops that are open at a place.
use Rattle.std.specs.Prelude.{Bool, true, false}
use Rattle.icn_unit.specs.declared.unit.UnitInstr.TheVariants.{Unmark}
use Rattle.icn_translate.specs.Drafts.{Draft, ◌▹◌, put}

-- The innermost first: a mark; a loop; an `every` in its control expression, and in its body, whose first mark
-- stays open for the next pass. Outside them is a procedure or a create body.
pub data OpenMarks : Type 0 where
  Outermost : OpenMarks
  Marked : OpenMarks → OpenMarks
  Looped : OpenMarks → OpenMarks
  Controlled : OpenMarks → OpenMarks
  Each : OpenMarks → OpenMarks

-- no loop is open
abbrev pub is_loopless : OpenMarks → Bool
is_loopless Outermost = true
is_loopless (Marked outer) = is_loopless outer
is_loopless (Looped outer) = false
is_loopless (Controlled outer) = false
is_loopless (Each outer) = false

-- `next` may not stand here: no loop is open, or the innermost one is an `every` in its control expression
abbrev pub is_nextless : OpenMarks → Bool
is_nextless Outermost = true
is_nextless (Marked outer) = is_nextless outer
is_nextless (Looped outer) = false
is_nextless (Controlled outer) = true
is_nextless (Each outer) = false

-- `unmark` for each mark that was opened in the innermost loop
abbrev pub unmarks_for_break : OpenMarks → Draft → Draft
unmarks_for_break Outermost d = d
unmarks_for_break (Marked outer) d = d ▹ put Unmark ▹ unmarks_for_break outer
unmarks_for_break (Looped outer) d = d
unmarks_for_break (Controlled outer) d = d ▹ put Unmark
unmarks_for_break (Each outer) d = d ▹ put Unmark

-- `unmark` for each mark that was opened since the place that `next` goes to was last passed
abbrev pub unmarks_for_next : OpenMarks → Draft → Draft
unmarks_for_next Outermost d = d
unmarks_for_next (Marked outer) d = d ▹ put Unmark ▹ unmarks_for_next outer
unmarks_for_next (Looped outer) d = d
unmarks_for_next (Controlled outer) d = d
unmarks_for_next (Each outer) d = d

-- what is open around the innermost loop
abbrev pub around : OpenMarks → OpenMarks
around Outermost = Outermost
around (Marked outer) = around outer
around (Looped outer) = outer
around (Controlled outer) = outer
around (Each outer) = outer
