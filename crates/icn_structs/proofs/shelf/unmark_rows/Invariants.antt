use Rattle.std.proofs.Common.{◌≡◌, ◌++◌, length, map, take, drop}
use Rattle.icn_structs.specs.Shelves.{view_unmarked}
use Rattle.icn_structs.proofs.shelf.unmark_rows.Given as goal

abbrev pub invariant-loop-i : goal.invariant-loop-i
invariant-loop-i g l = record {
  are : l.rows.items ≡ map view_unmarked (take l.i l.initial.rows.items) ++ drop l.i l.initial.rows.items;
  long : length l.rows.items ≡ length l.initial.rows.items;
}
