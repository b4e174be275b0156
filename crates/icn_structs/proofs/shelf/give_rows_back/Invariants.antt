use Rattle.std.proofs.Common.{◌≡◌, ◌++◌, length, map, take, drop}
use Rattle.icn_structs.specs.Shelves.{view_given}
use Rattle.icn_structs.proofs.shelf.give_rows_back.Given as goal

abbrev pub invariant-loop-i : goal.invariant-loop-i
invariant-loop-i g l = record {
  are : l.rows.items ≡ map view_given (take l.i l.initial.rows.items) ++ drop l.i l.initial.rows.items;
  long : length l.rows.items ≡ length l.initial.rows.items;
}
