use Rattle.std.proofs.Common.{◌≡◌, ◌++◌, length, map, take, drop}
use Rattle.icn_structs.specs.PlacedThings.{unmarked}
use Rattle.icn_structs.proofs.row.unmark_all.Given as goal

abbrev pub invariant-loop-i : goal.invariant-loop-i
invariant-loop-i g l = record {
  are : l.there.items ≡ map unmarked (take l.i l.initial.there.items) ++ drop l.i l.initial.there.items;
  long : length l.there.items ≡ length l.initial.there.items;
}
