use Rattle.std.proofs.Common.{◌≡◌, ◌++◌, length, take, drop}
use Rattle.icn_structs.specs.PlacedThings.{renumbered}
use Rattle.icn_structs.proofs.PlacedSteps.{counted}
use Rattle.icn_structs.proofs.row.renumber.Given as goal

abbrev pub invariant-loop-i : goal.invariant-loop-i
invariant-loop-i l = record {
  are : l.places.items ≡ renumbered 0 (take l.i l.initial.places.items) ++ drop l.i l.initial.places.items;
  long : length l.places.items ≡ length l.initial.places.items;
  kept : l.kept ≡ counted (take l.i l.initial.places.items);
}
