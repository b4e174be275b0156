use Rattle.std.proofs.Common.{◌≡◌, ◌++◌, length, map, take, drop}
use Rattle.icn_structs.specs.PlacedThings.{kept_number, memories, remembered}
use Rattle.icn_structs.proofs.row.forget.Given as goal

abbrev pub invariant-loop-i : goal.invariant-loop-i
invariant-loop-i g l = record {
  are : l.places.items ≡ map (kept_number l.there) (take l.i l.initial.places.items) ++ drop l.i l.initial.places.items;
  numbers : length l.places.items ≡ length l.initial.places.items;
  long : length l.was.items ≡ length l.initial.was.items;
  was : memories l.was.items ≡ remembered (take l.i (memories l.initial.was.items)) (take l.i l.initial.places.items) l.there
      ++ drop l.i (memories l.initial.was.items);
}
