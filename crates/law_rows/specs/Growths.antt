-- What only grows: the sums that were charged, and the structures, of which none is taken away.
use Rattle.std.specs.Prelude.{◌≡◌, ◌≤◌, length}
use Rattle.icn_value.specs.Store.{Setting}
use Rattle.icn_defs.specs.Rows.{Outcome, Fails, Gives, Suspends, Error, Ends}

-- there are as many structures of each type as before or more, and as much was charged or more
pub record HeapGrows (before after : Setting) : Type 0 where
  pub strings : before.world.heap.strings ≤ after.world.heap.strings
  pub cells : before.world.heap.cells ≤ after.world.heap.cells
  pub lists : length before.world.heap.lists ≤ length after.world.heap.lists
  pub sets : length before.world.heap.sets ≤ length after.world.heap.sets
  pub tables : length before.world.heap.tables ≤ length after.world.heap.tables
  pub records : length before.world.heap.records ≤ length after.world.heap.records
  pub coexps : after.world.heap.coexps ≡ before.world.heap.coexps

-- where a row goes on, they grew
abbrev pub GrowsIn : Setting → Outcome → Type 0
GrowsIn before (Fails after) = HeapGrows before after
GrowsIn before (Gives item after) = HeapGrows before after
GrowsIn before (Suspends item rest after) = HeapGrows before after
GrowsIn before (Error number offending after) = Unit {0}
GrowsIn before (Ends status after) = Unit {0}
