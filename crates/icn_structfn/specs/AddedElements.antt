-- Elements that are added to a list at one end, all charged at once.
use Rattle.std.specs.Prelude.{ℕ, ◌+◌, List, length, fold}
use Rattle.icn_structs.specs.Numbered.{NumberedList}
use Rattle.icn_value.specs.Values.{Value}
use Rattle.icn_value.specs.Store.{Heap, list_at, with_list}
use Rattle.icn_defs.specs.Rows.{◌>>=◌, ◌>>◌, Row, here, changes_heap, costs_cells}
use Rattle.icn_heap.specs.Heaps.{with_cells}

-- the list has grown by these values, one after the other
abbrev pub with_added : (NumberedList Value → Value → NumberedList Value) → ℕ → List Value → Heap → Heap
with_added grown id values heap = with_list id (fold grown (list_at heap id) values) heap

-- the same, and a cell is charged for each
abbrev pub added_to : (NumberedList Value → Value → NumberedList Value) → ℕ → List Value → Heap → Heap
added_to grown id values heap = with_added grown id values (with_cells (heap.cells + length values) heap)

-- the part of a row that does so
abbrev pub adds : (NumberedList Value → Value → NumberedList Value) → ℕ → List Value → Row → Row
adds grown id values next = do
  costs_cells (length values)
  setting ← here
  changes_heap (with_list id (fold grown (list_at setting.world.heap id) values))
  next
