-- What a heap stands for.
use Rattle.std.specs.Prelude.{ℕ, [], ◌∷◌}
use Rattle.icn_value.specs.Limited.{Bounds}
use Rattle.icn_value.specs.Store.{Heap}
use Rattle.icn_heap.specs.Extents.{Extent}
use Rattle.icn_heap.specs.HeapParts.{Parts, parts, extent_in, heap_over}
use Rattle.icn_heap.specs.declared.heap.Heap.{Heap as HeldHeap}

-- the parts that a heap holds
abbrev pub parts_of : HeldHeap → Parts
parts_of heap = parts heap.strings heap.lists.shelf heap.sets.shelf heap.tables.shelf heap.records.shelf
    heap.coexps.items heap.files.items heap.cells heap.limits

-- the texts that a heap has, and which of its structures are there
unfoldable pub extent_of : HeldHeap → Extent
extent_of heap = extent_in (parts_of heap)

-- the structures, whose values hold their bytes, and what is charged for them
unfoldable pub heap_of : HeldHeap → Heap
heap_of heap = heap_over (extent_in (parts_of heap)) (parts_of heap)

-- the heap with this many cells charged
abbrev pub with_cells : ℕ → Heap → Heap
with_cells sum heap = record heap { cells = sum }

-- the heap of no texts, structures and opened files, but `&main`, which has given nothing
abbrev pub empty_heap : Bounds → Heap
empty_heap bounds = record {
  lists = [];
  sets = [];
  tables = [];
  records = [];
  coexps = 0 ∷ [];
  files = [];
  strings = 0;
  cells = 0;
  bounds = bounds;
}
