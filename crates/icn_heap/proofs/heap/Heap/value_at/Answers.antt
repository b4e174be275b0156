use Rattle.std.proofs.Common.{◌∙◌, ap}
use Rattle.std.specs.Option.{option_map}
use Rattle.icn_heap.specs.Extents.{value_in}
use Rattle.icn_heap.specs.HeapParts.{entry_value}
use Rattle.icn_heap.specs.Heaps.{extent_of, heap_of, parts_of}
use Rattle.icn_heap.proofs.OtherChanges.{looked_is, looked_live}
use Rattle.icn_heap.proofs.heap.Heap.value_at.Goals as goal

pub returns-clause-live : goal.returns-clause-live
unfolding extent_of
returns-clause-live c = rw (c.value_found.ensures, c.entry_at.ensures)
    (looked_live (parts_of c.args.self.now) c.args.self.now.sound c.args.table c.requires.table.live c.args.key.now c.requires.formed)

pub returns-clause-value : goal.returns-clause-value
unfolding extent_of heap_of
returns-clause-value c =
    ap (option_map (value_in (extent_of c.args.self.now))) (c.value_found.ensures ∙ ap (option_map entry_value) c.entry_at.ensures)
    ∙ looked_is (parts_of c.args.self.now) c.args.self.now.sound c.args.table c.requires.table.live c.args.key.now c.requires.formed
