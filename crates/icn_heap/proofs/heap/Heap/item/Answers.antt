use Rattle.std.proofs.lemmas.Int.{to_z-of_z}
use Rattle.std.specs.Int.{w64}
use Rattle.icn_heap.specs.Heaps.{extent_of, heap_of, parts_of}
use Rattle.icn_heap.proofs.ListItems.{item_is, item_live}
use Rattle.icn_heap.proofs.heap.Heap.item.Goals as goal

pub returns-clause-item : goal.returns-clause-item
unfolding extent_of heap_of
returns-clause-item c = rw (c.by_number.ensures.item, to_z-of_z w64 c.args.n c.ranges.n, c.list_ref.ensures)
    (item_is (parts_of c.args.self.now) c.args.self.now.sound c.args.list c.requires.live c.args.n)

pub returns-clause-live : goal.returns-clause-live
unfolding extent_of
returns-clause-live c = rw (c.by_number.ensures.item, to_z-of_z w64 c.args.n c.ranges.n, c.list_ref.ensures)
    (item_live (parts_of c.args.self.now) c.args.self.now.sound c.args.list c.requires.live c.args.n)
