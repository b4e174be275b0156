use Rattle.icn_heap.specs.Heaps.{extent_of, heap_of, parts_of}
use Rattle.icn_heap.proofs.OtherChanges.{field_count, field_is, field_live}
use Rattle.icn_heap.proofs.heap.Heap.field.Goals as goal

pub get-requires : goal.get-requires
unfolding extent_of heap_of
get-requires c = rw (c.at.ensures, field_count (parts_of c.args.self.now) c.args.self.now.sound c.args.rec c.requires.rec.live) c.requires.there

pub returns-clause-live : goal.returns-clause-live
unfolding extent_of heap_of
returns-clause-live c =
    rw (c.get.ensures, c.at.ensures)
    (field_live (parts_of c.args.self.now) c.args.self.now.sound c.args.rec c.requires.rec.live c.args.n
    (rw (field_count (parts_of c.args.self.now) c.args.self.now.sound c.args.rec c.requires.rec.live) c.requires.there))

pub returns-clause-value : goal.returns-clause-value
unfolding extent_of heap_of
returns-clause-value c =
    rw (c.get.ensures, c.at.ensures) (field_is (parts_of c.args.self.now) c.args.self.now.sound c.args.rec c.requires.rec.live c.args.n)
