use Rattle.std.proofs.Common.{◌∙◌, ap, map}
use Rattle.icn_heap.specs.Extents.{value_in}
use Rattle.icn_heap.specs.Heaps.{extent_of, heap_of, parts_of}
use Rattle.icn_heap.specs.Records.{HeldRecord}
use Rattle.icn_heap.proofs.OtherChanges.{fields_are, record_sound}
use Rattle.icn_heap.proofs.heap.Heap.fields.Goals as goal

pub returns-clause-fields : goal.returns-clause-fields
unfolding extent_of heap_of
returns-clause-fields c =
    ap (map (value_in (extent_of c.args.self.now))) (c.values.ensures ∙ ap (λ (r : HeldRecord). r.values) c.at.ensures)
    ∙ fields_are (parts_of c.args.self.now) c.args.self.now.sound c.args.rec c.requires.live

pub returns-clause-live : goal.returns-clause-live
unfolding extent_of
returns-clause-live c =
    rw (c.values.ensures, c.at.ensures) (record_sound (parts_of c.args.self.now) c.args.self.now.sound c.args.rec c.requires.live).live

pub returns-clause-few : goal.returns-clause-few
unfolding extent_of
returns-clause-few c =
    rw (c.values.ensures, c.at.ensures) (record_sound (parts_of c.args.self.now) c.args.self.now.sound c.args.rec c.requires.live).few
