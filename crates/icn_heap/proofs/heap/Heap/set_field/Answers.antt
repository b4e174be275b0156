use Rattle.icn_heap.specs.Heaps.{extent_of, heap_of, parts_of}
use Rattle.icn_heap.proofs.OtherChanges.{field_count, field_changes}
use Rattle.icn_heap.proofs.ChangedParts.{with_records, sound_as, stands_as}
use Rattle.icn_heap.proofs.heap.Heap.set_field.Goals as goal

pub set_field-requires-clause-field : goal.set_field-requires-clause-field
unfolding extent_of heap_of
set_field-requires-clause-field c = rw (field_count (parts_of c.args.self.now) c.args.self.now.sound c.args.rec c.requires.rec.live) c.requires.there

pub invariant_of-self : goal.invariant_of-self
unfolding extent_of
invariant_of-self c = record {
  sound = sound_as (with_records c.args.self.now _ c.set_field.ensures)
      (field_changes (parts_of c.args.self.now) c.args.self.now.sound c.args.rec c.requires.rec.live c.args.n c.args.val c.requires.live);
}

pub returns-clause-step : goal.returns-clause-step
unfolding extent_of heap_of
returns-clause-step c =
    stands_as (with_records c.args.self.now _ c.set_field.ensures)
    (field_changes (parts_of c.args.self.now) c.args.self.now.sound c.args.rec c.requires.rec.live c.args.n c.args.val c.requires.live)
