use Rattle.std.proofs.Common.{ap, refl}
use Rattle.std.proofs.lemmas.List.Elements.{All-nil}
use Rattle.icn_value.specs.Changes.{with_field}
use Rattle.icn_value.specs.Store.{Heap}
use Rattle.icn_heap.specs.Extents.{IsLive, value_in}
use Rattle.icn_heap.specs.Heaps.{extent_of, heap_of}
use Rattle.icn_vars.proofs.HeapChanges.{fields_by, fields_set}
use Rattle.icn_vars.proofs.ReadValues.{field_there}
use Rattle.icn_vars.proofs.RootChanges.{field_assigned}
use Rattle.icn_machine.proofs.assignments_in_place.put_field.Goals as goal

pub set_field-requires-clause-rec : goal.set_field-requires-clause-rec
set_field-requires-clause-rec c = c.requires.live.1.live.0

pub set_field-requires-clause-there : goal.set_field-requires-clause-there
set_field-requires-clause-there c = field_there (heap_of c.args.world.now.heap).records c.args.rec c.args.place c.requires.live.1.live.1

pub returns-clause-puts : goal.returns-clause-puts
returns-clause-puts c outside locals live refused next =
    let w = c.args.world.now in
    field_assigned outside w.heap c.set_field.new.self w.pair w.words w.globals.items w.statics.items
    locals c.set_field.ensures.kept w.sound live c.args.rec c.args.place (value_in (extent_of w.heap) c.args.val) c.set_field.ensures.step refused next

pub returns-clause-kept : goal.returns-clause-kept
returns-clause-kept c = record {
  locals = All-nil (IsLive (extent_of c.set_field.new.self));
  items = record {
    extent = c.set_field.ensures.kept;
    fields = (
        let w = c.args.world.now in
        fields_by (heap_of w.heap) (with_field c.args.rec c.args.place (value_in (extent_of w.heap) c.args.val)
        (heap_of w.heap)) (heap_of c.set_field.new.self)
        (fields_set c.args.rec c.args.place (value_in (extent_of w.heap) c.args.val) (heap_of w.heap)) c.set_field.ensures.step);
    globals = refl;
    statics = refl;
    locals = refl;
  };
}

pub returns-clause-counts : goal.returns-clause-counts
returns-clause-counts c = record {
  bounds = ap (λ (h : Heap). h.bounds) c.set_field.ensures.step;
  coexps = ap (λ (h : Heap). h.coexps) c.set_field.ensures.step;
}
