use Rattle.std.proofs.Common.{refl, ◌+◌, map, length}
use Rattle.icn_value.specs.Changes.{having_record}
use Rattle.icn_heap.specs.Extents.{value_in}
use Rattle.icn_heap.specs.Heaps.{extent_of, heap_of}
use Rattle.icn_heap.proofs.GrowingHeaps.{live_kept}
use Rattle.icn_structfn.proofs.NewStructures.{fields_new, structure_made, structure_refused, record_number, records_stay}
use Rattle.icn_structfn.proofs.making.new_record.Goals as goal

pub returns-in_err-make_rec-clause-found : goal.returns-in_err-make_rec-clause-found
returns-in_err-make_rec-clause-found g c =
    structure_refused c.args.w.now.heap c.make_rec.new.self c.args.w.now.pair c.args.w.now.words c.args.w.now.globals.items c.args.w.now.statics.items
    (g.L.Locals.items c.args.l.now) c.make_rec.ensures.kept
    c.args.w.now.sound c.requires.locals (1 + length (map (value_in (extent_of c.args.w.now.heap)) c.args.fields.now))
    (having_record c.args.kind (map (value_in (extent_of c.args.w.now.heap)) c.args.fields.now)) record_number
    (value_in (extent_of c.make_rec.new.self)) c.in_err-make_rec.field-0.0 c.from_residual.result c.in_err-make_rec.ensures.unchanged
    c.in_err-make_rec.ensures.step c.from_residual.ensures.1

pub returns-clause-found : goal.returns-clause-found
returns-clause-found g c =
    structure_made c.args.w.now.heap c.make_rec.new.self c.args.w.now.pair c.args.w.now.words c.args.w.now.globals.items c.args.w.now.statics.items
    (g.L.Locals.items c.args.l.now) c.make_rec.ensures.kept
    c.args.w.now.sound c.requires.locals (1 + length (map (value_in (extent_of c.args.w.now.heap)) c.args.fields.now))
    (having_record c.args.kind (map (value_in (extent_of c.args.w.now.heap)) c.args.fields.now)) record_number
    (records_stay (heap_of c.args.w.now.heap))
    (value_in (extent_of c.make_rec.new.self) c.in_ok-make_rec.field-0) c.in_ok-make_rec.ensures.value c.in_ok-make_rec.ensures.step

pub returns-clause-kept : goal.returns-clause-kept
returns-clause-kept g c = record {
  locals = live_kept c.make_rec.ensures.kept _ c.requires.locals;
  items = record {
    extent = c.make_rec.ensures.kept;
    fields = fields_new (1 + length (map (value_in (extent_of c.args.w.now.heap)) c.args.fields.now)) c.args.kind
        (map (value_in (extent_of c.args.w.now.heap)) c.args.fields.now) (heap_of c.args.w.now.heap) (heap_of c.make_rec.new.self)
        c.in_ok-make_rec.ensures.step;
    globals = refl;
    statics = refl;
    locals = refl;
  };
}
