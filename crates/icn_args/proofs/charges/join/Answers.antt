use Rattle.std.proofs.Common.{refl, ◌++◌, length}
use Rattle.icn_heap.specs.Extents.{text_in}
use Rattle.icn_heap.specs.Heaps.{extent_of, heap_of}
use Rattle.icn_heap.proofs.GrowingHeaps.{live_kept}
use Rattle.icn_vars.proofs.HeapChanges.{bytes_change, fields_charged, change_passes}
use Rattle.icn_args.proofs.WorldCharges.{charge_stops}
use Rattle.icn_args.proofs.charges.join.Goals as goal

pub returns-in_err-join-clause-step : goal.returns-in_err-join-clause-step
returns-in_err-join-clause-step g c =
    charge_stops c.args.w.now.heap c.join.new.self c.args.w.now.pair c.args.w.now.words c.args.w.now.globals.items c.args.w.now.statics.items
    (g.L.Locals.items c.args.l.now) c.in_err-join.field-0.0 c.from_residual.result c.join.ensures.kept
    c.args.w.now.sound c.requires.locals
    (bytes_change (length (text_in (extent_of c.args.w.now.heap) c.args.a ++ text_in (extent_of c.args.w.now.heap) c.args.b))) c.in_err-join.ensures.unchanged
    c.in_err-join.ensures.step c.from_residual.ensures.1

pub returns-clause-step : goal.returns-clause-step
returns-clause-step g c =
    change_passes c.args.w.now.heap c.join.new.self c.args.w.now.pair c.args.w.now.words c.args.w.now.globals.items c.args.w.now.statics.items
    (g.L.Locals.items c.args.l.now) c.join.ensures.kept
    c.args.w.now.sound c.requires.locals
    (bytes_change (length (text_in (extent_of c.args.w.now.heap) c.args.a ++ text_in (extent_of c.args.w.now.heap) c.args.b))) c.in_ok-join.ensures.step

pub returns-clause-kept : goal.returns-clause-kept
returns-clause-kept g c = record {
  locals = live_kept c.join.ensures.kept _ c.requires.locals;
  items = record {
    extent = c.join.ensures.kept;
    fields = fields_charged (bytes_change (length (text_in (extent_of c.args.w.now.heap) c.args.a ++ text_in (extent_of c.args.w.now.heap) c.args.b)))
        (heap_of c.args.w.now.heap) (heap_of c.join.new.self) c.in_ok-join.ensures.step;
    globals = refl;
    statics = refl;
    locals = refl;
  };
}
