-- The charge of what was read.
use Rattle.std.proofs.Common.{refl, length}
use Rattle.icn_heap.specs.Heaps.{extent_of, heap_of}
use Rattle.icn_heap.proofs.GrowingHeaps.{live_kept}
use Rattle.icn_vars.specs.Stops.{stop_of}
use Rattle.icn_vars.proofs.HeapChanges.{bytes_change, fields_charged, change_passes, change_stops}
use Rattle.icn_streams.proofs.NextRead.{stopped}
use Rattle.icn_streams.proofs.reading.text_of.Goals as goal

pub returns-in_err-build-clause-step : goal.returns-in_err-build-clause-step
returns-in_err-build-clause-step g c = λ outside.
    stopped c.from_residual.result _ _ (stop_of c.in_err-build.field-0.0) c.from_residual.ensures.1
    (change_stops c.args.w.now.heap c.build.new.self c.args.w.now.pair c.args.w.now.words c.args.w.now.globals.items c.args.w.now.statics.items
    (g.L.Locals.items c.args.l.now)
    c.build.ensures.kept c.args.w.now.sound c.requires.locals
    (bytes_change (length c.args.bytes.now)) c.in_err-build.ensures.unchanged c.in_err-build.field-0.0 c.in_err-build.ensures.step
    (extent_of c.build.new.self) outside)

pub returns-clause-step : goal.returns-clause-step
returns-clause-step g c = λ outside.
    change_passes c.args.w.now.heap c.build.new.self c.args.w.now.pair c.args.w.now.words c.args.w.now.globals.items c.args.w.now.statics.items
    (g.L.Locals.items c.args.l.now)
    c.build.ensures.kept c.args.w.now.sound c.requires.locals (bytes_change (length c.args.bytes.now)) c.in_ok-build.ensures.step outside

pub returns-clause-kept : goal.returns-clause-kept
returns-clause-kept g c = record {
  locals = live_kept c.build.ensures.kept _ c.requires.locals;
  items = record {
    extent = c.build.ensures.kept;
    fields = fields_charged (bytes_change (length c.args.bytes.now)) (heap_of c.args.w.now.heap) (heap_of c.build.new.self) c.in_ok-build.ensures.step;
    globals = refl;
    statics = refl;
    locals = refl;
  };
}
