-- The charge of what was read.
use Rattle.std.proofs.Common.{refl}
use Rattle.icn_heap.specs.Heaps.{extent_of, heap_of}
use Rattle.icn_heap.proofs.GrowingHeaps.{live_kept}
use Rattle.icn_vars.specs.Stops.{stop_of}
use Rattle.icn_vars.proofs.HeapChanges.{bytes_change, fields_charged, change_passes, change_stops}
use Rattle.icn_streams.proofs.NextRead.{stopped}
use Rattle.icn_streams.proofs.opened.text_in_file.Goals as goal

pub returns-in_err-build_of_file-clause-step : goal.returns-in_err-build_of_file-clause-step
returns-in_err-build_of_file-clause-step g c = λ outside.
    stopped c.from_residual.result _ _ (stop_of c.in_err-build_of_file.field-0.0) c.from_residual.ensures.1
    (change_stops c.args.w.now.heap c.build_of_file.new.self c.args.w.now.pair c.args.w.now.words c.args.w.now.globals.items c.args.w.now.statics.items
    (g.L.Locals.items c.args.l.now)
    c.build_of_file.ensures.kept c.args.w.now.sound c.requires.locals
    (bytes_change c.args.len) c.in_err-build_of_file.ensures.unchanged c.in_err-build_of_file.field-0.0 c.in_err-build_of_file.ensures.step
    (extent_of c.build_of_file.new.self) outside)

pub returns-clause-step : goal.returns-clause-step
returns-clause-step g c = λ outside.
    change_passes c.args.w.now.heap c.build_of_file.new.self c.args.w.now.pair c.args.w.now.words c.args.w.now.globals.items c.args.w.now.statics.items
    (g.L.Locals.items c.args.l.now)
    c.build_of_file.ensures.kept c.args.w.now.sound c.requires.locals (bytes_change c.args.len) c.in_ok-build_of_file.ensures.step outside

pub returns-clause-kept : goal.returns-clause-kept
returns-clause-kept g c = record {
  locals = live_kept c.build_of_file.ensures.kept _ c.requires.locals;
  items = record {
    extent = c.build_of_file.ensures.kept;
    fields = fields_charged (bytes_change c.args.len) (heap_of c.args.w.now.heap) (heap_of c.build_of_file.new.self) c.in_ok-build_of_file.ensures.step;
    globals = refl;
    statics = refl;
    locals = refl;
  };
}
