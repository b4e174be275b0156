use Rattle.std.proofs.Common.{refl, length}
use Rattle.icn_strings.specs.Pieces.{made_of}
use Rattle.icn_heap.specs.Heaps.{extent_of, heap_of}
use Rattle.icn_heap.proofs.GrowingHeaps.{live_kept}
use Rattle.icn_vars.proofs.HeapChanges.{bytes_change, fields_charged, change_passes}
use Rattle.icn_args.proofs.WorldCharges.{charge_stops, limit_passed, none_charged}
use Rattle.icn_args.proofs.charges.build_of.Goals as goal

pub returns-in_err-build_of-clause-step : goal.returns-in_err-build_of-clause-step
returns-in_err-build_of-clause-step g c =
    charge_stops c.args.w.now.heap c.build_of.new.self c.args.w.now.pair c.args.w.now.words c.args.w.now.globals.items c.args.w.now.statics.items
    (g.L.Locals.items c.args.l.now) c.in_err-build_of.field-0.0 c.from_residual.result c.build_of.ensures.kept
    c.args.w.now.sound c.requires.locals
    (bytes_change (length (made_of (extent_of c.args.w.now.heap).strings c.args.pieces.now))) c.in_err-build_of.ensures.unchanged c.in_err-build_of.ensures.step c.from_residual.ensures.1

pub returns-clause-step : goal.returns-clause-step
returns-clause-step g c =
    change_passes c.args.w.now.heap c.build_of.new.self c.args.w.now.pair c.args.w.now.words c.args.w.now.globals.items c.args.w.now.statics.items
    (g.L.Locals.items c.args.l.now) c.build_of.ensures.kept
    c.args.w.now.sound c.requires.locals (bytes_change (length (made_of (extent_of c.args.w.now.heap).strings c.args.pieces.now))) c.in_ok-build_of.ensures.step

pub returns-clause-kept : goal.returns-clause-kept
returns-clause-kept g c = record {
  locals = live_kept c.build_of.ensures.kept _ c.requires.locals;
  items = record {
    extent = c.build_of.ensures.kept;
    fields = fields_charged (bytes_change (length (made_of (extent_of c.args.w.now.heap).strings c.args.pieces.now))) (heap_of c.args.w.now.heap)
        (heap_of c.build_of.new.self) c.in_ok-build_of.ensures.step;
    globals = refl;
    statics = refl;
    locals = refl;
  };
}

pub returns-in_err-build_of-clause-limits : goal.returns-in_err-build_of-clause-limits
returns-in_err-build_of-clause-limits g c = λ over.
    limit_passed (heap_of c.args.w.now.heap) (length (made_of (extent_of c.args.w.now.heap).strings c.args.pieces.now)) c.in_err-build_of.field-0.0
    c.from_residual.result over c.in_err-build_of.ensures.limits c.from_residual.ensures.1

pub returns-clause-limits : goal.returns-clause-limits
returns-clause-limits g c = λ over.
    absurd
    (none_charged (heap_of c.args.w.now.heap) (heap_of c.build_of.new.self)
    (length (made_of (extent_of c.args.w.now.heap).strings c.args.pieces.now)) over c.in_ok-build_of.ensures.step)
