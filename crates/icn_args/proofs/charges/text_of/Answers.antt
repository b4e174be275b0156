use Rattle.std.proofs.Common.{refl}
use Rattle.icn_heap.specs.Extents.{value_in}
use Rattle.icn_heap.specs.Heaps.{extent_of, heap_of}
use Rattle.icn_heap.proofs.GrowingHeaps.{live_kept}
use Rattle.icn_vars.proofs.HeapChanges.{fields_charged, change_passes, text_change}
use Rattle.icn_args.proofs.WorldCharges.{charge_stops}
use Rattle.icn_args.proofs.charges.text_of.Goals as goal

pub returns-in_err-span-clause-step : goal.returns-in_err-span-clause-step
returns-in_err-span-clause-step g c =
    charge_stops c.args.w.now.heap c.to_text.new.heap c.args.w.now.pair c.args.w.now.words c.args.w.now.globals.items c.args.w.now.statics.items
    (g.L.Locals.items c.args.l.now) c.in_err-span.field-0.0 c.from_residual.result c.to_text.ensures.kept
    c.args.w.now.sound c.requires.locals
    (text_change (value_in (extent_of c.args.w.now.heap) c.args.val)) c.in_err-span.ensures.unchanged c.in_err-span.ensures.step c.from_residual.ensures.1

pub returns-clause-step : goal.returns-clause-step
returns-clause-step g c =
    change_passes c.args.w.now.heap c.to_text.new.heap c.args.w.now.pair c.args.w.now.words c.args.w.now.globals.items c.args.w.now.statics.items
    (g.L.Locals.items c.args.l.now) c.to_text.ensures.kept
    c.args.w.now.sound c.requires.locals (text_change (value_in (extent_of c.args.w.now.heap) c.args.val)) c.in_ok-span.ensures.step

pub returns-clause-kept : goal.returns-clause-kept
returns-clause-kept g c = record {
  locals = live_kept c.to_text.ensures.kept _ c.requires.locals;
  items = record {
    extent = c.to_text.ensures.kept;
    fields = fields_charged (text_change (value_in (extent_of c.args.w.now.heap) c.args.val)) (heap_of c.args.w.now.heap)
        (heap_of c.to_text.new.heap) c.in_ok-span.ensures.step;
    globals = refl;
    statics = refl;
    locals = refl;
  };
}

pub returns-in_err-span-clause-held : goal.returns-in_err-span-clause-held
returns-in_err-span-clause-held g c = λ held. absurd (c.in_err-span.ensures.held held)
