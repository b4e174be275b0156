use Rattle.icn_defs.specs.Rows.{costs_text}
use Rattle.std.proofs.Common.{refl}
use Rattle.icn_heap.specs.Extents.{value_in}
use Rattle.icn_heap.specs.Heaps.{extent_of, heap_of}
use Rattle.icn_heap.proofs.GrowingHeaps.{live_kept}
use Rattle.icn_vars.specs.Stops.{stop_of}
use Rattle.icn_vars.specs.Worlds.{setting_of}
use Rattle.icn_vars.proofs.HeapChanges.{fields_charged, change_passes, change_stops, stopped_part, text_change}
use Rattle.icn_vars.proofs.GrowingWorlds.{setting_over}
use Rattle.icn_vars.proofs.texts.made_text.Goals as goal

pub returns-in_err-span-clause-passes : goal.returns-in_err-span-clause-passes
returns-in_err-span-clause-passes g c = λ outside.
    stopped_part (extent_of c.to_text.new.heap)
    (costs_text (value_in (extent_of c.args.w.now.heap) c.args.val)) (setting_of outside c.args.w.now (g.L.Locals.items c.args.l.now)) (setting_over outside
    c.to_text.new.heap c.args.w.now.pair c.args.w.now.words c.args.w.now.globals.items c.args.w.now.statics.items (g.L.Locals.items c.args.l.now))
    (stop_of c.in_err-span.field-0.0) c.from_residual.result c.from_residual.ensures.1
    (change_stops c.args.w.now.heap c.to_text.new.heap c.args.w.now.pair c.args.w.now.words c.args.w.now.globals.items c.args.w.now.statics.items
    (g.L.Locals.items c.args.l.now) c.to_text.ensures.kept c.args.w.now.sound c.requires.locals
    (text_change (value_in (extent_of c.args.w.now.heap) c.args.val)) c.in_err-span.ensures.unchanged c.in_err-span.field-0.0 c.in_err-span.ensures.step
    (extent_of c.to_text.new.heap) outside)

pub returns-clause-passes : goal.returns-clause-passes
returns-clause-passes g c = λ outside.
    change_passes c.args.w.now.heap c.to_text.new.heap c.args.w.now.pair c.args.w.now.words c.args.w.now.globals.items c.args.w.now.statics.items
    (g.L.Locals.items c.args.l.now) c.to_text.ensures.kept c.args.w.now.sound c.requires.locals
    (text_change (value_in (extent_of c.args.w.now.heap) c.args.val)) c.in_ok-span.ensures.step outside

pub returns-clause-kept : goal.returns-clause-kept
returns-clause-kept g c = record {
  locals = live_kept c.to_text.ensures.kept _ c.requires.locals;
  items = record {
    extent = c.to_text.ensures.kept;
    fields = fields_charged (text_change (value_in (extent_of c.args.w.now.heap) c.args.val)) (heap_of c.args.w.now.heap)
        (heap_of c.to_text.new.heap) c.in_ok-span.ensures.step;
    globals = refl;
    statics = refl;
    locals = refl;
  };
}
