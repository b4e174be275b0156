use Rattle.std.proofs.Common.{◌≡◌, ◌∙◌, refl, ap, subst, length, Ok}
use Rattle.icn_value.specs.Changes.{Refuses, charged_strings}
use Rattle.icn_defs.specs.ReadAndAssign.{with_part}
use Rattle.icn_defs.specs.Rows.{costs_bytes}
use Rattle.icn_heap.specs.Extents.{text_in}
use Rattle.icn_heap.specs.Heaps.{extent_of, heap_of}
use Rattle.icn_heap.proofs.GrowingHeaps.{live_kept}
use Rattle.icn_vars.specs.Stops.{stop_of}
use Rattle.icn_vars.specs.Worlds.{setting_of}
use Rattle.icn_vars.proofs.HeapChanges.{bytes_change, fields_charged, change_passes, change_stops, stopped_part}
use Rattle.icn_vars.proofs.GrowingWorlds.{setting_over}
use Rattle.icn_vars.proofs.texts.replace.Goals as goal

pub returns-in_err-build-clause-passes : goal.returns-in_err-build-clause-passes
returns-in_err-build-clause-passes g c = λ outside.
    let same : c.deref.result.now
    ≡ (with_part (text_in (extent_of c.args.w.now.heap) c.args.whole) c.args.place c.args.len (text_in (extent_of c.args.w.now.heap) c.args.new)) =
    c.deref.ensures.value ∙ (c.in_ok-bytes.ensures ∙ (ap (λ whole. with_part whole c.args.place c.args.len c.bytes-2.result.now) c.bytes.ensures
    ∙ ap (λ new. with_part (text_in (extent_of c.args.w.now.heap) c.args.whole) c.args.place c.args.len new) c.bytes-2.ensures)) in
    stopped_part (extent_of c.build.new.self) (costs_bytes (length (with_part (text_in (extent_of c.args.w.now.heap) c.args.whole) c.args.place c.args.len
    (text_in (extent_of c.args.w.now.heap) c.args.new)))) (setting_of outside c.args.w.now (g.L.Locals.items c.args.l.now)) (setting_over outside
    c.build.new.self c.args.w.now.pair c.args.w.now.words c.args.w.now.globals.items c.args.w.now.statics.items (g.L.Locals.items c.args.l.now))
    (stop_of c.in_err-build.field-0.0) c.from_residual-in_err-build.result c.from_residual-in_err-build.ensures.1
    (change_stops c.args.w.now.heap c.build.new.self c.args.w.now.pair c.args.w.now.words c.args.w.now.globals.items c.args.w.now.statics.items
    (g.L.Locals.items c.args.l.now) c.build.ensures.kept c.args.w.now.sound c.requires.locals (bytes_change
    (length (with_part (text_in (extent_of c.args.w.now.heap) c.args.whole) c.args.place c.args.len (text_in (extent_of c.args.w.now.heap) c.args.new))))
    c.in_err-build.ensures.unchanged c.in_err-build.field-0.0
    (subst (λ bytes. Refuses (charged_strings (heap_of c.args.w.now.heap) (length bytes)) c.in_err-build.field-0.0) same c.in_err-build.ensures.step)
    (extent_of c.build.new.self) outside)

pub returns-clause-passes : goal.returns-clause-passes
returns-clause-passes g c = λ outside.
    let same : c.deref.result.now
    ≡ (with_part (text_in (extent_of c.args.w.now.heap) c.args.whole) c.args.place c.args.len (text_in (extent_of c.args.w.now.heap) c.args.new)) =
    c.deref.ensures.value ∙ (c.in_ok-bytes.ensures ∙ (ap (λ whole. with_part whole c.args.place c.args.len c.bytes-2.result.now) c.bytes.ensures
    ∙ ap (λ new. with_part (text_in (extent_of c.args.w.now.heap) c.args.whole) c.args.place c.args.len new) c.bytes-2.ensures)) in
    change_passes c.args.w.now.heap c.build.new.self c.args.w.now.pair c.args.w.now.words c.args.w.now.globals.items c.args.w.now.statics.items
    (g.L.Locals.items c.args.l.now) c.build.ensures.kept c.args.w.now.sound c.requires.locals (bytes_change
    (length (with_part (text_in (extent_of c.args.w.now.heap) c.args.whole) c.args.place c.args.len (text_in (extent_of c.args.w.now.heap) c.args.new))))
    (subst (λ bytes. charged_strings (heap_of c.args.w.now.heap) (length bytes) ≡ Ok (heap_of c.build.new.self)) same c.in_ok-build.ensures.step) outside

pub returns-clause-kept : goal.returns-clause-kept
returns-clause-kept g c = record {
  locals = live_kept c.build.ensures.kept _ c.requires.locals;
  items = record {
    extent = c.build.ensures.kept;
    fields = fields_charged (bytes_change (length c.deref.result.now)) (heap_of c.args.w.now.heap) (heap_of c.build.new.self) c.in_ok-build.ensures.step;
    globals = refl;
    statics = refl;
    locals = refl;
  };
}
