use Rattle.std.proofs.Common.{refl, map}
use Rattle.icn_heap.specs.Extents.{value_in}
use Rattle.icn_heap.specs.Heaps.{extent_of, heap_of}
use Rattle.icn_vars.specs.Worlds.{setting_of}
use Rattle.std.proofs.lemmas.List.{length-map}
use Rattle.icn_heap.proofs.GrowingHeaps.{live_kept}
use Rattle.icn_structs.specs.Numbered.{with_right}
use Rattle.icn_vars.proofs.HeapChanges.{same_records}
use Rattle.icn_structfn.proofs.AddedElements.{elements_added, not_added, unfinished}
use Rattle.icn_structfn.proofs.adding.add_right.Goals as goal

pub returns-in_err-room_for_cells-clause-step : goal.returns-in_err-room_for_cells-clause-step
returns-in_err-room_for_cells-clause-step g c outside =
    not_added with_right c.args.list (extent_of c.args.w.now.heap) (setting_of outside c.args.w.now (g.L.Locals.items c.args.l.now))
    (map (value_in (extent_of c.args.w.now.heap)) c.args.vals.now) c.in_err-room_for_cells.field-0.0 c.from_residual.result
    (rw (length-map c.args.vals.now (value_in (extent_of c.args.w.now.heap))) c.in_err-room_for_cells.ensures.answer) c.from_residual.ensures.1

pub returns-in_err-put_each-clause-step : goal.returns-in_err-put_each-clause-step
returns-in_err-put_each-clause-step g c outside =
    unfinished with_right c.args.list (extent_of c.put_each.new.heap) _ _ (map (value_in (extent_of c.args.w.now.heap)) c.args.vals.now)
    c.in_err-put_each.field-0.0 c.from_residual-in_err-put_each.result c.in_err-put_each.ensures.error c.from_residual-in_err-put_each.ensures.1

pub returns-clause-step : goal.returns-clause-step
returns-clause-step g c =
    elements_added with_right c.args.list c.args.w.now.heap c.put_each.new.heap c.args.w.now.pair c.args.w.now.words c.args.w.now.globals.items
    c.args.w.now.statics.items (g.L.Locals.items c.args.l.now) c.put_each.ensures.kept
    c.args.w.now.sound c.requires.locals (map (value_in (extent_of c.args.w.now.heap)) c.args.vals.now)
    (rw (length-map c.args.vals.now (value_in (extent_of c.args.w.now.heap))) c.in_ok-room_for_cells.ensures.answer) c.in_ok-put_each.ensures.step

pub returns-clause-kept : goal.returns-clause-kept
returns-clause-kept g c = record {
  locals = live_kept c.put_each.ensures.kept _ c.requires.locals;
  items = record {
    extent = c.put_each.ensures.kept;
    fields = same_records (heap_of c.args.w.now.heap) (heap_of c.put_each.new.heap) c.put_each.ensures.records;
    globals = refl;
    statics = refl;
    locals = refl;
  };
}
