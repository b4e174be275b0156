use Rattle.std.proofs.Common.{◌∙◌, ◌+◌, refl, sym, ap, map, length, subst}
use Rattle.icn_value.specs.Store.{Setting, having_heap}
use Rattle.icn_value.specs.Values.{Value}
use Rattle.icn_value.specs.Changes.{having_list}
use Rattle.icn_defs.specs.Rows.{new_list_of}
use Rattle.icn_heap.specs.Extents.{value_in}
use Rattle.icn_heap.specs.Heaps.{extent_of, heap_of}
use Rattle.icn_heap.proofs.GrowingHeaps.{live_kept}
use Rattle.icn_vars.specs.Stops.{stop_of}
use Rattle.icn_vars.specs.Worlds.{setting_of}
use Rattle.icn_vars.proofs.HeapChanges.{cells_change, fields_behind}
use Rattle.icn_vars.proofs.GrowingWorlds.{heap_changed}
use Rattle.icn_args.specs.RowWords.{IsFound}
use Rattle.icn_args.proofs.RowAnswers.{found_stops}
use Rattle.icn_args.proofs.NewLists.{list_made, list_refused}
use Rattle.icn_args.proofs.structures.new_list.Goals as goal

pub returns-in_err-list_from-clause-found : goal.returns-in_err-list_from-clause-found
returns-in_err-list_from-clause-found g c = λ outside.
    subst (λ (setting : Setting). IsFound (extent_of c.list_from.new.self) (new_list_of (map (value_in (extent_of c.args.w.now.heap)) c.args.items.now))
    (setting_of outside c.args.w.now (g.L.Locals.items c.args.l.now)) setting (value_in (extent_of c.list_from.new.self)) c.from_residual.result)
    (heap_changed outside c.args.w.now.heap c.list_from.new.self c.args.w.now.pair c.args.w.now.words c.args.w.now.globals.items c.args.w.now.statics.items
    (g.L.Locals.items c.args.l.now) c.list_from.ensures.kept c.in_err-list_from.ensures.unchanged c.args.w.now.sound c.requires.locals)
    (found_stops (extent_of c.list_from.new.self) (new_list_of (map (value_in (extent_of c.args.w.now.heap)) c.args.items.now))
    (setting_of outside c.args.w.now (g.L.Locals.items c.args.l.now)) (setting_of outside c.args.w.now (g.L.Locals.items c.args.l.now))
    (value_in (extent_of c.list_from.new.self)) (stop_of c.in_err-list_from.field-0.0) c.from_residual.result c.from_residual.ensures.1
    (list_refused (extent_of c.list_from.new.self) (setting_of outside c.args.w.now (g.L.Locals.items c.args.l.now))
    (map (value_in (extent_of c.args.w.now.heap)) c.args.items.now) c.in_err-list_from.field-0.0 c.in_err-list_from.ensures.step))

pub returns-clause-found : goal.returns-clause-found
returns-clause-found g c = λ outside next.
    list_made (setting_of outside c.args.w.now (g.L.Locals.items c.args.l.now)) (map (value_in (extent_of c.args.w.now.heap)) c.args.items.now)
    (heap_of c.list_from.new.self) c.in_ok-list_from.ensures.step next
    ∙ (ap (λ (value : Value). next value (having_heap (λ _. heap_of c.list_from.new.self) (setting_of outside c.args.w.now (g.L.Locals.items c.args.l.now))))
    (sym c.in_ok-list_from.ensures.value)
    ∙ ap (next (value_in (extent_of c.list_from.new.self) c.in_ok-list_from.field-0))
    (heap_changed outside c.args.w.now.heap c.list_from.new.self c.args.w.now.pair c.args.w.now.words c.args.w.now.globals.items c.args.w.now.statics.items
    (g.L.Locals.items c.args.l.now) c.list_from.ensures.kept refl c.args.w.now.sound c.requires.locals))

pub returns-clause-kept : goal.returns-clause-kept
returns-clause-kept g c = record {
  locals = live_kept c.list_from.ensures.kept _ c.requires.locals;
  items = record {
    extent = c.list_from.ensures.kept;
    fields = fields_behind (cells_change (1 + length (map (value_in (extent_of c.args.w.now.heap)) c.args.items.now)))
        (having_list (map (value_in (extent_of c.args.w.now.heap)) c.args.items.now)) (λ heap. refl) (heap_of c.args.w.now.heap)
        (heap_of c.list_from.new.self) c.in_ok-list_from.ensures.step;
    globals = refl;
    statics = refl;
    locals = refl;
  };
}
