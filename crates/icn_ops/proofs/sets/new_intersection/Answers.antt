use Rattle.std.proofs.Common.{◌∙◌, ◌+◌, refl, sym, ap, length, subst}
use Rattle.icn_value.specs.Values.{Value}
use Rattle.icn_value.specs.Store.{Setting}
use Rattle.icn_heap.specs.Extents.{value_in}
use Rattle.icn_heap.specs.Heaps.{extent_of, heap_of}
use Rattle.icn_vars.specs.Worlds.{setting_of}
use Rattle.icn_ops.proofs.SetMaking.{set_made, set_refused}
use Rattle.icn_defs.specs.Operations.{new_set_of, intersection}
use Rattle.icn_value.specs.Store.{having_heap, set_at}
use Rattle.icn_vars.proofs.HeapChanges.{cells_change, fields_behind}
use Rattle.icn_vars.proofs.GrowingWorlds.{heap_changed}
use Rattle.icn_vars.specs.Stops.{stop_of}
use Rattle.icn_args.specs.RowWords.{IsFound}
use Rattle.icn_args.proofs.RowAnswers.{found_stops}
use Rattle.icn_heap.specs.MadeStructures.{having_members}
use Rattle.icn_heap.proofs.GrowingHeaps.{live_kept}
use Rattle.icn_ops.proofs.sets.new_intersection.Goals as goal

pub returns-in_err-intersection-clause-found : goal.returns-in_err-intersection-clause-found
returns-in_err-intersection-clause-found g c = λ outside.
    subst (λ (setting : Setting). IsFound (extent_of c.intersection.new.self)
    (new_set_of (intersection (set_at (heap_of c.args.w.now.heap) c.args.first) (set_at (heap_of c.args.w.now.heap) c.args.second)))
    (setting_of outside c.args.w.now (g.L.Locals.items c.args.l.now)) setting (value_in (extent_of c.intersection.new.self)) c.from_residual.result)
    (heap_changed outside c.args.w.now.heap c.intersection.new.self c.args.w.now.pair c.args.w.now.words c.args.w.now.globals.items c.args.w.now.statics.items
    (g.L.Locals.items c.args.l.now) c.intersection.ensures.kept c.in_err-intersection.ensures.unchanged c.args.w.now.sound c.requires.locals)
    (found_stops (extent_of c.intersection.new.self)
    (new_set_of (intersection (set_at (heap_of c.args.w.now.heap) c.args.first) (set_at (heap_of c.args.w.now.heap) c.args.second)))
    (setting_of outside c.args.w.now (g.L.Locals.items c.args.l.now)) (setting_of outside c.args.w.now (g.L.Locals.items c.args.l.now))
    (value_in (extent_of c.intersection.new.self)) (stop_of c.in_err-intersection.field-0.0) c.from_residual.result c.from_residual.ensures.1
    (set_refused (extent_of c.intersection.new.self) (setting_of outside c.args.w.now (g.L.Locals.items c.args.l.now))
    (intersection (set_at (heap_of c.args.w.now.heap) c.args.first) (set_at (heap_of c.args.w.now.heap) c.args.second)) c.in_err-intersection.field-0.0
    c.in_err-intersection.ensures.step))

pub returns-clause-found : goal.returns-clause-found
returns-clause-found g c = λ outside.
    λ next. set_made (setting_of outside c.args.w.now (g.L.Locals.items c.args.l.now)) (intersection (set_at (heap_of c.args.w.now.heap) c.args.first)
    (set_at (heap_of c.args.w.now.heap) c.args.second)) (heap_of c.intersection.new.self) c.in_ok-intersection.ensures.step next
    ∙ (ap (λ (value : Value). next value (having_heap (λ _. heap_of c.intersection.new.self) (setting_of outside c.args.w.now (g.L.Locals.items c.args.l.now))))
    (sym c.in_ok-intersection.ensures.value)
    ∙ ap (next (value_in (extent_of c.intersection.new.self) c.in_ok-intersection.field-0))
    (heap_changed outside c.args.w.now.heap c.intersection.new.self c.args.w.now.pair c.args.w.now.words c.args.w.now.globals.items c.args.w.now.statics.items
    (g.L.Locals.items c.args.l.now) c.intersection.ensures.kept refl c.args.w.now.sound c.requires.locals))

pub returns-clause-kept : goal.returns-clause-kept
returns-clause-kept g c = record {
  locals = live_kept c.intersection.ensures.kept _ c.requires.locals;
  items = record {
    extent = c.intersection.ensures.kept;
    fields = fields_behind (cells_change (1
        + length (intersection (set_at (heap_of c.args.w.now.heap) c.args.first) (set_at (heap_of c.args.w.now.heap) c.args.second))))
        (having_members (intersection (set_at (heap_of c.args.w.now.heap) c.args.first) (set_at (heap_of c.args.w.now.heap) c.args.second))) (λ heap. refl)
        (heap_of c.args.w.now.heap) (heap_of c.intersection.new.self) c.in_ok-intersection.ensures.step;
    globals = refl;
    statics = refl;
    locals = refl;
  };
}
