use Rattle.std.proofs.Common.{ap, map, subst, ◌∙◌, ◌≡◌}
use Rattle.std.specs.Prelude.{slice_range}
use Rattle.icn_value.specs.Values.{Val}
use Rattle.icn_value.specs.Store.{list_at}
use Rattle.icn_defs.specs.Rows.{Gives, gives_value, new_list_of}
use Rattle.icn_heap.specs.Extents.{value_in}
use Rattle.icn_heap.specs.Heaps.{extent_of, heap_of}
use Rattle.icn_vars.specs.Worlds.{reach_of, setting_of}
use Rattle.icn_vars.specs.Stops.{StopsFinding}
use Rattle.icn_args.proofs.RowAnswers.{row_stops, stop_lives}
use Rattle.icn_ops.proofs.sections.new_section.Goals as goal

pub returns-in_err-made-clause-row : goal.returns-in_err-made-clause-row
returns-in_err-made-clause-row g c = λ outside.
    row_stops (extent_of c.new_list.new.w.heap) (new_list_of (slice_range (list_at (heap_of c.args.w.now.heap) c.args.list).items c.args.from c.args.to))
    gives_value (setting_of outside c.args.w.now (g.L.Locals.items c.args.l.now))
    (setting_of outside c.new_list.new.w (g.L.Locals.items c.args.l.now)) c.in_err-made.field-0.0 c.from_residual.result c.from_residual.ensures.1
    (subst (λ items. StopsFinding (extent_of c.new_list.new.w.heap) (new_list_of items) (setting_of outside c.args.w.now (g.L.Locals.items c.args.l.now))
    (setting_of outside c.new_list.new.w (g.L.Locals.items c.args.l.now)) c.in_err-made.field-0.0)
    (ap (map (value_in (extent_of c.args.w.now.heap))) c.deref.ensures.value ∙ c.in-Ok.ensures.items) (c.in_err-made.ensures.found outside))

pub returns-in_err-made-clause-live : goal.returns-in_err-made-clause-live
returns-in_err-made-clause-live g c =
    stop_lives (reach_of c.new_list.new.w (g.L.Locals.items c.args.l.now)) c.in_err-made.field-0.0 c.from_residual.result c.from_residual.ensures.1
    c.in_err-made.ensures.stops

pub returns-clause-row : goal.returns-clause-row
returns-clause-row g c = λ outside.
    subst (λ items. new_list_of items gives_value (setting_of outside c.args.w.now (g.L.Locals.items c.args.l.now))
    ≡ Gives (Val (value_in (extent_of c.new_list.new.w.heap) c.in_ok-made.made)) (setting_of outside c.new_list.new.w (g.L.Locals.items c.args.l.now)))
    (ap (map (value_in (extent_of c.args.w.now.heap))) c.deref.ensures.value ∙ c.in-Ok.ensures.items) (c.in_ok-made.ensures.found outside gives_value)
