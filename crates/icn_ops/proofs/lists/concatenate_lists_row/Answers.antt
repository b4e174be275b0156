use Rattle.std.proofs.Common.{◌≡◌, ◌∙◌, ◌++◌, ap, ℕ, map, subst}
use Rattle.icn_value.specs.Values.{Val}
use Rattle.icn_value.specs.Store.{list_at}
use Rattle.icn_defs.specs.Operations.{concatenate_lists_row}
use Rattle.icn_defs.specs.Rows.{Gives, gives_list, gives_value, new_list_of}
use Rattle.icn_heap.specs.Extents.{value_in}
use Rattle.icn_heap.specs.Heaps.{extent_of, heap_of}
use Rattle.icn_vars.specs.Worlds.{item_in, reach_of, setting_of}
use Rattle.icn_args.proofs.RowAnswers.{answer_then, row_stops, stop_lives}
use Rattle.icn_ops.specs.Operands.{two_lists}
use Rattle.icn_vars.specs.Stops.{StopsFinding}
use Rattle.icn_ops.proofs.lists.concatenate_lists_row.Goals as goal

pub returns-in_err-first-clause-row : goal.returns-in_err-first-clause-row
returns-in_err-first-clause-row g c = λ outside.
    row_stops (extent_of c.args.w.now.heap) (two_lists (item_in (extent_of c.args.w.now.heap) c.args.x) (item_in (extent_of c.args.w.now.heap) c.args.y))
    (λ (ids : ℕ × ℕ) setting. gives_list ((list_at setting.world.heap ids.0).items ++ (list_at setting.world.heap ids.1).items) setting)
    (setting_of outside c.args.w.now (g.L.Locals.items c.args.l.now)) (setting_of outside c.args.w.now (g.L.Locals.items c.args.l.now)) c.in_err-first.field-0.0
    c.from_residual.result c.from_residual.ensures.1 (c.in_err-first.ensures.found outside)

pub returns-in_err-first-clause-live : goal.returns-in_err-first-clause-live
returns-in_err-first-clause-live g c =
    stop_lives (reach_of c.args.w.now (g.L.Locals.items c.args.l.now)) c.in_err-first.field-0.0 c.from_residual.result c.from_residual.ensures.1
    c.in_err-first.ensures.stops

pub returns-in_err-list-clause-row : goal.returns-in_err-list-clause-row
returns-in_err-list-clause-row g c = λ outside.
    answer_then
    (extent_of c.new_list.new.w.heap) (concatenate_lists_row (item_in (extent_of c.args.w.now.heap) c.args.x) (item_in (extent_of c.args.w.now.heap) c.args.y))
    (new_list_of ((list_at (heap_of c.args.w.now.heap) c.in_ok-first.first).items ++ (list_at (heap_of c.args.w.now.heap) c.in_ok-first.second).items)
    gives_value) (setting_of outside c.args.w.now (g.L.Locals.items c.args.l.now)) (setting_of outside c.args.w.now (g.L.Locals.items c.args.l.now))
    (setting_of outside c.new_list.new.w (g.L.Locals.items c.args.l.now)) c.from_residual-in_err-list.result (c.in_ok-first.ensures.found outside
    (λ (ids : ℕ × ℕ) setting. gives_list ((list_at setting.world.heap ids.0).items ++ (list_at setting.world.heap ids.1).items) setting))
    (row_stops (extent_of c.new_list.new.w.heap)
    (new_list_of ((list_at (heap_of c.args.w.now.heap) c.in_ok-first.first).items ++ (list_at (heap_of c.args.w.now.heap) c.in_ok-first.second).items))
    gives_value (setting_of outside c.args.w.now (g.L.Locals.items c.args.l.now)) (setting_of outside c.new_list.new.w (g.L.Locals.items c.args.l.now))
    c.in_err-list.field-0.0 c.from_residual-in_err-list.result c.from_residual-in_err-list.ensures.1
    (subst (λ items. StopsFinding (extent_of c.new_list.new.w.heap) (new_list_of items) (setting_of outside c.args.w.now (g.L.Locals.items c.args.l.now))
    (setting_of outside c.new_list.new.w (g.L.Locals.items c.args.l.now)) c.in_err-list.field-0.0)
    (ap (map (value_in (extent_of c.args.w.now.heap))) c.deref.ensures.value ∙ c.in-Ok.ensures.items) (c.in_err-list.ensures.found outside)))

pub returns-in_err-list-clause-live : goal.returns-in_err-list-clause-live
returns-in_err-list-clause-live g c =
    stop_lives (reach_of c.new_list.new.w (g.L.Locals.items c.args.l.now)) c.in_err-list.field-0.0 c.from_residual-in_err-list.result
    c.from_residual-in_err-list.ensures.1 c.in_err-list.ensures.stops

pub returns-clause-row : goal.returns-clause-row
returns-clause-row g c = λ outside.
    c.in_ok-first.ensures.found outside
    (λ (ids : ℕ × ℕ) setting. gives_list ((list_at setting.world.heap ids.0).items ++ (list_at setting.world.heap ids.1).items) setting)
    ∙ subst (λ items. new_list_of items gives_value (setting_of outside c.args.w.now (g.L.Locals.items c.args.l.now))
    ≡ Gives (Val (value_in (extent_of c.new_list.new.w.heap) c.in_ok-list.list)) (setting_of outside c.new_list.new.w (g.L.Locals.items c.args.l.now)))
    (ap (map (value_in (extent_of c.args.w.now.heap))) c.deref.ensures.value ∙ c.in-Ok.ensures.items) (c.in_ok-list.ensures.found outside gives_value)
