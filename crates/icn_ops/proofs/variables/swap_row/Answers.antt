use Rattle.std.proofs.Common.{◌∙◌}
use Rattle.icn_value.specs.Values.{Value, Variable, Var}
use Rattle.icn_defs.specs.ReadAndAssign.{exchanges, the_value, the_variable}
use Rattle.icn_defs.specs.Rows.{fails, gives}
use Rattle.icn_defs.specs.Variables.{swap_row}
use Rattle.icn_heap.specs.Extents.{value_in}
use Rattle.icn_heap.specs.Heaps.{extent_of}
use Rattle.icn_vars.specs.Worlds.{item_in, reach_of, setting_of, variable_in}
use Rattle.icn_args.proofs.RowAnswers.{answer_then, row_stops, stop_lives}
use Rattle.icn_ops.proofs.variables.swap_row.Goals as goal

pub returns-in_err-of_left-clause-row : goal.returns-in_err-of_left-clause-row
returns-in_err-of_left-clause-row g c = λ outside.
    row_stops (extent_of c.args.w.now.heap) (the_value (item_in (extent_of c.args.w.now.heap) c.args.x))
    (λ (of_left : Value). the_value (item_in (extent_of c.args.w.now.heap) c.args.y) (λ (of_right : Value).
    the_variable (item_in (extent_of c.args.w.now.heap) c.args.x) (λ (left : Variable). the_variable (item_in (extent_of c.args.w.now.heap) c.args.y)
    (λ (right : Variable). exchanges left right of_left of_right (λ (now : Variable × Variable). gives (Var now.0))))))
    (setting_of outside c.args.w.now (g.L.Locals.items c.args.l.now)) (setting_of outside c.args.w.now (g.L.Locals.items c.args.l.now))
    c.in_err-of_left.field-0.0 c.from_residual.result c.from_residual.ensures.1 (c.in_err-of_left.ensures.value outside)

pub returns-in_err-of_left-clause-live : goal.returns-in_err-of_left-clause-live
returns-in_err-of_left-clause-live g c = stop_lives (reach_of c.args.w.now (g.L.Locals.items c.args.l.now)) c.in_err-of_left.field-0.0 c.from_residual.result
    c.from_residual.ensures.1 c.in_err-of_left.ensures.stops

pub returns-in_err-of_right-clause-row : goal.returns-in_err-of_right-clause-row
returns-in_err-of_right-clause-row g c = λ outside.
    answer_then (extent_of c.args.w.now.heap) (swap_row (item_in (extent_of c.args.w.now.heap) c.args.x) (item_in (extent_of c.args.w.now.heap) c.args.y))
    (the_value (item_in (extent_of c.args.w.now.heap) c.args.y) (λ (of_right : Value). the_variable (item_in (extent_of c.args.w.now.heap) c.args.x)
    (λ (left : Variable). the_variable (item_in (extent_of c.args.w.now.heap) c.args.y) (λ (right : Variable).
    exchanges left right (value_in (extent_of c.args.w.now.heap) c.in_ok-of_left.of_left) of_right (λ (now : Variable × Variable). gives (Var now.0))))))
    (setting_of outside c.args.w.now (g.L.Locals.items c.args.l.now)) (setting_of outside c.args.w.now (g.L.Locals.items c.args.l.now))
    (setting_of outside c.args.w.now (g.L.Locals.items c.args.l.now)) c.from_residual-in_err-of_right.result
    (c.in_ok-of_left.ensures.value outside (λ (of_left : Value). the_value (item_in (extent_of c.args.w.now.heap) c.args.y) (λ (of_right : Value).
    the_variable (item_in (extent_of c.args.w.now.heap) c.args.x) (λ (left : Variable). the_variable (item_in (extent_of c.args.w.now.heap) c.args.y)
    (λ (right : Variable). exchanges left right of_left of_right (λ (now : Variable × Variable). gives (Var now.0)))))))
    (row_stops (extent_of c.args.w.now.heap) (the_value (item_in (extent_of c.args.w.now.heap) c.args.y)) (λ (of_right : Value). the_variable
    (item_in (extent_of c.args.w.now.heap) c.args.x) (λ (left : Variable). the_variable (item_in (extent_of c.args.w.now.heap) c.args.y) (λ (right : Variable).
    exchanges left right (value_in (extent_of c.args.w.now.heap) c.in_ok-of_left.of_left) of_right (λ (now : Variable × Variable). gives (Var now.0)))))
    (setting_of outside c.args.w.now (g.L.Locals.items c.args.l.now)) (setting_of outside c.args.w.now (g.L.Locals.items c.args.l.now))
    c.in_err-of_right.field-0.0 c.from_residual-in_err-of_right.result c.from_residual-in_err-of_right.ensures.1 (c.in_err-of_right.ensures.value outside))

pub returns-in_err-of_right-clause-live : goal.returns-in_err-of_right-clause-live
returns-in_err-of_right-clause-live g c = stop_lives (reach_of c.args.w.now (g.L.Locals.items c.args.l.now)) c.in_err-of_right.field-0.0
    c.from_residual-in_err-of_right.result c.from_residual-in_err-of_right.ensures.1 c.in_err-of_right.ensures.stops

pub returns-in_err-left-clause-row : goal.returns-in_err-left-clause-row
returns-in_err-left-clause-row g c = λ outside.
    answer_then (extent_of c.args.w.now.heap) (swap_row (item_in (extent_of c.args.w.now.heap) c.args.x) (item_in (extent_of c.args.w.now.heap) c.args.y))
    (the_variable (item_in (extent_of c.args.w.now.heap) c.args.x) (λ (left : Variable). the_variable (item_in (extent_of c.args.w.now.heap) c.args.y)
    (λ (right : Variable). exchanges left right (value_in (extent_of c.args.w.now.heap) c.in_ok-of_left.of_left)
    (value_in (extent_of c.args.w.now.heap) c.in_ok-of_right.of_right) (λ (now : Variable × Variable). gives (Var now.0)))))
    (setting_of outside c.args.w.now (g.L.Locals.items c.args.l.now)) (setting_of outside c.args.w.now (g.L.Locals.items c.args.l.now))
    (setting_of outside c.args.w.now (g.L.Locals.items c.args.l.now)) c.from_residual-in_err-left.result
    ((c.in_ok-of_left.ensures.value outside (λ (of_left : Value). the_value (item_in (extent_of c.args.w.now.heap) c.args.y) (λ (of_right : Value).
    the_variable (item_in (extent_of c.args.w.now.heap) c.args.x) (λ (left : Variable). the_variable (item_in (extent_of c.args.w.now.heap) c.args.y)
    (λ (right : Variable). exchanges left right of_left of_right (λ (now : Variable × Variable). gives (Var now.0)))))))
    ∙ (c.in_ok-of_right.ensures.value outside (λ (of_right : Value). the_variable (item_in (extent_of c.args.w.now.heap) c.args.x)
    (λ (left : Variable). the_variable (item_in (extent_of c.args.w.now.heap) c.args.y) (λ (right : Variable).
    exchanges left right (value_in (extent_of c.args.w.now.heap) c.in_ok-of_left.of_left) of_right (λ (now : Variable × Variable). gives (Var now.0)))))))
    (row_stops (extent_of c.args.w.now.heap) (the_variable (item_in (extent_of c.args.w.now.heap) c.args.x)) (λ (left : Variable).
    the_variable (item_in (extent_of c.args.w.now.heap) c.args.y) (λ (right : Variable). exchanges left right (value_in (extent_of c.args.w.now.heap)
    c.in_ok-of_left.of_left) (value_in (extent_of c.args.w.now.heap) c.in_ok-of_right.of_right) (λ (now : Variable × Variable). gives (Var now.0))))
    (setting_of outside c.args.w.now (g.L.Locals.items c.args.l.now)) (setting_of outside c.args.w.now (g.L.Locals.items c.args.l.now))
    c.in_err-left.field-0.0 c.from_residual-in_err-left.result c.from_residual-in_err-left.ensures.1
    (c.in_err-left.ensures.found (extent_of c.args.w.now.heap) (setting_of outside c.args.w.now (g.L.Locals.items c.args.l.now))))

pub returns-in_err-left-clause-live : goal.returns-in_err-left-clause-live
returns-in_err-left-clause-live g c =
    stop_lives (reach_of c.args.w.now (g.L.Locals.items c.args.l.now)) c.in_err-left.field-0.0 c.from_residual-in_err-left.result
    c.from_residual-in_err-left.ensures.1 (c.in_err-left.ensures.stops (reach_of c.args.w.now (g.L.Locals.items c.args.l.now)) c.requires.live.first)

pub returns-in_err-right-clause-row : goal.returns-in_err-right-clause-row
returns-in_err-right-clause-row g c = λ outside.
    answer_then (extent_of c.args.w.now.heap) (swap_row (item_in (extent_of c.args.w.now.heap) c.args.x) (item_in (extent_of c.args.w.now.heap) c.args.y))
    (the_variable (item_in (extent_of c.args.w.now.heap) c.args.y) (λ (right : Variable).
    exchanges (variable_in (extent_of c.args.w.now.heap) c.in_ok-left.left) right (value_in (extent_of c.args.w.now.heap) c.in_ok-of_left.of_left)
    (value_in (extent_of c.args.w.now.heap) c.in_ok-of_right.of_right) (λ (now : Variable × Variable). gives (Var now.0))))
    (setting_of outside c.args.w.now (g.L.Locals.items c.args.l.now)) (setting_of outside c.args.w.now (g.L.Locals.items c.args.l.now))
    (setting_of outside c.args.w.now (g.L.Locals.items c.args.l.now)) c.from_residual-in_err-right.result
    ((c.in_ok-of_left.ensures.value outside (λ (of_left : Value). the_value (item_in (extent_of c.args.w.now.heap) c.args.y) (λ (of_right : Value).
    the_variable (item_in (extent_of c.args.w.now.heap) c.args.x) (λ (left : Variable). the_variable (item_in (extent_of c.args.w.now.heap) c.args.y)
    (λ (right : Variable). exchanges left right of_left of_right (λ (now : Variable × Variable). gives (Var now.0)))))))
    ∙ ((c.in_ok-of_right.ensures.value outside (λ (of_right : Value). the_variable (item_in (extent_of c.args.w.now.heap) c.args.x)
    (λ (left : Variable). the_variable (item_in (extent_of c.args.w.now.heap) c.args.y) (λ (right : Variable).
    exchanges left right (value_in (extent_of c.args.w.now.heap) c.in_ok-of_left.of_left) of_right (λ (now : Variable × Variable). gives (Var now.0))))))
    ∙ (c.in_ok-left.ensures.found (extent_of c.args.w.now.heap) (setting_of outside c.args.w.now (g.L.Locals.items c.args.l.now)) (λ (left : Variable).
    the_variable (item_in (extent_of c.args.w.now.heap) c.args.y) (λ (right : Variable). exchanges left right (value_in (extent_of c.args.w.now.heap)
    c.in_ok-of_left.of_left) (value_in (extent_of c.args.w.now.heap) c.in_ok-of_right.of_right) (λ (now : Variable × Variable). gives (Var now.0)))))))
    (row_stops (extent_of c.args.w.now.heap) (the_variable (item_in (extent_of c.args.w.now.heap) c.args.y)) (λ (right : Variable).
    exchanges (variable_in (extent_of c.args.w.now.heap) c.in_ok-left.left) right (value_in (extent_of c.args.w.now.heap) c.in_ok-of_left.of_left)
    (value_in (extent_of c.args.w.now.heap) c.in_ok-of_right.of_right) (λ (now : Variable × Variable). gives (Var now.0)))
    (setting_of outside c.args.w.now (g.L.Locals.items c.args.l.now)) (setting_of outside c.args.w.now (g.L.Locals.items c.args.l.now))
    c.in_err-right.field-0.0 c.from_residual-in_err-right.result c.from_residual-in_err-right.ensures.1
    (c.in_err-right.ensures.found (extent_of c.args.w.now.heap) (setting_of outside c.args.w.now (g.L.Locals.items c.args.l.now))))

pub returns-in_err-right-clause-live : goal.returns-in_err-right-clause-live
returns-in_err-right-clause-live g c =
    stop_lives (reach_of c.args.w.now (g.L.Locals.items c.args.l.now)) c.in_err-right.field-0.0 c.from_residual-in_err-right.result
    c.from_residual-in_err-right.ensures.1 (c.in_err-right.ensures.stops (reach_of c.args.w.now (g.L.Locals.items c.args.l.now)) c.requires.live.second)

pub returns-in_err-left-2-clause-row : goal.returns-in_err-left-2-clause-row
returns-in_err-left-2-clause-row g c = λ outside.
    answer_then (extent_of c.exchange.new.w.heap) (swap_row (item_in (extent_of c.args.w.now.heap) c.args.x) (item_in (extent_of c.args.w.now.heap) c.args.y))
    (exchanges (variable_in (extent_of c.args.w.now.heap) c.in_ok-left.left)
    (variable_in (extent_of c.args.w.now.heap) c.in_ok-right.right) (value_in (extent_of c.args.w.now.heap) c.in_ok-of_left.of_left)
    (value_in (extent_of c.args.w.now.heap) c.in_ok-of_right.of_right) (λ (now : Variable × Variable). gives (Var now.0)))
    (setting_of outside c.args.w.now (g.L.Locals.items c.args.l.now)) (setting_of outside c.args.w.now (g.L.Locals.items c.args.l.now))
    (setting_of outside c.exchange.new.w (g.L.Locals.items c.exchange.new.l)) c.from_residual-in_err-left-2.result
    ((c.in_ok-of_left.ensures.value outside (λ (of_left : Value). the_value (item_in (extent_of c.args.w.now.heap) c.args.y) (λ (of_right : Value).
    the_variable (item_in (extent_of c.args.w.now.heap) c.args.x) (λ (left : Variable). the_variable (item_in (extent_of c.args.w.now.heap) c.args.y)
    (λ (right : Variable). exchanges left right of_left of_right (λ (now : Variable × Variable). gives (Var now.0)))))))
    ∙ ((c.in_ok-of_right.ensures.value outside (λ (of_right : Value). the_variable (item_in (extent_of c.args.w.now.heap) c.args.x)
    (λ (left : Variable). the_variable (item_in (extent_of c.args.w.now.heap) c.args.y) (λ (right : Variable).
    exchanges left right (value_in (extent_of c.args.w.now.heap) c.in_ok-of_left.of_left) of_right (λ (now : Variable × Variable). gives (Var now.0))))))
    ∙ ((c.in_ok-left.ensures.found (extent_of c.args.w.now.heap) (setting_of outside c.args.w.now (g.L.Locals.items c.args.l.now)) (λ (left : Variable).
    the_variable (item_in (extent_of c.args.w.now.heap) c.args.y) (λ (right : Variable). exchanges left right (value_in (extent_of c.args.w.now.heap)
    c.in_ok-of_left.of_left) (value_in (extent_of c.args.w.now.heap) c.in_ok-of_right.of_right) (λ (now : Variable × Variable). gives (Var now.0)))))
    ∙ (c.in_ok-right.ensures.found (extent_of c.args.w.now.heap) (setting_of outside c.args.w.now (g.L.Locals.items c.args.l.now)) (λ (right : Variable).
    exchanges (variable_in (extent_of c.args.w.now.heap) c.in_ok-left.left) right (value_in (extent_of c.args.w.now.heap) c.in_ok-of_left.of_left)
    (value_in (extent_of c.args.w.now.heap) c.in_ok-of_right.of_right) (λ (now : Variable × Variable). gives (Var now.0)))))))
    (row_stops (extent_of c.exchange.new.w.heap) (exchanges (variable_in (extent_of c.args.w.now.heap) c.in_ok-left.left)
    (variable_in (extent_of c.args.w.now.heap) c.in_ok-right.right) (value_in (extent_of c.args.w.now.heap) c.in_ok-of_left.of_left)
    (value_in (extent_of c.args.w.now.heap) c.in_ok-of_right.of_right)) (λ (now : Variable × Variable). gives (Var now.0))
    (setting_of outside c.args.w.now (g.L.Locals.items c.args.l.now)) (setting_of outside c.exchange.new.w (g.L.Locals.items c.exchange.new.l))
    c.in_err-left-2.field-0.0 c.from_residual-in_err-left-2.result c.from_residual-in_err-left-2.ensures.1 (c.in_err-left-2.ensures.exchanged outside fails))

pub returns-in_err-left-2-clause-live : goal.returns-in_err-left-2-clause-live
returns-in_err-left-2-clause-live g c = stop_lives (reach_of c.exchange.new.w (g.L.Locals.items c.exchange.new.l)) c.in_err-left-2.field-0.0
    c.from_residual-in_err-left-2.result c.from_residual-in_err-left-2.ensures.1 c.in_err-left-2.ensures.live

pub returns-in-Done-clause-row : goal.returns-in-Done-clause-row
returns-in-Done-clause-row g c = λ outside.
    let done = rw c.in-Done.is at (c.in_ok-left-2.ensures.exchanged outside) in
    ((c.in_ok-of_left.ensures.value outside (λ (of_left : Value). the_value (item_in (extent_of c.args.w.now.heap) c.args.y) (λ (of_right : Value).
    the_variable (item_in (extent_of c.args.w.now.heap) c.args.x) (λ (left : Variable). the_variable (item_in (extent_of c.args.w.now.heap) c.args.y)
    (λ (right : Variable). exchanges left right of_left of_right (λ (now : Variable × Variable). gives (Var now.0)))))))
    ∙ ((c.in_ok-of_right.ensures.value outside (λ (of_right : Value). the_variable (item_in (extent_of c.args.w.now.heap) c.args.x)
    (λ (left : Variable). the_variable (item_in (extent_of c.args.w.now.heap) c.args.y) (λ (right : Variable).
    exchanges left right (value_in (extent_of c.args.w.now.heap) c.in_ok-of_left.of_left) of_right (λ (now : Variable × Variable). gives (Var now.0))))))
    ∙ ((c.in_ok-left.ensures.found (extent_of c.args.w.now.heap) (setting_of outside c.args.w.now (g.L.Locals.items c.args.l.now)) (λ (left : Variable).
    the_variable (item_in (extent_of c.args.w.now.heap) c.args.y) (λ (right : Variable). exchanges left right (value_in (extent_of c.args.w.now.heap)
    c.in_ok-of_left.of_left) (value_in (extent_of c.args.w.now.heap) c.in_ok-of_right.of_right) (λ (now : Variable × Variable). gives (Var now.0)))))
    ∙ ((c.in_ok-right.ensures.found (extent_of c.args.w.now.heap) (setting_of outside c.args.w.now (g.L.Locals.items c.args.l.now)) (λ (right : Variable).
    exchanges (variable_in (extent_of c.args.w.now.heap) c.in_ok-left.left) right (value_in (extent_of c.args.w.now.heap) c.in_ok-of_left.of_left)
    (value_in (extent_of c.args.w.now.heap) c.in_ok-of_right.of_right) (λ (now : Variable × Variable). gives (Var now.0))))
    ∙ done fails (λ (now : Variable × Variable). gives (Var now.0))))))

pub returns-in-OutOfRange-clause-row : goal.returns-in-OutOfRange-clause-row
returns-in-OutOfRange-clause-row g c = λ outside.
    let refused = rw c.in-OutOfRange.is at (c.in_ok-left-2.ensures.exchanged outside) in
    ((c.in_ok-of_left.ensures.value outside (λ (of_left : Value). the_value (item_in (extent_of c.args.w.now.heap) c.args.y) (λ (of_right : Value).
    the_variable (item_in (extent_of c.args.w.now.heap) c.args.x) (λ (left : Variable). the_variable (item_in (extent_of c.args.w.now.heap) c.args.y)
    (λ (right : Variable). exchanges left right of_left of_right (λ (now : Variable × Variable). gives (Var now.0)))))))
    ∙ ((c.in_ok-of_right.ensures.value outside (λ (of_right : Value). the_variable (item_in (extent_of c.args.w.now.heap) c.args.x)
    (λ (left : Variable). the_variable (item_in (extent_of c.args.w.now.heap) c.args.y) (λ (right : Variable).
    exchanges left right (value_in (extent_of c.args.w.now.heap) c.in_ok-of_left.of_left) of_right (λ (now : Variable × Variable). gives (Var now.0))))))
    ∙ ((c.in_ok-left.ensures.found (extent_of c.args.w.now.heap) (setting_of outside c.args.w.now (g.L.Locals.items c.args.l.now)) (λ (left : Variable).
    the_variable (item_in (extent_of c.args.w.now.heap) c.args.y) (λ (right : Variable). exchanges left right (value_in (extent_of c.args.w.now.heap)
    c.in_ok-of_left.of_left) (value_in (extent_of c.args.w.now.heap) c.in_ok-of_right.of_right) (λ (now : Variable × Variable). gives (Var now.0)))))
    ∙ ((c.in_ok-right.ensures.found (extent_of c.args.w.now.heap) (setting_of outside c.args.w.now (g.L.Locals.items c.args.l.now)) (λ (right : Variable).
    exchanges (variable_in (extent_of c.args.w.now.heap) c.in_ok-left.left) right (value_in (extent_of c.args.w.now.heap) c.in_ok-of_left.of_left)
    (value_in (extent_of c.args.w.now.heap) c.in_ok-of_right.of_right) (λ (now : Variable × Variable). gives (Var now.0))))
    ∙ refused fails (λ (now : Variable × Variable). gives (Var now.0))))))
