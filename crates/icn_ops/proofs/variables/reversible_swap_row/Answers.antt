use Rattle.std.proofs.Common.{◌∙◌}
use Rattle.icn_value.specs.Values.{Value, Variable, Var}
use Rattle.icn_value.specs.Store.{bare_outside}
use Rattle.icn_defs.specs.ReadAndAssign.{exchanges, mover_of as defined_mover, the_value, the_variable}
use Rattle.icn_defs.specs.Rows.{UndoExchange, fails, suspends}
use Rattle.icn_defs.specs.Variables.{reversible_swap_row}
use Rattle.icn_heap.specs.Extents.{value_in}
use Rattle.icn_heap.specs.Heaps.{extent_of}
use Rattle.icn_vars.specs.Outcomes.{mover_of}
use Rattle.icn_vars.specs.Worlds.{item_in, reach_of, setting_of, variable_in}
use Rattle.icn_args.proofs.RowAnswers.{answer_then, row_stops, stop_lives}
use Rattle.icn_ops.proofs.VariableRows.{same_exchange, still_holds}
use Rattle.icn_ops.proofs.variables.reversible_swap_row.Goals as goal

pub returns-in_err-old_left-clause-row : goal.returns-in_err-old_left-clause-row
returns-in_err-old_left-clause-row g c = λ outside.
    row_stops (extent_of c.args.w.now.heap) (the_value (item_in (extent_of c.args.w.now.heap) c.args.x)) (λ (old_left : Value).
    the_value (item_in (extent_of c.args.w.now.heap) c.args.y) (λ (old_right : Value). the_variable (item_in (extent_of c.args.w.now.heap) c.args.x)
    (λ (left : Variable). the_variable (item_in (extent_of c.args.w.now.heap) c.args.y) (λ (right : Variable). exchanges left right old_left old_right
    (λ (now : Variable × Variable). suspends (Var now.0) (UndoExchange (defined_mover left right) now.0 now.1 old_left old_right))))))
    (setting_of outside c.args.w.now (g.L.Locals.items c.args.l.now)) (setting_of outside c.args.w.now (g.L.Locals.items c.args.l.now))
    c.in_err-old_left.field-0.0 c.from_residual.result c.from_residual.ensures.1 (c.in_err-old_left.ensures.value outside)

pub returns-in_err-old_left-clause-live : goal.returns-in_err-old_left-clause-live
returns-in_err-old_left-clause-live g c = stop_lives (reach_of c.args.w.now (g.L.Locals.items c.args.l.now)) c.in_err-old_left.field-0.0 c.from_residual.result
    c.from_residual.ensures.1 c.in_err-old_left.ensures.stops

pub returns-in_err-old_right-clause-row : goal.returns-in_err-old_right-clause-row
returns-in_err-old_right-clause-row g c = λ outside.
    answer_then (extent_of c.args.w.now.heap) (reversible_swap_row (item_in (extent_of c.args.w.now.heap) c.args.x)
    (item_in (extent_of c.args.w.now.heap) c.args.y)) (the_value (item_in (extent_of c.args.w.now.heap) c.args.y) (λ (old_right : Value).
    the_variable (item_in (extent_of c.args.w.now.heap) c.args.x) (λ (left : Variable). the_variable (item_in (extent_of c.args.w.now.heap) c.args.y)
    (λ (right : Variable). exchanges left right (value_in (extent_of c.args.w.now.heap) c.in_ok-old_left.old_left) old_right (λ (now : Variable × Variable).
    suspends (Var now.0) (UndoExchange (defined_mover left right) now.0 now.1 (value_in (extent_of c.args.w.now.heap) c.in_ok-old_left.old_left) old_right))))))
    (setting_of outside c.args.w.now (g.L.Locals.items c.args.l.now)) (setting_of outside c.args.w.now (g.L.Locals.items c.args.l.now)) (setting_of outside
    c.args.w.now (g.L.Locals.items c.args.l.now)) c.from_residual-in_err-old_right.result (c.in_ok-old_left.ensures.value outside (λ (old_left : Value).
    the_value (item_in (extent_of c.args.w.now.heap) c.args.y) (λ (old_right : Value). the_variable (item_in (extent_of c.args.w.now.heap) c.args.x)
    (λ (left : Variable). the_variable (item_in (extent_of c.args.w.now.heap) c.args.y) (λ (right : Variable). exchanges left right old_left old_right
    (λ (now : Variable × Variable). suspends (Var now.0) (UndoExchange (defined_mover left right) now.0 now.1 old_left old_right)))))))
    (row_stops (extent_of c.args.w.now.heap) (the_value (item_in (extent_of c.args.w.now.heap) c.args.y)) (λ (old_right : Value).
    the_variable (item_in (extent_of c.args.w.now.heap) c.args.x) (λ (left : Variable). the_variable (item_in (extent_of c.args.w.now.heap) c.args.y)
    (λ (right : Variable). exchanges left right (value_in (extent_of c.args.w.now.heap) c.in_ok-old_left.old_left) old_right (λ (now : Variable × Variable).
    suspends (Var now.0) (UndoExchange (defined_mover left right) now.0 now.1 (value_in (extent_of c.args.w.now.heap) c.in_ok-old_left.old_left) old_right)))))
    (setting_of outside c.args.w.now (g.L.Locals.items c.args.l.now)) (setting_of outside c.args.w.now (g.L.Locals.items c.args.l.now))
    c.in_err-old_right.field-0.0 c.from_residual-in_err-old_right.result c.from_residual-in_err-old_right.ensures.1 (c.in_err-old_right.ensures.value outside))

pub returns-in_err-old_right-clause-live : goal.returns-in_err-old_right-clause-live
returns-in_err-old_right-clause-live g c = stop_lives (reach_of c.args.w.now (g.L.Locals.items c.args.l.now)) c.in_err-old_right.field-0.0
    c.from_residual-in_err-old_right.result c.from_residual-in_err-old_right.ensures.1 c.in_err-old_right.ensures.stops

pub returns-in_err-left-clause-row : goal.returns-in_err-left-clause-row
returns-in_err-left-clause-row g c = λ outside.
    answer_then
    (extent_of c.args.w.now.heap) (reversible_swap_row (item_in (extent_of c.args.w.now.heap) c.args.x) (item_in (extent_of c.args.w.now.heap) c.args.y))
    (the_variable (item_in (extent_of c.args.w.now.heap) c.args.x) (λ (left : Variable). the_variable (item_in (extent_of c.args.w.now.heap) c.args.y)
    (λ (right : Variable). exchanges left right (value_in (extent_of c.args.w.now.heap) c.in_ok-old_left.old_left) (value_in (extent_of c.args.w.now.heap)
    c.in_ok-old_right.old_right) (λ (now : Variable × Variable). suspends (Var now.0) (UndoExchange (defined_mover left right) now.0 now.1
    (value_in (extent_of c.args.w.now.heap) c.in_ok-old_left.old_left) (value_in (extent_of c.args.w.now.heap) c.in_ok-old_right.old_right))))))
    (setting_of outside c.args.w.now (g.L.Locals.items c.args.l.now)) (setting_of outside c.args.w.now (g.L.Locals.items c.args.l.now)) (setting_of outside
    c.args.w.now (g.L.Locals.items c.args.l.now)) c.from_residual-in_err-left.result ((c.in_ok-old_left.ensures.value outside (λ (old_left : Value).
    the_value (item_in (extent_of c.args.w.now.heap) c.args.y) (λ (old_right : Value). the_variable (item_in (extent_of c.args.w.now.heap) c.args.x)
    (λ (left : Variable). the_variable (item_in (extent_of c.args.w.now.heap) c.args.y) (λ (right : Variable). exchanges left right old_left old_right
    (λ (now : Variable × Variable). suspends (Var now.0) (UndoExchange (defined_mover left right) now.0 now.1 old_left old_right)))))))
    ∙ (c.in_ok-old_right.ensures.value outside (λ (old_right : Value). the_variable (item_in (extent_of c.args.w.now.heap) c.args.x)
    (λ (left : Variable). the_variable (item_in (extent_of c.args.w.now.heap) c.args.y) (λ (right : Variable).
    exchanges left right (value_in (extent_of c.args.w.now.heap) c.in_ok-old_left.old_left) old_right (λ (now : Variable × Variable). suspends (Var now.0)
    (UndoExchange (defined_mover left right) now.0 now.1 (value_in (extent_of c.args.w.now.heap) c.in_ok-old_left.old_left) old_right)))))))
    (row_stops (extent_of c.args.w.now.heap) (the_variable (item_in (extent_of c.args.w.now.heap) c.args.x))
    (λ (left : Variable). the_variable (item_in (extent_of c.args.w.now.heap) c.args.y) (λ (right : Variable).
    exchanges left right (value_in (extent_of c.args.w.now.heap) c.in_ok-old_left.old_left) (value_in (extent_of c.args.w.now.heap) c.in_ok-old_right.old_right)
    (λ (now : Variable × Variable). suspends (Var now.0) (UndoExchange (defined_mover left right) now.0 now.1
    (value_in (extent_of c.args.w.now.heap) c.in_ok-old_left.old_left) (value_in (extent_of c.args.w.now.heap) c.in_ok-old_right.old_right)))))
    (setting_of outside c.args.w.now (g.L.Locals.items c.args.l.now)) (setting_of outside c.args.w.now (g.L.Locals.items c.args.l.now))
    c.in_err-left.field-0.0 c.from_residual-in_err-left.result c.from_residual-in_err-left.ensures.1
    (c.in_err-left.ensures.found (extent_of c.args.w.now.heap) (setting_of outside c.args.w.now (g.L.Locals.items c.args.l.now))))

pub returns-in_err-left-clause-live : goal.returns-in_err-left-clause-live
returns-in_err-left-clause-live g c =
    stop_lives (reach_of c.args.w.now (g.L.Locals.items c.args.l.now)) c.in_err-left.field-0.0 c.from_residual-in_err-left.result
    c.from_residual-in_err-left.ensures.1 (c.in_err-left.ensures.stops (reach_of c.args.w.now (g.L.Locals.items c.args.l.now)) c.requires.live.first)

pub returns-in_err-right-clause-row : goal.returns-in_err-right-clause-row
returns-in_err-right-clause-row g c = λ outside.
    answer_then (extent_of c.args.w.now.heap)
    (reversible_swap_row (item_in (extent_of c.args.w.now.heap) c.args.x) (item_in (extent_of c.args.w.now.heap) c.args.y)) (the_variable
    (item_in (extent_of c.args.w.now.heap) c.args.y) (λ (right : Variable). exchanges (variable_in (extent_of c.args.w.now.heap) c.in_ok-left.left) right
    (value_in (extent_of c.args.w.now.heap) c.in_ok-old_left.old_left) (value_in (extent_of c.args.w.now.heap) c.in_ok-old_right.old_right)
    (λ (now : Variable × Variable). suspends (Var now.0) (UndoExchange (defined_mover (variable_in (extent_of c.args.w.now.heap) c.in_ok-left.left) right)
    now.0 now.1 (value_in (extent_of c.args.w.now.heap) c.in_ok-old_left.old_left) (value_in (extent_of c.args.w.now.heap) c.in_ok-old_right.old_right)))))
    (setting_of outside c.args.w.now (g.L.Locals.items c.args.l.now)) (setting_of outside c.args.w.now (g.L.Locals.items c.args.l.now)) (setting_of outside
    c.args.w.now (g.L.Locals.items c.args.l.now)) c.from_residual-in_err-right.result ((c.in_ok-old_left.ensures.value outside (λ (old_left : Value).
    the_value (item_in (extent_of c.args.w.now.heap) c.args.y) (λ (old_right : Value). the_variable (item_in (extent_of c.args.w.now.heap) c.args.x)
    (λ (left : Variable). the_variable (item_in (extent_of c.args.w.now.heap) c.args.y) (λ (right : Variable). exchanges left right old_left old_right
    (λ (now : Variable × Variable). suspends (Var now.0) (UndoExchange (defined_mover left right) now.0 now.1 old_left old_right)))))))
    ∙ ((c.in_ok-old_right.ensures.value outside (λ (old_right : Value).
    the_variable (item_in (extent_of c.args.w.now.heap) c.args.x) (λ (left : Variable). the_variable (item_in (extent_of c.args.w.now.heap) c.args.y)
    (λ (right : Variable). exchanges left right (value_in (extent_of c.args.w.now.heap) c.in_ok-old_left.old_left) old_right (λ (now : Variable × Variable).
    suspends (Var now.0) (UndoExchange (defined_mover left right) now.0 now.1 (value_in (extent_of c.args.w.now.heap) c.in_ok-old_left.old_left) old_right))))))
    ∙ (c.in_ok-left.ensures.found (extent_of c.args.w.now.heap) (setting_of outside c.args.w.now (g.L.Locals.items c.args.l.now))
    (λ (left : Variable). the_variable (item_in (extent_of c.args.w.now.heap) c.args.y) (λ (right : Variable).
    exchanges left right (value_in (extent_of c.args.w.now.heap) c.in_ok-old_left.old_left) (value_in (extent_of c.args.w.now.heap) c.in_ok-old_right.old_right)
    (λ (now : Variable × Variable). suspends (Var now.0) (UndoExchange (defined_mover left right) now.0 now.1
    (value_in (extent_of c.args.w.now.heap) c.in_ok-old_left.old_left) (value_in (extent_of c.args.w.now.heap) c.in_ok-old_right.old_right))))))))
    (row_stops (extent_of c.args.w.now.heap) (the_variable (item_in (extent_of c.args.w.now.heap) c.args.y))
    (λ (right : Variable). exchanges (variable_in (extent_of c.args.w.now.heap) c.in_ok-left.left) right
    (value_in (extent_of c.args.w.now.heap) c.in_ok-old_left.old_left) (value_in (extent_of c.args.w.now.heap) c.in_ok-old_right.old_right)
    (λ (now : Variable × Variable). suspends (Var now.0) (UndoExchange (defined_mover (variable_in (extent_of c.args.w.now.heap) c.in_ok-left.left) right)
    now.0 now.1 (value_in (extent_of c.args.w.now.heap) c.in_ok-old_left.old_left) (value_in (extent_of c.args.w.now.heap) c.in_ok-old_right.old_right))))
    (setting_of outside c.args.w.now (g.L.Locals.items c.args.l.now)) (setting_of outside c.args.w.now (g.L.Locals.items c.args.l.now))
    c.in_err-right.field-0.0 c.from_residual-in_err-right.result c.from_residual-in_err-right.ensures.1
    (c.in_err-right.ensures.found (extent_of c.args.w.now.heap) (setting_of outside c.args.w.now (g.L.Locals.items c.args.l.now))))

pub returns-in_err-right-clause-live : goal.returns-in_err-right-clause-live
returns-in_err-right-clause-live g c =
    stop_lives (reach_of c.args.w.now (g.L.Locals.items c.args.l.now)) c.in_err-right.field-0.0 c.from_residual-in_err-right.result
    c.from_residual-in_err-right.ensures.1 (c.in_err-right.ensures.stops (reach_of c.args.w.now (g.L.Locals.items c.args.l.now)) c.requires.live.second)

pub returns-in_err-left-2-clause-row : goal.returns-in_err-left-2-clause-row
returns-in_err-left-2-clause-row g c = λ outside.
    answer_then (extent_of c.exchange.new.w.heap) (reversible_swap_row (item_in (extent_of c.args.w.now.heap) c.args.x)
    (item_in (extent_of c.args.w.now.heap) c.args.y)) (exchanges (variable_in (extent_of c.args.w.now.heap) c.in_ok-left.left)
    (variable_in (extent_of c.args.w.now.heap) c.in_ok-right.right) (value_in (extent_of c.args.w.now.heap) c.in_ok-old_left.old_left)
    (value_in (extent_of c.args.w.now.heap) c.in_ok-old_right.old_right) (λ (now : Variable × Variable). suspends (Var now.0)
    (UndoExchange (defined_mover (variable_in (extent_of c.args.w.now.heap) c.in_ok-left.left) (variable_in (extent_of c.args.w.now.heap) c.in_ok-right.right))
    now.0 now.1 (value_in (extent_of c.args.w.now.heap) c.in_ok-old_left.old_left) (value_in (extent_of c.args.w.now.heap) c.in_ok-old_right.old_right))))
    (setting_of outside c.args.w.now (g.L.Locals.items c.args.l.now)) (setting_of outside c.args.w.now (g.L.Locals.items c.args.l.now)) (setting_of outside
    c.exchange.new.w (g.L.Locals.items c.exchange.new.l)) c.from_residual-in_err-left-2.result ((c.in_ok-old_left.ensures.value outside (λ (old_left : Value).
    the_value (item_in (extent_of c.args.w.now.heap) c.args.y) (λ (old_right : Value). the_variable (item_in (extent_of c.args.w.now.heap) c.args.x)
    (λ (left : Variable). the_variable (item_in (extent_of c.args.w.now.heap) c.args.y) (λ (right : Variable). exchanges left right old_left old_right
    (λ (now : Variable × Variable). suspends (Var now.0) (UndoExchange (defined_mover left right) now.0 now.1 old_left old_right)))))))
    ∙ ((c.in_ok-old_right.ensures.value outside (λ (old_right : Value).
    the_variable (item_in (extent_of c.args.w.now.heap) c.args.x) (λ (left : Variable). the_variable (item_in (extent_of c.args.w.now.heap) c.args.y)
    (λ (right : Variable). exchanges left right (value_in (extent_of c.args.w.now.heap) c.in_ok-old_left.old_left) old_right (λ (now : Variable × Variable).
    suspends (Var now.0) (UndoExchange (defined_mover left right) now.0 now.1 (value_in (extent_of c.args.w.now.heap) c.in_ok-old_left.old_left) old_right))))))
    ∙ ((c.in_ok-left.ensures.found (extent_of c.args.w.now.heap) (setting_of outside c.args.w.now (g.L.Locals.items c.args.l.now))
    (λ (left : Variable). the_variable (item_in (extent_of c.args.w.now.heap) c.args.y) (λ (right : Variable).
    exchanges left right (value_in (extent_of c.args.w.now.heap) c.in_ok-old_left.old_left) (value_in (extent_of c.args.w.now.heap) c.in_ok-old_right.old_right)
    (λ (now : Variable × Variable). suspends (Var now.0) (UndoExchange (defined_mover left right) now.0 now.1
    (value_in (extent_of c.args.w.now.heap) c.in_ok-old_left.old_left) (value_in (extent_of c.args.w.now.heap) c.in_ok-old_right.old_right))))))
    ∙ (c.in_ok-right.ensures.found (extent_of c.args.w.now.heap) (setting_of outside c.args.w.now (g.L.Locals.items c.args.l.now))
    (λ (right : Variable). exchanges (variable_in (extent_of c.args.w.now.heap) c.in_ok-left.left) right
    (value_in (extent_of c.args.w.now.heap) c.in_ok-old_left.old_left) (value_in (extent_of c.args.w.now.heap) c.in_ok-old_right.old_right)
    (λ (now : Variable × Variable). suspends (Var now.0) (UndoExchange (defined_mover (variable_in (extent_of c.args.w.now.heap) c.in_ok-left.left) right) now.0
    now.1 (value_in (extent_of c.args.w.now.heap) c.in_ok-old_left.old_left) (value_in (extent_of c.args.w.now.heap) c.in_ok-old_right.old_right))))))))
    (row_stops (extent_of c.exchange.new.w.heap) (exchanges (variable_in (extent_of c.args.w.now.heap) c.in_ok-left.left)
    (variable_in (extent_of c.args.w.now.heap) c.in_ok-right.right) (value_in (extent_of c.args.w.now.heap) c.in_ok-old_left.old_left)
    (value_in (extent_of c.args.w.now.heap) c.in_ok-old_right.old_right)) (λ (now : Variable × Variable). suspends (Var now.0)
    (UndoExchange (defined_mover (variable_in (extent_of c.args.w.now.heap) c.in_ok-left.left) (variable_in (extent_of c.args.w.now.heap) c.in_ok-right.right))
    now.0 now.1 (value_in (extent_of c.args.w.now.heap) c.in_ok-old_left.old_left) (value_in (extent_of c.args.w.now.heap) c.in_ok-old_right.old_right)))
    (setting_of outside c.args.w.now (g.L.Locals.items c.args.l.now)) (setting_of outside c.exchange.new.w (g.L.Locals.items c.exchange.new.l))
    c.in_err-left-2.field-0.0 c.from_residual-in_err-left-2.result c.from_residual-in_err-left-2.ensures.1 (c.in_err-left-2.ensures.exchanged outside fails))

pub returns-in_err-left-2-clause-live : goal.returns-in_err-left-2-clause-live
returns-in_err-left-2-clause-live g c = stop_lives (reach_of c.exchange.new.w (g.L.Locals.items c.exchange.new.l)) c.in_err-left-2.field-0.0
    c.from_residual-in_err-left-2.result c.from_residual-in_err-left-2.ensures.1 c.in_err-left-2.ensures.live

pub returns-in-Done-clause-row : goal.returns-in-Done-clause-row
returns-in-Done-clause-row g c = λ outside.
    let done = rw c.in-Done.is at (c.in_ok-left-2.ensures.exchanged outside) in
    ((c.in_ok-old_left.ensures.value outside (λ (old_left : Value).
    the_value (item_in (extent_of c.args.w.now.heap) c.args.y) (λ (old_right : Value). the_variable (item_in (extent_of c.args.w.now.heap) c.args.x)
    (λ (left : Variable). the_variable (item_in (extent_of c.args.w.now.heap) c.args.y) (λ (right : Variable). exchanges left right old_left old_right
    (λ (now : Variable × Variable). suspends (Var now.0) (UndoExchange (defined_mover left right) now.0 now.1 old_left old_right)))))))
    ∙ ((c.in_ok-old_right.ensures.value outside (λ (old_right : Value).
    the_variable (item_in (extent_of c.args.w.now.heap) c.args.x) (λ (left : Variable). the_variable (item_in (extent_of c.args.w.now.heap) c.args.y)
    (λ (right : Variable). exchanges left right (value_in (extent_of c.args.w.now.heap) c.in_ok-old_left.old_left) old_right (λ (now : Variable × Variable).
    suspends (Var now.0) (UndoExchange (defined_mover left right) now.0 now.1 (value_in (extent_of c.args.w.now.heap) c.in_ok-old_left.old_left) old_right))))))
    ∙ ((c.in_ok-left.ensures.found (extent_of c.args.w.now.heap) (setting_of outside c.args.w.now (g.L.Locals.items c.args.l.now))
    (λ (left : Variable). the_variable (item_in (extent_of c.args.w.now.heap) c.args.y) (λ (right : Variable).
    exchanges left right (value_in (extent_of c.args.w.now.heap) c.in_ok-old_left.old_left) (value_in (extent_of c.args.w.now.heap) c.in_ok-old_right.old_right)
    (λ (now : Variable × Variable). suspends (Var now.0) (UndoExchange (defined_mover left right) now.0 now.1
    (value_in (extent_of c.args.w.now.heap) c.in_ok-old_left.old_left) (value_in (extent_of c.args.w.now.heap) c.in_ok-old_right.old_right))))))
    ∙ ((c.in_ok-right.ensures.found (extent_of c.args.w.now.heap) (setting_of outside c.args.w.now (g.L.Locals.items c.args.l.now))
    (λ (right : Variable). exchanges (variable_in (extent_of c.args.w.now.heap) c.in_ok-left.left) right
    (value_in (extent_of c.args.w.now.heap) c.in_ok-old_left.old_left) (value_in (extent_of c.args.w.now.heap) c.in_ok-old_right.old_right)
    (λ (now : Variable × Variable). suspends (Var now.0) (UndoExchange (defined_mover (variable_in (extent_of c.args.w.now.heap) c.in_ok-left.left) right)
    now.0 now.1 (value_in (extent_of c.args.w.now.heap) c.in_ok-old_left.old_left) (value_in (extent_of c.args.w.now.heap) c.in_ok-old_right.old_right)))))
    ∙ (done fails (λ (now : Variable × Variable). suspends (Var now.0)
    (UndoExchange (defined_mover (variable_in (extent_of c.args.w.now.heap) c.in_ok-left.left) (variable_in (extent_of c.args.w.now.heap) c.in_ok-right.right))
    now.0 now.1 (value_in (extent_of c.args.w.now.heap) c.in_ok-old_left.old_left) (value_in (extent_of c.args.w.now.heap) c.in_ok-old_right.old_right)))
    ∙ same_exchange (defined_mover (variable_in (extent_of c.args.w.now.heap) c.in_ok-left.left) (variable_in (extent_of c.args.w.now.heap)
    c.in_ok-right.right)) (mover_of c.mover_of-mover.result) (variable_in (extent_of c.exchange.new.w.heap) c.in-Done.left)
    (variable_in (extent_of c.exchange.new.w.heap) c.in-Done.right) (value_in (extent_of c.args.w.now.heap) c.in_ok-old_left.old_left)
    (value_in (extent_of c.exchange.new.w.heap) c.in_ok-old_left.old_left) (value_in (extent_of c.args.w.now.heap) c.in_ok-old_right.old_right)
    (value_in (extent_of c.exchange.new.w.heap) c.in_ok-old_right.old_right) (setting_of outside c.exchange.new.w (g.L.Locals.items c.exchange.new.l))
    c.mover_of-mover.ensures (c.exchange.ensures.kept.items.extent.value c.in_ok-old_left.old_left c.in_ok-old_left.ensures.live)
    (c.exchange.ensures.kept.items.extent.value c.in_ok-old_right.old_right c.in_ok-old_right.ensures.live))))))

pub returns-in-OutOfRange-clause-row : goal.returns-in-OutOfRange-clause-row
returns-in-OutOfRange-clause-row g c = λ outside.
    let refused = rw c.in-OutOfRange.is at (c.in_ok-left-2.ensures.exchanged outside) in
    ((c.in_ok-old_left.ensures.value outside (λ (old_left : Value).
    the_value (item_in (extent_of c.args.w.now.heap) c.args.y) (λ (old_right : Value). the_variable (item_in (extent_of c.args.w.now.heap) c.args.x)
    (λ (left : Variable). the_variable (item_in (extent_of c.args.w.now.heap) c.args.y) (λ (right : Variable). exchanges left right old_left old_right
    (λ (now : Variable × Variable). suspends (Var now.0) (UndoExchange (defined_mover left right) now.0 now.1 old_left old_right)))))))
    ∙ ((c.in_ok-old_right.ensures.value outside (λ (old_right : Value).
    the_variable (item_in (extent_of c.args.w.now.heap) c.args.x) (λ (left : Variable). the_variable (item_in (extent_of c.args.w.now.heap) c.args.y)
    (λ (right : Variable). exchanges left right (value_in (extent_of c.args.w.now.heap) c.in_ok-old_left.old_left) old_right (λ (now : Variable × Variable).
    suspends (Var now.0) (UndoExchange (defined_mover left right) now.0 now.1 (value_in (extent_of c.args.w.now.heap) c.in_ok-old_left.old_left) old_right))))))
    ∙ ((c.in_ok-left.ensures.found (extent_of c.args.w.now.heap) (setting_of outside c.args.w.now (g.L.Locals.items c.args.l.now))
    (λ (left : Variable). the_variable (item_in (extent_of c.args.w.now.heap) c.args.y) (λ (right : Variable).
    exchanges left right (value_in (extent_of c.args.w.now.heap) c.in_ok-old_left.old_left) (value_in (extent_of c.args.w.now.heap) c.in_ok-old_right.old_right)
    (λ (now : Variable × Variable). suspends (Var now.0) (UndoExchange (defined_mover left right) now.0 now.1
    (value_in (extent_of c.args.w.now.heap) c.in_ok-old_left.old_left) (value_in (extent_of c.args.w.now.heap) c.in_ok-old_right.old_right))))))
    ∙ ((c.in_ok-right.ensures.found (extent_of c.args.w.now.heap) (setting_of outside c.args.w.now (g.L.Locals.items c.args.l.now))
    (λ (right : Variable). exchanges (variable_in (extent_of c.args.w.now.heap) c.in_ok-left.left) right
    (value_in (extent_of c.args.w.now.heap) c.in_ok-old_left.old_left) (value_in (extent_of c.args.w.now.heap) c.in_ok-old_right.old_right)
    (λ (now : Variable × Variable). suspends (Var now.0) (UndoExchange (defined_mover (variable_in (extent_of c.args.w.now.heap) c.in_ok-left.left) right)
    now.0 now.1 (value_in (extent_of c.args.w.now.heap) c.in_ok-old_left.old_left) (value_in (extent_of c.args.w.now.heap) c.in_ok-old_right.old_right)))))
    ∙ refused fails (λ (now : Variable × Variable). suspends (Var now.0)
    (UndoExchange (defined_mover (variable_in (extent_of c.args.w.now.heap) c.in_ok-left.left) (variable_in (extent_of c.args.w.now.heap) c.in_ok-right.right))
    now.0 now.1 (value_in (extent_of c.args.w.now.heap) c.in_ok-old_left.old_left) (value_in (extent_of c.args.w.now.heap) c.in_ok-old_right.old_right)))))))

pub returns-in-Done-clause-live : goal.returns-in-Done-clause-live
returns-in-Done-clause-live g c =
    let done = rw c.in-Done.is at c.in_ok-left-2.ensures.live in
    let holds = rw c.in-Done.is at c.in_ok-left-2.ensures.holds in
    record {
      live = (
        record { live = done.0 },
        record {
          live = (
            record {
              live_variable = done.0;
              live_value = c.exchange.ensures.kept.items.extent.live c.in_ok-old_left.old_left c.in_ok-old_left.ensures.live;
              holds = still_holds (extent_of c.args.w.now.heap) c.args.x c.in_ok-left.left (variable_in (extent_of c.exchange.new.w.heap) c.in-Done.left)
                  (value_in (extent_of c.args.w.now.heap) c.in_ok-old_left.old_left) (value_in (extent_of c.exchange.new.w.heap) c.in_ok-old_left.old_left)
                  (setting_of bare_outside c.args.w.now (g.L.Locals.items c.args.l.now)) c.in_ok-left.ensures.item
                  (c.in_ok-old_left.ensures.value bare_outside) holds.0
                  (c.exchange.ensures.kept.items.extent.value c.in_ok-old_left.old_left c.in_ok-old_left.ensures.live);
            },
            record {
              live_variable = done.1;
              live_value = c.exchange.ensures.kept.items.extent.live c.in_ok-old_right.old_right c.in_ok-old_right.ensures.live;
              holds = still_holds (extent_of c.args.w.now.heap) c.args.y c.in_ok-right.right (variable_in (extent_of c.exchange.new.w.heap) c.in-Done.right)
                  (value_in (extent_of c.args.w.now.heap) c.in_ok-old_right.old_right) (value_in (extent_of c.exchange.new.w.heap) c.in_ok-old_right.old_right)
                  (setting_of bare_outside c.args.w.now (g.L.Locals.items c.args.l.now)) c.in_ok-right.ensures.item
                  (c.in_ok-old_right.ensures.value bare_outside) holds.1
                  (c.exchange.ensures.kept.items.extent.value c.in_ok-old_right.old_right c.in_ok-old_right.ensures.live);
            },
          );
        },
      );
    }
