use Rattle.std.proofs.Common.{◌∙◌}
use Rattle.icn_value.specs.Values.{Value, Variable, Var}
use Rattle.icn_defs.specs.ReadAndAssign.{assigns, the_value, the_variable}
use Rattle.icn_defs.specs.Rows.{fails, gives}
use Rattle.icn_defs.specs.Variables.{assign_row}
use Rattle.icn_heap.specs.Extents.{value_in}
use Rattle.icn_heap.specs.Heaps.{extent_of}
use Rattle.icn_vars.specs.Worlds.{item_in, reach_of, setting_of, variable_in}
use Rattle.icn_args.proofs.RowAnswers.{answer_then, row_stops, stop_lives}
use Rattle.icn_ops.proofs.variables.assign_row.Goals as goal

pub returns-in_err-val-clause-row : goal.returns-in_err-val-clause-row
returns-in_err-val-clause-row g c = λ outside.
    row_stops (extent_of c.args.w.now.heap) (the_value (item_in (extent_of c.args.w.now.heap) c.args.y)) (λ (val : Value).
    the_variable (item_in (extent_of c.args.w.now.heap) c.args.x) (λ (target : Variable). assigns target val (λ (now : Variable). gives (Var now))))
    (setting_of outside c.args.w.now (g.L.Locals.items c.args.l.now)) (setting_of outside c.args.w.now (g.L.Locals.items c.args.l.now)) c.in_err-val.field-0.0
    c.from_residual.result c.from_residual.ensures.1 (c.in_err-val.ensures.value outside)

pub returns-in_err-val-clause-live : goal.returns-in_err-val-clause-live
returns-in_err-val-clause-live g c = stop_lives (reach_of c.args.w.now (g.L.Locals.items c.args.l.now)) c.in_err-val.field-0.0 c.from_residual.result
    c.from_residual.ensures.1 c.in_err-val.ensures.stops

pub returns-in_err-target-clause-row : goal.returns-in_err-target-clause-row
returns-in_err-target-clause-row g c = λ outside.
    answer_then (extent_of c.args.w.now.heap) (assign_row (item_in (extent_of c.args.w.now.heap) c.args.x) (item_in (extent_of c.args.w.now.heap) c.args.y))
    (the_variable (item_in (extent_of c.args.w.now.heap) c.args.x)
    (λ (target : Variable). assigns target (value_in (extent_of c.args.w.now.heap) c.in_ok-val.val) (λ (now : Variable). gives (Var now))))
    (setting_of outside c.args.w.now (g.L.Locals.items c.args.l.now)) (setting_of outside c.args.w.now (g.L.Locals.items c.args.l.now))
    (setting_of outside c.args.w.now (g.L.Locals.items c.args.l.now)) c.from_residual-in_err-target.result (c.in_ok-val.ensures.value outside (λ (val : Value).
    the_variable (item_in (extent_of c.args.w.now.heap) c.args.x) (λ (target : Variable). assigns target val (λ (now : Variable). gives (Var now)))))
    (row_stops (extent_of c.args.w.now.heap) (the_variable (item_in (extent_of c.args.w.now.heap) c.args.x))
    (λ (target : Variable). assigns target (value_in (extent_of c.args.w.now.heap) c.in_ok-val.val) (λ (now : Variable). gives (Var now)))
    (setting_of outside c.args.w.now (g.L.Locals.items c.args.l.now)) (setting_of outside c.args.w.now (g.L.Locals.items c.args.l.now))
    c.in_err-target.field-0.0 c.from_residual-in_err-target.result c.from_residual-in_err-target.ensures.1
    (c.in_err-target.ensures.found (extent_of c.args.w.now.heap) (setting_of outside c.args.w.now (g.L.Locals.items c.args.l.now))))

pub returns-in_err-target-clause-live : goal.returns-in_err-target-clause-live
returns-in_err-target-clause-live g c =
    stop_lives (reach_of c.args.w.now (g.L.Locals.items c.args.l.now)) c.in_err-target.field-0.0 c.from_residual-in_err-target.result
    c.from_residual-in_err-target.ensures.1 (c.in_err-target.ensures.stops (reach_of c.args.w.now (g.L.Locals.items c.args.l.now)) c.requires.live.first)

pub returns-in_err-now-clause-row : goal.returns-in_err-now-clause-row
returns-in_err-now-clause-row g c = λ outside.
    answer_then (extent_of c.assign.new.w.heap) (assign_row (item_in (extent_of c.args.w.now.heap) c.args.x) (item_in (extent_of c.args.w.now.heap) c.args.y))
    (assigns (variable_in (extent_of c.args.w.now.heap) c.in_ok-target.target) (value_in (extent_of c.args.w.now.heap) c.in_ok-val.val)
    (λ (now : Variable). gives (Var now))) (setting_of outside c.args.w.now (g.L.Locals.items c.args.l.now))
    (setting_of outside c.args.w.now (g.L.Locals.items c.args.l.now)) (setting_of outside c.assign.new.w (g.L.Locals.items c.assign.new.l))
    c.from_residual-in_err-now.result ((c.in_ok-val.ensures.value outside (λ (val : Value).
    the_variable (item_in (extent_of c.args.w.now.heap) c.args.x) (λ (target : Variable). assigns target val (λ (now : Variable). gives (Var now)))))
    ∙ (c.in_ok-target.ensures.found (extent_of c.args.w.now.heap) (setting_of outside c.args.w.now (g.L.Locals.items c.args.l.now))
    (λ (target : Variable). assigns target (value_in (extent_of c.args.w.now.heap) c.in_ok-val.val) (λ (now : Variable). gives (Var now)))))
    (row_stops (extent_of c.assign.new.w.heap) (assigns (variable_in (extent_of c.args.w.now.heap) c.in_ok-target.target)
    (value_in (extent_of c.args.w.now.heap) c.in_ok-val.val)) (λ (now : Variable). gives (Var now))
    (setting_of outside c.args.w.now (g.L.Locals.items c.args.l.now)) (setting_of outside c.assign.new.w (g.L.Locals.items c.assign.new.l))
    c.in_err-now.field-0.0 c.from_residual-in_err-now.result c.from_residual-in_err-now.ensures.1 (c.in_err-now.ensures.assigned outside fails))

pub returns-in_err-now-clause-live : goal.returns-in_err-now-clause-live
returns-in_err-now-clause-live g c = stop_lives (reach_of c.assign.new.w (g.L.Locals.items c.assign.new.l)) c.in_err-now.field-0.0
    c.from_residual-in_err-now.result c.from_residual-in_err-now.ensures.1 c.in_err-now.ensures.live

pub returns-in-Done-clause-row : goal.returns-in-Done-clause-row
returns-in-Done-clause-row g c = λ outside.
    let done = rw c.in-Done.is at (c.in_ok-now.ensures.assigned outside) in
    ((c.in_ok-val.ensures.value outside (λ (val : Value).
    the_variable (item_in (extent_of c.args.w.now.heap) c.args.x) (λ (target : Variable). assigns target val (λ (now : Variable). gives (Var now)))))
    ∙ ((c.in_ok-target.ensures.found (extent_of c.args.w.now.heap) (setting_of outside c.args.w.now (g.L.Locals.items c.args.l.now))
    (λ (target : Variable). assigns target (value_in (extent_of c.args.w.now.heap) c.in_ok-val.val) (λ (now : Variable). gives (Var now))))
    ∙ done fails (λ (now : Variable). gives (Var now))))

pub returns-in-OutOfRange-clause-row : goal.returns-in-OutOfRange-clause-row
returns-in-OutOfRange-clause-row g c = λ outside.
    let refused = rw c.in-OutOfRange.is at (c.in_ok-now.ensures.assigned outside) in
    ((c.in_ok-val.ensures.value outside (λ (val : Value).
    the_variable (item_in (extent_of c.args.w.now.heap) c.args.x) (λ (target : Variable). assigns target val (λ (now : Variable). gives (Var now)))))
    ∙ ((c.in_ok-target.ensures.found (extent_of c.args.w.now.heap) (setting_of outside c.args.w.now (g.L.Locals.items c.args.l.now))
    (λ (target : Variable). assigns target (value_in (extent_of c.args.w.now.heap) c.in_ok-val.val) (λ (now : Variable). gives (Var now))))
    ∙ refused fails (λ (now : Variable). gives (Var now))))
