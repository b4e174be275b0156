use Rattle.std.proofs.Common.{◌∙◌}
use Rattle.icn_value.specs.Values.{Value, Variable, Var}
use Rattle.icn_value.specs.Store.{bare_outside}
use Rattle.icn_defs.specs.ReadAndAssign.{assigns, the_value, the_variable}
use Rattle.icn_defs.specs.Rows.{UndoAssign, fails, suspends}
use Rattle.icn_defs.specs.Variables.{reversible_assign_row}
use Rattle.icn_heap.specs.Extents.{value_in}
use Rattle.icn_heap.specs.Heaps.{extent_of}
use Rattle.icn_vars.specs.Worlds.{item_in, reach_of, setting_of, variable_in}
use Rattle.icn_args.proofs.RowAnswers.{answer_then, row_stops, stop_lives}
use Rattle.icn_ops.proofs.VariableRows.{same_undo, still_holds}
use Rattle.icn_ops.proofs.variables.reversible_assign_row.Goals as goal

pub returns-in_err-old-clause-row : goal.returns-in_err-old-clause-row
returns-in_err-old-clause-row g c = λ outside.
    row_stops (extent_of c.args.w.now.heap) (the_value (item_in (extent_of c.args.w.now.heap) c.args.x))
    (λ (old : Value). the_value (item_in (extent_of c.args.w.now.heap) c.args.y) (λ (val : Value). the_variable (item_in (extent_of c.args.w.now.heap) c.args.x)
    (λ (target : Variable). assigns target val (λ (now : Variable). suspends (Var now) (UndoAssign now old)))))
    (setting_of outside c.args.w.now (g.L.Locals.items c.args.l.now)) (setting_of outside c.args.w.now (g.L.Locals.items c.args.l.now)) c.in_err-old.field-0.0
    c.from_residual.result c.from_residual.ensures.1 (c.in_err-old.ensures.value outside)

pub returns-in_err-old-clause-live : goal.returns-in_err-old-clause-live
returns-in_err-old-clause-live g c = stop_lives (reach_of c.args.w.now (g.L.Locals.items c.args.l.now)) c.in_err-old.field-0.0 c.from_residual.result
    c.from_residual.ensures.1 c.in_err-old.ensures.stops

pub returns-in_err-val-clause-row : goal.returns-in_err-val-clause-row
returns-in_err-val-clause-row g c = λ outside.
    answer_then (extent_of c.args.w.now.heap)
    (reversible_assign_row (item_in (extent_of c.args.w.now.heap) c.args.x) (item_in (extent_of c.args.w.now.heap) c.args.y)) (the_value
    (item_in (extent_of c.args.w.now.heap) c.args.y) (λ (val : Value). the_variable (item_in (extent_of c.args.w.now.heap) c.args.x) (λ (target : Variable).
    assigns target val (λ (now : Variable). suspends (Var now) (UndoAssign now (value_in (extent_of c.args.w.now.heap) c.in_ok-old.old))))))
    (setting_of outside c.args.w.now (g.L.Locals.items c.args.l.now)) (setting_of outside c.args.w.now (g.L.Locals.items c.args.l.now))
    (setting_of outside c.args.w.now (g.L.Locals.items c.args.l.now)) c.from_residual-in_err-val.result (c.in_ok-old.ensures.value outside
    (λ (old : Value). the_value (item_in (extent_of c.args.w.now.heap) c.args.y) (λ (val : Value). the_variable (item_in (extent_of c.args.w.now.heap) c.args.x)
    (λ (target : Variable). assigns target val (λ (now : Variable). suspends (Var now) (UndoAssign now old))))))
    (row_stops (extent_of c.args.w.now.heap) (the_value (item_in (extent_of c.args.w.now.heap) c.args.y))
    (λ (val : Value). the_variable (item_in (extent_of c.args.w.now.heap) c.args.x) (λ (target : Variable).
    assigns target val (λ (now : Variable). suspends (Var now) (UndoAssign now (value_in (extent_of c.args.w.now.heap) c.in_ok-old.old)))))
    (setting_of outside c.args.w.now (g.L.Locals.items c.args.l.now)) (setting_of outside c.args.w.now (g.L.Locals.items c.args.l.now)) c.in_err-val.field-0.0
    c.from_residual-in_err-val.result c.from_residual-in_err-val.ensures.1 (c.in_err-val.ensures.value outside))

pub returns-in_err-val-clause-live : goal.returns-in_err-val-clause-live
returns-in_err-val-clause-live g c = stop_lives (reach_of c.args.w.now (g.L.Locals.items c.args.l.now)) c.in_err-val.field-0.0 c.from_residual-in_err-val.result
    c.from_residual-in_err-val.ensures.1 c.in_err-val.ensures.stops

pub returns-in_err-target-clause-row : goal.returns-in_err-target-clause-row
returns-in_err-target-clause-row g c = λ outside.
    answer_then
    (extent_of c.args.w.now.heap) (reversible_assign_row (item_in (extent_of c.args.w.now.heap) c.args.x) (item_in (extent_of c.args.w.now.heap) c.args.y))
    (the_variable (item_in (extent_of c.args.w.now.heap) c.args.x) (λ (target : Variable). assigns target (value_in (extent_of c.args.w.now.heap)
    c.in_ok-val.val) (λ (now : Variable). suspends (Var now) (UndoAssign now (value_in (extent_of c.args.w.now.heap) c.in_ok-old.old)))))
    (setting_of outside c.args.w.now (g.L.Locals.items c.args.l.now)) (setting_of outside c.args.w.now (g.L.Locals.items c.args.l.now))
    (setting_of outside c.args.w.now (g.L.Locals.items c.args.l.now)) c.from_residual-in_err-target.result ((c.in_ok-old.ensures.value outside
    (λ (old : Value). the_value (item_in (extent_of c.args.w.now.heap) c.args.y) (λ (val : Value). the_variable (item_in (extent_of c.args.w.now.heap) c.args.x)
    (λ (target : Variable). assigns target val (λ (now : Variable). suspends (Var now) (UndoAssign now old))))))
    ∙ (c.in_ok-val.ensures.value outside (λ (val : Value). the_variable (item_in (extent_of c.args.w.now.heap) c.args.x) (λ (target : Variable).
    assigns target val (λ (now : Variable). suspends (Var now) (UndoAssign now (value_in (extent_of c.args.w.now.heap) c.in_ok-old.old)))))))
    (row_stops (extent_of c.args.w.now.heap) (the_variable (item_in (extent_of c.args.w.now.heap) c.args.x))
    (λ (target : Variable). assigns target (value_in (extent_of c.args.w.now.heap) c.in_ok-val.val)
    (λ (now : Variable). suspends (Var now) (UndoAssign now (value_in (extent_of c.args.w.now.heap) c.in_ok-old.old))))
    (setting_of outside c.args.w.now (g.L.Locals.items c.args.l.now)) (setting_of outside c.args.w.now (g.L.Locals.items c.args.l.now))
    c.in_err-target.field-0.0 c.from_residual-in_err-target.result c.from_residual-in_err-target.ensures.1
    (c.in_err-target.ensures.found (extent_of c.args.w.now.heap) (setting_of outside c.args.w.now (g.L.Locals.items c.args.l.now))))

pub returns-in_err-target-clause-live : goal.returns-in_err-target-clause-live
returns-in_err-target-clause-live g c =
    stop_lives (reach_of c.args.w.now (g.L.Locals.items c.args.l.now)) c.in_err-target.field-0.0 c.from_residual-in_err-target.result
    c.from_residual-in_err-target.ensures.1 (c.in_err-target.ensures.stops (reach_of c.args.w.now (g.L.Locals.items c.args.l.now)) c.requires.live.first)

pub returns-in_err-variable-clause-row : goal.returns-in_err-variable-clause-row
returns-in_err-variable-clause-row g c = λ outside.
    answer_then
    (extent_of c.assign.new.w.heap) (reversible_assign_row (item_in (extent_of c.args.w.now.heap) c.args.x) (item_in (extent_of c.args.w.now.heap) c.args.y))
    (assigns (variable_in (extent_of c.args.w.now.heap) c.in_ok-target.target) (value_in (extent_of c.args.w.now.heap) c.in_ok-val.val)
    (λ (now : Variable). suspends (Var now) (UndoAssign now (value_in (extent_of c.args.w.now.heap) c.in_ok-old.old))))
    (setting_of outside c.args.w.now (g.L.Locals.items c.args.l.now)) (setting_of outside c.args.w.now (g.L.Locals.items c.args.l.now))
    (setting_of outside c.assign.new.w (g.L.Locals.items c.assign.new.l)) c.from_residual-in_err-variable.result ((c.in_ok-old.ensures.value outside
    (λ (old : Value). the_value (item_in (extent_of c.args.w.now.heap) c.args.y) (λ (val : Value). the_variable (item_in (extent_of c.args.w.now.heap) c.args.x)
    (λ (target : Variable). assigns target val (λ (now : Variable). suspends (Var now) (UndoAssign now old))))))
    ∙ ((c.in_ok-val.ensures.value outside (λ (val : Value). the_variable (item_in (extent_of c.args.w.now.heap) c.args.x) (λ (target : Variable).
    assigns target val (λ (now : Variable). suspends (Var now) (UndoAssign now (value_in (extent_of c.args.w.now.heap) c.in_ok-old.old))))))
    ∙ (c.in_ok-target.ensures.found (extent_of c.args.w.now.heap) (setting_of outside c.args.w.now (g.L.Locals.items c.args.l.now))
    (λ (target : Variable). assigns target (value_in (extent_of c.args.w.now.heap) c.in_ok-val.val)
    (λ (now : Variable). suspends (Var now) (UndoAssign now (value_in (extent_of c.args.w.now.heap) c.in_ok-old.old)))))))
    (row_stops (extent_of c.assign.new.w.heap)
    (assigns (variable_in (extent_of c.args.w.now.heap) c.in_ok-target.target) (value_in (extent_of c.args.w.now.heap) c.in_ok-val.val))
    (λ (now : Variable). suspends (Var now) (UndoAssign now (value_in (extent_of c.args.w.now.heap) c.in_ok-old.old))) (setting_of outside c.args.w.now
    (g.L.Locals.items c.args.l.now)) (setting_of outside c.assign.new.w (g.L.Locals.items c.assign.new.l)) c.in_err-variable.field-0.0
    c.from_residual-in_err-variable.result c.from_residual-in_err-variable.ensures.1 (c.in_err-variable.ensures.assigned outside fails))

pub returns-in_err-variable-clause-live : goal.returns-in_err-variable-clause-live
returns-in_err-variable-clause-live g c = stop_lives (reach_of c.assign.new.w (g.L.Locals.items c.assign.new.l)) c.in_err-variable.field-0.0
    c.from_residual-in_err-variable.result c.from_residual-in_err-variable.ensures.1 c.in_err-variable.ensures.live

pub returns-in-Done-clause-row : goal.returns-in-Done-clause-row
returns-in-Done-clause-row g c = λ outside.
    let done = rw c.in-Done.is at (c.in_ok-variable.ensures.assigned outside) in
    ((c.in_ok-old.ensures.value outside (λ (old : Value). the_value (item_in (extent_of c.args.w.now.heap) c.args.y) (λ (val : Value). the_variable (item_in
    (extent_of c.args.w.now.heap) c.args.x) (λ (target : Variable). assigns target val (λ (now : Variable). suspends (Var now) (UndoAssign now old))))))
    ∙ ((c.in_ok-val.ensures.value outside (λ (val : Value). the_variable (item_in (extent_of c.args.w.now.heap) c.args.x) (λ (target : Variable).
    assigns target val (λ (now : Variable). suspends (Var now) (UndoAssign now (value_in (extent_of c.args.w.now.heap) c.in_ok-old.old))))))
    ∙ ((c.in_ok-target.ensures.found (extent_of c.args.w.now.heap) (setting_of outside c.args.w.now (g.L.Locals.items c.args.l.now))
    (λ (target : Variable). assigns target (value_in (extent_of c.args.w.now.heap) c.in_ok-val.val)
    (λ (now : Variable). suspends (Var now) (UndoAssign now (value_in (extent_of c.args.w.now.heap) c.in_ok-old.old)))))
    ∙ (done fails (λ (now : Variable). suspends (Var now) (UndoAssign now (value_in (extent_of c.args.w.now.heap) c.in_ok-old.old)))
    ∙ same_undo (variable_in (extent_of c.assign.new.w.heap) c.in-Done.variable) (value_in (extent_of c.args.w.now.heap) c.in_ok-old.old)
    (value_in (extent_of c.assign.new.w.heap) c.in_ok-old.old) (setting_of outside c.assign.new.w (g.L.Locals.items c.assign.new.l))
    (c.assign.ensures.kept.items.extent.value c.in_ok-old.old c.in_ok-old.ensures.live)))))

pub returns-in-OutOfRange-clause-row : goal.returns-in-OutOfRange-clause-row
returns-in-OutOfRange-clause-row g c = λ outside.
    let refused = rw c.in-OutOfRange.is at (c.in_ok-variable.ensures.assigned outside) in
    ((c.in_ok-old.ensures.value outside (λ (old : Value). the_value (item_in (extent_of c.args.w.now.heap) c.args.y) (λ (val : Value). the_variable (item_in
    (extent_of c.args.w.now.heap) c.args.x) (λ (target : Variable). assigns target val (λ (now : Variable). suspends (Var now) (UndoAssign now old))))))
    ∙ ((c.in_ok-val.ensures.value outside (λ (val : Value). the_variable (item_in (extent_of c.args.w.now.heap) c.args.x) (λ (target : Variable).
    assigns target val (λ (now : Variable). suspends (Var now) (UndoAssign now (value_in (extent_of c.args.w.now.heap) c.in_ok-old.old))))))
    ∙ ((c.in_ok-target.ensures.found (extent_of c.args.w.now.heap) (setting_of outside c.args.w.now (g.L.Locals.items c.args.l.now))
    (λ (target : Variable). assigns target (value_in (extent_of c.args.w.now.heap) c.in_ok-val.val)
    (λ (now : Variable). suspends (Var now) (UndoAssign now (value_in (extent_of c.args.w.now.heap) c.in_ok-old.old)))))
    ∙ refused fails (λ (now : Variable). suspends (Var now) (UndoAssign now (value_in (extent_of c.args.w.now.heap) c.in_ok-old.old))))))

pub returns-in-Done-clause-live : goal.returns-in-Done-clause-live
returns-in-Done-clause-live g c =
    let done = rw c.in-Done.is at c.in_ok-variable.ensures.live in
    let holds = rw c.in-Done.is at c.in_ok-variable.ensures.holds in
    record {
      live = (
        record { live = done },
        record {
          live = record {
            live_variable = done;
            live_value = c.assign.ensures.kept.items.extent.live c.in_ok-old.old c.in_ok-old.ensures.live;
            holds = still_holds (extent_of c.args.w.now.heap) c.args.x c.in_ok-target.target (variable_in (extent_of c.assign.new.w.heap) c.in-Done.variable)
                (value_in (extent_of c.args.w.now.heap) c.in_ok-old.old) (value_in (extent_of c.assign.new.w.heap) c.in_ok-old.old)
                (setting_of bare_outside c.args.w.now (g.L.Locals.items c.args.l.now)) c.in_ok-target.ensures.item
                (c.in_ok-old.ensures.value bare_outside) holds
                (c.assign.ensures.kept.items.extent.value c.in_ok-old.old c.in_ok-old.ensures.live);
          };
        },
      );
    }
