use Rattle.icn_defs.specs.ReadAndAssign.{undoes}
use Rattle.icn_defs.specs.Rows.{fails}
use Rattle.icn_heap.specs.Extents.{value_in}
use Rattle.icn_heap.specs.Heaps.{extent_of}
use Rattle.icn_vars.specs.Worlds.{reach_of, setting_of, variable_in}
use Rattle.icn_args.proofs.RowAnswers.{row_stops_at, stop_lives}
use Rattle.icn_ops.proofs.UndoMemory.{no_want}
use Rattle.icn_ops.proofs.variables.undo_assign_again.Goals as goal

pub returns-in_err-undo-clause-row : goal.returns-in_err-undo-clause-row
returns-in_err-undo-clause-row g c = λ outside.
    row_stops_at (extent_of c.undo.new.w.heap)
    (undoes (variable_in (extent_of c.args.w.now.heap) c.args.variable) (value_in (extent_of c.args.w.now.heap) c.args.old)) fails
    (setting_of outside c.args.w.now (g.L.Locals.items c.args.l.now)) (setting_of outside c.undo.new.w (g.L.Locals.items c.undo.new.l)) c.in_err-undo.field-0.0
    c.from_residual.result c.from_residual.ensures.1 (c.in_err-undo.ensures.undone outside)

pub returns-in_err-undo-clause-live : goal.returns-in_err-undo-clause-live
returns-in_err-undo-clause-live g c = stop_lives (reach_of c.undo.new.w (g.L.Locals.items c.undo.new.l)) c.in_err-undo.field-0.0 c.from_residual.result
    c.from_residual.ensures.1 c.in_err-undo.ensures.stops

pub returns-clause-row : goal.returns-clause-row
returns-clause-row g c = λ outside. c.in_ok-undo.ensures.undone outside fails

pub returns-in_err-undo-clause-memory : goal.returns-in_err-undo-clause-memory
returns-in_err-undo-clause-memory g c = λ in_place.
    no_want c.in_err-undo.field-0.0 c.from_residual.result (c.in_err-undo.ensures.memory in_place) c.from_residual.ensures.1
