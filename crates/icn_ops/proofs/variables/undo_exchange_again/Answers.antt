use Rattle.icn_defs.specs.ReadAndAssign.{undoes_exchange}
use Rattle.icn_defs.specs.Rows.{fails}
use Rattle.icn_heap.specs.Extents.{value_in}
use Rattle.icn_heap.specs.Heaps.{extent_of}
use Rattle.icn_vars.specs.Outcomes.{mover_of}
use Rattle.icn_vars.specs.Worlds.{reach_of, setting_of, variable_in}
use Rattle.icn_args.proofs.RowAnswers.{row_stops_at, stop_lives}
use Rattle.icn_ops.proofs.UndoMemory.{no_want}
use Rattle.icn_ops.proofs.variables.undo_exchange_again.Goals as goal

pub returns-in_err-undo_exchange-clause-row : goal.returns-in_err-undo_exchange-clause-row
returns-in_err-undo_exchange-clause-row g c = λ outside.
    row_stops_at (extent_of c.undo_exchange.new.w.heap)
    (undoes_exchange (mover_of c.args.mover) (variable_in (extent_of c.args.w.now.heap) c.args.left) (variable_in (extent_of c.args.w.now.heap) c.args.right)
    (value_in (extent_of c.args.w.now.heap) c.args.old_left) (value_in (extent_of c.args.w.now.heap) c.args.old_right))
    fails (setting_of outside c.args.w.now (g.L.Locals.items c.args.l.now)) (setting_of outside c.undo_exchange.new.w (g.L.Locals.items c.undo_exchange.new.l))
    c.in_err-undo_exchange.field-0.0 c.from_residual.result c.from_residual.ensures.1 (c.in_err-undo_exchange.ensures.undone outside)

pub returns-in_err-undo_exchange-clause-live : goal.returns-in_err-undo_exchange-clause-live
returns-in_err-undo_exchange-clause-live g c = stop_lives (reach_of c.undo_exchange.new.w (g.L.Locals.items c.undo_exchange.new.l))
    c.in_err-undo_exchange.field-0.0 c.from_residual.result c.from_residual.ensures.1 c.in_err-undo_exchange.ensures.stops

pub returns-clause-row : goal.returns-clause-row
returns-clause-row g c = λ outside. c.in_ok-undo_exchange.ensures.undone outside fails

pub returns-in_err-undo_exchange-clause-memory : goal.returns-in_err-undo_exchange-clause-memory
returns-in_err-undo_exchange-clause-memory g c = λ neither one two.
    no_want c.in_err-undo_exchange.field-0.0 c.from_residual.result (c.in_err-undo_exchange.ensures.memory neither one two) c.from_residual.ensures.1
