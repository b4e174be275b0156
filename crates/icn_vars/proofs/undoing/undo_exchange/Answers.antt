use Rattle.std.proofs.Common.{None}
use Rattle.icn_defs.specs.ReadAndAssign.{undoes_exchange}
use Rattle.icn_defs.specs.Rows.{wrong}
use Rattle.icn_heap.specs.Extents.{value_in}
use Rattle.icn_heap.specs.Heaps.{extent_of}
use Rattle.icn_vars.specs.Outcomes.{mover_of}
use Rattle.icn_vars.specs.Worlds.{setting_of, variable_in}
use Rattle.icn_vars.proofs.HeapChanges.{stopped_part}
use Rattle.icn_vars.proofs.Exchanges.{undo_exchange_stops}
use Rattle.icn_vars.proofs.UndoMemory.{error_alone}
use Rattle.icn_vars.proofs.undoing.undo_exchange.Goals as goal

pub returns-in_err-assign_both-clause-undone : goal.returns-in_err-assign_both-clause-undone
returns-in_err-assign_both-clause-undone g c = λ outside.
    stopped_part (extent_of c.assign_both.new.w.heap)
    (undoes_exchange (mover_of c.args.mover) (variable_in (extent_of c.args.w.now.heap) c.args.left) (variable_in (extent_of c.args.w.now.heap) c.args.right)
    (value_in (extent_of c.args.w.now.heap) c.args.old_left) (value_in (extent_of c.args.w.now.heap) c.args.old_right))
    (setting_of outside c.args.w.now (g.L.Locals.items c.args.l.now)) (setting_of outside c.assign_both.new.w (g.L.Locals.items c.assign_both.new.l))
    c.in_err-assign_both.field-0.0 c.from_residual.result c.from_residual.ensures.1
    (undo_exchange_stops (extent_of c.assign_both.new.w.heap) (mover_of c.args.mover) (variable_in (extent_of c.args.w.now.heap) c.args.left)
    (variable_in (extent_of c.args.w.now.heap) c.args.right) (value_in (extent_of c.args.w.now.heap) c.args.old_left)
    (value_in (extent_of c.args.w.now.heap) c.args.old_right) (setting_of outside c.args.w.now (g.L.Locals.items c.args.l.now)) (setting_of outside
    c.assign_both.new.w (g.L.Locals.items c.assign_both.new.l)) c.in_err-assign_both.field-0.0 (c.in_err-assign_both.ensures.exchanged outside))

pub returns-in-Done-clause-undone : goal.returns-in-Done-clause-undone
returns-in-Done-clause-undone g c = λ outside next.
    let done = rw c.in-Done.is at (c.in_ok-assign_both.ensures.exchanged outside) in
    done (wrong 205 None) (λ now. next)

pub returns-in-OutOfRange-clause-undone : goal.returns-in-OutOfRange-clause-undone
returns-in-OutOfRange-clause-undone g c = λ outside next.
    let refused = rw c.in-OutOfRange.is at (c.in_ok-assign_both.ensures.exchanged outside) in
    refused (wrong 205 None) (λ now. next)

pub returns-in_err-assign_both-clause-memory : goal.returns-in_err-assign_both-clause-memory
returns-in_err-assign_both-clause-memory g c = λ neither one two.
    error_alone c.in_err-assign_both.field-0.0 c.from_residual.result
    (c.in_err-assign_both.ensures.memory neither one two c.requires.left.holds c.requires.right.holds) c.from_residual.ensures.1
