use Rattle.std.proofs.Common.{None}
use Rattle.icn_defs.specs.ReadAndAssign.{undoes}
use Rattle.icn_defs.specs.Rows.{wrong}
use Rattle.icn_heap.specs.Extents.{value_in}
use Rattle.icn_heap.specs.Heaps.{extent_of}
use Rattle.icn_vars.specs.Worlds.{setting_of, variable_in}
use Rattle.icn_vars.proofs.HeapChanges.{stopped_part}
use Rattle.icn_vars.proofs.PartChanges.{undo_stops}
use Rattle.icn_vars.proofs.undoing.undo.Goals as goal

pub returns-in_err-assign-clause-undone : goal.returns-in_err-assign-clause-undone
returns-in_err-assign-clause-undone g c = λ outside.
    stopped_part (extent_of c.assign.new.w.heap) (undoes (variable_in (extent_of c.args.w.now.heap) c.args.variable)
    (value_in (extent_of c.args.w.now.heap) c.args.old)) (setting_of outside c.args.w.now (g.L.Locals.items c.args.l.now))
    (setting_of outside c.assign.new.w (g.L.Locals.items c.assign.new.l)) c.in_err-assign.field-0.0 c.from_residual.result c.from_residual.ensures.1
    (undo_stops (extent_of c.assign.new.w.heap) (variable_in (extent_of c.args.w.now.heap) c.args.variable)
    (value_in (extent_of c.args.w.now.heap) c.args.old) (setting_of outside c.args.w.now (g.L.Locals.items c.args.l.now))
    (setting_of outside c.assign.new.w (g.L.Locals.items c.assign.new.l)) c.in_err-assign.field-0.0 (c.in_err-assign.ensures.assigned outside))

pub returns-in-Done-clause-undone : goal.returns-in-Done-clause-undone
returns-in-Done-clause-undone g c = λ outside next.
    let done = rw c.in-Done.is at (c.in_ok-assign.ensures.assigned outside) in
    done (wrong 205 None) (λ now. next)

pub returns-in-OutOfRange-clause-undone : goal.returns-in-OutOfRange-clause-undone
returns-in-OutOfRange-clause-undone g c = λ outside next.
    let refused = rw c.in-OutOfRange.is at (c.in_ok-assign.ensures.assigned outside) in
    refused (wrong 205 None) (λ now. next)
