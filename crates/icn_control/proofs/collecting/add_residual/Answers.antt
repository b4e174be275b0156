use Rattle.std.proofs.Common.{sym, subst}
use Rattle.icn_value.specs.declared.residual.Residual.{Residual}
use Rattle.icn_heap.specs.NeededValues.{AreNeeded}
use Rattle.icn_heap.proofs.NeededSteps.{needed_then}
use Rattle.icn_control.specs.NeededStacks.{residual_vals}
use Rattle.icn_control.proofs.collecting.add_residual.Goals as goal

pub returns-in_ok-add_old-in-UndoExchange-2 : goal.returns-in_ok-add_old-in-UndoExchange-2
returns-in_ok-add_old-in-UndoExchange-2 c =
    subst (λ (r : Residual). AreNeeded c.args.needed.now c.add_old-in-UndoExchange-2.new.needed (residual_vals r)) (sym c.in-UndoExchange.is)
    (needed_then c.in_ok-add_old-in-UndoExchange.ensures c.in_ok-add_old-in-UndoExchange-2.ensures)

pub returns-in_ok-add_text-in-Found-2 : goal.returns-in_ok-add_text-in-Found-2
returns-in_ok-add_text-in-Found-2 c =
    subst (λ (r : Residual). AreNeeded c.args.needed.now c.add_text-in-Found-2.new.needed (residual_vals r)) (sym c.in-Found.is)
    (needed_then c.in_ok-add_text-in-Found.ensures c.in_ok-add_text-in-Found-2.ensures)
