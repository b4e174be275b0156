use Rattle.std.proofs.Common.{IsSome, subst, sym}
use Rattle.icn_text.specs.declared.op.Op.{Op}
use Rattle.icn_defs.specs.Arities.{arity}
use Rattle.icn_control.specs.TakenOperands.{take_operands}
use Rattle.icn_machine.specs.PlainOperations.{OperatesInWorld}
use Rattle.icn_machine.proofs.plain_operations.operate_as_held.Goals as goal

pub assign_held-requires-clause-operands : goal.assign_held-requires-clause-operands
assign_held-requires-clause-operands g c = subst (λ (o : Op). IsSome (take_operands (arity o) c.args.frames.now.flat)) c.in-Assign.is c.requires.operands

pub assign_held-requires-clause-live : goal.assign_held-requires-clause-live
assign_held-requires-clause-live g c = c.requires.live

pub returns-in-Assign : goal.returns-in-Assign
returns-in-Assign g c =
    subst (λ (o : Op). OperatesInWorld c.args.world.now o c.args.frames.now.flat c.assign_held.new.frames.flat c.assign_held.result) (sym c.in-Assign.is)
    c.assign_held.ensures

pub returns-in_default : goal.returns-in_default
returns-in_default g c = c.operate_on_values.ensures
