use Rattle.icn_control.proofs.OperandValues.{live_locals}
use Rattle.icn_machine.proofs.ValueOperationSteps.{found_on}
use Rattle.icn_machine.proofs.held_values.operand_value.Goals as goal

pub deref-requires-clause-locals : goal.deref-requires-clause-locals
deref-requires-clause-locals g c = live_locals c.requires.stack.0 _ c.args.frames.now.flat c.requires.stack.1

pub returns-in-Ok-clause-found : goal.returns-in-Ok-clause-found
returns-in-Ok-clause-found g c = found_on c.args.world.now c.args.frames.now.flat c.args.item c.in-Ok.val c.in-Ok.ensures.value
