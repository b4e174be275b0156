use Rattle.icn_machine.proofs.ValueOperationSteps.{element_plain}
use Rattle.icn_machine.proofs.value_operations.element_at.Goals as goal

pub returns-clause-plain : goal.returns-clause-plain
returns-clause-plain c = element_plain c.args.world.now c.args.list _ c.requires.list
