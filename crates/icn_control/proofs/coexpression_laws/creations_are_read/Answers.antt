use Rattle.icn_control.proofs.CreationSteps.{creations_are}
use Rattle.icn_control.proofs.coexpression_laws.creations_are_read.Goals as goal

pub returns : goal.returns
returns c = creations_are
