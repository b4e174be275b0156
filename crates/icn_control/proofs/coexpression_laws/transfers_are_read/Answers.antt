use Rattle.icn_control.proofs.TransferSteps.{transfers_read}
use Rattle.icn_control.proofs.coexpression_laws.transfers_are_read.Goals as goal

pub returns : goal.returns
returns c = transfers_read
