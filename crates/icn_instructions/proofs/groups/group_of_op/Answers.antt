use Rattle.std.proofs.Common.{sym}
use Rattle.icn_instructions.proofs.GroupSteps.{other_op}
use Rattle.icn_instructions.proofs.groups.group_of_op.Goals as goal

pub returns-in_default : goal.returns-in_default
returns-in_default c = sym (other_op c.args.op c.in_default.not-Refresh)
