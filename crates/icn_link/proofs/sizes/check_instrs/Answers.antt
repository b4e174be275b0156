use Rattle.std.proofs.Common.{arith}
use Rattle.icn_link.proofs.ToldCounts.{one_fault, one_kept}
use Rattle.icn_link.proofs.sizes.check_instrs.Goals as goal

pub returns-clause-none : goal.returns-clause-none
returns-clause-none c = one_kept c.check_count.result 16777216 c.instrs_in.result _ (omega arith) c.instrs_in.ensures c.check_count.ensures.none

pub returns-clause-fault : goal.returns-clause-fault
returns-clause-fault c = one_fault c.check_count.result 16777216 c.instrs_in.result _ (omega arith) c.instrs_in.ensures c.check_count.ensures.fault
