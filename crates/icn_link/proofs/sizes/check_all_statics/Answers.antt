use Rattle.std.proofs.Common.{arith}
use Rattle.icn_link.proofs.ToldCounts.{one_fault, one_kept}
use Rattle.icn_link.proofs.sizes.check_all_statics.Goals as goal

pub returns-clause-none : goal.returns-clause-none
returns-clause-none c = one_kept c.check_count.result 4294967295 c.all_statics.result _ (omega arith) c.all_statics.ensures c.check_count.ensures.none

pub returns-clause-fault : goal.returns-clause-fault
returns-clause-fault c = one_fault c.check_count.result 4294967295 c.all_statics.result _ (omega arith) c.all_statics.ensures c.check_count.ensures.fault
