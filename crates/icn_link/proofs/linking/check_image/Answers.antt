use Rattle.std.proofs.Common.{arith}
use Rattle.icn_link.proofs.ToldCounts.{one_fault, one_kept}
use Rattle.icn_link.proofs.linking.check_image.Goals as goal

pub returns-clause-none : goal.returns-clause-none
returns-clause-none c = one_kept c.check_count.result 1073741824 c.image_size.result _ (omega arith) c.image_size.ensures c.check_count.ensures.none

pub returns-clause-fault : goal.returns-clause-fault
returns-clause-fault c = one_fault c.check_count.result 1073741824 c.image_size.result _ (omega arith) c.image_size.ensures c.check_count.ensures.fault
