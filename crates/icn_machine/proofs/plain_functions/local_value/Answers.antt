use Rattle.std.proofs.Common.{arith}
use Rattle.icn_machine.proofs.plain_functions.local_value.Goals as goal

pub local-requires : goal.local-requires
local-requires g c = omega (arith, c.local_count.ensures.count, c.if-index-local_count.false)
