use Rattle.std.proofs.Common.{arith}
use Rattle.icn_machine.proofs.told.integer_held.Goals as goal

pub local_integer-requires : goal.local_integer-requires
local_integer-requires g c = omega (arith, c.local_count.ensures.count, c.if-index-local_count.false)
