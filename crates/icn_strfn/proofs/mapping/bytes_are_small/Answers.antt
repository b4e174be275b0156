use Rattle.std.proofs.Common.{arith}
use Rattle.icn_strfn.proofs.mapping.bytes_are_small.Goals as goal

pub returns : goal.returns
returns c k = omega (arith, c.type_inv.text k)
