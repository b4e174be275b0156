use Rattle.std.proofs.Common.{rules, arith}
use Rattle.icn_value.proofs.Bits.{with_members}
use Rattle.icn_value.proofs.cset.Cset.with.Goals as goal

pub returns : goal.returns
returns c = with_members c.args.self c.args.byte c.from.result (omega (arith, c.ranges.byte.fits)) c.from.ensures (search rules)
