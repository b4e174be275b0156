use Rattle.std.proofs.Common.{rules}
use Rattle.icn_value.proofs.Bits.{counted, none_below, count_member, count_absent}
use Rattle.icn_value.proofs.cset.Cset.size.Goals as goal

pub loop-byte-init : goal.loop-byte-init
loop-byte-init c = search (rules, none_below)

pub loop-byte-preserved : goal.loop-byte-preserved
loop-byte-preserved c = search (rules, count_member, count_absent)

pub returns : goal.returns
returns c = counted c.args.self.now c.loop-byte.count c.loop-byte.byte c.loop-byte.invariant.count c.loop-byte-test.false c.loop-byte.auto.byte-end
