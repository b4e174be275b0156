use Rattle.icn_unit.proofs.Decimals.{hexadecimal_step}
use Rattle.icn_unit.proofs.operand.hexadecimal_bytes.Goals as goal

pub loop-first-preserved : goal.loop-first-preserved
loop-first-preserved c =
    rw c.in_ok-push.ensures.items
    (hexadecimal_step c.loop-first.bytes.items c.args.text.now c.loop-first.rest.now c.in-Some.others.now c.in-Some-split_first.behind.now c.in-Some.first.now
    c.in-Some-split_first.second.now c.in-Some-byte_of.byte
    c.in-Some.ensures.cases.0 c.in-Some-split_first.ensures.cases.0 c.in-Some-byte_of.ensures c.loop-first.invariant)
