use Rattle.icn_structs.proofs.LeafSums.{left_turn, right_turn}
use Rattle.icn_structs.proofs.counts.leaf_of.Goals as goal

pub loop-span-preserved-then-here-left : goal.loop-span-preserved-then-here-left
loop-span-preserved-then-here-left c = right_turn c.args.counts.now c.args.width c.args.number c.loop-span.node c.loop-span.span
    c.loop-span.leaf c.loop-span.left c.loop-span-test.true c.requires.summed c.loop-span.invariant c.if-here-left.true

pub loop-span-preserved : goal.loop-span-preserved
loop-span-preserved c = left_turn c.args.counts.now c.args.width c.args.number c.loop-span.node c.loop-span.span
    c.loop-span.leaf c.loop-span.left c.loop-span-test.true c.loop-span.invariant c.if-here-left.false
