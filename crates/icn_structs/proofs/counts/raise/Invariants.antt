use Rattle.icn_structs.proofs.RaisedCounts.{IsRaisedTo}
use Rattle.icn_structs.proofs.counts.raise.Given as goal

abbrev pub invariant-loop-node : goal.invariant-loop-node
invariant-loop-node l = IsRaisedTo l.fn.counts.items l.counts.items l.width l.leaf l.node

abbrev pub decreases-loop-node : goal.decreases-loop-node
decreases-loop-node l = l.node
