use Rattle.icn_structs.proofs.RaisedCounts.{IsLoweredTo}
use Rattle.icn_structs.proofs.counts.lower.Given as goal

abbrev pub invariant-loop-node : goal.invariant-loop-node
invariant-loop-node l = IsLoweredTo l.fn.counts.items l.counts.items l.width l.leaf l.node

abbrev pub decreases-loop-node : goal.decreases-loop-node
decreases-loop-node l = l.node
