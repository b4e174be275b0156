use Rattle.std.proofs.Common.{◌-◌}
use Rattle.icn_structs.proofs.SoughtLeaf.{IsBelow}
use Rattle.icn_structs.proofs.counts.leaf_of.Given as goal

abbrev pub invariant-loop-span : goal.invariant-loop-span
invariant-loop-span l = IsBelow l.counts l.width l.number l.node l.span l.leaf l.left

abbrev pub decreases-loop-span : goal.decreases-loop-span
decreases-loop-span l = l.span - 1
