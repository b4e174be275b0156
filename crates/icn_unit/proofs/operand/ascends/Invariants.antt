use Rattle.std.proofs.Common.{◌≡◌, length}
use Rattle.icn_unit.specs.UnitOperands.{ascends}
use Rattle.icn_unit.proofs.operand.ascends.Given as goal

abbrev pub invariant-loop-first : goal.invariant-loop-first
invariant-loop-first l = ascends l.rest ≡ ascends l.bytes

abbrev pub decreases-loop-first : goal.decreases-loop-first
decreases-loop-first l = length l.rest
