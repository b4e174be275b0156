use Rattle.std.proofs.Common.{take}
use Rattle.icn_heap.specs.NeededValues.{AreNeeded}
use Rattle.icn_heap.proofs.needed_values.NeededValues.add_all.Given as goal

-- the values so far are needed
abbrev pub invariant-loop-val : goal.invariant-loop-val
invariant-loop-val l = AreNeeded l.initial.self l.self (take l.val-index l.vals)
