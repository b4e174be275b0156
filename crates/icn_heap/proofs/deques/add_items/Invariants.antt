use Rattle.std.proofs.Common.{take}
use Rattle.icn_heap.specs.ElementValues.{list_vals}
use Rattle.icn_heap.specs.NeededValues.{AreNeeded}
use Rattle.icn_heap.proofs.deques.add_items.Given as goal

-- the items so far are needed
abbrev pub invariant-loop-place : goal.invariant-loop-place
invariant-loop-place l = AreNeeded l.initial.needed l.needed (take l.place (list_vals l.list))
