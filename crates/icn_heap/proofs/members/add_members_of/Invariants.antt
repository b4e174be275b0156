use Rattle.std.proofs.Common.{take}
use Rattle.icn_heap.specs.ElementValues.{set_vals}
use Rattle.icn_heap.specs.NeededValues.{AreNeeded}
use Rattle.icn_heap.proofs.members.add_members_of.Given as goal

-- the members so far are needed
abbrev pub invariant-loop-place : goal.invariant-loop-place
invariant-loop-place l = AreNeeded l.initial.needed l.needed (take l.place (set_vals l.set))
