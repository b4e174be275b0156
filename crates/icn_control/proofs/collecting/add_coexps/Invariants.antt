use Rattle.std.proofs.Common.{take}
use Rattle.std.specs.List.{flat_map}
use Rattle.icn_heap.specs.NeededValues.{AreNeeded}
use Rattle.icn_control.specs.NeededStacks.{entry_vals}
use Rattle.icn_control.proofs.collecting.add_coexps.Given as goal

-- the values of the co-expressions so far are needed
abbrev pub invariant-loop-entry : goal.invariant-loop-entry
invariant-loop-entry g l = AreNeeded l.initial.needed l.needed (flat_map entry_vals (take l.entry-index l.entries))
