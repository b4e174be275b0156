use Rattle.std.proofs.Common.{take}
use Rattle.std.specs.List.{flat_map}
use Rattle.icn_heap.specs.ElementValues.{pair_vals}
use Rattle.icn_heap.specs.NeededValues.{AreNeeded}
use Rattle.icn_heap.proofs.entries.add_pairs.Given as goal

-- the pairs so far are needed
abbrev pub invariant-loop-place : goal.invariant-loop-place
invariant-loop-place l = AreNeeded l.initial.needed l.needed (flat_map pair_vals (take l.place l.pairs))
