use Rattle.std.proofs.Common.{◌-◌, ◌≤◌}
use Rattle.std.specs.List.{flat_map}
use Rattle.icn_heap.specs.NeededValues.{AreNeeded}
use Rattle.icn_frames.specs.Heights.{cut}
use Rattle.icn_control.specs.NeededStacks.{cell_vals}
use Rattle.icn_control.proofs.collecting.add_stack.Given as goal

-- the values of the cells so far are needed
abbrev pub invariant-loop-i : goal.invariant-loop-i
invariant-loop-i g l = record {
  high : l.i ≤ l.len;
  so_far : AreNeeded l.initial.needed l.needed (flat_map cell_vals (cut l.i l.frames.flat.cells));
}

abbrev pub decreases-loop-i : goal.decreases-loop-i
decreases-loop-i g l = l.len - l.i
