use Rattle.std.proofs.Common.{◌≡◌, ◌-◌, ◌≤◌, take}
use Rattle.icn_frames.specs.Stacks.{locals}
use Rattle.icn_control.proofs.coexpressions.locals_of.Given as goal

abbrev pub invariant-loop-index : goal.invariant-loop-index
invariant-loop-index g l = record {
  high : l.index ≤ l.count;
  so_far : l.values.items ≡ take l.index (locals l.frames.flat);
}

abbrev pub decreases-loop-index : goal.decreases-loop-index
decreases-loop-index g l = l.count - l.index
