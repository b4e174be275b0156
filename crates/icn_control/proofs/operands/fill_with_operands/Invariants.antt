use Rattle.std.proofs.Common.{◌≡◌, ◌+◌, ◌≤◌, length, drop}
use Rattle.icn_control.specs.TakenOperands.{take_operands, taken_onto}
use Rattle.icn_control.proofs.operands.fill_with_operands.Given as goal

abbrev pub invariant-loop-left : goal.invariant-loop-left
invariant-loop-left g l = record {
  same : length l.items ≡ length l.initial.items;
  few : l.left ≤ length l.items;
  is : take_operands (length l.initial.items) l.initial.frames.flat ≡ taken_onto l.left l.frames.flat (drop l.left l.items);
  spare : l.frames.spare + l.left ≡ l.initial.frames.spare + length l.initial.items;
}

abbrev pub decreases-loop-left : goal.decreases-loop-left
decreases-loop-left g l = l.left
