use Rattle.std.proofs.Common.{◌≡◌, ◌+◌, ◌-◌}
use Rattle.icn_frames.specs.Heights.{with_copy}
use Rattle.icn_frames.proofs.cells.Cells.copy_up.Given as goal

abbrev pub invariant-loop-i : goal.invariant-loop-i
invariant-loop-i g l = record {
  cells : l.self.cells ≡ with_copy l.from l.i l.initial.self.cells;
  spare : l.self.spare + (l.i - l.from) ≡ l.initial.self.spare;
}
