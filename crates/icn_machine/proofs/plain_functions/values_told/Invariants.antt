use Rattle.std.proofs.Common.{◌≤◌}
use Rattle.icn_machine.proofs.PlainFunctionSteps.{HaveValuesBefore}
use Rattle.icn_machine.proofs.plain_functions.values_told.Given as goal

abbrev pub invariant-loop-left : goal.invariant-loop-left
invariant-loop-left g l = record {
  few : l.left ≤ l.count;
  before : HaveValuesBefore l.world.globals.items l.frames.flat l.count l.left l.vals.items;
}

abbrev pub decreases-loop-left : goal.decreases-loop-left
decreases-loop-left g l = l.left
