use Rattle.std.proofs.Common.{◌≡◌, ◌-◌, ◌≤◌, length}
use Rattle.icn_calls.specs.Calling.{values_for}
use Rattle.icn_calls.proofs.arguments.fit.Given as goal

abbrev pub invariant-loop-vals : goal.invariant-loop-vals
invariant-loop-vals l = record {
  is : values_for l.count l.vals.items ≡ values_for l.count l.initial.vals.items;
  few : length l.vals.items ≤ l.count;
}

abbrev pub decreases-loop-vals : goal.decreases-loop-vals
decreases-loop-vals l = l.count - length l.vals.items
