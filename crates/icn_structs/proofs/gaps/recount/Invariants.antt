use Rattle.std.proofs.Common.{◌≤◌, ◌-◌, ℕ, length}
use Rattle.icn_structs.specs.GapLists.{IsCountedTo}
use Rattle.icn_structs.proofs.gaps.recount.Given as goal

abbrev pub invariant-loop-index : goal.invariant-loop-index
invariant-loop-index l = record {
  counted : IsCountedTo ℕ l.items l.index l.counts.items l.width;
  within : l.index ≤ length l.items;
}

abbrev pub decreases-loop-index : goal.decreases-loop-index
decreases-loop-index l = length l.items - l.index
