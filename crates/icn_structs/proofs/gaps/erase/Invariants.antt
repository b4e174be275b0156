use Rattle.std.proofs.Common.{◌≡◌, ◌<◌, ◌-◌, ℕ, length}
use Rattle.icn_structs.specs.Counts.{count_at}
use Rattle.icn_structs.proofs.gaps.erase.Given as goal

abbrev pub invariant-loop-index : goal.invariant-loop-index
invariant-loop-index l = record {
  length : length l.counts.items ≡ length l.fn.counts.items;
  none : (index : ℕ) → index < l.index → count_at l.counts.items index ≡ 0;
}

abbrev pub decreases-loop-index : goal.decreases-loop-index
decreases-loop-index l = length l.counts.items - l.index
