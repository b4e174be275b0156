use Rattle.std.proofs.Common.{◌≡◌, drop}
use Rattle.icn_link.specs.LinkFaults.{over}
use Rattle.icn_link.proofs.sizes.check_counts.Given as goal

abbrev pub invariant-loop-count : goal.invariant-loop-count
invariant-loop-count l = over 16777216 (drop l.count-index l.counts) ≡ over 16777216 l.counts
