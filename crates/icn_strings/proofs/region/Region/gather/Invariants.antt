use Rattle.icn_strings.specs.KeptRuns.{kept_of, AreGathered}
use Rattle.icn_strings.proofs.region.Region.gather.Given as goal

abbrev pub invariant-loop-range : goal.invariant-loop-range
invariant-loop-range l = AreGathered l.self l.ranges l.range-index (kept_of l.self l.kept) l.run
