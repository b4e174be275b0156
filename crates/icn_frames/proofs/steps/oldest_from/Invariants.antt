use Rattle.std.proofs.Common.{◌≡◌, length, map}
use Rattle.icn_frames.specs.Stacks.{oldest_from}
use Rattle.icn_frames.specs.StackInvariant.{shape, IsScan, MayBeAt}
use Rattle.icn_frames.proofs.OpenScans.{height_of}
use Rattle.icn_frames.proofs.steps.oldest_from.Given as goal

abbrev pub invariant-loop-at : goal.invariant-loop-at
invariant-loop-at g l = record {
  there : MayBeAt IsScan (map shape l.cells.cells) l.at;
  same : oldest_from (length l.cells.cells) l.cells.cells l.until l.at
      ≡ oldest_from (length l.cells.cells) l.cells.cells l.until l.initial.at;
}

abbrev pub decreases-loop-at : goal.decreases-loop-at
decreases-loop-at g l = height_of l.at
