use Rattle.std.proofs.Common.{ℕ, Option, map, subst}
use Rattle.icn_frames.specs.StackInvariant.{IsScan, MayBeAt, shape}
use Rattle.icn_frames.proofs.steps.older_scan.Goals as goal

pub older_than-requires : goal.older_than-requires
older_than-requires g c = subst (λ (w : Option ℕ). MayBeAt IsScan (map shape c.args.cells.now.cells) w) c.in-Some.is c.requires
