use Rattle.std.proofs.Common.{◌≤◌, ◌-◌, length}
use Rattle.std.specs.Io.KnownBytes.{Keeps}
use Rattle.icn_host.specs.Writers.{kept_held, kept_pending}
use Rattle.icn_host.proofs.kept.Kept.flush.Given as goal

abbrev pub invariant-loop-self : goal.invariant-loop-self
invariant-loop-self g l =
    Keeps (kept_held g.W.Write.contents l.initial.self) (kept_held g.W.Write.contents l.self)
    × (kept_pending l.self ≤ kept_pending l.initial.self)

abbrev pub decreases-loop-self : goal.decreases-loop-self
decreases-loop-self g l = length l.self.bytes.items - l.self.at
