use Rattle.std.proofs.Common.{refl}
use Rattle.icn_frames.proofs.SlotFacts.{plain_local_is}
use Rattle.icn_frames.proofs.Beside.{pushed}
use Rattle.icn_frames.proofs.cells.Cells.push_local_plain.Goals as goal

pub returns-clause-cells : goal.returns-clause-cells
returns-clause-cells g c v e = rw (← c.self.view_is) (pushed c.self.inside.controls.items c.self.inside.controls.items c.self.inside.extras.items
    c.self.inside.extras.items _ _ _ _ c.push.ensures.cells (λ i d. refl) (λ i d. refl)
    (plain_local_is _ _ c.args.slot v e))
