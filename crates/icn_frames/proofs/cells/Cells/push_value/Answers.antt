use Rattle.std.proofs.Common.{length, refl}
use Rattle.icn_frames.specs.Slots.{control_at}
use Rattle.icn_frames.proofs.Beside.{pushed}
use Rattle.icn_frames.proofs.cells.Cells.push_value.Goals as goal

pub returns-clause-cells : goal.returns-clause-cells
returns-clause-cells g c =
    let n = c.len-at.ensures in
    rw (← c.self.view_is) (pushed c.self.inside.controls.items c.self.inside.controls.items _ _ _ _ _ _ c.push.ensures.cells (λ i d. refl)
    (rw n at c.keep_value-slot.ensures.others)
    (rw n at (c.keep_value-slot.ensures.is (control_at c.self.inside.controls.items (length (g.K.Stack.cells c.self.inside.slots))))))
