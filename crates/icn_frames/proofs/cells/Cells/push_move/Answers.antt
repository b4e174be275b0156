use Rattle.std.proofs.Common.{refl, ap}
use Rattle.icn_frames.specs.declared.layout.Registers.{Registers}
use Rattle.icn_frames.specs.declared.layout.Cell.TheVariants.{Suspension}
use Rattle.icn_frames.specs.Slots.{why_moved}
use Rattle.icn_frames.proofs.Beside.{pushed}
use Rattle.icn_frames.proofs.cells.Cells.push_move.Goals as goal

pub returns-clause-cells : goal.returns-clause-cells
returns-clause-cells g c =
    let n = c.len-at.ensures in
    rw (← c.self.view_is)
    (pushed c.self.inside.controls.items _ c.self.inside.extras.items c.self.inside.extras.items _ _ _ _ c.push.ensures.cells
    (rw n at c.put_saved.ensures.others) (λ i d. refl)
    (ap (λ (w : Registers). Suspension (why_moved c.args.old) w c.args.address) (rw n at c.put_saved.ensures.is)))
