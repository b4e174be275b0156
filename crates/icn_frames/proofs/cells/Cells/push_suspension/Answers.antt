use Rattle.std.proofs.Common.{length, ap, ◌∙◌}
use Rattle.icn_frames.specs.declared.layout.Registers.{Registers}
use Rattle.icn_frames.specs.declared.layout.Cell.TheVariants.{Suspension}
use Rattle.icn_frames.specs.Slots.{control_at}
use Rattle.icn_frames.proofs.Beside.{pushed}
use Rattle.icn_frames.proofs.cells.Cells.push_suspension.Goals as goal

pub returns-clause-cells : goal.returns-clause-cells
returns-clause-cells g c =
    let n = c.len-at.ensures in
    rw (← c.self.view_is)
    (pushed c.self.inside.controls.items _ _ _ _ _ _ _ c.push.ensures.cells (rw n at c.put_saved.ensures.others) (rw n at c.keep_why-slot.ensures.others)
    (rw n at (c.keep_why-slot.ensures.is (control_at c.put_saved.new.controls.items (length (g.K.Stack.cells c.self.inside.slots))))
    ∙ ap (λ (w : Registers). Suspension c.args.why.now w c.args.address) (rw n at c.put_saved.ensures.is)))
