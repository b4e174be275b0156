use Rattle.std.proofs.Common.{length, refl, ap}
use Rattle.icn_frames.specs.declared.slots.Control.{Control}
use Rattle.icn_frames.specs.Slots.{cell_of, extra_at}
use Rattle.icn_frames.specs.declared.slots.StackSlot.TheVariants.{CallFrame}
use Rattle.icn_frames.proofs.Beside.{pushed}
use Rattle.icn_frames.proofs.cells.Cells.push_call.Goals as goal

pub returns-clause-cells : goal.returns-clause-cells
returns-clause-cells g c =
    let n = c.len-at.ensures in
    rw (← c.self.view_is)
    (pushed c.self.inside.controls.items _ c.self.inside.extras.items _ _ _ _ _ c.push.ensures.cells (rw n at c.put_control.ensures.others) (λ i d. refl)
    (ap (λ (w : Control). cell_of w (extra_at c.self.inside.extras.items (length (g.K.Stack.cells c.self.inside.slots))) (CallFrame c.args.proc c.args.locals))
    (rw n at c.put_control.ensures.is)))
