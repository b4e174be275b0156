use Rattle.std.proofs.Common.{length, ap, ◌∙◌}
use Rattle.icn_value.specs.declared.item.Pair.{Pair}
use Rattle.icn_frames.specs.declared.layout.Registers.{Registers}
use Rattle.icn_frames.specs.declared.layout.Why.TheVariants as Whys
use Rattle.icn_frames.specs.declared.layout.Cell.TheVariants.{Suspension}
use Rattle.icn_frames.specs.Slots.{control_at}
use Rattle.icn_frames.proofs.Beside.{pushed}
use Rattle.icn_frames.proofs.cells.Cells.push_scan.Goals as goal

pub returns-clause-cells : goal.returns-clause-cells
returns-clause-cells g c =
    let n = c.len-at.ensures in
    let was : Registers = (control_at c.put_saved.new.controls.items (length (g.K.Stack.cells c.self.inside.slots))).saved in
    rw (← c.self.view_is)
    (pushed c.self.inside.controls.items _ c.self.inside.extras.items _ _ _ _ _ c.push.ensures.cells
    (rw n at c.put_saved.ensures.others) (rw n at c.put_pair.ensures.others)
    (ap (λ (w : Pair). Suspension (Whys.Scan w) was c.args.address) (rw n at c.put_pair.ensures.is)
    ∙ ap (λ (w : Registers). Suspension (Whys.Scan c.args.pair) w c.args.address) (rw n at c.put_saved.ensures.is)))
