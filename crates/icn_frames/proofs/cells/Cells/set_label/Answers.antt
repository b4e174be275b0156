use Rattle.std.proofs.Common.{Some, true, refl, ap}
use Rattle.icn_frames.specs.declared.layout.Registers.{Registers}
use Rattle.icn_frames.specs.declared.layout.Cell.TheVariants.{Mark}
use Rattle.icn_frames.proofs.Beside.{within, placed, saved_there}
use Rattle.icn_frames.proofs.cells.Cells.set_label.Goals as goal

pub set-requires : goal.set-requires
set-requires g c = within _ _ _ _ (rw (← c.self.view_is) at c.requires)

pub returns-clause-cells : goal.returns-clause-cells
returns-clause-cells g c cell saved e o =
    let r = (rw (← c.self.view_is) at c.requires) in
    rw (← c.self.view_is)
    (placed c.self.inside.controls.items c.self.inside.extras.items c.self.inside.extras.items _ _ _ _ _ (within _ _ _ _ r) c.set.ensures.cells (λ i d. refl)
    (ap (λ (w : Registers). Mark (Some c.args.label) true w)
    (saved_there c.self.inside.controls.items c.self.inside.extras.items _ _ cell saved r (rw (← c.self.view_is) at e) o)))
