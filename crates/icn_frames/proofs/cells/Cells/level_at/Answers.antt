use Rattle.std.proofs.Common.{sym, ap, ◌∙◌, arith}
use Rattle.icn_frames.proofs.Beside.{within, shown}
use Rattle.icn_frames.specs.Stacks.{level_of}
use Rattle.icn_frames.proofs.cells.Cells.level_at.Goals as goal

pub get-requires : goal.get-requires
get-requires g c = within _ _ _ _ (rw (← c.self.view_is) at c.requires)

pub depth_of-requires : goal.depth_of-requires
depth_of-requires g c = omega (arith, within _ _ _ _ (rw (← c.self.view_is) at c.requires))

pub returns : goal.returns
returns g c = rw (← c.self.view_is) (c.level_of.ensures _ _ (sym c.depth_of.ensures)
    ∙ ap level_of (sym (shown _ _ _ _ _ (rw (← c.self.view_is) at c.requires) c.get.ensures)))
