use Rattle.icn_frames.proofs.Beside.{within, shown_is}
use Rattle.icn_frames.proofs.cells.Cells.residual_held_at.Goals as goal

pub get-requires : goal.get-requires
get-requires g c = within _ _ _ _ (rw (← c.self.view_is) at c.requires)

pub returns : goal.returns
returns g c w r a e = c.residual_held.ensures _ w r a
    (shown_is _ _ _ _ _ _ (rw (← c.self.view_is) at c.requires) c.get.ensures (rw (← c.self.view_is) at e))
