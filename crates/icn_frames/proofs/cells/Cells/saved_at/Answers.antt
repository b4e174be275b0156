use Rattle.std.proofs.Common.{◌∙◌, arith}
use Rattle.icn_frames.proofs.Beside.{within, saved_there}
use Rattle.icn_frames.proofs.cells.Cells.saved_at.Goals as goal

pub saved_of-requires : goal.saved_of-requires
saved_of-requires g c = omega (arith, within _ _ _ _ (rw (← c.self.view_is) at c.requires))

pub returns : goal.returns
returns g c cell saved e o = c.saved_of.ensures ∙ saved_there _ _ _ _ cell saved (rw (← c.self.view_is) at c.requires) (rw (← c.self.view_is) at e) o
