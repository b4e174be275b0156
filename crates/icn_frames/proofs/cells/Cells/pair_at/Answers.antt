use Rattle.std.proofs.Common.{◌∙◌}
use Rattle.icn_frames.proofs.Beside.{pair_there}
use Rattle.icn_frames.proofs.cells.Cells.pair_at.Goals as goal

pub returns : goal.returns
returns g c p r a e = c.pair_at.ensures ∙ pair_there _ _ _ _ p r a (rw (← c.self.view_is) at c.requires) (rw (← c.self.view_is) at e)
