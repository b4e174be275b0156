use Rattle.std.proofs.Common.{◌∙◌, arith}
use Rattle.icn_frames.proofs.Beside.{within, return_there}
use Rattle.icn_frames.proofs.cells.Cells.return_at.Goals as goal

pub return_of-requires : goal.return_of-requires
return_of-requires g c = omega (arith, within _ _ _ _ (rw (← c.self.view_is) at c.requires))

pub returns : goal.returns
returns g c p l v r a e = c.return_of.ensures ∙ return_there _ _ _ _ p l v r a (rw (← c.self.view_is) at c.requires) (rw (← c.self.view_is) at e)
