use Rattle.std.proofs.Common.{arith}
use Rattle.icn_frames.proofs.Beside.{within, pair_placed}
use Rattle.icn_frames.proofs.cells.Cells.set_pair.Goals as goal

pub put_pair-requires : goal.put_pair-requires
put_pair-requires g c = omega (arith, within _ _ _ _ (rw (← c.self.view_is) at c.requires))

pub returns-clause-cells : goal.returns-clause-cells
returns-clause-cells g c p r a e = rw (← c.self.view_is) (pair_placed _ _ _ _ _ p _ r a (rw (← c.self.view_is) at c.requires) (rw (← c.self.view_is) at e)
    c.put_pair.ensures.is c.put_pair.ensures.others)
