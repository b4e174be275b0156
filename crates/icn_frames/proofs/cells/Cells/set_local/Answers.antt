use Rattle.std.proofs.Common.{arith}
use Rattle.icn_frames.proofs.Beside.{within, placed}
use Rattle.icn_frames.proofs.cells.Cells.set_local.Goals as goal

pub overflow_add-i : goal.overflow_add-i
overflow_add-i g c = let p = within _ _ _ _ (rw (← c.self.view_is) at c.requires) in omega (arith, p, g.met.K.Stack.small c.self.inside.slots)

pub keep_local-slot-requires : goal.keep_local-slot-requires
keep_local-slot-requires g c = omega (arith, within _ _ _ _ (rw (← c.self.view_is) at c.requires))

pub set-requires : goal.set-requires
set-requires g c = within _ _ _ _ (rw (← c.self.view_is) at c.requires)

pub returns-clause-cells : goal.returns-clause-cells
returns-clause-cells g c = rw (← c.self.view_is) (placed _ _ _ _ _ _ _ _ (within _ _ _ _ (rw (← c.self.view_is) at c.requires)) c.set.ensures.cells
    c.keep_local-slot.ensures.others (c.keep_local-slot.ensures.is _))
