use Rattle.std.proofs.Common.{refl, arith}
use Rattle.icn_frames.proofs.Beside.{within, placed}
use Rattle.icn_frames.proofs.SlotFacts.{plain_local_is}
use Rattle.icn_frames.proofs.cells.Cells.set_local_plain.Goals as goal

pub overflow_add-below : goal.overflow_add-below
overflow_add-below g c = let p = within _ _ _ _ (rw (← c.self.view_is) at c.requires.within) in omega (arith, p, g.met.K.Stack.small c.self.inside.slots)

pub set-requires : goal.set-requires
set-requires g c = within _ _ _ _ (rw (← c.self.view_is) at c.requires.within)

pub returns-clause-cells : goal.returns-clause-cells
returns-clause-cells g c v e = rw (← c.self.view_is)
    (placed c.self.inside.controls.items c.self.inside.extras.items c.self.inside.extras.items _ _ _ _ _
    (within _ _ _ _ (rw (← c.self.view_is) at c.requires.within)) c.set.ensures.cells (λ i d. refl) (plain_local_is _ _ c.args.slot v e))
