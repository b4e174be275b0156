use Rattle.std.proofs.Common.{arith}
use Rattle.icn_frames.proofs.Beside.{within, shown_is}
use Rattle.icn_frames.proofs.cells.Cells.local_at.Goals as goal

pub overflow_add-i : goal.overflow_add-i
overflow_add-i g c = let p = within _ _ _ _ (rw (← c.self.view_is) at c.requires) in omega (arith, p, g.met.K.Stack.small c.self.inside.slots)

pub get-requires : goal.get-requires
get-requires g c = within _ _ _ _ (rw (← c.self.view_is) at c.requires)

pub returns : goal.returns
returns g c v e = c.local_of.ensures _ v (shown_is _ _ _ _ _ _ (rw (← c.self.view_is) at c.requires) c.get.ensures (rw (← c.self.view_is) at e))
