use Rattle.std.proofs.Common.{◌+◌, arith}
use Rattle.icn_frames.specs.Slots.{control_at, extra_at}
use Rattle.icn_frames.specs.declared.layout.Cell.TheVariants.{Local}
use Rattle.icn_frames.proofs.SlotFacts.{plain_local_is}
use Rattle.icn_frames.proofs.Beside.{within, shown_is}
use Rattle.icn_frames.proofs.cells.Cells.slot_above.Goals as goal

pub overflow_add-below : goal.overflow_add-below
overflow_add-below g c = let p = within _ _ _ _ (rw (← c.self.view_is) at c.requires) in omega (arith, p, g.met.K.Stack.small c.self.inside.slots)

pub get-requires : goal.get-requires
get-requires g c = within _ _ _ _ (rw (← c.self.view_is) at c.requires)

pub returns : goal.returns
returns g c v w e p =
    let a = shown_is c.self.inside.controls.items c.self.inside.extras.items _ _ _ (Local v) (rw (← c.self.view_is) at c.requires) c.get.ensures
    (rw (← c.self.view_is) at e) in
    let b = plain_local_is (control_at c.self.inside.controls.items (c.args.below + c.args.index))
    (extra_at c.self.inside.extras.items (c.args.below + c.args.index)) c.get.result w p in
    cc
