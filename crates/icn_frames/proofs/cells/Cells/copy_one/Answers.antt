use Rattle.std.proofs.Common.{◌∙◌, arith}
use Rattle.icn_frames.proofs.Beside.{within, shown_is, pushed}
use Rattle.icn_frames.proofs.cells.Cells.copy_one.Goals as goal

pub get-slot-requires : goal.get-slot-requires
get-slot-requires g c = within _ _ _ _ (rw (← c.self.view_is) at c.requires.there)

pub copy_beside-requires-clause-from : goal.copy_beside-requires-clause-from
copy_beside-requires-clause-from g c = omega (arith, within _ _ _ _ (rw (← c.self.view_is) at c.requires.there))

pub returns-clause-cells : goal.returns-clause-cells
returns-clause-cells g c cell e =
    let n = c.len-at.ensures in
    let r = rw (← c.self.view_is) at c.requires.there in
    rw (← c.self.view_is) (pushed c.self.inside.controls.items _ c.self.inside.extras.items _ _ _ _ cell c.push.ensures.cells
    (rw n at c.copy_beside.ensures.others) (rw n at c.copy_beside.ensures.extras)
    (rw n at c.copy_beside.ensures.is
    ∙ shown_is c.self.inside.controls.items c.self.inside.extras.items _ _ _ cell r c.get-slot.ensures (rw (← c.self.view_is) at e)))
