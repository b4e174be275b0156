use Rattle.icn_frames.specs.Slots.{control_at, extra_at}
use Rattle.icn_frames.specs.declared.layout.Cell.TheVariants.{Operand}
use Rattle.icn_frames.proofs.SlotFacts.{plain_operand_is}
use Rattle.icn_frames.proofs.Beside.{within, shown_is}
use Rattle.icn_frames.proofs.cells.Cells.slot_at.Goals as goal

pub get-requires : goal.get-requires
get-requires g c = within _ _ _ _ (rw (← c.self.view_is) at c.requires)

pub returns : goal.returns
returns g c x y e p =
    let a = shown_is c.self.inside.controls.items c.self.inside.extras.items _ _ _ (Operand x) (rw (← c.self.view_is) at c.requires) c.get.ensures
    (rw (← c.self.view_is) at e) in
    let b = plain_operand_is (control_at c.self.inside.controls.items c.args.i) (extra_at c.self.inside.extras.items c.args.i) c.get.result y p in
    cc
