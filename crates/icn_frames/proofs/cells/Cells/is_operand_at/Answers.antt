use Rattle.std.proofs.Common.{sym, ap, ◌∙◌}
use Rattle.icn_frames.proofs.Beside.{within, shown}
use Rattle.std.proofs.Common.{is_some}
use Rattle.icn_frames.specs.Slots.{operand_in}
use Rattle.icn_frames.proofs.cells.Cells.is_operand_at.Goals as goal

pub get-requires : goal.get-requires
get-requires g c = within _ _ _ _ (rw (← c.self.view_is) at c.requires)

pub returns : goal.returns
returns g c = rw (← c.self.view_is)
    (c.is_operand.ensures _ _ ∙ ap (λ w. is_some (operand_in w)) (sym (shown _ _ _ _ _ (rw (← c.self.view_is) at c.requires) c.get.ensures)))
