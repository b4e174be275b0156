use Rattle.std.proofs.Common.{sym, ap, ◌∙◌}
use Rattle.icn_frames.proofs.Beside.{within, shown}
use Rattle.icn_frames.specs.Slots.{is_plain_cell}
use Rattle.icn_frames.proofs.cells.Cells.is_plain_at.Goals as goal

pub get-requires : goal.get-requires
get-requires g c = within _ _ _ _ (rw (← c.self.view_is) at c.requires)

pub returns : goal.returns
returns g c = rw (← c.self.view_is) (c.is_plain.ensures _ _ ∙ ap is_plain_cell (sym (shown _ _ _ _ _ (rw (← c.self.view_is) at c.requires) c.get.ensures)))
