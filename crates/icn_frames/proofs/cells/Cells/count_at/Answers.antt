use Rattle.std.proofs.Common.{sym, ap, ◌∙◌}
use Rattle.icn_frames.proofs.Beside.{within, shown}
use Rattle.icn_frames.specs.Slots.{count_in}
use Rattle.icn_frames.proofs.cells.Cells.count_at.Goals as goal

pub get-requires : goal.get-requires
get-requires g c = within _ _ _ _ (rw (← c.self.view_is) at c.requires)

pub returns : goal.returns
returns g c = rw (← c.self.view_is) (c.count_of.ensures _ _ ∙ ap count_in (sym (shown _ _ _ _ _ (rw (← c.self.view_is) at c.requires) c.get.ensures)))
