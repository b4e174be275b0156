use Rattle.std.proofs.Common.{sym, ap, ◌∙◌, arith}
use Rattle.icn_frames.specs.Slots.{content_of}
use Rattle.icn_frames.proofs.Beside.{within, shown_is}
use Rattle.icn_frames.proofs.cells.Cells.content_at.Goals as goal

pub range_of-range-requires : goal.range_of-range-requires
range_of-range-requires g c = omega (arith, within _ _ _ _ (rw (← c.self.view_is) at c.requires))

pub get-requires : goal.get-requires
get-requires g c = within _ _ _ _ (rw (← c.self.view_is) at c.requires)

pub returns : goal.returns
returns g c cell e = c.content_of.ensures _ (sym c.range_of-range.ensures) ∙ ap content_of
    (shown_is _ _ _ _ _ _ (rw (← c.self.view_is) at c.requires) c.get.ensures (rw (← c.self.view_is) at e))
