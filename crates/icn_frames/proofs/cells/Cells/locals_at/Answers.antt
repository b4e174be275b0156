use Rattle.std.proofs.Common.{sym, ap, ◌∙◌, arith}
use Rattle.icn_frames.specs.Slots.{placed_cell}
use Rattle.icn_frames.proofs.Numbered.{length_numbered}
use Rattle.icn_frames.specs.Stacks.{locals_of}
use Rattle.icn_frames.proofs.Beside.{within, shown}
use Rattle.icn_frames.proofs.cells.Cells.locals_at.Goals as goal

pub get-requires : goal.get-requires
get-requires g c = within _ _ _ _ (rw (← c.self.view_is) at c.requires)

pub returns-clause-is : goal.returns-clause-is
returns-clause-is g c =
    rw (← c.self.view_is) (c.locals_of.ensures _ _ ∙ ap locals_of (sym (shown _ _ _ _ _ (rw (← c.self.view_is) at c.requires) c.get.ensures)))

pub returns-clause-small : goal.returns-clause-small
returns-clause-small g c = rw (← c.self.view_is) (omega (
  arith,
  g.met.K.Stack.small c.self.inside.slots,
  length_numbered (placed_cell c.self.inside.controls.items c.self.inside.extras.items) (g.K.Stack.cells c.self.inside.slots),
))
