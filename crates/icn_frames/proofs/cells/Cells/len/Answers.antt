use Rattle.std.proofs.Common.{sym, ◌∙◌, arith}
use Rattle.icn_frames.specs.Slots.{placed_cell}
use Rattle.icn_frames.proofs.Numbered.{length_numbered}
use Rattle.icn_frames.proofs.cells.Cells.len.Goals as goal

pub returns-clause-is : goal.returns-clause-is
returns-clause-is g c = rw (← c.self.view_is) (c.len.ensures
    ∙ sym (length_numbered (placed_cell c.self.inside.controls.items c.self.inside.extras.items) (g.K.Stack.cells c.self.inside.slots)))

pub returns-clause-small : goal.returns-clause-small
returns-clause-small g c = rw (← c.self.view_is) (omega (
  arith,
  g.met.K.Stack.small c.self.inside.slots,
  length_numbered (placed_cell c.self.inside.controls.items c.self.inside.extras.items) (g.K.Stack.cells c.self.inside.slots),
))
