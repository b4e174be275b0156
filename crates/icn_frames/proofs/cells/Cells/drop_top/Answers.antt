use Rattle.std.proofs.Common.{ap, arith}
use Rattle.icn_frames.specs.Slots.{placed_cell, cells_of}
use Rattle.icn_frames.proofs.Numbered.{length_numbered}
use Rattle.icn_frames.proofs.cells.Cells.drop_top.Goals as goal

pub pop-requires : goal.pop-requires
pop-requires g c = let r = (rw (← c.self.view_is) at c.requires) in
    omega (arith, r, length_numbered (placed_cell c.self.inside.controls.items c.self.inside.extras.items) (g.K.Stack.cells c.self.inside.slots))

pub returns-clause-cells : goal.returns-clause-cells
returns-clause-cells g c cell rest e =
    let a = ap (cells_of c.self.inside.controls.items c.self.inside.extras.items) c.pop.ensures.cells in
    let b = rw (← c.self.view_is) at e in
    cc
