use Rattle.icn_frames.proofs.Beside.{popped}
use Rattle.icn_frames.proofs.cells.Cells.pop_operand.Goals as goal

pub returns-clause-cells : goal.returns-clause-cells
returns-clause-cells g c =
    let r = rw (← c.self.view_is) at c.requires in
    rw (← c.self.view_is) (popped _ _ _ _ _ _ _ c.pop-slot.ensures.cells c.len.ensures r c.operand_of.ensures)
