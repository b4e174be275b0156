use Rattle.std.proofs.Common.{◌<◌, ◌≤◌, ◌-◌, length, Some, Option, is_some, sym, ap, ◌∙◌, arith}
use Rattle.icn_frames.specs.declared.layout.Cell.{Cell}
use Rattle.icn_frames.specs.Slots.{operand_in}
use Rattle.icn_frames.specs.Stacks.{FlatStack}
use Rattle.icn_frames.proofs.Beside.{there}
use Rattle.icn_frames.proofs.HeightsRead.{operand_below}
use Rattle.icn_frames.proofs.CellFacts.{within_cells, below_get, below_low}
use Rattle.icn_frames.proofs.calls.Frames.has_below.Goals as goal

pub returns-then-self-lt2 : goal.returns-then-self-lt2
returns-then-self-lt2 g c =
    let m : FlatStack = record { cells = c.self.inside.cells.cells; registers = c.self.inside.registers; address = c.self.inside.address } in
    rw (← c.self.view_is) (sym (below_low m (within_cells _ _ c.self.invariant.stands.leads.mark.to) (omega arith)))

pub is_operand_at-requires : goal.is_operand_at-requires
is_operand_at-requires g c = let n = within_cells _ _ c.self.invariant.stands.leads.mark.to in omega arith

pub returns : goal.returns
returns g c =
    let m : FlatStack = record { cells = c.self.inside.cells.cells; registers = c.self.inside.registers; address = c.self.inside.address } in
    let n = within_cells _ _ c.self.invariant.stands.leads.mark.to in
    let h : 2 ≤ m.registers.mark = omega arith in
    let p : m.registers.mark - 2 < length m.cells = omega arith in
    let w = there m.cells (m.registers.mark - 2) p in
    rw (← c.self.view_is) (c.is_operand_at.ensures ∙ ap (λ (x : Option Cell). is_some (operand_in x)) w.1 ∙ ap is_some (operand_below (Some w.0))
    ∙ ap is_some (sym (below_get m w.0 h n w.1)))
