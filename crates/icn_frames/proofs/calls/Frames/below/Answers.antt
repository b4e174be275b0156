use Rattle.std.proofs.Common.{◌≡◌, ◌<◌, ◌-◌, ◌+◌, length, Some, IsSome, subst, sym, ap, ◌∙◌, arith}
use Rattle.icn_frames.specs.Heights.{cell_at}
use Rattle.icn_value.specs.declared.item.Item.{Item}
use Rattle.icn_frames.specs.declared.layout.Cell.{Cell}
use Rattle.icn_frames.specs.declared.layout.Cell.TheVariants.{Operand}
use Rattle.icn_frames.specs.Stacks.{FlatStack}
use Rattle.icn_frames.proofs.Beside.{there}
use Rattle.icn_frames.proofs.CellFacts.{within_cells, below_high, below_get, operand_is}
use Rattle.icn_frames.proofs.calls.Frames.below.Goals as goal

pub overflow_sub-self-inside : goal.overflow_sub-self-inside
overflow_sub-self-inside g c =
    let m : FlatStack = record { cells = c.self.inside.cells.cells; registers = c.self.inside.registers; address = c.self.inside.address } in
    below_high m (within_cells _ _ c.self.invariant.stands.leads.mark.to) (rw (← c.self.view_is) at c.requires)

pub operand_at-requires : goal.operand_at-requires
operand_at-requires g c =
    let m : FlatStack = record { cells = c.self.inside.cells.cells; registers = c.self.inside.registers; address = c.self.inside.address } in
    let n = within_cells _ _ c.self.invariant.stands.leads.mark.to in
    let h = below_high m n (rw (← c.self.view_is) at c.requires) in
    omega arith

pub returns : goal.returns
returns g c =
    let m : FlatStack = record { cells = c.self.inside.cells.cells; registers = c.self.inside.registers; address = c.self.inside.address } in
    let n = within_cells _ _ c.self.invariant.stands.leads.mark.to in
    let r = rw (← c.self.view_is) at c.requires in
    let h = below_high m n r in
    let p : m.registers.mark - 2 < length m.cells = omega arith in
    let w = there m.cells (m.registers.mark - 2) p in
    let o = operand_is w.0 (subst IsSome (below_get m w.0 h n w.1) r) in
    let a : cell_at (m.registers.mark - 2 + 1) m.cells ≡ Some (Operand o.0) = w.1 ∙ ap (λ (x : Cell). Some x) o.1 in
    let e : c.operand_at.result ≡ o.0 = c.operand_at.ensures o.0 a in
    rw (← c.self.view_is) (below_get m (Operand c.operand_at.result) h n (a ∙ ap (λ (x : Item). Some (Operand x)) (sym e)))
