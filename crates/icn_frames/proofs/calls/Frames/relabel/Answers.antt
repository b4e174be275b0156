use Rattle.std.proofs.Common.{◌≡◌, ◌-◌, ◌+◌, ℕ, List, Option, Some, true, refl, sym, ap, ◌∙◌, arith}
use Rattle.icn_frames.specs.Heights.{cell_at, set_cell}
use Rattle.icn_frames.specs.declared.layout.Cell.{Cell}
use Rattle.icn_frames.specs.declared.layout.Cell.TheVariants.{Mark}
use Rattle.icn_frames.specs.Stacks.{FlatStack, relabel_at}
use Rattle.icn_frames.proofs.CellFacts.{sound_set}
use Rattle.icn_frames.proofs.HeightsRead.{plain_is}
use Rattle.icn_frames.proofs.RunningProcs.{runs_same}
use Rattle.icn_frames.proofs.calls.Frames.relabel.Goals as goal

pub invariant_of-self : goal.invariant_of-self
invariant_of-self g c =
    let m : FlatStack = record { cells = c.self.inside.cells.cells; registers = c.self.inside.registers; address = c.self.inside.address } in
    let f = c.self.invariant.stands.leads.mark.from in
    let same : m.registers.mark - 1 + 1 ≡ m.registers.mark = omega (arith, f) in
    let p = plain_is c.args.label m (cell_at m.registers.mark m.cells) (rw (← c.self.view_is) at c.requires) in
    let e : cell_at (m.registers.mark - 1 + 1) m.cells ≡ Some (Mark p.0 p.1 p.2) = ap (λ (h : ℕ). cell_at h m.cells) same ∙ p.3 in
    let n = c.set_label.ensures.cells (Mark p.0 p.1 p.2) p.2 e refl in
    sound_set _ _ _ (m.registers.mark - 1 + 1) _ _ c.self.invariant e refl n

pub invariant_of-self-inside : goal.invariant_of-self-inside
invariant_of-self-inside g c =
    let m : FlatStack = record { cells = c.self.inside.cells.cells; registers = c.self.inside.registers; address = c.self.inside.address } in
    let f = c.self.invariant.stands.leads.mark.from in
    let same : m.registers.mark - 1 + 1 ≡ m.registers.mark = omega (arith, f) in
    let p = plain_is c.args.label m (cell_at m.registers.mark m.cells) (rw (← c.self.view_is) at c.requires) in
    let e : cell_at (m.registers.mark - 1 + 1) m.cells ≡ Some (Mark p.0 p.1 p.2) = ap (λ (h : ℕ). cell_at h m.cells) same ∙ p.3 in
    let n = c.set_label.ensures.cells (Mark p.0 p.1 p.2) p.2 e refl in
    (runs_same m.cells _ m.registers.base (m.registers.mark - 1 + 1) _ _ _ e refl n c.self.inside.runs, tt)

pub returns-clause-flat : goal.returns-clause-flat
returns-clause-flat g c =
    let m : FlatStack = record { cells = c.self.inside.cells.cells; registers = c.self.inside.registers; address = c.self.inside.address } in
    let f = c.self.invariant.stands.leads.mark.from in
    let same : m.registers.mark - 1 + 1 ≡ m.registers.mark = omega (arith, f) in
    let p = plain_is c.args.label m (cell_at m.registers.mark m.cells) (rw (← c.self.view_is) at c.requires) in
    let e : cell_at (m.registers.mark - 1 + 1) m.cells ≡ Some (Mark p.0 p.1 p.2) = ap (λ (h : ℕ). cell_at h m.cells) same ∙ p.3 in
    let n = c.set_label.ensures.cells (Mark p.0 p.1 p.2) p.2 e refl in
    let F : List Cell → Option FlatStack = λ v. Some (record m { cells = v }) in
    rw (← c.self.view_is) (ap (relabel_at c.args.label m) p.3
    ∙ ap (λ (h : ℕ). F (set_cell h (Mark (Some c.args.label) true p.2) m.cells)) (sym same) ∙ ap F (sym n))
