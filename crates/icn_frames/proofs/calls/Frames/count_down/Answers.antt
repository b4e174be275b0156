use Rattle.std.proofs.Common.{◌≡◌, ◌-◌, ◌+◌, ℕ, suc, List, Option, Some, refl, sym, ap, ◌∙◌, arith}
use Rattle.icn_frames.specs.Heights.{cell_at, set_cell}
use Rattle.icn_frames.specs.declared.layout.Cell.{Cell}
use Rattle.icn_frames.specs.declared.layout.Cell.TheVariants.{Limit}
use Rattle.icn_frames.specs.Slots.{count_in}
use Rattle.icn_frames.specs.Stacks.{FlatStack, count_down_at}
use Rattle.icn_frames.proofs.CellFacts.{sound_set}
use Rattle.icn_frames.proofs.HeightsRead.{counted_is}
use Rattle.icn_frames.proofs.RunningProcs.{runs_same}
use Rattle.icn_frames.proofs.calls.Frames.count_down.Goals as goal

pub overflow_sub-left : goal.overflow_sub-left
overflow_sub-left g c =
    let m : FlatStack = record { cells = c.self.inside.cells.cells; registers = c.self.inside.registers; address = c.self.inside.address } in
    let f = c.self.invariant.stands.leads.mark.from in
    let same : m.registers.mark - 1 + 1 ≡ m.registers.mark = omega (arith, f) in
    let p = counted_is m (cell_at m.registers.mark m.cells) (rw (← c.self.view_is) at c.requires) in
    let e : cell_at (m.registers.mark - 1 + 1) m.cells ≡ Some (Limit (suc p.0) p.1) = ap (λ (h : ℕ). cell_at h m.cells) same ∙ p.2 in
    let k : c.count_at-left.result ≡ suc p.0 = c.count_at-left.ensures ∙ ap count_in e in
    omega arith

pub invariant_of-self : goal.invariant_of-self
invariant_of-self g c =
    let m : FlatStack = record { cells = c.self.inside.cells.cells; registers = c.self.inside.registers; address = c.self.inside.address } in
    let f = c.self.invariant.stands.leads.mark.from in
    let same : m.registers.mark - 1 + 1 ≡ m.registers.mark = omega (arith, f) in
    let p = counted_is m (cell_at m.registers.mark m.cells) (rw (← c.self.view_is) at c.requires) in
    let e : cell_at (m.registers.mark - 1 + 1) m.cells ≡ Some (Limit (suc p.0) p.1) = ap (λ (h : ℕ). cell_at h m.cells) same ∙ p.2 in
    let k : c.count_at-left.result ≡ suc p.0 = c.count_at-left.ensures ∙ ap count_in e in
    sound_set _ _ _ (m.registers.mark - 1 + 1) _ _ c.self.invariant e refl (c.set_count.ensures.cells (Limit (suc p.0) p.1) p.1 e refl)

pub invariant_of-self-inside : goal.invariant_of-self-inside
invariant_of-self-inside g c =
    let m : FlatStack = record { cells = c.self.inside.cells.cells; registers = c.self.inside.registers; address = c.self.inside.address } in
    let f = c.self.invariant.stands.leads.mark.from in
    let same : m.registers.mark - 1 + 1 ≡ m.registers.mark = omega (arith, f) in
    let p = counted_is m (cell_at m.registers.mark m.cells) (rw (← c.self.view_is) at c.requires) in
    let e : cell_at (m.registers.mark - 1 + 1) m.cells ≡ Some (Limit (suc p.0) p.1) = ap (λ (h : ℕ). cell_at h m.cells) same ∙ p.2 in
    let n = c.set_count.ensures.cells (Limit (suc p.0) p.1) p.1 e refl in
    (runs_same m.cells _ m.registers.base (m.registers.mark - 1 + 1) _ _ _ e refl n c.self.inside.runs, tt)

pub returns-clause-flat : goal.returns-clause-flat
returns-clause-flat g c =
    let m : FlatStack = record { cells = c.self.inside.cells.cells; registers = c.self.inside.registers; address = c.self.inside.address } in
    let f = c.self.invariant.stands.leads.mark.from in
    let same : m.registers.mark - 1 + 1 ≡ m.registers.mark = omega (arith, f) in
    let p = counted_is m (cell_at m.registers.mark m.cells) (rw (← c.self.view_is) at c.requires) in
    let e : cell_at (m.registers.mark - 1 + 1) m.cells ≡ Some (Limit (suc p.0) p.1) = ap (λ (h : ℕ). cell_at h m.cells) same ∙ p.2 in
    let k : c.count_at-left.result ≡ suc p.0 = c.count_at-left.ensures ∙ ap count_in e in
    let l : c.count_at-left.result - 1 ≡ p.0 = omega arith in
    let n = c.set_count.ensures.cells (Limit (suc p.0) p.1) p.1 e refl in
    let F : ℕ → List Cell → Option (ℕ × FlatStack) = λ w v. Some (w, record m { cells = v }) in
    rw (← c.self.view_is) (ap (count_down_at m) p.2 ∙ ap (λ (w : ℕ). F w (set_cell m.registers.mark (Limit w p.1) m.cells)) (sym l)
    ∙ ap (λ (h : ℕ). F (c.count_at-left.result - 1) (set_cell h (Limit (c.count_at-left.result - 1) p.1) m.cells)) (sym same)
    ∙ ap (F (c.count_at-left.result - 1)) (sym n))
