use Rattle.std.proofs.Common.{◌≡◌, ◌-◌, ◌+◌, ℕ, ltb, ap, ◌∙◌, arith}
use Rattle.icn_frames.specs.Heights.{cell_at}
use Rattle.icn_frames.specs.Slots.{count_in}
use Rattle.icn_frames.specs.Stacks.{FlatStack}
use Rattle.icn_frames.proofs.HeightsRead.{count_tested}
use Rattle.icn_frames.proofs.calls.Frames.has_count.Goals as goal

pub returns : goal.returns
returns g c =
    let m : FlatStack = record { cells = c.self.inside.cells.cells; registers = c.self.inside.registers; address = c.self.inside.address } in
    let f = c.self.invariant.stands.leads.mark.from in
    let same : m.registers.mark - 1 + 1 ≡ m.registers.mark = omega (arith, f) in
    rw (← c.self.view_is) (ap (ltb 0) c.count_at.ensures ∙ ap (λ (h : ℕ). ltb 0 (count_in (cell_at h m.cells))) same
    ∙ count_tested m (cell_at m.registers.mark m.cells))
