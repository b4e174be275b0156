use Rattle.std.proofs.Common.{◌≡◌, ◌-◌, ◌+◌, ℕ, ap, ◌∙◌, arith}
use Rattle.icn_frames.specs.Heights.{cell_at}
use Rattle.icn_frames.specs.Slots.{is_plain_cell}
use Rattle.icn_frames.specs.Stacks.{FlatStack}
use Rattle.icn_frames.proofs.HeightsRead.{plain_relabels}
use Rattle.icn_frames.proofs.calls.Frames.is_plain.Goals as goal

pub returns : goal.returns
returns g c label =
    let m : FlatStack = record { cells = c.self.inside.cells.cells; registers = c.self.inside.registers; address = c.self.inside.address } in
    let f = c.self.invariant.stands.leads.mark.from in
    let same : m.registers.mark - 1 + 1 ≡ m.registers.mark = omega (arith, f) in
    rw (← c.self.view_is) (c.is_plain_at.ensures ∙ ap (λ (h : ℕ). is_plain_cell (cell_at h m.cells)) same
    ∙ plain_relabels label m (cell_at m.registers.mark m.cells))
