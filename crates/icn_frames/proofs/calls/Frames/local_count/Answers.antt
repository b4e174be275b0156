use Rattle.std.proofs.Common.{◌≡◌, ◌+◌, ◌-◌, ℕ, sym, ap, ◌∙◌, arith}
use Rattle.icn_frames.specs.Heights.{cell_at}
use Rattle.icn_frames.specs.Stacks.{FlatStack, locals_of}
use Rattle.icn_frames.proofs.Locals.{set_locals_same}
use Rattle.icn_frames.proofs.LocalsSet.{locals_count}
use Rattle.icn_frames.proofs.calls.Frames.local_count.Goals as goal

pub returns-clause-all : goal.returns-clause-all
returns-clause-all g c =
    let m : FlatStack = record { cells = c.self.inside.cells.cells; registers = c.self.inside.registers; address = c.self.inside.address } in
    let b = c.self.invariant.stands.leads.base.from in
    let same : m.registers.base - 1 + 1 ≡ m.registers.base = omega (arith, b) in
    rw (← c.self.view_is) (c.locals_at.ensures.is ∙ ap (λ (h : ℕ). locals_of (cell_at h m.cells)) same ∙ sym (locals_count m c.self.invariant))

pub returns-clause-same : goal.returns-clause-same
returns-clause-same g c =
    let m : FlatStack = record { cells = c.self.inside.cells.cells; registers = c.self.inside.registers; address = c.self.inside.address } in
    rw (← c.self.view_is) (set_locals_same m c.self.invariant)
