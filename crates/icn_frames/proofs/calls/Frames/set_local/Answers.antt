use Rattle.std.proofs.Common.{◌<◌, ℕ, subst, map, ◌+◌, ◌≤◌, length, arith}
use Rattle.icn_frames.specs.Heights.{cell_at}
use Rattle.icn_frames.specs.StackInvariant.{shape, count_of}
use Rattle.icn_frames.proofs.CellFacts.{sound_set_shape, local_count_at}
use Rattle.icn_frames.specs.Stacks.{FlatStack}
use Rattle.icn_frames.proofs.Locals.{set_local_is}
use Rattle.icn_frames.proofs.LocalsSet.{locals_set}
use Rattle.icn_frames.proofs.HeightsRead.{local_within}
use Rattle.icn_frames.proofs.RunningProcs.{runs_above}
use Rattle.icn_frames.proofs.calls.Frames.set_local.Goals as goal

pub set_local-requires : goal.set_local-requires
set_local-requires g c = local_within _ _ _ c.self.invariant (rw (← c.self.view_is) at c.requires)

pub invariant_of-self : goal.invariant_of-self
invariant_of-self g c =
    let s = c.self.inside.cells.cells in
    let r = c.self.inside.registers in
    let n = rw (← c.self.view_is) at c.requires in
    let k : c.args.index < count_of (cell_at r.base (map shape s)) = subst (λ (w : ℕ). c.args.index < w) (local_count_at s r.base) n in
    sound_set_shape s _ r _ _ c.self.invariant (c.self.invariant.stands.leads.base.locals c.args.index k) c.set_local.ensures.cells

pub invariant_of-self-inside : goal.invariant_of-self-inside
invariant_of-self-inside g c =
    let s = c.self.inside.cells.cells in
    let base = c.self.inside.registers.base in
    let within = local_within _ _ _ c.self.invariant (rw (← c.self.view_is) at c.requires) in
    let above : base < base + c.args.index + 1 = omega arith in
    let high : base + c.args.index + 1 ≤ length s = omega (arith, within) in
    (runs_above s _ base (base + c.args.index + 1) _ _ above high c.set_local.ensures.cells c.self.inside.runs, tt)

pub returns-clause-flat : goal.returns-clause-flat
returns-clause-flat g c =
    let m : FlatStack = record { cells = c.self.inside.cells.cells; registers = c.self.inside.registers; address = c.self.inside.address } in
    rw (← c.self.view_is) (set_local_is m c.args.index c.args.v _ c.self.invariant (rw (← c.self.view_is) at c.requires) c.set_local.ensures.cells)

pub returns-clause-locals : goal.returns-clause-locals
returns-clause-locals g c =
    let m : FlatStack = record { cells = c.self.inside.cells.cells; registers = c.self.inside.registers; address = c.self.inside.address } in
    let s = c.self.inside.cells.cells in
    let r = c.self.inside.registers in
    let n = rw (← c.self.view_is) at c.requires in
    let k : c.args.index < count_of (cell_at r.base (map shape s)) = subst (λ (w : ℕ). c.args.index < w) (local_count_at s r.base) n in
    let after = sound_set_shape s _ r _ _ c.self.invariant (c.self.invariant.stands.leads.base.locals c.args.index k) c.set_local.ensures.cells in
    rw (← c.self.view_is) (locals_set m c.args.index c.args.v _ c.self.invariant after n c.set_local.ensures.cells)
