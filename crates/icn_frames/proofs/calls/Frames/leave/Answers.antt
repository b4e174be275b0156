use Rattle.std.proofs.Common.{refl}
use Rattle.icn_frames.specs.Stacks.{FlatStack}
use Rattle.icn_frames.specs.StackInvariant.{Sound}
use Rattle.icn_frames.proofs.CellFacts.{sound_cut, within_cells, frame_kind, leave_is}
use Rattle.icn_frames.proofs.HeightsRead.{call_saved}
use Rattle.icn_frames.proofs.calls.Frames.leave.Goals as goal

pub running_proc-self-inside-requires : goal.running_proc-self-inside-requires
running_proc-self-inside-requires g c =
    let k = frame_kind _ _ c.self.invariant.stands.leads.base in
    let w = call_saved _ _ c.saved_at-saved.result c.return_at-address.result c.self.invariant (rw (← c.self.view_is) at c.requires)
    c.saved_at-saved.ensures c.return_at-address.ensures in
    let t : Sound c.cut.new.self.cells c.saved_at-saved.result =
    sound_cut _ _ _ _ _ _ c.self.invariant k.from (within_cells _ _ k.to) w.3 refl c.cut.ensures.cells in
    t.stands.leads.base

pub invariant_of-self : goal.invariant_of-self
invariant_of-self g c =
    let k = frame_kind _ _ c.self.invariant.stands.leads.base in
    let w = call_saved _ _ c.saved_at-saved.result c.return_at-address.result c.self.invariant (rw (← c.self.view_is) at c.requires)
    c.saved_at-saved.ensures c.return_at-address.ensures in
    sound_cut _ _ _ _ _ _ c.self.invariant k.from (within_cells _ _ k.to) w.3 refl c.cut.ensures.cells

pub returns-clause-flat : goal.returns-clause-flat
returns-clause-flat g c =
    let m : FlatStack = record { cells = c.self.inside.cells.cells; registers = c.self.inside.registers; address = c.self.inside.address } in
    let k = frame_kind _ _ c.self.invariant.stands.leads.base in
    let w = call_saved _ _ c.saved_at-saved.result c.return_at-address.result c.self.invariant (rw (← c.self.view_is) at c.requires)
    c.saved_at-saved.ensures c.return_at-address.ensures in
    rw (← c.self.view_is) (leave_is m _ _ _ _ _ _ k.from (within_cells _ _ k.to) w.3 c.cut.ensures.cells)
