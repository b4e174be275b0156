use Rattle.std.proofs.Common.{refl, ap}
use Rattle.icn_frames.specs.Stacks.{FlatStack}
use Rattle.icn_frames.specs.StackInvariant.{Sound, outer_of}
use Rattle.icn_frames.proofs.CellFacts.{within_cells, sound_cut}
use Rattle.icn_frames.proofs.OpenScans.{unmark_is}
use Rattle.icn_frames.proofs.HeightsRead.{mark_saved}
use Rattle.icn_frames.proofs.calls.Frames.drop_mark.Goals as goal

pub running_proc-self-inside-requires : goal.running_proc-self-inside-requires
running_proc-self-inside-requires g c =
    let k = c.self.invariant.stands.leads.mark in
    let w = mark_saved _ _ c.saved_at-saved.result c.self.invariant (rw (← c.self.view_is) at c.requires) c.saved_at-saved.ensures in
    let t : Sound c.cut.new.self.cells c.saved_at-saved.result =
    sound_cut _ _ _ _ _ _ c.self.invariant k.from (within_cells _ _ k.to) w.1 (ap outer_of w.2) c.cut.ensures.cells in
    t.stands.leads.base

pub invariant_of-self : goal.invariant_of-self
invariant_of-self g c =
    let k = c.self.invariant.stands.leads.mark in
    let w = mark_saved _ _ c.saved_at-saved.result c.self.invariant (rw (← c.self.view_is) at c.requires) c.saved_at-saved.ensures in
    sound_cut _ _ _ _ _ _ c.self.invariant k.from (within_cells _ _ k.to) w.1 (ap outer_of w.2) c.cut.ensures.cells

pub returns-clause-flat : goal.returns-clause-flat
returns-clause-flat g c =
    let m : FlatStack = record { cells = c.self.inside.cells.cells; registers = c.self.inside.registers; address = c.self.inside.address } in
    let w = mark_saved _ _ c.saved_at-saved.result c.self.invariant (rw (← c.self.view_is) at c.requires) c.saved_at-saved.ensures in
    rw (← c.self.view_is) (_, unmark_is m _ _ _ _ c.self.invariant w.1 w.2 c.cut.ensures.cells refl)
