use Rattle.std.proofs.Common.{◌-◌, refl, arith}
use Rattle.icn_frames.specs.Heights.{cut}
use Rattle.icn_frames.specs.Stacks.{FlatStack}
use Rattle.icn_frames.specs.StackInvariant.{Sound}
use Rattle.icn_frames.specs.declared.layout.Why.TheVariants.{Proc}
use Rattle.icn_frames.proofs.CellFacts.{within_cells, sound_cut, frame_kind}
use Rattle.icn_frames.proofs.SuspensionFrames.{leads_lower, order_lower, sound_hung, scan_lower, suspend_proc_is}
use Rattle.icn_frames.proofs.HeightsRead.{call_saved}
use Rattle.icn_frames.proofs.calls.Frames.suspend_proc.Goals as goal

pub bottom_of-from-requires : goal.bottom_of-from-requires
bottom_of-from-requires g c =
    let s = c.self.inside.cells.cells in
    let r = c.self.inside.registers in
    let k = frame_kind _ _ c.self.invariant.stands.leads.base in
    let w = call_saved _ _ c.saved_at-saved.result c.return_at-address.result c.self.invariant (rw (← c.self.view_is) at c.requires)
    c.saved_at-saved.ensures c.return_at-address.ensures in
    let o = c.saved_at-saved.result in
    let u : Sound (cut (r.base - 1) s) o = sound_cut s _ r _ _ _ c.self.invariant k.from (within_cells _ _ k.to) w.3 refl refl in
    (leads_lower s (r.base - 1) o u.stands.leads).base

pub hang-requires-clause-order : goal.hang-requires-clause-order
hang-requires-clause-order g c =
    let s = c.self.inside.cells.cells in
    let r = c.self.inside.registers in
    let k = frame_kind _ _ c.self.invariant.stands.leads.base in
    let w = call_saved _ _ c.saved_at-saved.result c.return_at-address.result c.self.invariant (rw (← c.self.view_is) at c.requires)
    c.saved_at-saved.ensures c.return_at-address.ensures in
    let o = c.saved_at-saved.result in
    let u : Sound (cut (r.base - 1) s) o = sound_cut s _ r _ _ _ c.self.invariant k.from (within_cells _ _ k.to) w.3 refl refl in
    order_lower s (r.base - 1) _ o u (omega (arith, within_cells _ _ k.to)) c.bottom_of-from.ensures

pub running_proc-self-inside-requires : goal.running_proc-self-inside-requires
running_proc-self-inside-requires g c =
    let s = c.self.inside.cells.cells in
    let r = c.self.inside.registers in
    let k = frame_kind _ _ c.self.invariant.stands.leads.base in
    let w = call_saved _ _ c.saved_at-saved.result c.return_at-address.result c.self.invariant (rw (← c.self.view_is) at c.requires)
    c.saved_at-saved.ensures c.return_at-address.ensures in
    let o = c.saved_at-saved.result in
    let u : Sound (cut (r.base - 1) s) o = sound_cut s _ r _ _ _ c.self.invariant k.from (within_cells _ _ k.to) w.3 refl refl in
    (sound_hung Proc s _ r o c.self.inside.address _ _ (r.base - 1) o.scan c.self.invariant u
    (omega (arith, within_cells _ _ k.to))
    c.bottom_of-from.ensures c.in_ok-height.ensures.height
    (scan_lower Proc s (r.base - 1) c.self.inside.address r o u) c.in_ok-height.ensures.ok).stands.leads.base

pub invariant_of-self-2 : goal.invariant_of-self-2
invariant_of-self-2 g c =
    let s = c.self.inside.cells.cells in
    let r = c.self.inside.registers in
    let k = frame_kind _ _ c.self.invariant.stands.leads.base in
    let w = call_saved _ _ c.saved_at-saved.result c.return_at-address.result c.self.invariant (rw (← c.self.view_is) at c.requires)
    c.saved_at-saved.ensures c.return_at-address.ensures in
    let o = c.saved_at-saved.result in
    let u : Sound (cut (r.base - 1) s) o = sound_cut s _ r _ _ _ c.self.invariant k.from (within_cells _ _ k.to) w.3 refl refl in
    sound_hung Proc s _ r o c.self.inside.address _ _ (r.base - 1) o.scan c.self.invariant u
    (omega (arith, within_cells _ _ k.to))
    c.bottom_of-from.ensures c.in_ok-height.ensures.height
    (scan_lower Proc s (r.base - 1) c.self.inside.address r o u) c.in_ok-height.ensures.ok

pub returns-clause-ok : goal.returns-clause-ok
returns-clause-ok g c =
    let s = c.self.inside.cells.cells in
    let r = c.self.inside.registers in
    let k = frame_kind _ _ c.self.invariant.stands.leads.base in
    let w = call_saved _ _ c.saved_at-saved.result c.return_at-address.result c.self.invariant (rw (← c.self.view_is) at c.requires)
    c.saved_at-saved.ensures c.return_at-address.ensures in
    let o = c.saved_at-saved.result in
    let u : Sound (cut (r.base - 1) s) o = sound_cut s _ r _ _ _ c.self.invariant k.from (within_cells _ _ k.to) w.3 refl refl in
    let m : FlatStack = record { cells = c.self.inside.cells.cells; registers = c.self.inside.registers; address = c.self.inside.address } in
    rw (← c.self.view_is) (suspend_proc_is m _ _ _ _ _ o _ _ c.self.invariant w.3 u
    c.bottom_of-from.ensures c.in_ok-height.ensures.height c.in_ok-height.ensures.ok)
