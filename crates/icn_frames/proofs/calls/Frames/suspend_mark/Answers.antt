use Rattle.std.proofs.Common.{◌-◌, ◌≤◌, length, refl, ap, arith}
use Rattle.icn_frames.specs.Heights.{cut}
use Rattle.icn_frames.specs.Stacks.{FlatStack}
use Rattle.icn_frames.specs.StackInvariant.{Sound, outer_of}
use Rattle.icn_frames.specs.declared.layout.Why.TheVariants.{Alt}
use Rattle.icn_frames.proofs.CellFacts.{within_cells, sound_cut}
use Rattle.icn_frames.proofs.SuspensionFrames.{leads_lower, order_lower, sound_hung, scan_lower, suspend_mark_is}
use Rattle.icn_frames.proofs.HeightsRead.{mark_saved}
use Rattle.icn_frames.proofs.calls.Frames.suspend_mark.Goals as goal

pub bottom_of-from-requires : goal.bottom_of-from-requires
bottom_of-from-requires g c =
    let s = c.self.inside.cells.cells in
    let r = c.self.inside.registers in
    let k = c.self.invariant.stands.leads.mark in
    let n : r.mark ≤ length s = within_cells _ _ k.to in
    let o = c.saved_at-saved.result in
    let w = mark_saved s r o c.self.invariant (rw (← c.self.view_is) at c.requires) c.saved_at-saved.ensures in
    let u : Sound (cut (r.mark - 1) s) o = sound_cut s _ r _ _ _ c.self.invariant k.from n w.1 (ap outer_of w.2) refl in
    (leads_lower s (r.mark - 1) o u.stands.leads).base

pub hang-requires-clause-order : goal.hang-requires-clause-order
hang-requires-clause-order g c =
    let s = c.self.inside.cells.cells in
    let r = c.self.inside.registers in
    let k = c.self.invariant.stands.leads.mark in
    let n : r.mark ≤ length s = within_cells _ _ k.to in
    let o = c.saved_at-saved.result in
    let w = mark_saved s r o c.self.invariant (rw (← c.self.view_is) at c.requires) c.saved_at-saved.ensures in
    let u : Sound (cut (r.mark - 1) s) o = sound_cut s _ r _ _ _ c.self.invariant k.from n w.1 (ap outer_of w.2) refl in
    order_lower s (r.mark - 1) _ o u (omega arith) c.bottom_of-from.ensures

pub running_proc-self-inside-requires : goal.running_proc-self-inside-requires
running_proc-self-inside-requires g c =
    let s = c.self.inside.cells.cells in
    let r = c.self.inside.registers in
    let k = c.self.invariant.stands.leads.mark in
    let n : r.mark ≤ length s = within_cells _ _ k.to in
    let o = c.saved_at-saved.result in
    let w = mark_saved s r o c.self.invariant (rw (← c.self.view_is) at c.requires) c.saved_at-saved.ensures in
    let u : Sound (cut (r.mark - 1) s) o = sound_cut s _ r _ _ _ c.self.invariant k.from n w.1 (ap outer_of w.2) refl in
    (sound_hung Alt s _ r o c.self.inside.address _ _ (r.mark - 1) o.scan c.self.invariant u (omega arith)
    c.bottom_of-from.ensures c.in_ok-height.ensures.height (scan_lower Alt s (r.mark - 1) c.self.inside.address r o u)
    c.in_ok-height.ensures.ok).stands.leads.base

pub invariant_of-self-2 : goal.invariant_of-self-2
invariant_of-self-2 g c =
    let s = c.self.inside.cells.cells in
    let r = c.self.inside.registers in
    let k = c.self.invariant.stands.leads.mark in
    let n : r.mark ≤ length s = within_cells _ _ k.to in
    let o = c.saved_at-saved.result in
    let w = mark_saved s r o c.self.invariant (rw (← c.self.view_is) at c.requires) c.saved_at-saved.ensures in
    let u : Sound (cut (r.mark - 1) s) o = sound_cut s _ r _ _ _ c.self.invariant k.from n w.1 (ap outer_of w.2) refl in
    sound_hung Alt s _ r o c.self.inside.address _ _ (r.mark - 1) o.scan c.self.invariant u (omega arith)
    c.bottom_of-from.ensures c.in_ok-height.ensures.height (scan_lower Alt s (r.mark - 1) c.self.inside.address r o u) c.in_ok-height.ensures.ok

pub returns-clause-ok : goal.returns-clause-ok
returns-clause-ok g c =
    let s = c.self.inside.cells.cells in
    let r = c.self.inside.registers in
    let k = c.self.invariant.stands.leads.mark in
    let n : r.mark ≤ length s = within_cells _ _ k.to in
    let o = c.saved_at-saved.result in
    let w = mark_saved s r o c.self.invariant (rw (← c.self.view_is) at c.requires) c.saved_at-saved.ensures in
    let u : Sound (cut (r.mark - 1) s) o = sound_cut s _ r _ _ _ c.self.invariant k.from n w.1 (ap outer_of w.2) refl in
    let m : FlatStack = record { cells = c.self.inside.cells.cells; registers = c.self.inside.registers; address = c.self.inside.address } in
    rw (← c.self.view_is) (suspend_mark_is m _ _ o _ _ c.self.invariant w.1 w.2 u
    c.bottom_of-from.ensures c.in_ok-height.ensures.height c.in_ok-height.ensures.ok)
