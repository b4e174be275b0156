use Rattle.std.proofs.Common.{◌≡◌, length, Option, ℕ, ap, ◌∙◌, arith}
use Rattle.icn_frames.specs.Stacks.{FlatStack, older_scan, scan_by}
use Rattle.icn_frames.proofs.SuspensionFrames.{sound_hung, sound_all, scan_here, suspend_is}
use Rattle.icn_frames.proofs.RunningProcs.{runs_hung}
use Rattle.icn_frames.proofs.calls.Frames.suspend_here.Goals as goal

pub older_scan-older-requires : goal.older_scan-older-requires
older_scan-older-requires g c = c.self.invariant.stands.leads.scan

pub invariant_of-self-2 : goal.invariant_of-self-2
invariant_of-self-2 g c =
    let s = c.self.inside.cells.cells in
    let r = c.self.inside.registers in
    let w = c.args.why.now in
    let h = c.in_ok-height.height in
    let q : c.scan_after.result ≡ scan_by w h (older_scan s r.scan) r.scan = c.scan_after.ensures
    ∙ ap (λ (x : Option ℕ). scan_by w h x r.scan) c.older_scan-older.ensures in
    sound_hung w s _ r r c.self.inside.address _ _ (length s) c.scan_after.result c.self.invariant (sound_all s r c.self.invariant) (omega arith)
    c.bottom_of-from.ensures c.in_ok-height.ensures.height
    (scan_here w s r c.self.inside.address h c.scan_after.result c.self.invariant c.in_ok-height.ensures.height q)
    (rw c.len-to.ensures.is at c.in_ok-height.ensures.ok)

pub invariant_of-self-inside-2 : goal.invariant_of-self-inside-2
invariant_of-self-inside-2 g c =
    let s = c.self.inside.cells.cells in
    let r = c.self.inside.registers in
    let hung = rw c.len-to.ensures.is at c.in_ok-height.ensures.ok in
    (runs_hung _ s _ r _ (length s) _ c.self.invariant hung c.self.inside.runs, tt)

pub returns-clause-ok : goal.returns-clause-ok
returns-clause-ok g c =
    let s = c.self.inside.cells.cells in
    let r = c.self.inside.registers in
    let w = c.args.why.now in
    let h = c.in_ok-height.height in
    let q : c.scan_after.result ≡ scan_by w h (older_scan s r.scan) r.scan = c.scan_after.ensures
    ∙ ap (λ (x : Option ℕ). scan_by w h x r.scan) c.older_scan-older.ensures in
    let m : FlatStack = record { cells = c.self.inside.cells.cells; registers = c.self.inside.registers; address = c.self.inside.address } in
    rw (← c.self.view_is) (suspend_is m w _ c.scan_after.result _ _ c.self.invariant
    c.bottom_of-from.ensures c.in_ok-height.ensures.height q (rw c.len-to.ensures.is at c.in_ok-height.ensures.ok))
