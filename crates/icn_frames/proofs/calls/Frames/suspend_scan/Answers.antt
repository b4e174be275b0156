use Rattle.std.proofs.Common.{length, Some, refl, arith}
use Rattle.icn_frames.specs.declared.layout.Why.{Why}
use Rattle.icn_frames.specs.declared.layout.Why.TheVariants as Whys
use Rattle.icn_frames.specs.Stacks.{FlatStack}
use Rattle.icn_frames.proofs.SuspensionFrames.{sound_hung, sound_all, scan_here, suspend_is}
use Rattle.icn_frames.proofs.RunningProcs.{runs_hung}
use Rattle.icn_frames.proofs.calls.Frames.suspend_scan.Goals as goal

pub invariant_of-self-2 : goal.invariant_of-self-2
invariant_of-self-2 g c =
    let s = c.self.inside.cells.cells in
    let r = c.self.inside.registers in
    let h = c.in_ok-height.height in
    let w : Why = Whys.Scan c.args.pair in
    sound_hung w s _ r r c.self.inside.address h _ (length s) (Some h) c.self.invariant (sound_all s r c.self.invariant) (omega arith)
    c.bottom_of-from.ensures c.in_ok-height.ensures.height
    (scan_here w s r c.self.inside.address h (Some h) c.self.invariant c.in_ok-height.ensures.height refl)
    (rw c.len-to.ensures.is at c.in_ok-height.ensures.ok)

pub invariant_of-self-inside-2 : goal.invariant_of-self-inside-2
invariant_of-self-inside-2 g c =
    let s = c.self.inside.cells.cells in
    let r = c.self.inside.registers in
    let hung = rw c.len-to.ensures.is at c.in_ok-height.ensures.ok in
    (runs_hung _ s _ r _ (length s) _ c.self.invariant hung c.self.inside.runs, tt)

pub returns-clause-ok : goal.returns-clause-ok
returns-clause-ok g c =
    let h = c.in_ok-height.height in
    let w : Why = Whys.Scan c.args.pair in
    let m : FlatStack = record { cells = c.self.inside.cells.cells; registers = c.self.inside.registers; address = c.self.inside.address } in
    rw (← c.self.view_is)
    (suspend_is m w _ (Some h) h _ c.self.invariant c.bottom_of-from.ensures c.in_ok-height.ensures.height refl
    (rw c.len-to.ensures.is at c.in_ok-height.ensures.ok))
