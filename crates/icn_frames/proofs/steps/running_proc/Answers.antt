use Rattle.std.proofs.Common.{◌≡◌, ◌+◌, ◌-◌, ◌∙◌, ap, arith, ℕ}
use Rattle.icn_frames.specs.Heights.{cell_at}
use Rattle.icn_frames.specs.Stacks.{proc_of}
use Rattle.icn_frames.proofs.HeightsRead.{frame_below}
use Rattle.icn_frames.proofs.steps.running_proc.Goals as goal

pub proc_at-requires : goal.proc_at-requires
proc_at-requires g c = frame_below _ _ c.requires

pub returns : goal.returns
returns g c =
    let from = c.requires.from in
    let same : c.args.r.base - 1 + 1 ≡ c.args.r.base = omega (arith, from) in
    c.proc_at.ensures ∙ ap (λ (n : ℕ). proc_of (cell_at n c.args.cells.now.cells)) same
