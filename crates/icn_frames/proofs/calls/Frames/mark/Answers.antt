use Rattle.std.proofs.Common.{length, suc, ap, ◌∙◌}
use Rattle.icn_frames.proofs.SoundStacks.{sound_open}
use Rattle.icn_frames.proofs.RunningProcs.{base_there, runs_on}
use Rattle.icn_frames.proofs.calls.Frames.mark.Goals as goal

pub invariant_of-self-2 : goal.invariant_of-self-2
invariant_of-self-2 g c = rw (c.push_mark.ensures.cells, c.in_ok-reserve_one.ensures.cells)
    (sound_open _ _ _ _ _ (c.len.ensures.is ∙ ap length c.push_mark.ensures.cells ∙ ap (λ w. suc (length w)) c.in_ok-reserve_one.ensures.cells)
    c.self.invariant)

pub invariant_of-self-inside-2 : goal.invariant_of-self-inside-2
invariant_of-self-inside-2 g c = (
  rw (c.push_mark.ensures.cells, c.in_ok-reserve_one.ensures.cells)
      (runs_on _ c.self.inside.cells.cells c.self.inside.registers.base _ (base_there _ _ c.self.invariant) c.self.inside.runs),
  tt,
)
