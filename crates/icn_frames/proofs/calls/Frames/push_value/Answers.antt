use Rattle.icn_frames.proofs.SoundStacks.{sound_push}
use Rattle.icn_frames.proofs.RunningProcs.{base_there, runs_on}
use Rattle.icn_frames.proofs.calls.Frames.push_value.Goals as goal

pub invariant_of-self-2 : goal.invariant_of-self-2
invariant_of-self-2 g c = rw (c.push_value.ensures.cells, c.in_ok-reserve_one.ensures.cells) (sound_push _ _ _ c.self.invariant)

pub invariant_of-self-inside-2 : goal.invariant_of-self-inside-2
invariant_of-self-inside-2 g c = (
  rw (c.push_value.ensures.cells, c.in_ok-reserve_one.ensures.cells)
      (runs_on _ c.self.inside.cells.cells c.self.inside.registers.base _ (base_there _ _ c.self.invariant) c.self.inside.runs),
  tt,
)
