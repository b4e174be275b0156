use Rattle.icn_frames.proofs.SoundStacks.{sound_push}
use Rattle.icn_frames.proofs.RunningProcs.{base_there, runs_on}
use Rattle.icn_frames.proofs.calls.Frames.give.Goals as goal

pub invariant_of-self : goal.invariant_of-self
invariant_of-self g c = rw c.push_operand.ensures.cells (sound_push _ _ _ c.self.invariant)

pub invariant_of-self-inside : goal.invariant_of-self-inside
invariant_of-self-inside g c = (
  rw c.push_operand.ensures.cells
      (runs_on _ c.self.inside.cells.cells c.self.inside.registers.base _ (base_there _ _ c.self.invariant) c.self.inside.runs),
  tt,
)
