use Rattle.icn_frames.proofs.SoundStacks.{sound_push}
use Rattle.icn_frames.proofs.HeightsRead.{some_is}
use Rattle.icn_frames.proofs.RunningProcs.{base_there, runs_on}
use Rattle.icn_frames.proofs.calls.Frames.suspend_proc_plain.Goals as goal

pub invariant_of-self : goal.invariant_of-self
invariant_of-self g c =
    let y = some_is _ c.requires.plain in
    rw (c.push_plain.ensures.cells y.0 y.1) (sound_push y.0 _ _ c.self.invariant)

pub invariant_of-self-inside : goal.invariant_of-self-inside
invariant_of-self-inside g c =
    let y = some_is _ c.requires.plain in (
      rw (c.push_plain.ensures.cells y.0 y.1)
          (runs_on _ c.self.inside.cells.cells c.self.inside.registers.base _ (base_there _ _ c.self.invariant) c.self.inside.runs),
      tt,
    )
