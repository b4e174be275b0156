use Rattle.icn_frames.proofs.HeightsRead.{frame_below}
use Rattle.icn_frames.proofs.steps.bottom_of.Goals as goal

pub locals_at-requires : goal.locals_at-requires
locals_at-requires g c = frame_below _ _ c.requires
