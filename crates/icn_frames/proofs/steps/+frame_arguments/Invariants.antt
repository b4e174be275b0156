use Rattle.icn_frames.proofs.steps.+frame_arguments.Given as goal

abbrev pub decreases-frame_arguments : goal.decreases-frame_arguments
decreases-frame_arguments g l = l.left
