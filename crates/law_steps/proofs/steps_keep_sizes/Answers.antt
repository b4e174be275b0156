use Rattle.law_steps.proofs.StepsSized.{steps_sized}
use Rattle.law_steps.proofs.steps_keep_sizes.Goals as goal

pub returns : goal.returns
returns c = record { kept = steps_sized c.sizes_stay.ensures.kept }
