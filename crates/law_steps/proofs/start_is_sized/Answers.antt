use Rattle.law_steps.proofs.StepsSized.{starts_sized}
use Rattle.law_steps.proofs.start_is_sized.Goals as goal

pub returns : goal.returns
returns c = starts_sized c.sizes_stay.ensures.kept
