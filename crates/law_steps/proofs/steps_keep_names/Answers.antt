use Rattle.law_steps.proofs.StepsNamed.{steps_named}
use Rattle.law_steps.proofs.steps_keep_names.Goals as goal

pub returns : goal.returns
returns c = record { kept = steps_named c.names_stay.ensures.kept }
