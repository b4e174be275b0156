use Rattle.law_steps.proofs.NamedStarts.{starts_named}
use Rattle.law_steps.proofs.start_is_named.Goals as goal

pub returns : goal.returns
returns c = starts_named c.names_stay.ensures.kept
