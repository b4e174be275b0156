use Rattle.icn_parse.proofs.ReadOutcomes.{one_outcome, some_outcome}
use Rattle.icn_parse.proofs.parse_laws.one_outcome.Goals as goal

pub returns-clause-most : goal.returns-clause-most
returns-clause-most c = one_outcome

pub returns-clause-least : goal.returns-clause-least
returns-clause-least c = some_outcome
