use Rattle.cases_programs.proofs.CoexpressionsHold.{coexpressions_hold}
use Rattle.cases_programs.proofs.table.coexpressions.Goals as goal

pub returns : goal.returns
returns c = coexpressions_hold
