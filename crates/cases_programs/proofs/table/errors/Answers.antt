use Rattle.cases_programs.proofs.ErrorsHold.{errors_hold}
use Rattle.cases_programs.proofs.table.errors.Goals as goal

pub returns : goal.returns
returns c = errors_hold
