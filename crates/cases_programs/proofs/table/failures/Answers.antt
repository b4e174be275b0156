use Rattle.cases_programs.proofs.FailuresHold.{failures_hold}
use Rattle.cases_programs.proofs.table.failures.Goals as goal

pub returns : goal.returns
returns c = failures_hold
