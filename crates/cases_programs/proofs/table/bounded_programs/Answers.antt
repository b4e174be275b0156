use Rattle.cases_programs.proofs.BoundedHold.{bounded_hold}
use Rattle.cases_programs.proofs.table.bounded_programs.Goals as goal

pub returns : goal.returns
returns c = bounded_hold
