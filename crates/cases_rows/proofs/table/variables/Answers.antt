use Rattle.cases_rows.proofs.AssignedHold.{variables_hold}
use Rattle.cases_rows.proofs.table.variables.Goals as goal

pub returns : goal.returns
returns c = variables_hold
