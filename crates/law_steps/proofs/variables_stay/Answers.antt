use Rattle.law_steps.proofs.RowVariables.{rows_keep_variables}
use Rattle.law_steps.proofs.VariablesKept.{states_have_variables}
use Rattle.law_steps.proofs.variables_stay.Goals as goal

pub returns : goal.returns
returns c = states_have_variables rows_keep_variables
