use Rattle.cases_rows.proofs.OutsideHold.{input_and_output_hold}
use Rattle.cases_rows.proofs.table.input_and_output.Goals as goal

pub returns : goal.returns
returns c = input_and_output_hold
