use Rattle.cases_rows.proofs.NamedHold.{named_values_hold}
use Rattle.cases_rows.proofs.table.named_values.Goals as goal

pub returns : goal.returns
returns c = named_values_hold
