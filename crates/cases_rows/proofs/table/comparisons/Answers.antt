use Rattle.cases_rows.proofs.ComparedHold.{comparisons_hold}
use Rattle.cases_rows.proofs.table.comparisons.Goals as goal

pub returns : goal.returns
returns c = comparisons_hold
