use Rattle.cases_rows.proofs.StructuredHold.{structures_hold}
use Rattle.cases_rows.proofs.table.structures.Goals as goal

pub returns : goal.returns
returns c = structures_hold
