use Rattle.cases_rows.proofs.NumbersHold.{arithmetic_hold}
use Rattle.cases_rows.proofs.table.arithmetic.Goals as goal

pub returns : goal.returns
returns c = arithmetic_hold
