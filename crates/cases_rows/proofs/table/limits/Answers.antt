use Rattle.cases_rows.proofs.LimitedHold.{limits_hold}
use Rattle.cases_rows.proofs.table.limits.Goals as goal

pub returns : goal.returns
returns c = limits_hold
