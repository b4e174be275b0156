use Rattle.law_safe.proofs.RowsWithin.{rows_stay_within}
use Rattle.law_safe.proofs.rows_stay.Goals as goal

pub returns : goal.returns
returns c = record { within = rows_stay_within }
