use Rattle.law_steps.proofs.RowCounts.{rows_keep_counts}
use Rattle.law_steps.proofs.counts_stay.Goals as goal

pub returns : goal.returns
returns c = record { kept = rows_keep_counts }
