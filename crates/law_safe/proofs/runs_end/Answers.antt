use Rattle.icn_verify.proofs.DecidedFaults.{shapes_given}
use Rattle.law_safe.proofs.Observations.{are_over}
use Rattle.law_safe.proofs.TablesKept.{tables_ok}
use Rattle.law_safe.proofs.RowsWithin.{rows_stay_within}
use Rattle.law_safe.proofs.runs_end.Goals as goal

pub returns-clause-shaped : goal.returns-clause-shaped
returns-clause-shaped c = λ tables rules have. are_over tables have (tables_ok tables rules) rows_stay_within

pub returns-clause-verified : goal.returns-clause-verified
returns-clause-verified c = λ tables rules verified. are_over tables (shapes_given tables rules verified) (tables_ok tables rules) rows_stay_within
