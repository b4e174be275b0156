use Rattle.icn_verify.proofs.DecidedFaults.{shapes_given}
use Rattle.law_safe.proofs.AnyOutside.{never_over}
use Rattle.law_safe.proofs.TablesKept.{tables_ok}
use Rattle.law_safe.proofs.RowsWithin.{rows_stay_within}
use Rattle.law_safe.proofs.never_stuck_over_any_outside.Goals as goal

pub returns-clause-shaped : goal.returns-clause-shaped
returns-clause-shaped c = λ tables rules have launch. never_over tables have (tables_ok tables rules) rows_stay_within launch

pub returns-clause-verified : goal.returns-clause-verified
returns-clause-verified c =
    λ tables rules verified launch. never_over tables (shapes_given tables rules verified) (tables_ok tables rules) rows_stay_within launch
