use Rattle.icn_verify.proofs.DecidedFaults.{shapes_given}
use Rattle.law_safe.proofs.RowsWithin.{rows_stay_within}
use Rattle.law_safe.proofs.TablesKept.{tables_ok}
use Rattle.law_safe.proofs.CaseMarks.{cases_stand}
use Rattle.law_safe.proofs.cases_stand.Goals as goal

pub returns-clause-verified : goal.returns-clause-verified
returns-clause-verified c =
    λ tables rules verified launch. cases_stand tables (shapes_given tables rules verified) (tables_ok tables rules) rows_stay_within launch

pub returns-clause-shaped : goal.returns-clause-shaped
returns-clause-shaped c = λ tables rules have launch. cases_stand tables have (tables_ok tables rules) rows_stay_within launch
