use Rattle.cases_rows.proofs.ReportedHold.{reports_hold}
use Rattle.cases_rows.proofs.table.reports.Goals as goal

pub returns : goal.returns
returns c = reports_hold
