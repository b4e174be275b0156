use Rattle.cases_rows.proofs.ScannedHold.{scans_hold}
use Rattle.cases_rows.proofs.table.scans.Goals as goal

pub returns : goal.returns
returns c = scans_hold
