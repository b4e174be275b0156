use Rattle.cases_programs.proofs.ScansHold.{scans_hold}
use Rattle.cases_programs.proofs.table.scans.Goals as goal

pub returns : goal.returns
returns c = scans_hold
