use Rattle.cases_programs.proofs.PlainHold.{plain_hold}
use Rattle.cases_programs.proofs.table.plain.Goals as goal

pub returns : goal.returns
returns c = plain_hold
