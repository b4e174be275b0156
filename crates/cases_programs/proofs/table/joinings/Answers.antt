use Rattle.cases_programs.proofs.JoiningsHold.{joinings_hold}
use Rattle.cases_programs.proofs.table.joinings.Goals as goal

pub returns : goal.returns
returns c = joinings_hold
