use Rattle.cases_programs.proofs.ReadingsHold.{readings_hold}
use Rattle.cases_programs.proofs.table.readings.Goals as goal

pub returns : goal.returns
returns c = readings_hold
