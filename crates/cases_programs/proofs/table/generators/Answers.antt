use Rattle.cases_programs.proofs.GeneratorsHold.{generators_hold}
use Rattle.cases_programs.proofs.table.generators.Goals as goal

pub returns : goal.returns
returns c = generators_hold
