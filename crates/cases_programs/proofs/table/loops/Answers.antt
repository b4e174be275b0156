use Rattle.cases_programs.proofs.LoopsHold.{loops_hold}
use Rattle.cases_programs.proofs.table.loops.Goals as goal

pub returns : goal.returns
returns c = loops_hold
