use Rattle.cases_programs.proofs.NamedHold.{named_calls_hold}
use Rattle.cases_programs.proofs.table.named_calls.Goals as goal

pub returns : goal.returns
returns c = named_calls_hold
