use Rattle.cases_rows.proofs.ReportedHold.{words_hold}
use Rattle.cases_rows.proofs.table.words.Goals as goal

pub returns : goal.returns
returns c = words_hold
