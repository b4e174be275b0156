use Rattle.cases_rows.proofs.TextsHold.{texts_hold}
use Rattle.cases_rows.proofs.table.texts.Goals as goal

pub returns : goal.returns
returns c = texts_hold
