use Rattle.law_names.proofs.RowsNamed.{rows_keep_names}
use Rattle.law_names.proofs.names_stay.Goals as goal

pub returns : goal.returns
returns c = record { kept = rows_keep_names }
