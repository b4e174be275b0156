use Rattle.law_names.proofs.RowSizes.{rows_keep_sizes}
use Rattle.law_names.proofs.sizes_stay.Goals as goal

pub returns : goal.returns
returns c = record { kept = rows_keep_sizes }
