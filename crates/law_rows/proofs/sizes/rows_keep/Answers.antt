use Rattle.law_rows.proofs.KeptSizes.{operation_keeps, function_keeps, again_keeps}
use Rattle.law_rows.proofs.sizes.rows_keep.Goals as goal

pub returns-clause-operations : goal.returns-clause-operations
returns-clause-operations c = operation_keeps

pub returns-clause-functions : goal.returns-clause-functions
returns-clause-functions c = function_keeps

pub returns-clause-resumed : goal.returns-clause-resumed
returns-clause-resumed c = again_keeps
