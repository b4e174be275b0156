use Rattle.law_rows.proofs.ErrorsBeforeCharges.{operations_unchanged, functions_unchanged, again_unchanged}
use Rattle.law_rows.proofs.errors.errors_change_nothing.Goals as goal

pub returns-clause-operations : goal.returns-clause-operations
returns-clause-operations c = operations_unchanged

pub returns-clause-functions : goal.returns-clause-functions
returns-clause-functions c = functions_unchanged

pub returns-clause-resumed : goal.returns-clause-resumed
returns-clause-resumed c = again_unchanged
