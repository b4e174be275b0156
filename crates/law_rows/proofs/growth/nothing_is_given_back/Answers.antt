use Rattle.law_rows.proofs.GrowingSums.{operation_grows, function_grows, again_grows}
use Rattle.law_rows.proofs.growth.nothing_is_given_back.Goals as goal

pub returns-clause-operations : goal.returns-clause-operations
returns-clause-operations c = operation_grows

pub returns-clause-functions : goal.returns-clause-functions
returns-clause-functions c = function_grows

pub returns-clause-resumed : goal.returns-clause-resumed
returns-clause-resumed c = again_grows
