use Rattle.icn_vars.proofs.HeapRows.{coexp_made, coexp_refused}
use Rattle.icn_vars.proofs.change_laws.coexpressions_are_made.Goals as goal

pub returns-clause-made : goal.returns-clause-made
returns-clause-made c locals setting heap is = coexp_made locals setting heap is

pub returns-clause-refused : goal.returns-clause-refused
returns-clause-refused c locals setting full is = coexp_refused locals setting full is
