use Rattle.law_stacks.proofs.SecondLaw.{agrees_everywhere, agrees_where_covered, agrees_as_told}
use Rattle.law_stacks.proofs.second_law.Goals as goal

pub returns-clause-everywhere : goal.returns-clause-everywhere
returns-clause-everywhere c = agrees_everywhere

pub returns-clause-told : goal.returns-clause-told
returns-clause-told c = agrees_as_told

pub returns-clause-covered : goal.returns-clause-covered
returns-clause-covered c = agrees_where_covered
