use Rattle.law_rows.proofs.InOrder.{among_in_order, found_in_order}
use Rattle.law_rows.proofs.walks.searches_go_in_order.Goals as goal

pub returns-clause-find : goal.returns-clause-find
returns-clause-find c = found_in_order

pub returns-clause-upto : goal.returns-clause-upto
returns-clause-upto c = among_in_order
