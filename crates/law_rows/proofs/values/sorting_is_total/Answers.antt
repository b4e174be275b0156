use Rattle.law_rows.proofs.SortOrder.{order_is_total, ties}
use Rattle.law_rows.proofs.values.sorting_is_total.Goals as goal

pub returns-clause-total : goal.returns-clause-total
returns-clause-total c = order_is_total

pub returns-clause-ties : goal.returns-clause-ties
returns-clause-ties c = ties
