use Rattle.law_rows.proofs.SortedOnce.{sorted_is_unique, ascending, moved}
use Rattle.law_rows.proofs.sorting.sorting_puts_in_order.Goals as goal

pub returns-clause-same : goal.returns-clause-same
returns-clause-same t c = moved

pub returns-clause-ascending : goal.returns-clause-ascending
returns-clause-ascending t c = ascending

pub returns-clause-alone : goal.returns-clause-alone
returns-clause-alone t c = sorted_is_unique
