use Rattle.icn_heap.proofs.NewNumbers.{lists_differ, sets_differ, tables_differ, records_differ}
use Rattle.icn_heap.proofs.heap_laws.made_differ.Goals as goal

pub returns-clause-lists : goal.returns-clause-lists
returns-clause-lists c heap made items done = lists_differ heap made items done

pub returns-clause-sets : goal.returns-clause-sets
returns-clause-sets c heap made done = sets_differ heap made done

pub returns-clause-tables : goal.returns-clause-tables
returns-clause-tables c heap made default done = tables_differ heap made default done

pub returns-clause-records : goal.returns-clause-records
returns-clause-records c heap made kind fields done = records_differ heap made kind fields done
