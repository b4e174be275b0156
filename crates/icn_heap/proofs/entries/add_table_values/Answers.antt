use Rattle.icn_heap.proofs.NeededSteps.{needed_table}
use Rattle.icn_heap.proofs.entries.add_table_values.Goals as goal

pub returns : goal.returns
returns c = needed_table c.args.table.now c.in_ok-add.ensures c.in_ok-add_pairs.ensures
