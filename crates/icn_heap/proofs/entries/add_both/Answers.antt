use Rattle.icn_heap.proofs.NeededSteps.{needed_then}
use Rattle.icn_heap.proofs.entries.add_both.Goals as goal

pub returns : goal.returns
returns c = needed_then c.in_ok-add.ensures c.in_ok-add-2.ensures
