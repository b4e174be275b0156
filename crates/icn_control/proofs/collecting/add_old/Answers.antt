use Rattle.icn_heap.proofs.NeededSteps.{needed_then}
use Rattle.icn_control.proofs.collecting.add_old.Goals as goal

pub returns : goal.returns
returns c = needed_then c.in_ok-add_variable.ensures c.in_ok-add.ensures
