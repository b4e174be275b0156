use Rattle.std.proofs.Common.{subst}
use Rattle.icn_heap.specs.NeededValues.{AreNeeded}
use Rattle.icn_heap.proofs.NeededSteps.{needed_then}
use Rattle.icn_control.proofs.collecting.add_coexp.Goals as goal

pub returns : goal.returns
returns g c =
    needed_then (subst (AreNeeded c.args.needed.now c.add_all.new.self) c.deref.ensures.value c.in_ok-add_all.ensures)
    c.in_ok-add_status.ensures
