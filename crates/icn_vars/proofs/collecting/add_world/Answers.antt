use Rattle.std.proofs.Common.{subst}
use Rattle.icn_heap.specs.NeededValues.{AreNeeded}
use Rattle.icn_heap.proofs.NeededSteps.{needed_then}
use Rattle.icn_vars.proofs.collecting.add_world.Goals as goal

pub returns : goal.returns
returns c =
    let globals = subst (AreNeeded c.add_error.new.needed c.add_all.new.self) c.deref.ensures.value c.in_ok-add_all.ensures in
    let statics = subst (AreNeeded c.add_all.new.self c.add_all-2.new.self) c.deref-2.ensures.value c.in_ok-add_all-2.ensures in
    needed_then c.in_ok-add.ensures (needed_then c.in_ok-add_error.ensures (needed_then globals statics))
