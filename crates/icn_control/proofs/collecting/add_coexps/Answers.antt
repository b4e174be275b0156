use Rattle.std.proofs.Common.{subst}
use Rattle.std.specs.List.{flat_map}
use Rattle.std.proofs.lemmas.List.{take_all}
use Rattle.icn_heap.specs.NeededValues.{AreNeeded}
use Rattle.icn_heap.proofs.NeededSteps.{needed_next, needed_none}
use Rattle.icn_control.specs.NeededStacks.{entry_vals}
use Rattle.icn_control.proofs.collecting.add_coexps.Goals as goal

pub loop-entry-init : goal.loop-entry-init
loop-entry-init g c = needed_none c.args.needed.now

pub loop-entry-preserved : goal.loop-entry-preserved
loop-entry-preserved g c =
    needed_next entry_vals c.args.entries.now c.loop-entry.entry-index c.entry-item.result c.loop-entry-test.true c.entry-item.is
    c.loop-entry.invariant c.in_ok-add_coexp.ensures

pub returns : goal.returns
returns g c =
    subst (λ xs. AreNeeded c.args.needed.now c.loop-entry.needed (flat_map entry_vals xs))
    (take_all c.loop-entry.entry-index c.args.entries.now c.loop-entry-test.false) c.loop-entry.invariant
