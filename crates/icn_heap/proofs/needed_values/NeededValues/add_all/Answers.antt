use Rattle.std.proofs.Common.{subst}
use Rattle.std.proofs.lemmas.List.{take_all}
use Rattle.icn_heap.specs.NeededValues.{AreNeeded}
use Rattle.icn_heap.proofs.NeededSteps.{needed_more, needed_none}
use Rattle.icn_heap.proofs.needed_values.NeededValues.add_all.Goals as goal

pub loop-val-init : goal.loop-val-init
loop-val-init c = needed_none c.args.self.now

pub loop-val-preserved : goal.loop-val-preserved
loop-val-preserved c =
    needed_more c.args.vals.now c.loop-val.val-index _ c.loop-val-test.true c.loop-val.invariant c.in_ok-add.ensures

pub returns : goal.returns
returns c =
    subst (AreNeeded c.args.self.now c.loop-val.self) (take_all c.loop-val.val-index c.args.vals.now c.loop-val-test.false) c.loop-val.invariant
