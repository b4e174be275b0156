use Rattle.std.proofs.Common.{subst, arith}
use Rattle.std.specs.Option.{option_to_list}
use Rattle.std.proofs.lemmas.List.{take_all}
use Rattle.icn_heap.specs.ElementValues.{list_vals}
use Rattle.icn_heap.specs.NeededValues.{AreNeeded}
use Rattle.icn_heap.proofs.NeededSteps.{needed_at, needed_none}
use Rattle.icn_heap.proofs.deques.add_items.Goals as goal

pub loop-place-init : goal.loop-place-init
loop-place-init c = needed_none c.args.needed.now

pub loop-place-preserved : goal.loop-place-preserved
loop-place-preserved c =
    needed_at (list_vals c.args.list.now) c.loop-place.place (omega (arith, c.loop-place-test.true, c.len-place-end.ensures.count))
    c.loop-place.invariant
    (subst (λ found. AreNeeded c.loop-place.needed c.add_optional.new.self (option_to_list found)) c.at.ensures.item c.in_ok-add_optional.ensures)

pub returns : goal.returns
returns c =
    subst (AreNeeded c.args.needed.now c.loop-place.needed)
    (take_all c.loop-place.place (list_vals c.args.list.now) (omega (arith, c.loop-place-test.false, c.len-place-end.ensures.count)))
    c.loop-place.invariant
