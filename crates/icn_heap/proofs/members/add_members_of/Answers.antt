use Rattle.std.proofs.Common.{subst, arith}
use Rattle.std.specs.Option.{option_to_list}
use Rattle.std.proofs.lemmas.List.{length-map, take_all}
use Rattle.icn_heap.specs.ElementValues.{member_val}
use Rattle.icn_heap.specs.ElementValues.{set_vals}
use Rattle.icn_heap.specs.NeededValues.{AreNeeded}
use Rattle.icn_heap.proofs.NeededSteps.{needed_none, needed_of}
use Rattle.icn_heap.proofs.members.add_members_of.Goals as goal

pub loop-place-init : goal.loop-place-init
loop-place-init c = needed_none c.args.needed.now

pub loop-place-preserved : goal.loop-place-preserved
loop-place-preserved c =
    needed_of member_val c.args.set.now c.loop-place.place (omega (arith, c.loop-place-test.true, c.len-place-end.ensures)) c.loop-place.invariant
    (subst (λ found. AreNeeded c.loop-place.needed c.add_optional.new.self (option_to_list found)) c.member_of.ensures c.in_ok-add_optional.ensures)

pub returns : goal.returns
returns c =
    subst (AreNeeded c.args.needed.now c.loop-place.needed)
    (take_all c.loop-place.place (set_vals c.args.set.now)
    (omega (arith, c.loop-place-test.false, c.len-place-end.ensures, length-map c.args.set.now member_val)))
    c.loop-place.invariant
