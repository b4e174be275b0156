use Rattle.std.proofs.Common.{subst, arith}
use Rattle.std.specs.List.{flat_map}
use Rattle.std.specs.Option.{option_to_list}
use Rattle.std.proofs.lemmas.List.{take_all}
use Rattle.icn_heap.specs.ElementValues.{entry_both, pair_vals}
use Rattle.icn_heap.specs.NeededValues.{AreNeeded}
use Rattle.icn_heap.proofs.NeededSteps.{needed_entry, needed_none}
use Rattle.icn_heap.proofs.entries.add_pairs.Goals as goal

pub loop-place-init : goal.loop-place-init
loop-place-init c = needed_none c.args.needed.now

pub loop-place-preserved : goal.loop-place-preserved
loop-place-preserved c =
    needed_entry c.args.pairs.now c.loop-place.place (omega (arith, c.loop-place-test.true, c.len-place-end.ensures)) c.loop-place.invariant
    (subst (λ found. AreNeeded c.loop-place.needed c.add_entry.new.needed (flat_map entry_both (option_to_list found))) c.entry_in.ensures
    c.in_ok-add_entry.ensures)

pub returns : goal.returns
returns c =
    subst (λ pairs. AreNeeded c.args.needed.now c.loop-place.needed (flat_map pair_vals pairs))
    (take_all c.loop-place.place c.args.pairs.now (omega (arith, c.loop-place-test.false, c.len-place-end.ensures))) c.loop-place.invariant
