use Rattle.std.proofs.Common.{ap, length, ◌∙◌}
use Rattle.icn_prune.proofs.StandingPlaces.{none_long, none_there}
use Rattle.icn_prune.proofs.places.Places.none.Goals as goal

pub invariant_of-result : goal.invariant_of-result
invariant_of-result c = record {
  places = none_there c.new-left.result.items c.in_ok-new_places.new_places.items c.args.count c.new-left.ensures.items c.in_ok-new_places.ensures
      c.requires.few;
}

pub returns-clause-counted : goal.returns-clause-counted
returns-clause-counted c = ap length c.in_ok-new_places.ensures ∙ none_long c.args.count
