use Rattle.std.proofs.Common.{drop, take, map}
use Rattle.icn_link.specs.Views.{owner_seen}
use Rattle.icn_link.proofs.RepeatedNames.{Met}
use Rattle.icn_link.proofs.repeats.check_repeats.Given as goal

abbrev pub invariant-loop-owner : goal.invariant-loop-owner
invariant-loop-owner l = Met l.places (map owner_seen (take l.owner-index l.owners)) (map owner_seen (drop l.owner-index l.owners)) (map owner_seen l.owners)
