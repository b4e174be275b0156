use Rattle.std.proofs.Common.{◌≡◌, ◌++◌, drop, map}
use Rattle.icn_link.specs.LinkFaults.{owners_from}
use Rattle.icn_link.specs.Units.{units_seen}
use Rattle.icn_link.specs.Views.{owner_seen}
use Rattle.icn_link.proofs.repeats.owners_of.Given as goal

abbrev pub invariant-loop-place : goal.invariant-loop-place
invariant-loop-place l = map owner_seen l.owners.items ++ owners_from l.place (units_seen (drop l.place l.units)) ≡ owners_from 0 (units_seen l.units)
