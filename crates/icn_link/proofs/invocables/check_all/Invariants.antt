use Rattle.std.proofs.Common.{◌≡◌, drop}
use Rattle.icn_link.specs.LinkFaults.{unknown_from}
use Rattle.icn_link.specs.Units.{units_seen}
use Rattle.icn_link.specs.Views.{texts_seen}
use Rattle.icn_link.proofs.invocables.check_all.Given as goal

abbrev pub invariant-loop-index : goal.invariant-loop-index
invariant-loop-index l = unknown_from (texts_seen l.owned.keys) l.index (units_seen (drop l.index l.units))
    ≡ unknown_from (texts_seen l.owned.keys) 0 (units_seen l.units)
