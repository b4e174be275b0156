use Rattle.std.proofs.Common.{◌≡◌, drop}
use Rattle.icn_link.specs.LinkFaults.{missing_from}
use Rattle.icn_link.specs.Units.{units_seen}
use Rattle.icn_link.specs.Views.{texts_seen}
use Rattle.icn_link.proofs.missing.check_all.Given as goal

abbrev pub invariant-loop-index : goal.invariant-loop-index
invariant-loop-index l = missing_from (texts_seen l.names.keys) l.index (units_seen (drop l.index l.units))
    ≡ missing_from (texts_seen l.names.keys) 0 (units_seen l.units)
