use Rattle.std.proofs.Common.{◌≡◌, [], drop}
use Rattle.icn_link.specs.FirstMentions.{with_texts}
use Rattle.icn_link.specs.LinkFaults.{unit_names}
use Rattle.icn_link.specs.Units.{units_seen}
use Rattle.icn_link.specs.Views.{texts_seen}
use Rattle.icn_link.proofs.missing.names_of.Given as goal

abbrev pub invariant-loop-unit : goal.invariant-loop-unit
invariant-loop-unit l =
    with_texts (texts_seen l.names.keys) (unit_names (units_seen (drop l.unit-index l.units))) ≡ with_texts [] (unit_names (units_seen l.units))
