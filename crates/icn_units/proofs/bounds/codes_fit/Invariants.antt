use Rattle.std.proofs.Common.{◌≡◌, drop, map}
use Rattle.std.specs.List.{list_all}
use Rattle.icn_unit.specs.UnitViews.{proc_seen}
use Rattle.icn_units.specs.TypeBounds.{numbers_fit}
use Rattle.icn_units.proofs.bounds.codes_fit.Given as goal

abbrev pub invariant-loop-code : goal.invariant-loop-code
invariant-loop-code l = list_all numbers_fit (map proc_seen (drop l.code-index l.codes)) ≡ list_all numbers_fit (map proc_seen l.codes)
