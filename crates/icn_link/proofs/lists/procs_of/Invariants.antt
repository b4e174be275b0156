use Rattle.std.proofs.Common.{◌≡◌, ◌++◌, drop}
use Rattle.icn_link.specs.Units.{units_seen, all_procs}
use Rattle.icn_link.specs.Views.{procs_seen}
use Rattle.icn_link.proofs.lists.procs_of.Given as goal

abbrev pub invariant-loop-unit : goal.invariant-loop-unit
invariant-loop-unit l = procs_seen l.procs.items ++ all_procs (units_seen (drop l.unit-index l.units)) ≡ all_procs (units_seen l.units)
