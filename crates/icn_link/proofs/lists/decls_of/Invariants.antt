use Rattle.std.proofs.Common.{◌≡◌, ◌++◌, drop}
use Rattle.icn_link.specs.Units.{units_seen, all_decls}
use Rattle.icn_link.specs.Views.{decls_seen}
use Rattle.icn_link.proofs.lists.decls_of.Given as goal

abbrev pub invariant-loop-unit : goal.invariant-loop-unit
invariant-loop-unit l = decls_seen l.decls.items ++ all_decls (units_seen (drop l.unit-index l.units)) ≡ all_decls (units_seen l.units)
