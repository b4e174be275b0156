use Rattle.std.proofs.Common.{◌≡◌, drop, map}
use Rattle.std.specs.List.{list_all}
use Rattle.icn_unit.specs.UnitViews.{decl_seen}
use Rattle.icn_units.specs.TypeBounds.{bytes_fit}
use Rattle.icn_units.proofs.bounds.decls_fit.Given as goal

abbrev pub invariant-loop-decl : goal.invariant-loop-decl
invariant-loop-decl l = list_all bytes_fit (map decl_seen (drop l.decl-index l.decls)) ≡ list_all bytes_fit (map decl_seen l.decls)
