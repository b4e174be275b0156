use Rattle.std.proofs.Common.{◌≡◌, ◌++◌, map, drop}
use Rattle.std.specs.List.{flat_map}
use Rattle.icn_unit.specs.UnitViews.{decl_seen}
use Rattle.icont_units.specs.Loading.{texts_in}
use Rattle.icont_units.specs.Units.{link_in}
use Rattle.icont_units.proofs.members_linked.linked_bases.Given as goal

abbrev pub invariant-loop-decl : goal.invariant-loop-decl
invariant-loop-decl l = texts_in l.bases.items ++ flat_map link_in
    (map decl_seen (drop l.decl-index l.decls)) ≡ flat_map link_in (map decl_seen l.decls)
