use Rattle.std.proofs.Common.{◌≡◌, ◌++◌, drop, map}
use Rattle.std.specs.List.{flat_map}
use Rattle.icn_tree.specs.TreeOf.{declaration_of}
use Rattle.icn_unit.specs.UnitViews.{decl_seen}
use Rattle.icn_translate.specs.FileUnits.{lines_in}
use Rattle.icn_translate.proofs.file.unit_decls.Given as goal

abbrev pub invariant-loop-decl : goal.invariant-loop-decl
invariant-loop-decl l =
    map decl_seen l.lines.items ++ flat_map lines_in (map declaration_of (drop l.decl-index l.decls)) ≡ flat_map lines_in (map declaration_of l.decls)
