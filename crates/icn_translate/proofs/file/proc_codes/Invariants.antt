use Rattle.std.proofs.Common.{◌≡◌, ◌++◌, drop, map}
use Rattle.std.specs.List.{flat_map}
use Rattle.icn_tree.specs.TreeOf.{declaration_of}
use Rattle.icn_unit.specs.UnitViews.{proc_seen}
use Rattle.icn_translate.specs.FileUnits.{codes_in}
use Rattle.icn_translate.proofs.file.proc_codes.Given as goal

abbrev pub invariant-loop-decl : goal.invariant-loop-decl
invariant-loop-decl l =
    map proc_seen l.codes.items ++ flat_map codes_in (map declaration_of (drop l.decl-index l.decls)) ≡ flat_map codes_in (map declaration_of l.decls)
