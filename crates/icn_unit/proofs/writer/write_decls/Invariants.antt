use Rattle.std.proofs.Common.{◌≡◌, ◌++◌, ◌∷◌, take, map}
use Rattle.std.specs.Prelude.{codes}
use Rattle.std.specs.List.{flat_map}
use Rattle.icn_unit.specs.UnitTexts.{decl_text}
use Rattle.icn_unit.specs.UnitViews.{decl_seen}
use Rattle.icn_unit.proofs.writer.write_decls.Given as goal

abbrev pub invariant-loop-decl : goal.invariant-loop-decl
invariant-loop-decl l = l.text.items ≡ codes "U9.2" ++ 10 ∷ flat_map decl_text (map decl_seen (take l.decl-index l.decls))
