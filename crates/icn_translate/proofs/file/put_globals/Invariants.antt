use Rattle.std.proofs.Common.{◌≡◌, ◌++◌, drop, map}
use Rattle.icn_unit.specs.PlainUnits.{Global as GlobalLine}
use Rattle.icn_unit.specs.UnitViews.{decl_seen}
use Rattle.icn_translate.proofs.file.put_globals.Given as goal

abbrev pub invariant-loop-name : goal.invariant-loop-name
invariant-loop-name l = map decl_seen l.lines.items ++ map (λ name. GlobalLine name.text) (drop l.name-index l.names) ≡ map decl_seen l.initial.lines.items
    ++ map (λ name. GlobalLine name.text) l.names
