use Rattle.std.proofs.Common.{◌≡◌, ◌++◌, drop, map}
use Rattle.icn_unit.specs.PlainUnits.{Invocable as InvocableLine}
use Rattle.icn_unit.specs.UnitViews.{decl_seen}
use Rattle.icn_translate.specs.FileUnits.{item_text}
use Rattle.icn_translate.proofs.file.put_invocables.Given as goal

abbrev pub invariant-loop-item : goal.invariant-loop-item
invariant-loop-item l = map decl_seen l.lines.items ++ map (λ item. InvocableLine (item_text item)) (drop l.item-index l.items) ≡ map decl_seen l.initial.lines.items
    ++ map (λ item. InvocableLine (item_text item)) l.items
