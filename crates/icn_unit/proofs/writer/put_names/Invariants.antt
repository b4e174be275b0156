use Rattle.std.proofs.Common.{◌≡◌, ◌++◌, take}
use Rattle.std.specs.List.{flat_map}
use Rattle.icn_unit.specs.UnitTexts.{name_text}
use Rattle.icn_unit.proofs.writer.put_names.Given as goal

abbrev pub invariant-loop-name : goal.invariant-loop-name
invariant-loop-name l = l.text.items ≡ l.initial.text.items ++ flat_map name_text (take l.name-index l.names)
