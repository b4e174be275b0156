use Rattle.std.proofs.Common.{◌≡◌, ◌++◌, take}
use Rattle.std.specs.List.{flat_map}
use Rattle.icn_unit.specs.UnitTexts.{behind_blank}
use Rattle.icn_unit.proofs.writer.put_fields.Given as goal

abbrev pub invariant-loop-field : goal.invariant-loop-field
invariant-loop-field l = l.text.items ≡ l.initial.text.items ++ flat_map behind_blank (take l.field-index l.fields)
