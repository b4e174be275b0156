use Rattle.std.proofs.Common.{◌≡◌, ◌++◌, take}
use Rattle.std.specs.List.{flat_map}
use Rattle.icn_unit.specs.UnitTexts.{instr_text}
use Rattle.icn_unit.proofs.writer.put_instrs.Given as goal

abbrev pub invariant-loop-instr : goal.invariant-loop-instr
invariant-loop-instr l = l.text.items ≡ l.initial.text.items ++ flat_map instr_text (take l.instr-index l.instrs)
