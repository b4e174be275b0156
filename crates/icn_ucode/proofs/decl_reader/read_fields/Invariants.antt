use Rattle.std.proofs.Common.{◌≡◌}
use Rattle.std.specs.Option.{option_copied}
use Rattle.icn_ucode.specs.UnitReading.{fields_read}
use Rattle.icn_ucode.proofs.FieldWords.{fields_left, left_len}
use Rattle.icn_ucode.proofs.decl_reader.read_fields.Given as goal

abbrev pub invariant-loop-rest : goal.invariant-loop-rest
invariant-loop-rest l = fields_left l.fields.fields.items (option_copied l.rest) ≡ fields_read (option_copied l.fn.operand)

abbrev pub decreases-loop-rest : goal.decreases-loop-rest
decreases-loop-rest l = left_len (option_copied l.rest)
