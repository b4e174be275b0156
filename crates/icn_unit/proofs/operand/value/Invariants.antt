use Rattle.std.proofs.Common.{◌≡◌, ◌≤◌, drop}
use Rattle.icn_unit.specs.UnitOperands.{value_from}
use Rattle.icn_unit.proofs.operand.value.Given as goal

abbrev pub invariant-loop-byte : goal.invariant-loop-byte
invariant-loop-byte l = record { read : value_from l.value (drop l.byte-index l.text) ≡ value_from 0 l.text; small : l.value ≤ 9223372036854775807 }
