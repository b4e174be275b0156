use Rattle.std.proofs.Common.{◌≡◌, ◌++◌, length}
use Rattle.std.specs.Option.{option_map}
use Rattle.icn_unit.specs.UnitOperands.{hexadecimal_bytes}
use Rattle.icn_unit.proofs.operand.hexadecimal_bytes.Given as goal

abbrev pub invariant-loop-first : goal.invariant-loop-first
invariant-loop-first l = option_map (λ more. l.bytes.items ++ more) (hexadecimal_bytes l.rest) ≡ hexadecimal_bytes l.text

abbrev pub decreases-loop-first : goal.decreases-loop-first
decreases-loop-first l = length l.rest
