use Rattle.std.proofs.Common.{◌≡◌, false, replicate}
use Rattle.icn_machine.proofs.starting.none_begun.Given as goal

abbrev pub invariant-loop-i : goal.invariant-loop-i
invariant-loop-i l = record { is : l.begun.items ≡ replicate l.i false }
