use Rattle.std.proofs.Common.{◌≡◌, ◌≤◌, drop}
use Rattle.icn_tree.specs.IntegerLiterals.{number_from, number_in}
use Rattle.icn_lex.proofs.numbers.value.Given as goal

abbrev pub invariant-loop-digit : goal.invariant-loop-digit
invariant-loop-digit l =
    record { read : number_from l.radix l.value (drop l.digit-index l.digits) ≡ number_in l.radix l.digits; small : l.value ≤ 9223372036854775807 }
