use Rattle.std.proofs.Common.{◌≡◌, length}
use Rattle.icn_text.specs.WordNumbers.{value_from}
use Rattle.icn_text.proofs.word_number.value.Given as goal

abbrev pub invariant-loop-byte : goal.invariant-loop-byte
invariant-loop-byte l = value_from l.value l.rest ≡ value_from 0 l.text

abbrev pub decreases-loop-byte : goal.decreases-loop-byte
decreases-loop-byte l = length l.rest
