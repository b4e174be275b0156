use Rattle.std.proofs.Common.{◌≡◌, length}
use Rattle.icn_prep.specs.Words.{trimmed_end}
use Rattle.icn_prep.proofs.bytes.trimmed_end.Given as goal

abbrev pub invariant-loop-last : goal.invariant-loop-last
invariant-loop-last l = trimmed_end l.text ≡ trimmed_end l.bytes

abbrev pub decreases-loop-last : goal.decreases-loop-last
decreases-loop-last l = length l.text
