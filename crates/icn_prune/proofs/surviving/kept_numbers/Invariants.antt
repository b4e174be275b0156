use Rattle.std.proofs.Common.{◌≡◌, ◌++◌, drop}
use Rattle.icn_prune.specs.PrunedCode.{kept_from_place}
use Rattle.icn_prune.proofs.surviving.kept_numbers.Given as goal

abbrev pub invariant-loop-number : goal.invariant-loop-number
invariant-loop-number l = l.numbers.items ++ kept_from_place l.number (drop l.number l.keep) ≡ kept_from_place 0 l.keep
