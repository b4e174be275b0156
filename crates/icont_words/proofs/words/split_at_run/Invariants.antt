use Rattle.std.proofs.Common.{◌-◌, map, string_bytes, length}
use Rattle.icont_words.proofs.PartedWords.{Parts}
use Rattle.icont_words.proofs.words.split_at_run.Given as goal

abbrev pub invariant-loop-place : goal.invariant-loop-place
invariant-loop-place l = Parts l.place (map string_bytes l.words)

abbrev pub decreases-loop-place : goal.decreases-loop-place
decreases-loop-place l = length l.words - l.place
