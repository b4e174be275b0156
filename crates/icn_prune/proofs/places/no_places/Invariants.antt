use Rattle.std.proofs.Common.{◌≡◌, replicate, None}
use Rattle.icn_prune.proofs.places.no_places.Given as goal

abbrev pub invariant-loop-entry : goal.invariant-loop-entry
invariant-loop-entry l = l.places.items ≡ replicate l._entry None
