use Rattle.std.proofs.Common.{◌≡◌, ◌++◌, drop}
use Rattle.icn_prune.specs.PrunedCode.{taken_by}
use Rattle.icn_prune.specs.PlaceViews.{procs_seen, taken_from}
use Rattle.icn_prune.proofs.entries.push_taken.Given as goal

abbrev pub invariant-loop-entry : goal.invariant-loop-entry
invariant-loop-entry l = l.places.items ++ taken_by (taken_from l.table) (procs_seen (drop l.entry-index l.procs))
    ≡ l.initial.places.items ++ taken_by (taken_from l.table) (procs_seen l.procs)
