use Rattle.std.proofs.Common.{◌≡◌, ◌++◌, drop, map}
use Rattle.icn_code.specs.Codes.{Proc}
use Rattle.icn_prune.specs.PlaceViews.{procs_seen}
use Rattle.icn_prune.proofs.surviving.push_proc_names.Given as goal

abbrev pub invariant-loop-entry : goal.invariant-loop-entry
invariant-loop-entry l = l.places.items ++ map (λ (entry : Proc). entry.name) (procs_seen (drop l.entry-index l.procs))
    ≡ l.initial.places.items ++ map (λ (entry : Proc). entry.name) (procs_seen l.procs)
