use Rattle.std.proofs.Common.{◌≡◌, ◌++◌, drop, map}
use Rattle.icn_code.specs.Codes.{procs_of}
use Rattle.icn_prune.specs.PrunedCode.{proc_left}
use Rattle.icn_prune.specs.PlaceViews.{procs_seen, survivors_seen}
use Rattle.icn_prune.proofs.leaving.procs_left.Given as goal

abbrev pub invariant-loop-entry : goal.invariant-loop-entry
invariant-loop-entry l = procs_of l.procs.items ++ map (proc_left (survivors_seen l.left)) (procs_seen (drop l.entry-index l.entries))
    ≡ map (proc_left (survivors_seen l.left)) (procs_seen l.entries)
