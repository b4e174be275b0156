use Rattle.std.proofs.Common.{◌≡◌, ◌++◌, drop}
use Rattle.icn_code.specs.CodeTables.{tables_of}
use Rattle.icn_prune.specs.PrunedCode.{kept_procs}
use Rattle.icn_prune.specs.PlaceViews.{procs_seen}
use Rattle.icn_prune.proofs.entries.kept_procs.Given as goal

abbrev pub invariant-loop-number : goal.invariant-loop-number
invariant-loop-number l = procs_seen l.procs.items ++ kept_procs (drop l.number l.keep) (drop l.number (tables_of l.code).procs)
    ≡ kept_procs l.keep (tables_of l.code).procs
