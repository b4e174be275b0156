use Rattle.std.proofs.Common.{◌≡◌, ◌++◌, drop}
use Rattle.icn_code.specs.CodeTables.{tables_of}
use Rattle.icn_prune.specs.PrunedCode.{globals_from}
use Rattle.icn_prune.proofs.surviving.staying_globals.Given as goal

abbrev pub invariant-loop-place : goal.invariant-loop-place
invariant-loop-place l = l.places.items ++ globals_from l.keep l.mentioned.left.items l.place (drop l.place (tables_of l.code).globals)
    ≡ globals_from l.keep l.mentioned.left.items 0 (tables_of l.code).globals
