use Rattle.std.proofs.Common.{◌≡◌, ◌++◌, drop, map}
use Rattle.icn_code.specs.CodeTables.{tables_of}
use Rattle.icn_prune.specs.PrunedCode.{global_at}
use Rattle.icn_prune.proofs.surviving.push_global_names.Given as goal

abbrev pub invariant-loop-place : goal.invariant-loop-place
invariant-loop-place l = l.places.items ++ map (λ place. (global_at (tables_of l.code) place).name) (drop l.place-index l.globals)
    ≡ l.initial.places.items ++ map (λ place. (global_at (tables_of l.code) place).name) l.globals
