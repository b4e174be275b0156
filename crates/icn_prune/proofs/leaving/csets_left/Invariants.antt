use Rattle.std.proofs.Common.{◌≡◌, ◌++◌, drop, map}
use Rattle.std.specs.Prelude.{slice_index_or}
use Rattle.icn_code.specs.CodeTables.{tables_of}
use Rattle.icn_prune.specs.PrunedCode.{no_cset}
use Rattle.icn_prune.proofs.leaving.csets_left.Given as goal

abbrev pub invariant-loop-place : goal.invariant-loop-place
invariant-loop-place l = l.csets.items ++ map (λ place. slice_index_or (tables_of l.code).csets place no_cset) (drop l.place-index l.left.csets.left.items)
    ≡ map (λ place. slice_index_or (tables_of l.code).csets place no_cset) l.left.csets.left.items
