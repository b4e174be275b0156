use Rattle.std.proofs.Common.{◌≡◌, ◌++◌, drop, map}
use Rattle.std.specs.Prelude.{pos, slice_index_or}
use Rattle.icn_code.specs.CodeTables.{tables_of}
use Rattle.icn_prune.proofs.leaving.integers_left.Given as goal

abbrev pub invariant-loop-place : goal.invariant-loop-place
invariant-loop-place l = l.integers.items ++ map (λ place. slice_index_or (tables_of l.code).integers place (pos 0))
    (drop l.place-index l.left.integers.left.items)
    ≡ map (λ place. slice_index_or (tables_of l.code).integers place (pos 0)) l.left.integers.left.items
