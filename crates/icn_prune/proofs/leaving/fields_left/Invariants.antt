use Rattle.std.proofs.Common.{◌≡◌, ◌++◌, drop, map}
use Rattle.std.specs.Prelude.{slice_index_or}
use Rattle.icn_code.specs.CodeTables.{tables_of}
use Rattle.icn_prune.specs.PrunedCode.{new_place}
use Rattle.icn_prune.proofs.leaving.fields_left.Given as goal

abbrev pub invariant-loop-place : goal.invariant-loop-place
invariant-loop-place l =
    l.fields.items ++ map (λ place. new_place l.left.strings.left.items (slice_index_or (tables_of l.code).fields place 0))
    (drop l.place-index l.left.fields.left.items)
    ≡ map (λ place. new_place l.left.strings.left.items (slice_index_or (tables_of l.code).fields place 0)) l.left.fields.left.items
