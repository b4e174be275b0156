use Rattle.std.proofs.Common.{◌≡◌, [], ◌++◌, drop, map}
use Rattle.std.specs.Prelude.{slice_index_or}
use Rattle.icn_code.specs.CodeTables.{tables_of}
use Rattle.icn_prune.proofs.leaving.strings_left.Given as goal

abbrev pub invariant-loop-place : goal.invariant-loop-place
invariant-loop-place l = l.strings.items ++ map (λ place. slice_index_or (tables_of l.code).strings place []) (drop l.place-index l.left.strings.left.items)
    ≡ map (λ place. slice_index_or (tables_of l.code).strings place []) l.left.strings.left.items
