use Rattle.std.proofs.Common.{◌≡◌, ◌++◌, drop, map}
use Rattle.std.specs.Prelude.{slice_index_or}
use Rattle.icn_code.specs.CodeTables.{tables_of}
use Rattle.icn_prune.proofs.surviving.push_field_names.Given as goal

abbrev pub invariant-loop-place : goal.invariant-loop-place
invariant-loop-place l = l.places.items ++ map (λ place. slice_index_or (tables_of l.code).fields place 0) (drop l.place-index l.fields)
    ≡ l.initial.places.items ++ map (λ place. slice_index_or (tables_of l.code).fields place 0) l.fields
