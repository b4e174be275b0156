use Rattle.std.proofs.Common.{◌≡◌, ◌++◌, drop}
use Rattle.std.specs.List.{flat_map}
use Rattle.icn_code.specs.CodeTables.{tables_of}
use Rattle.icn_code.specs.Codes.{RecordType, records_of}
use Rattle.icn_prune.proofs.surviving.push_record_fields.Given as goal

abbrev pub invariant-loop-kind : goal.invariant-loop-kind
invariant-loop-kind l = l.places.items ++ flat_map (λ (kind : RecordType). kind.fields) (records_of (drop l.kind-index l.code.records.items))
    ≡ l.initial.places.items ++ flat_map (λ (kind : RecordType). kind.fields) (tables_of l.code).records
