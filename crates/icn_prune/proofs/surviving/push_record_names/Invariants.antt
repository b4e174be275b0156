use Rattle.std.proofs.Common.{◌≡◌, ◌++◌, drop, map}
use Rattle.icn_code.specs.CodeTables.{tables_of}
use Rattle.icn_code.specs.Codes.{RecordType, records_of}
use Rattle.icn_prune.proofs.surviving.push_record_names.Given as goal

abbrev pub invariant-loop-kind : goal.invariant-loop-kind
invariant-loop-kind l = l.places.items ++ map (λ (kind : RecordType). kind.name) (records_of (drop l.kind-index l.code.records.items))
    ≡ l.initial.places.items ++ map (λ (kind : RecordType). kind.name) (tables_of l.code).records
