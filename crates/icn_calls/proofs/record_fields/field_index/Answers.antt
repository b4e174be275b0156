use Rattle.std.proofs.Common.{◌<◌, ◌≤◌, ℕ, List, IfSome, length, sym, subst}
use Rattle.icn_code.specs.CodeTables.{tables_of}
use Rattle.icn_calls.proofs.RecordSteps.{count_found, kind_there, place_absent, place_found}
use Rattle.icn_calls.proofs.RuleSteps.{few_fields}
use Rattle.icn_calls.proofs.record_fields.field_index.Goals as goal

pub returns-then-place-records-clause-place : goal.returns-then-place-records-clause-place
returns-then-place-records-clause-place c =
    place_absent (tables_of c.args.code.now) c.args.field c.args.kind
    (subst (λ (n : ℕ). n ≤ c.args.kind) c.record_count-records.ensures c.if-place-records.true)

pub fields_of-requires : goal.fields_of-requires
fields_of-requires c = subst (λ (n : ℕ). c.args.kind < n) c.record_count-records.ensures c.if-place-records.false

pub first_place-requires : goal.first_place-requires
first_place-requires c =
    let tables = tables_of c.args.code.now in
    let there = kind_there tables c.args.kind (subst (λ (n : ℕ). c.args.kind < n) c.record_count-records.ensures c.if-place-records.false) in
    subst (λ (xs : List ℕ). length xs ≤ 65535) (sym (c.fields_of.ensures there.0 there.1)) (few_fields tables c.args.kind there.0 c.args.code.now.rules there.1)

pub returns-clause-place : goal.returns-clause-place
returns-clause-place c =
    let tables = tables_of c.args.code.now in
    let there = kind_there tables c.args.kind (subst (λ (n : ℕ). c.args.kind < n) c.record_count-records.ensures c.if-place-records.false) in
    place_found tables c.args.field c.args.kind there.0 c.fields_of.result.now c.first_place.result there.1 (c.fields_of.ensures there.0 there.1)
    c.first_place.ensures.place

pub returns-clause-within : goal.returns-clause-within
returns-clause-within c =
    let tables = tables_of c.args.code.now in
    let there = kind_there tables c.args.kind (subst (λ (n : ℕ). c.args.kind < n) c.record_count-records.ensures c.if-place-records.false) in
    subst (λ (n : ℕ). IfSome c.first_place.result (λ place. place < n))
    (count_found tables c.args.kind there.0 c.fields_of.result.now there.1 (c.fields_of.ensures there.0 there.1)) c.first_place.ensures.within
