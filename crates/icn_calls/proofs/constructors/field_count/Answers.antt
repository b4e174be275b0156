use Rattle.std.proofs.Common.{◌≡◌, ◌≤◌, ◌∙◌, ℕ, Some, length, sym, ap, subst}
use Rattle.std.proofs.lemmas.Option.{same_Some}
use Rattle.icn_code.specs.Codes.{RecordType, record_of}
use Rattle.icn_code.specs.CodeTables.{tables_of}
use Rattle.icn_calls.proofs.CallSteps.{entry_at}
use Rattle.icn_calls.proofs.RuleSteps.{few_fields}
use Rattle.icn_calls.proofs.constructors.field_count.Goals as goal

pub returns-clause-count : goal.returns-clause-count
returns-clause-count c entry at =
    let here : Some (record_of c.index.result.now) ≡ Some entry
    = sym (entry_at record_of c.args.code.now.records.items c.args.kind c.index.result.now c.requires c.index.ensures) ∙ at in
    ap length c.as_slice.ensures.value ∙ ap (λ (e : RecordType). length e.fields) (same_Some _ _ here)

pub returns-clause-few : goal.returns-clause-few
returns-clause-few c =
    let at = entry_at record_of c.args.code.now.records.items c.args.kind c.index.result.now c.requires c.index.ensures in
    subst (λ (n : ℕ). n ≤ 65535) (sym (ap length c.as_slice.ensures.value))
    (few_fields (tables_of c.args.code.now) c.args.kind (record_of c.index.result.now) c.args.code.now.rules at)
