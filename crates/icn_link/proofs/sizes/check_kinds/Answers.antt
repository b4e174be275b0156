use Rattle.std.proofs.Common.{◌≡◌, ℕ, List, [], ◌∷◌, length, Some, sym, ap, ◌∙◌, Bor}
use Rattle.std.proofs.lemmas.List.{length-map}
use Rattle.icn_link.specs.LinkFaults.{kind_counts, over, record_sizes}
use Rattle.icn_link.specs.Views.{decls_seen, gathered_seen}
use Rattle.icn_link.proofs.RuleByRule.{if_err_known}
use Rattle.icn_link.proofs.ToldCounts.{second_fault, second_kept}
use Rattle.icn_link.proofs.sizes.check_kinds.Goals as goal

pub returns-in_err-check_count-clause-fault : goal.returns-in_err-check_count-clause-fault
returns-in_err-check_count-clause-fault c =
    let rest : List ℕ = length (record_sizes (decls_seen c.args.decls.now)) ∷ [] in
    if_err_known c.from_residual.result (λ fault. over 65535 (kind_counts (gathered_seen c.args.tables.now) (decls_seen c.args.decls.now)) ≡ Some fault)
    c.in_err-check_count.field-0.0 c.from_residual.ensures.1
    (ap (λ n. over 65535 (n ∷ rest)) (length-map c.args.tables.now.fields.keys (λ (key : Bor (List ℕ)). key.now) ∙ sym c.len.ensures.len)
    ∙ c.in_err-check_count.ensures.fault rest)

pub returns-clause-none : goal.returns-clause-none
returns-clause-none c =
    second_kept c.check_count-2.result 65535 _ _ c.len.result c.records_in.result
    (c.len.ensures.len ∙ sym (length-map c.args.tables.now.fields.keys (λ (key : Bor (List ℕ)). key.now)))
    c.records_in.ensures c.in_ok-check_count.ensures.none c.check_count-2.ensures.none

pub returns-clause-fault : goal.returns-clause-fault
returns-clause-fault c =
    second_fault c.check_count-2.result 65535 _ _ c.len.result c.records_in.result
    (c.len.ensures.len ∙ sym (length-map c.args.tables.now.fields.keys (λ (key : Bor (List ℕ)). key.now)))
    c.records_in.ensures c.in_ok-check_count.ensures.none c.check_count-2.ensures.fault
