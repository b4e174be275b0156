use Rattle.std.proofs.lemmas.Int.{to_z-of_z}
use Rattle.std.proofs.Common.{◌∙◌, ℤ, FitsSigned, length, ap, rules, w64}
use Rattle.icn_run.specs.Rows.{position_of}
use Rattle.icn_calls.proofs.IntegerSteps.{one_chosen}
use Rattle.icn_calls.proofs.integers.pick_argument.Goals as goal

pub returns-clause-item : goal.returns-clause-item
returns-clause-item c all =
    let fits : FitsSigned w64 c.args.n = search rules in
    one_chosen all c.args.items.now c.args.n c.position_of.result c.in-Some.place c.item_at.result
    (c.position_of.ensures.place ∙ ap (λ (n : ℤ). position_of n (length c.args.items.now)) (to_z-of_z w64 c.args.n fits)) c.in-Some.is
    c.in-Some.ensures.low c.item_at.ensures.item
