use Rattle.std.proofs.Common.{◌≡◌, ◌∙◌, FitsSigned, Some, ap, rules, sym, ℤ}
use mir.Val.{of_z, to_z}
use Rattle.std.proofs.lemmas.Int.{to_z-of_z}
use Rattle.std.specs.Int.{w64}
use Rattle.std.specs.Result.{result_ok}
use Rattle.icn_text.specs.IntegerArithmetic.{sum}
use Rattle.icn_frames.specs.declared.layout.Count.{Count}
use Rattle.icn_machine.proofs.CountSteps.{counts_if, counts_past, held_sum}
use Rattle.icn_machine.proofs.counts.count_on.Goals as goal

pub returns-in_default-clause-counts : goal.returns-in_default-clause-counts
returns-in_default-clause-counts g c =
    let count = c.args.count in
    let given : FitsSigned w64 count.given = search rules in
    let step : FitsSigned w64 count.step = search rules in
    let sums : c.computed_number.result ≡ result_ok (sum count.given count.step)
    = c.computed_number.ensures ∙ ap result_ok (c.add.ensures ∙ held_sum count.given count.step given step) in
    counts_past count c.args.frames.now.flat (sym sums ∙ c.in_default.is)

pub returns-clause-counts : goal.returns-clause-counts
returns-clause-counts g c =
    let count = c.args.count in
    let n = c.in-Some.given in
    let given : FitsSigned w64 count.given = search rules in
    let last : FitsSigned w64 count.last = search rules in
    let step : FitsSigned w64 count.step = search rules in
    let fits : FitsSigned w64 n = search rules in
    let next : Count
    = record { given = to_z w64 (of_z w64 n); last = to_z w64 (of_z w64 count.last); step = to_z w64 (of_z w64 count.step) } in
    let sums : c.computed_number.result ≡ result_ok (sum count.given count.step)
    = c.computed_number.ensures ∙ ap result_ok (c.add.ensures ∙ held_sum count.given count.step given step) in
    let more : result_ok (sum count.given count.step) ≡ Some next.given
    = sym sums ∙ c.in-Some.is ∙ ap (λ (x : ℤ). Some x) (sym (to_z-of_z w64 n fits)) in
    counts_if count next c.args.frames.now.flat c.give_count.new.frames.flat c.give_count.result more (to_z-of_z w64 count.last last)
    (to_z-of_z w64 count.step step) c.give_count.ensures.gives
