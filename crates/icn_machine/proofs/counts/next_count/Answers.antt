use Rattle.std.proofs.Common.{◌≡◌, ◌∙◌, FitsSigned, Some, ap, rules, sym, ℤ}
use mir.Val.{of_z, to_z}
use Rattle.std.proofs.lemmas.Int.{to_z-of_z}
use Rattle.std.specs.Int.{w64}
use Rattle.std.specs.Result.{result_ok}
use Rattle.icn_text.specs.IntegerArithmetic.{sum}
use Rattle.icn_frames.specs.declared.layout.Count.{Count}
use Rattle.icn_control.specs.declared.machine.RunState.TheVariants as RunStates
use Rattle.icn_machine.proofs.CountSteps.{count_ended, counts_over, counts_past, held_sum}
use Rattle.icn_machine.proofs.counts.next_count.Goals as goal

pub returns-in_default-clause-over : goal.returns-in_default-clause-over
returns-in_default-clause-over c = λ q m. (
    let count = c.args.count in
    let given : FitsSigned w64 count.given = search rules in
    let step : FitsSigned w64 count.step = search rules in
    let sums : c.computed_number.result ≡ result_ok (sum count.given count.step)
    = c.computed_number.ensures ∙ ap result_ok (c.add.ensures ∙ held_sum count.given count.step given step) in
    counts_past count m (sym sums ∙ c.in_default.is))

pub returns-then-counts_on-clause-next : goal.returns-then-counts_on-clause-next
returns-then-counts_on-clause-next c =
    let count = c.args.count in
    let n = c.in-Some.given in
    let given : FitsSigned w64 count.given = search rules in
    let last : FitsSigned w64 count.last = search rules in
    let step : FitsSigned w64 count.step = search rules in
    let fits : FitsSigned w64 n = search rules in
    let sums : c.computed_number.result ≡ result_ok (sum count.given count.step)
    = c.computed_number.ensures ∙ ap result_ok (c.add.ensures ∙ held_sum count.given count.step given step) in
    record {
      given = sym sums ∙ c.in-Some.is ∙ ap (λ (x : ℤ). Some x) (sym (to_z-of_z w64 n fits));
      last = to_z-of_z w64 count.last last;
      step = to_z-of_z w64 count.step step;
      on = sym c.counts_on.ensures ∙ c.if-counts_on.true;
    }

pub returns-else-counts_on-clause-over : goal.returns-else-counts_on-clause-over
returns-else-counts_on-clause-over c = λ q m. (
    let count = c.args.count in
    let n = c.in-Some.given in
    let given : FitsSigned w64 count.given = search rules in
    let last : FitsSigned w64 count.last = search rules in
    let step : FitsSigned w64 count.step = search rules in
    let fits : FitsSigned w64 n = search rules in
    let next : Count
    = record { given = to_z w64 (of_z w64 n); last = to_z w64 (of_z w64 count.last); step = to_z w64 (of_z w64 count.step) } in
    let sums : c.computed_number.result ≡ result_ok (sum count.given count.step)
    = c.computed_number.ensures ∙ ap result_ok (c.add.ensures ∙ held_sum count.given count.step given step) in
    let more = sym sums ∙ c.in-Some.is ∙ ap (λ (x : ℤ). Some x) (sym (to_z-of_z w64 n fits)) in
    counts_over count next m m RunStates.Failing more (to_z-of_z w64 count.last last) (to_z-of_z w64 count.step step)
    (count_ended m next (sym c.counts_on.ensures ∙ c.if-counts_on.false)))
