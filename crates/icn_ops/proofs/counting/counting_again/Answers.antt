use Rattle.std.proofs.Common.{◌∙◌, sym, ap}
use Rattle.icn_text.specs.IntegerArithmetic.{sum}
use Rattle.icn_defs.specs.Arithmetic.{count_from}
use Rattle.icn_ops.proofs.TwoOperandSteps.{held_two, fitting_sum}
use Rattle.std.specs.Result.{result_ok}
use Rattle.icn_ops.proofs.counting.counting_again.Goals as goal

pub returns-clause-row : goal.returns-clause-row
returns-clause-row c = λ all setting.
    ap (λ next. count_from c.args.last c.args.step next setting) (sym (c.ok.ensures.value
    ∙ (ap result_ok (c.add.ensures ∙ held_two sum c.args.given c.args.step c.ranges.given c.ranges.step) ∙ fitting_sum c.args.given c.args.step)))
    ∙ (sym (held_two (λ n k. count_from n k c.ok.result setting) c.args.last c.args.step c.ranges.last c.ranges.step) ∙ c.count_from.ensures.row all setting)
