use Rattle.std.proofs.Common.{rules, FitsSigned, ◌∙◌, sym}
use Rattle.std.specs.Int.{w64}
use Rattle.icn_value.specs.Values.{Integer, Val}
use Rattle.icn_defs.specs.Rows.{Gives, number_or_error, gives_value}
use Rattle.icn_args.proofs.RowAnswers.{row_stops, stop_lives}
use Rattle.icn_ops.proofs.TwoOperandSteps.{held_one}
use Rattle.icn_ops.proofs.arithmetic.integer_outcome.Goals as goal

pub returns-in_err-n-clause-row : goal.returns-in_err-n-clause-row
returns-in_err-n-clause-row c = λ all setting.
    row_stops all (number_or_error c.args.found)
    (λ n. gives_value (Integer n)) setting setting c.in_err-n.field-0.0 c.from_residual.result c.from_residual.ensures.1
    (c.in_err-n.ensures.found all setting)

pub returns-in_err-n-clause-live : goal.returns-in_err-n-clause-live
returns-in_err-n-clause-live c = λ reach.
    stop_lives reach c.in_err-n.field-0.0 c.from_residual.result c.from_residual.ensures.1 (c.in_err-n.ensures.stops reach.extent)

pub returns-clause-row : goal.returns-clause-row
returns-clause-row c = λ all setting.
    c.in_ok-n.ensures.found all setting (λ n. gives_value (Integer n))
    ∙ sym (held_one (λ n. Gives (Val (Integer n)) setting) c.in_ok-n.n (let fits : FitsSigned w64 c.in_ok-n.n = search rules in fits))
