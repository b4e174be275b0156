use Rattle.std.proofs.Common.{◌-◌, ◌∙◌, FitsSigned, arith, rules, w64}
use Rattle.std.proofs.lemmas.Int.{to_z-of_z}
use Rattle.test_values.proofs.Functions.{arguments_by}
use Rattle.test_values.proofs.names.OneRecordNames.arguments.Goals as goal

pub returns : goal.returns
returns c =
    let fits : FitsSigned w64 c.function_arguments.result = search rules in
    to_z-of_z w64 c.function_arguments.result fits
    ∙ arguments_by c.args.number (c.args.number - 1) _ c.function_arguments.result (omega (arith, c.if-number-eq0.false)) (omega (arith, c.requires))
    c.function_arguments.ensures
