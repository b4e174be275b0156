use Rattle.std.proofs.Common.{◌-◌, ◌∙◌, FitsSigned, arith, rules, w64}
use Rattle.std.proofs.lemmas.Int.{to_z-of_z}
use Rattle.test_store.proofs.Known.{arguments_by}
use Rattle.test_store.proofs.convert.names.SomeNamesNames.arguments.Goals as goal

pub returns-in_default : goal.returns-in_default
returns-in_default c =
    let fits : FitsSigned w64 c.function_arguments.result = search rules in
    to_z-of_z w64 c.function_arguments.result fits
    ∙ arguments_by c.args.number (c.args.number - 3) _ c.function_arguments.result (omega arith) (omega (arith, c.requires)) c.function_arguments.ensures
