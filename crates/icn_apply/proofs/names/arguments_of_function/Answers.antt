use Rattle.std.proofs.Common.{◌∙◌, FitsSigned, ap, rules, sym, w64, Some}
use Rattle.std.proofs.lemmas.Int.{to_z-of_z}
use Rattle.icn_defs.specs.Images.{functions}
use Rattle.icn_defs.specs.NamedValues.{function_arguments}
use Rattle.icn_apply.proofs.NameLists.{seen_at}
use Rattle.icn_apply.proofs.names.arguments_of_function.Goals as goal

pub returns : goal.returns
returns c =
    let fits : FitsSigned w64 c.function_arguments.result = search rules in
    seen_at function_arguments functions c.args.place _ c.requires
    ∙ ap Some (sym (to_z-of_z w64 c.function_arguments.result fits ∙ c.function_arguments.ensures))
