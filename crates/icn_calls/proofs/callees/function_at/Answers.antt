use Rattle.std.proofs.Common.{◌∙◌}
use Rattle.icn_calls.proofs.FunctionPlaces.{function_there}
use Rattle.icn_calls.proofs.callees.function_at.Goals as goal

pub returns : goal.returns
returns c = c.function_among.ensures ∙ function_there c.args.place
