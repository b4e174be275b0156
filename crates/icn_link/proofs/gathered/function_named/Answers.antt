use Rattle.icn_link.proofs.FunctionNames.{function_found}
use Rattle.icn_link.proofs.gathered.function_named.Goals as goal

pub returns : goal.returns
returns c = function_found c.func_named.result c.args.name.now c.func_named.ensures.named c.func_named.ensures.none
