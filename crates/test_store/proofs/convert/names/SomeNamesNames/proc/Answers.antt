use Rattle.std.proofs.Common.{◌-◌, arith}
use Rattle.test_store.proofs.Known.{function_by}
use Rattle.test_store.proofs.convert.names.SomeNamesNames.proc.Goals as goal

pub returns-in_default : goal.returns-in_default
returns-in_default c = function_by c.args.number (c.args.number - 3) _ c.name.result.now (omega arith) (omega (arith, c.requires)) c.name.ensures
