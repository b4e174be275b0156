use Rattle.std.proofs.Common.{◌-◌, arith}
use Rattle.test_values.proofs.Functions.{function_by}
use Rattle.test_values.proofs.names.OneRecordNames.proc.Goals as goal

pub returns : goal.returns
returns c = function_by c.args.number (c.args.number - 1) _ c.name.result.now (omega (arith, c.if-number-eq0.false)) (omega (arith, c.requires)) c.name.ensures
