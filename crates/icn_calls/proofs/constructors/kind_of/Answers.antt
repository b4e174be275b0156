use Rattle.std.proofs.Common.{◌<◌, arith}
use Rattle.icn_code.specs.CodeTables.{tables_of}
use Rattle.icn_calls.proofs.RuleSteps.{kind_within}
use Rattle.icn_calls.proofs.constructors.kind_of.Goals as goal

pub overflow_cast-result : goal.overflow_cast-result
overflow_cast-result c =
    let within : c.args.kind < 65536 = kind_within (tables_of c.args.code.now) c.args.kind c.args.code.now.rules c.requires in
    omega arith
