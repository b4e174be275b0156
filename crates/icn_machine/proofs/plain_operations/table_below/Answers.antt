use Rattle.std.proofs.Common.{subst}
use Rattle.icn_value.specs.declared.val.Val.{Val}
use Rattle.icn_machine.specs.PlainFunctions.{HasValueBelow}
use Rattle.icn_machine.proofs.plain_operations.table_below.Goals as goal

pub returns-in-Table : goal.returns-in-Table
returns-in-Table g c =
    subst (λ (v : Val). HasValueBelow c.args.world.now.globals.items c.args.frames.now.flat 1 v) c.in-Table.is c.in-Some.ensures
