use Rattle.std.proofs.Common.{◌+◌, arith}
use Rattle.icn_text.specs.declared.op.Op.TheVariants as Ops
use Rattle.icn_machine.proofs.InWorldSteps.{keys, same_in_world}
use Rattle.icn_machine.proofs.PlainCallSteps.{operands_there}
use Rattle.icn_machine.proofs.PlainFunctionSteps.{fewer_operands}
use Rattle.icn_machine.proofs.plain_operations.subscript.Goals as goal

pub table_below-requires : goal.table_below-requires
table_below-requires g c = operands_there 1 c.args.frames.now.flat c.requires.operands

pub returns-in_default : goal.returns-in_default
returns-in_default g c = same_in_world c.args.world.now Ops.Subscript c.args.frames.now.flat

pub value_told-requires : goal.value_told-requires
value_told-requires g c = fewer_operands (0 + 1) (1 + 1) _ (omega arith) (operands_there 1 c.args.frames.now.flat c.requires.operands)

pub returns-in_default-value_told : goal.returns-in_default-value_told
returns-in_default-value_told g c = same_in_world c.args.world.now Ops.Subscript c.args.frames.now.flat

pub drop_with-requires : goal.drop_with-requires
drop_with-requires g c = operands_there 1 c.args.frames.now.flat c.requires.operands

pub returns : goal.returns
returns g c =
    keys c.args.world.now c.args.frames.now.flat c.drop_with.new.self.flat c.push.new.self.flat c.in-Some.table c.in-Some-value_told.key
    c.drop_with.ensures.drops c.in-Some.ensures c.in-Some-value_told.ensures c.args.world.now.sound.live_globals c.local_count.ensures.same
    c.in-Ok.ensures.ok
