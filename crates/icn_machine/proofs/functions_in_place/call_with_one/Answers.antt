use Rattle.std.proofs.Common.{refl}
use Rattle.icn_code.specs.CodeTables.{tables_of}
use Rattle.icn_machine.proofs.PlainCallSteps.{operands_there}
use Rattle.icn_machine.proofs.RowsAtOnce.{calls_not}
use Rattle.icn_machine.proofs.functions_in_place.call_with_one.Goals as goal

pub function_told-requires : goal.function_told-requires
function_told-requires g c = operands_there 1 c.args.frames.now.flat c.requires.operands

pub returns-in-Some : goal.returns-in-Some
returns-in-Some g c = c.call_one.ensures (tables_of c.args.code.now) c.in-Some.ensures

pub returns-in-None : goal.returns-in-None
returns-in-None g c =
    calls_not (tables_of c.args.code.now) 1 c.args.world.now c.args.world.now c.args.frames.now.flat c.args.frames.now.flat refl refl
