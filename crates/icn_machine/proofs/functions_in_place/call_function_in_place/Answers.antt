use Rattle.std.proofs.Common.{refl}
use Rattle.icn_code.specs.CodeTables.{tables_of}
use Rattle.icn_machine.proofs.RowsAtOnce.{calls_not}
use Rattle.icn_machine.proofs.functions_in_place.call_function_in_place.Goals as goal

pub returns-in_default : goal.returns-in_default
returns-in_default g c =
    calls_not (tables_of c.args.code.now) c.args.count c.args.world.now c.args.world.now c.args.frames.now.flat c.args.frames.now.flat refl refl
