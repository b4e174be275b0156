use Rattle.icn_machine.proofs.PlainFunctionSteps.{global_below, local_below, value_below}
use Rattle.icn_machine.proofs.plain_functions.value_told.Goals as goal

pub returns-in-VarLocal : goal.returns-in-VarLocal
returns-in-VarLocal g c =
    local_below c.args.world.now.globals.items c.args.frames.now.flat c.args.count c.in-VarLocal.index c.slot_below.result c.local_value.result
    c.slot_below.ensures c.in-VarLocal.is c.local_value.ensures

pub returns-in-VarGlobal : goal.returns-in-VarGlobal
returns-in-VarGlobal g c =
    global_below c.args.world.now.globals.items c.args.frames.now.flat c.args.count c.in-VarGlobal.index c.slot_below.result c.global_value.result
    c.slot_below.ensures c.in-VarGlobal.is c.global_value.ensures

pub returns-in_default : goal.returns-in_default
returns-in_default g c =
    value_below c.args.world.now.globals.items c.args.frames.now.flat c.args.count c.value_below.result c.value_below.ensures
