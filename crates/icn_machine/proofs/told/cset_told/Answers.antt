use Rattle.icn_value.specs.declared.val.Val.TheVariants as Vals
use Rattle.icn_machine.proofs.ToldSteps.{by_global, by_local}
use Rattle.icn_machine.proofs.told.cset_told.Goals as goal

pub returns-in-VarLocal : goal.returns-in-VarLocal
returns-in-VarLocal g c =
    by_local (λ x. Vals.Chars x) c.args.world.now.globals.items c.args.frames.now.flat c.args.count c.slot_below.result c.slot_below.ensures
    c.in-VarLocal.index c.cset_held.result c.in-VarLocal.is c.cset_held.ensures

pub returns-in-VarGlobal : goal.returns-in-VarGlobal
returns-in-VarGlobal g c =
    by_global (λ x. Vals.Chars x) c.args.world.now.globals.items c.args.frames.now.flat c.args.count c.slot_below.result c.slot_below.ensures
    c.in-VarGlobal.index c.global_cset.result c.in-VarGlobal.is c.global_cset.ensures

pub returns-in-ValOther : goal.returns-in-ValOther
returns-in-ValOther g c = c.own_cset.ensures c.args.world.now.globals.items
