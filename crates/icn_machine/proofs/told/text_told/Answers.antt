use Rattle.std.proofs.Common.{ap}
use Rattle.icn_frames.specs.Slots.{plain_operand}
use Rattle.icn_value.specs.declared.val.Val.TheVariants as Vals
use Rattle.icn_machine.proofs.ToldSteps.{by_global, by_local, by_slot}
use Rattle.icn_machine.proofs.told.text_told.Goals as goal

pub returns-in-VarLocal : goal.returns-in-VarLocal
returns-in-VarLocal g c =
    by_local (λ x. Vals.Text x) c.args.world.now.globals.items c.args.frames.now.flat c.args.count c.slot_below.result c.slot_below.ensures
    c.in-VarLocal.index c.text_held.result c.in-VarLocal.is c.text_held.ensures

pub returns-in-VarGlobal : goal.returns-in-VarGlobal
returns-in-VarGlobal g c =
    by_global (λ x. Vals.Text x) c.args.world.now.globals.items c.args.frames.now.flat c.args.count c.slot_below.result c.slot_below.ensures
    c.in-VarGlobal.index c.global_text.result c.in-VarGlobal.is c.global_text.ensures

pub returns-in-ValText : goal.returns-in-ValText
returns-in-ValText g c =
    by_slot (λ x. Vals.Text x) c.args.world.now.globals.items c.args.frames.now.flat c.args.count c.slot_below.result c.slot_below.ensures _
    (ap plain_operand c.in-ValText.is)
