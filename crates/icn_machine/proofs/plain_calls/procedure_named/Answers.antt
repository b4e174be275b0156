use Rattle.std.proofs.Common.{ap, refl}
use Rattle.icn_value.specs.declared.item.Item.TheVariants as Items
use Rattle.icn_value.specs.declared.val.Val.TheVariants as Vals
use Rattle.icn_frames.specs.Slots.{plain_operand}
use Rattle.icn_machine.specs.PlainCalls.{as_value}
use Rattle.icn_machine.proofs.plain_calls.procedure_named.Goals as goal

pub returns-in-ValProc : goal.returns-in-ValProc
returns-in-ValProc c =
    record { item = Items.Val (Vals.Proc c.in-ValProc.number); tells = ap plain_operand c.in-ValProc.is; names = as_value refl }
