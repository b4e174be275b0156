use Rattle.std.proofs.Common.{IfSome, sym, subst}
use Rattle.icn_text.specs.declared.op.Op.{Op}
use Rattle.icn_value.specs.declared.val.Val.TheVariants as Vals
use Rattle.icn_machine.specs.ValueOperations.{ComesOnValues}
use Rattle.icn_machine.proofs.value_operations.outcome_with_list.Goals as goal

pub returns-in-Subscript-clause-row : goal.returns-in-Subscript-clause-row
returns-in-Subscript-clause-row c =
    subst (λ (op : Op). IfSome c.list_subscript.result (ComesOnValues c.args.world.now op (Vals.List c.args.list) c.args.b)) (sym c.in-Subscript.is)
    c.list_subscript.ensures.row
