use Rattle.std.proofs.Common.{Some, ap, refl, sym, ◌∙◌}
use Rattle.icn_value.specs.declared.item.Item.TheVariants as Items
use Rattle.icn_value.specs.declared.item.Root.TheVariants as Roots
use Rattle.icn_value.specs.declared.item.VarRef.TheVariants as VarRefs
use Rattle.icn_value.specs.declared.val.Val.{Val}
use Rattle.icn_frames.specs.Slots.{plain_operand}
use Rattle.icn_machine.specs.PlainCalls.{as_global}
use Rattle.icn_machine.proofs.plain_calls.procedure_held.Goals as goal

pub returns-in-Proc : goal.returns-in-Proc
returns-in-Proc c = record {
  item = Items.Var (VarRefs.Whole (Roots.Global c.args.index));
  tells = ap plain_operand c.requires;
  names = as_global c.args.index refl (sym c.in-Some.ensures ∙ ap (λ (v : Val). Some v) c.in-Proc.is);
}
