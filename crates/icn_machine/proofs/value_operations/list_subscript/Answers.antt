use Rattle.std.proofs.Common.{ℤ, FitsSigned, ap, rules, sym, ◌∙◌, subst}
use Rattle.std.proofs.lemmas.Int.{to_z-of_z}
use Rattle.std.specs.Int.{w64}
use Rattle.icn_text.specs.declared.op.Op.TheVariants as Ops
use Rattle.icn_value.specs.declared.val.Val.{Val}
use Rattle.icn_value.specs.declared.val.Val.TheVariants as Vals
use Rattle.icn_machine.specs.ValueOperations.{ComesOnValues}
use Rattle.icn_machine.proofs.value_operations.list_subscript.Goals as goal

pub returns-in-Integer-clause-row : goal.returns-in-Integer-clause-row
returns-in-Integer-clause-row c =
    let fits : FitsSigned w64 c.in-Integer.n = search rules in
    subst (λ (b : Val). ComesOnValues c.args.world.now Ops.Subscript (Vals.List c.args.list) b c.element_given.result)
    (ap (λ (i : ℤ). Vals.Integer i) (to_z-of_z w64 c.in-Integer.n fits) ∙ sym c.in-Integer.is) c.element_given.ensures.row
