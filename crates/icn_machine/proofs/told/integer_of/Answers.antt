use Rattle.std.proofs.Common.{FitsSigned, ◌∙◌, ap, rules, sym, ℤ}
use Rattle.std.proofs.lemmas.Int.{to_z-of_z}
use Rattle.std.specs.Int.{w64}
use Rattle.icn_value.specs.declared.val.Val.{Val}
use Rattle.icn_value.specs.declared.val.Val.TheVariants as Vals
use Rattle.icn_machine.proofs.told.integer_of.Goals as goal

pub returns-in-Integer : goal.returns-in-Integer
returns-in-Integer c =
    let n = c.in-Integer.n in
    let fits : FitsSigned w64 n = search rules in
    let F : ℤ → Val = λ i. Vals.Integer i in
    c.in-Integer.is ∙ ap F (sym (to_z-of_z w64 n fits))
