use Rattle.std.proofs.Common.{sym, ◌∙◌}
use Rattle.icn_translate.proofs.ExpressionLists.{one_element}
use Rattle.icn_translate.proofs.expr.is_no_element.Goals as goal

pub returns : goal.returns
returns c = c.is_empty-2.ensures
    ∙ one_element c.in-Some.first.now c.in-Some.others.now c.args.exprs.now c.in-Some.ensures.cases.0 (sym c.is_empty.ensures ∙ c.if-not-is_empty.false)
