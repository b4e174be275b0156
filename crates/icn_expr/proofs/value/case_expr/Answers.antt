use Rattle.std.proofs.Common.{rules}
use Rattle.icn_tree.proofs.TreeRows.{row_trees, row_clauses}
use Rattle.icn_tree.specs.declared.tree.Expr.{the_lemmas}
use Rattle.icn_expr.proofs.value.case_expr.Goals as goal

pub returns : goal.returns
returns c = search (rules, row_clauses, the_lemmas)
