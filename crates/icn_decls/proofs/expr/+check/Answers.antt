use Rattle.std.proofs.Common.{rules}
use Rattle.icn_tree.proofs.TreeRows.{row_trees, row_clauses}
use Rattle.icn_tree.specs.declared.tree.Expr.{the_lemmas}
use Rattle.icn_decls.proofs.FirstOfTwo.{first_of_second}
use Rattle.icn_decls.proofs.expr.+check.Goals as goal

pub check-returns-in-Parentheses : goal.check-returns-in-Parentheses
check-returns-in-Parentheses n c = search (rules, row_trees, the_lemmas)

pub check-returns-in-List : goal.check-returns-in-List
check-returns-in-List n c = search (rules, row_trees, the_lemmas)

pub check-returns-in-Compound : goal.check-returns-in-Compound
check-returns-in-Compound n c = search (rules, row_trees, the_lemmas)

pub check-returns-in_ok-check-in-Call : goal.check-returns-in_ok-check-in-Call
check-returns-in_ok-check-in-Call n c = search (rules, row_trees, the_lemmas, first_of_second)

pub check-returns-in_ok-check-in-CoCall : goal.check-returns-in_ok-check-in-CoCall
check-returns-in_ok-check-in-CoCall n c = search (rules, row_trees, the_lemmas, first_of_second)

pub check-returns-in_ok-check-in-Subscript : goal.check-returns-in_ok-check-in-Subscript
check-returns-in_ok-check-in-Subscript n c = search (rules, row_trees, the_lemmas, first_of_second)

pub check-returns-in_ok-check-in-Case : goal.check-returns-in_ok-check-in-Case
check-returns-in_ok-check-in-Case n c = search (rules, row_clauses, the_lemmas, first_of_second)
