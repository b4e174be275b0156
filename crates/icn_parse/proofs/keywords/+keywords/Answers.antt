use Rattle.std.proofs.Common.{rules, ◌+◌, drop, sym, ◌∙◌, ap}
use Rattle.icn_tree.proofs.TreeRows.{row_trees, row_clauses}
use Rattle.icn_tree.specs.declared.tree.Expr.{the_lemmas}
use Rattle.icn_tree.specs.TreeOf.{tree_of, all_of, clause_of, all_clauses_of}
use Rattle.icn_parse.specs.Outcomes.{first_unknown, keywords, all_keywords, clause_keywords, clauses_keywords}
use Rattle.icn_parse.proofs.UnknownKeywords.{unknown_then, unknown_kept, unknown_passed, exprs_at, clauses_at}
use Rattle.icn_parse.proofs.keywords.+keywords.Goals as goal

pub check-returns-in-Parentheses : goal.check-returns-in-Parentheses
check-returns-in-Parentheses t c = search (rules, row_trees, the_lemmas)

pub check-returns-in-List : goal.check-returns-in-List
check-returns-in-List t c = search (rules, row_trees, the_lemmas)

pub check-returns-in-Compound : goal.check-returns-in-Compound
check-returns-in-Compound t c = search (rules, row_trees, the_lemmas)

pub check-returns-in_err-check-in-Call : goal.check-returns-in_err-check-in-Call
check-returns-in_err-check-in-Call t c = search (rules, row_trees, the_lemmas, unknown_kept)

pub check-returns-in_ok-check-in-Call : goal.check-returns-in_ok-check-in-Call
check-returns-in_ok-check-in-Call t c = search (rules, row_trees, the_lemmas, unknown_then)

pub check-returns-in_err-check-in-CoCall : goal.check-returns-in_err-check-in-CoCall
check-returns-in_err-check-in-CoCall t c = search (rules, row_trees, the_lemmas, unknown_kept)

pub check-returns-in_ok-check-in-CoCall : goal.check-returns-in_ok-check-in-CoCall
check-returns-in_ok-check-in-CoCall t c = search (rules, row_trees, the_lemmas, unknown_then)

pub check-returns-in_err-check-in-Subscript : goal.check-returns-in_err-check-in-Subscript
check-returns-in_err-check-in-Subscript t c = search (rules, row_trees, the_lemmas, unknown_kept)

pub check-returns-in_ok-check-in-Subscript : goal.check-returns-in_ok-check-in-Subscript
check-returns-in_ok-check-in-Subscript t c = search (rules, row_trees, the_lemmas, unknown_then)

pub check-returns-in_err-check-in-Case : goal.check-returns-in_err-check-in-Case
check-returns-in_err-check-in-Case t c = search (rules, row_clauses, the_lemmas, unknown_kept)

pub check-returns-in_ok-check-in-Case : goal.check-returns-in_ok-check-in-Case
check-returns-in_ok-check-in-Case t c = search (rules, row_clauses, the_lemmas, unknown_then)

pub check_all-returns-in_err-check : goal.check_all-returns-in_err-check
check_all-returns-in_err-check t c =
    unknown_passed (keywords (tree_of c.expr-item.result)) (all_keywords (all_of (drop (c.loop-expr.expr-index + 1) c.args.exprs.now))) c.in_err-check.field-0.0
    c.from_residual.result c.from_residual.ensures.1 c.in_err-check.ensures
    ∙ sym (ap first_unknown (exprs_at c.args.exprs.now c.loop-expr.expr-index c.expr-item.result c.loop-expr-test.true c.expr-item.is)) ∙ c.loop-expr.invariant

pub check_all-loop-expr-preserved : goal.check_all-loop-expr-preserved
check_all-loop-expr-preserved t c =
    sym
    (unknown_then (keywords (tree_of c.expr-item.result)) (all_keywords (all_of (drop (c.loop-expr.expr-index + 1) c.args.exprs.now))) c.in_ok-check.ensures)
    ∙ sym (ap first_unknown (exprs_at c.args.exprs.now c.loop-expr.expr-index c.expr-item.result c.loop-expr-test.true c.expr-item.is)) ∙ c.loop-expr.invariant

pub check_clauses-returns-in_err-check_clause : goal.check_clauses-returns-in_err-check_clause
check_clauses-returns-in_err-check_clause t c =
    unknown_passed (clause_keywords (clause_of c.clause-item.result))
    (clauses_keywords (all_clauses_of (drop (c.loop-clause.clause-index + 1) c.args.clauses.now))) c.in_err-check_clause.field-0.0 c.from_residual.result
    c.from_residual.ensures.1 c.in_err-check_clause.ensures
    ∙ sym (ap first_unknown (clauses_at c.args.clauses.now c.loop-clause.clause-index c.clause-item.result c.loop-clause-test.true c.clause-item.is))
    ∙ c.loop-clause.invariant

pub check_clauses-loop-clause-preserved : goal.check_clauses-loop-clause-preserved
check_clauses-loop-clause-preserved t c =
    sym (unknown_then (clause_keywords (clause_of c.clause-item.result))
    (clauses_keywords (all_clauses_of (drop (c.loop-clause.clause-index + 1) c.args.clauses.now))) c.in_ok-check_clause.ensures)
    ∙ sym (ap first_unknown (clauses_at c.args.clauses.now c.loop-clause.clause-index c.clause-item.result c.loop-clause-test.true c.clause-item.is))
    ∙ c.loop-clause.invariant

pub check-returns-in_err-check-in-Section : goal.check-returns-in_err-check-in-Section
check-returns-in_err-check-in-Section t c = search (rules, unknown_kept)

pub check-returns-in_err-check-in-Binary : goal.check-returns-in_err-check-in-Binary
check-returns-in_err-check-in-Binary t c = search (rules, unknown_kept)

pub check-returns-in_err-check-in-To : goal.check-returns-in_err-check-in-To
check-returns-in_err-check-in-To t c = search (rules, unknown_kept)

pub check-returns-in_err-check-in-If : goal.check-returns-in_err-check-in-If
check-returns-in_err-check-in-If t c = search (rules, unknown_kept)

pub check_clause-returns-in_err-check-in-Guarded : goal.check_clause-returns-in_err-check-in-Guarded
check_clause-returns-in_err-check-in-Guarded t c = search (rules, unknown_kept)

pub check-returns-in_err-check-in-Section-2 : goal.check-returns-in_err-check-in-Section-2
check-returns-in_err-check-in-Section-2 t c = search (rules, unknown_then, unknown_kept)

pub check-returns-in_err-check-in-To-2 : goal.check-returns-in_err-check-in-To-2
check-returns-in_err-check-in-To-2 t c = search (rules, unknown_then, unknown_kept)

pub check-returns-in_err-check-in-If-2 : goal.check-returns-in_err-check-in-If-2
check-returns-in_err-check-in-If-2 t c = search (rules, unknown_then, unknown_kept)

pub check_clause-returns-in_ok-check-in-Guarded : goal.check_clause-returns-in_ok-check-in-Guarded
check_clause-returns-in_ok-check-in-Guarded t c = search (rules, unknown_then)
