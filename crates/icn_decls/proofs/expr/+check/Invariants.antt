use Rattle.std.proofs.Common.{◌≡◌, drop, false}
use Rattle.icn_tree.specs.TreeOf.{all_of, all_clauses_of}
use Rattle.icn_decls.specs.Faults.{all_faults, clauses_faults}
use Rattle.icn_decls.specs.Views.{context_of, first_of}
use Rattle.icn_decls.proofs.expr.+check.Given as goal

-- what is left breaks first what all of them do
abbrev pub invariant-check_all-loop-expr : goal.invariant-check_all-loop-expr
invariant-check_all-loop-expr l =
    first_of (all_faults (context_of l.context) (all_of (drop l.expr-index l.exprs))) ≡ first_of (all_faults (context_of l.context) (all_of l.exprs))

abbrev pub invariant-check_clauses-loop-clause : goal.invariant-check_clauses-loop-clause
invariant-check_clauses-loop-clause l =
    first_of (clauses_faults (context_of l.context) l.has_default (all_clauses_of (drop l.clause-index l.clauses)))
    ≡ first_of (clauses_faults (context_of l.context) false (all_clauses_of l.clauses))
