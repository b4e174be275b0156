use Rattle.std.proofs.Common.{◌≡◌, drop}
use Rattle.icn_tree.specs.TreeOf.{all_of, all_clauses_of}
use Rattle.icn_parse.specs.Outcomes.{first_unknown, all_keywords, clauses_keywords}
use Rattle.icn_parse.proofs.keywords.+keywords.Given as goal

-- what is left has first what all of them do
abbrev pub invariant-check_all-loop-expr : goal.invariant-check_all-loop-expr
invariant-check_all-loop-expr l = first_unknown (all_keywords (all_of (drop l.expr-index l.exprs))) ≡ first_unknown (all_keywords (all_of l.exprs))

abbrev pub invariant-check_clauses-loop-clause : goal.invariant-check_clauses-loop-clause
invariant-check_clauses-loop-clause l =
    first_unknown (clauses_keywords (all_clauses_of (drop l.clause-index l.clauses))) ≡ first_unknown (clauses_keywords (all_clauses_of l.clauses))
