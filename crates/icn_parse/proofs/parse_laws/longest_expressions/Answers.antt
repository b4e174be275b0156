use Rattle.icn_tree.specs.Trees.{Tree, Trees, Clauses}
use Rattle.icn_expr.specs.Capped.{WithHeight, builds_with_height}
use Rattle.icn_expr.proofs.CappedRuns.{capped_shows, shown_tree}
use Rattle.icn_expr.proofs.Exact.{expression_found, expression_sound}
use Rattle.icn_parse.proofs.parse_laws.longest_expressions.Goals as goal

pub returns-clause-reads_longest : goal.returns-clause-reads_longest
returns-clause-reads_longest c = λ level tree here after part ends.
    rw (← shown_tree tree)
    (expression_found (WithHeight Tree) (WithHeight Trees) (WithHeight Clauses) builds_with_height capped_shows level tree here after part ends)

pub returns-clause-by_grammar : goal.returns-clause-by_grammar
returns-clause-by_grammar c = λ level here after value bound e.
    let found = expression_sound (WithHeight Tree) (WithHeight Trees) (WithHeight Clauses) builds_with_height capped_shows level here after value bound e in
    (found.tree, found.part, found.ends, rw (← shown_tree found.tree) found.is)
