-- The trees in a `Vec` are those of its elements.
use Rattle.std.proofs.Common.{◌≡◌, refl, ap}
use Rattle.icn_tree.specs.declared.tree.Clause.TheBlock.{Row_of-Expr, end_of-Expr, more_of-Expr, items-the_row-Expr, Row_of-Clause, end_of-Clause, more_of-Clause, items-the_row-Clause}
use Rattle.icn_tree.specs.Trees.{More, MoreClauses}
use Rattle.icn_tree.specs.TreeOf.{tree_of, trees_of, all_of, clause_of, clauses_of, all_clauses_of}

-- the trees of a row of a `Vec` are those of its elements
pub row_trees : {m : _} (row : Row_of-Expr m) → trees_of row ≡ all_of (items-the_row-Expr m row)
row_trees end_of-Expr = refl
row_trees (more_of-Expr expr rest) = ap (More (tree_of expr)) (row_trees rest)

-- the same of clauses
pub row_clauses : {m : _} (row : Row_of-Clause m) → clauses_of row ≡ all_clauses_of (items-the_row-Clause m row)
row_clauses end_of-Clause = refl
row_clauses (more_of-Clause clause rest) = ap (MoreClauses (clause_of clause)) (row_clauses rest)
