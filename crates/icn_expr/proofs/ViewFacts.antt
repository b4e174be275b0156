-- Lists that get one more.
use Rattle.std.proofs.Common.{◌≡◌, List, [], ◌∷◌, ◌++◌, refl, ap}
use Rattle.icn_tree.specs.declared.tree.Expr.{Expr}
use Rattle.icn_tree.specs.declared.tree.Clause.{Clause as ClauseExpr}
use Rattle.icn_tree.specs.Trees.{Trees, Clauses, More, MoreClauses}
use Rattle.icn_tree.specs.TreeOf.{tree_of, all_of, clause_of, all_clauses_of}
use Rattle.icn_expr.specs.declared.frame.OpenForm.{OpenForm as FrameValue}
use Rattle.icn_expr.specs.Capped.{with_last, with_last_clause}
use Rattle.icn_expr.specs.Views.{OpenFrame, frame_of, frames_onto}

pub all_of_last : (exprs : List Expr) (last : Expr) → all_of (exprs ++ last ∷ []) ≡ with_last (all_of exprs) (tree_of last)
all_of_last [] last = refl
all_of_last (expr ∷ exprs) last = ap (More (tree_of expr)) (all_of_last exprs last)

pub all_clauses_last : (clauses : List ClauseExpr) (last : ClauseExpr)
    → all_clauses_of (clauses ++ last ∷ []) ≡ with_last_clause (all_clauses_of clauses) (clause_of last)
all_clauses_last [] last = refl
all_clauses_last (clause ∷ clauses) last = ap (MoreClauses (clause_of clause)) (all_clauses_last clauses last)

pub newest_first : (frames : List FrameValue) (newest : FrameValue) (below : List OpenFrame)
    → frames_onto (frames ++ newest ∷ []) below ≡ frame_of newest ∷ frames_onto frames below
newest_first [] newest below = refl
newest_first (frame ∷ frames) newest below = newest_first frames newest (frame_of frame ∷ below)
