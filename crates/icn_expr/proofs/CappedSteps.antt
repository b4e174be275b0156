-- One step of the code is one of the automaton over capped trees.
use Rattle.std.proofs.Common.{◌≡◌, ◌<◌, Bool, true, false, List, Option, refl, sym, ap, subst, ◌∙◌}
use Rattle.icn_tree.specs.declared.token.Token.{Token}
use Rattle.icn_tree.specs.Trees.{Tree, Trees, Clauses}
use Rattle.icn_expr.specs.Automata.{step}
use Rattle.icn_expr.specs.Capped.{WithHeight, builds_with_height}
use Rattle.icn_expr.specs.Reading.{steps_left, end_of}
use Rattle.icn_expr.specs.Views.{CappedState}
use Rattle.icn_expr.proofs.AutomatonEnds.{is_over, step_less, end_steps}

-- what follows a step comes to the same end
pub same_end : (state next : CappedState) → is_over (WithHeight Tree) (WithHeight Trees) (WithHeight Clauses) builds_with_height state ≡ false
    → next ≡ step builds_with_height state
    → end_of builds_with_height next ≡ end_of builds_with_height state
same_end state next going is =
    ap (end_of builds_with_height) is ∙ end_steps (WithHeight Tree) (WithHeight Trees) (WithHeight Clauses) builds_with_height state going

-- a step leaves less to do
pub less_left : (state next : CappedState) → is_over (WithHeight Tree) (WithHeight Trees) (WithHeight Clauses) builds_with_height state ≡ false
    → next ≡ step builds_with_height state
    → steps_left next < steps_left state
less_left state next going is =
    subst (λ s. steps_left s < steps_left state) (sym is) (step_less (WithHeight Tree) (WithHeight Trees) (WithHeight Clauses) builds_with_height state going)
