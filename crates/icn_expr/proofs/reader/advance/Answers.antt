use Rattle.std.proofs.Common.{◌≡◌, ◌<◌, refl, sym, ap, ◌∙◌}
use Rattle.icn_tree.specs.Trees.{Tree, Trees, Clauses}
use Rattle.icn_tree.specs.Grammar.{before}
use Rattle.std.specs.Prelude.{Some}
use Rattle.icn_expr.specs.Automata.{Starting, Climbing, Closing}
use Rattle.icn_expr.specs.Capped.{WithHeight, builds_with_height}
use Rattle.icn_expr.specs.Reading.{steps_left, end_of}
use Rattle.icn_expr.specs.Views.{capped_of, stack_of, state_of}
use Rattle.icn_expr.proofs.CappedSteps.{same_end, less_left}
use Rattle.icn_expr.proofs.AutomatonEnds.{end_finished, end_broken}
use Rattle.icn_expr.proofs.reader.advance.Goals as goal

pub returns-in-Finished-clause-same : goal.returns-in-Finished-clause-same
returns-in-Finished-clause-same c =
    rw c.in-Finished.is
    (sym (end_finished (WithHeight Tree) (WithHeight Trees) (WithHeight Clauses) builds_with_height (capped_of c.in-Finished.value) c.args.tokens.now))

pub returns-in-Broken-clause-same : goal.returns-in-Broken-clause-same
returns-in-Broken-clause-same c = rw c.in-Broken.is (sym (end_broken (WithHeight Tree) (WithHeight Trees) (WithHeight Clauses) builds_with_height))

pub returns-in_ok-next-in-Starting-clause-same : goal.returns-in_ok-next-in-Starting-clause-same
returns-in_ok-next-in-Starting-clause-same c =
    rw c.in-Starting.is (same_end (Starting c.in-Starting.level (stack_of c.args.stack.now) c.args.tokens.now) _ refl c.in_ok-next-in-Starting.ensures)

pub returns-in_ok-next-in-Starting-clause-less : goal.returns-in_ok-next-in-Starting-clause-less
returns-in_ok-next-in-Starting-clause-less c =
    rw c.in-Starting.is (less_left (Starting c.in-Starting.level (stack_of c.args.stack.now) c.args.tokens.now) _ refl c.in_ok-next-in-Starting.ensures)

pub returns-in_ok-next-in-StartingWith-clause-same : goal.returns-in_ok-next-in-StartingWith-clause-same
returns-in_ok-next-in-StartingWith-clause-same c = rw c.in-StartingWith.is (same_end (Starting 12 (stack_of c.args.stack.now)
    (before c.in-StartingWith.place (Some c.in-StartingWith.operator) c.args.tokens.now)) _ refl c.in_ok-next-in-StartingWith.ensures)

pub returns-in_ok-next-in-StartingWith-clause-less : goal.returns-in_ok-next-in-StartingWith-clause-less
returns-in_ok-next-in-StartingWith-clause-less c = rw c.in-StartingWith.is (less_left (Starting 12 (stack_of c.args.stack.now)
    (before c.in-StartingWith.place (Some c.in-StartingWith.operator) c.args.tokens.now)) _ refl c.in_ok-next-in-StartingWith.ensures)

pub returns-in_ok-next-in-Climbing-clause-same : goal.returns-in_ok-next-in-Climbing-clause-same
returns-in_ok-next-in-Climbing-clause-same c = rw c.in-Climbing.is (same_end (Climbing c.in-Climbing.level c.in-Climbing.place (capped_of c.in-Climbing.value)
    (stack_of c.args.stack.now) c.args.tokens.now) _ refl c.in_ok-next-in-Climbing.ensures)

pub returns-in_ok-next-in-Climbing-clause-less : goal.returns-in_ok-next-in-Climbing-clause-less
returns-in_ok-next-in-Climbing-clause-less c = rw c.in-Climbing.is (less_left (Climbing c.in-Climbing.level c.in-Climbing.place (capped_of c.in-Climbing.value)
    (stack_of c.args.stack.now) c.args.tokens.now) _ refl c.in_ok-next-in-Climbing.ensures)

pub returns-in_ok-next-in-Closing-clause-same : goal.returns-in_ok-next-in-Closing-clause-same
returns-in_ok-next-in-Closing-clause-same c = rw c.in-Closing.is (same_end
    (Closing (capped_of c.in-Closing.value) c.in-Closing.present (stack_of c.args.stack.now) c.args.tokens.now) _ refl c.in_ok-next-in-Closing.ensures)

pub returns-in_ok-next-in-Closing-clause-less : goal.returns-in_ok-next-in-Closing-clause-less
returns-in_ok-next-in-Closing-clause-less c = rw c.in-Closing.is (less_left
    (Closing (capped_of c.in-Closing.value) c.in-Closing.present (stack_of c.args.stack.now) c.args.tokens.now) _ refl c.in_ok-next-in-Closing.ensures)
