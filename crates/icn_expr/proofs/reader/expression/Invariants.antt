use Rattle.std.proofs.Common.{◌≡◌}
use Rattle.icn_expr.specs.Capped.{builds_with_height}
use Rattle.icn_expr.specs.Reading.{steps_left, end_of, expression_read}
use Rattle.icn_expr.specs.Views.{stack_of, state_of}
use Rattle.icn_expr.proofs.reader.expression.Given as goal

-- what is read from here is what is read from the start
abbrev pub invariant-reading : goal.invariant-reading
invariant-reading l = end_of builds_with_height (state_of l.state (stack_of l.stack) l.rest) ≡ expression_read builds_with_height l.level l.tokens

abbrev pub decreases-reading : goal.decreases-reading
decreases-reading l = steps_left (state_of l.state (stack_of l.stack) l.rest)
