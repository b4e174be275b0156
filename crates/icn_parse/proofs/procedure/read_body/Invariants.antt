use Rattle.std.proofs.Common.{length}
use Rattle.icn_expr.specs.Views.{elements_of}
use Rattle.icn_parse.proofs.BodyLoop.{BodySo}
use Rattle.icn_parse.proofs.procedure.read_body.Given as goal

-- what was read, and what stands behind it, is all of it
abbrev pub invariant-loop-alloc : goal.invariant-loop-alloc
invariant-loop-alloc l = BodySo l.tokens (elements_of l.done) l.rest

abbrev pub decreases-loop-alloc : goal.decreases-loop-alloc
decreases-loop-alloc l = length l.rest
