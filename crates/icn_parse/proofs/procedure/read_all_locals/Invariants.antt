use Rattle.std.proofs.Common.{length, map}
use Rattle.icn_tree.specs.TreeOf.{locals_of}
use Rattle.icn_parse.proofs.ParserLoops.{LocalsSo}
use Rattle.icn_parse.proofs.procedure.read_all_locals.Given as goal

-- what was read, and what stands behind it, is all of it
abbrev pub invariant-loop-kind : goal.invariant-loop-kind
invariant-loop-kind l = LocalsSo l.tokens (map locals_of l.all.items) l.rest

abbrev pub decreases-loop-kind : goal.decreases-loop-kind
decreases-loop-kind l = length l.rest
