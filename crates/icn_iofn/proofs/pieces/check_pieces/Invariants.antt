use Rattle.std.proofs.Common.{length}
use Rattle.icn_heap.specs.Heaps.{extent_of, heap_of}
use Rattle.icn_iofn.proofs.PieceChecks.{ChecksSo}
use Rattle.icn_iofn.proofs.pieces.check_pieces.Given as goal

abbrev pub decreases-loop-first : goal.decreases-loop-first
decreases-loop-first l = length l.rest

-- what was checked passed
abbrev pub invariant-loop-first : goal.invariant-loop-first
invariant-loop-first l = ChecksSo (heap_of l.heap) (extent_of l.heap) l.vals l.rest
