use Rattle.std.proofs.Common.{length}
use Rattle.icn_iofn.specs.PutPieces.{IsOneSettled, outputs}
use Rattle.icn_iofn.proofs.PutSteps.{PutsSo}
use Rattle.icn_iofn.proofs.putting.put_line.Given as goal

abbrev pub decreases-loop-first : goal.decreases-loop-first
decreases-loop-first g l = length l.rest

-- the line as far as its pieces have come
abbrev pub invariant-loop-first : goal.invariant-loop-first
invariant-loop-first g l =
    PutsSo l.vals l.rest l.ends l.is_first l.fn.file l.selected l.buffer.items l.fn.w l.w (g.L.Locals.items l.l)
    (outputs (g.O.Sink.state l.fn.out) (g.E.Sink.state l.fn.err)) (outputs (g.O.Sink.state l.out) (g.E.Sink.state l.err))
    (IsOneSettled (g.O.Sink.pending l.fn.out) (g.E.Sink.pending l.fn.err) → IsOneSettled (g.O.Sink.pending l.out) (g.E.Sink.pending l.err))
