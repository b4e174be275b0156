use Rattle.icn_host.specs.Readers.{HasLinePart, left_of}
use Rattle.icn_host.proofs.input.Ahead.line.Given as goal

abbrev pub invariant-loop-rest : goal.invariant-loop-rest
invariant-loop-rest g l =
    HasLinePart (left_of l.initial.self.bytes l.initial.self.at l.initial.self.end (g.R.Read.remaining l.initial.self.reader))
    (left_of l.self.bytes l.self.at l.self.end (g.R.Read.remaining l.self.reader)) l.initial.into.items l.into.items l.initial.room l.room

abbrev pub decreases-loop-rest : goal.decreases-loop-rest
decreases-loop-rest g l = l.room
