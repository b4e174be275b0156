use Rattle.icn_host.specs.Readers.{HasTaken, left_of}
use Rattle.icn_host.proofs.input.Ahead.take.Given as goal

abbrev pub invariant-loop-room : goal.invariant-loop-room
invariant-loop-room g l =
    HasTaken (left_of l.initial.self.bytes l.initial.self.at l.initial.self.end (g.R.Read.remaining l.initial.self.reader))
    (left_of l.self.bytes l.self.at l.self.end (g.R.Read.remaining l.self.reader)) l.initial.into.items l.into.items l.n l.room

abbrev pub decreases-loop-room : goal.decreases-loop-room
decreases-loop-room g l = l.room
