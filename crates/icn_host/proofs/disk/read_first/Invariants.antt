use Rattle.icn_host.specs.Readers.{HasRead}
use Rattle.icn_host.proofs.disk.read_first.Given as goal

abbrev pub invariant-loop-room : goal.invariant-loop-room
invariant-loop-room g l =
    HasRead (g.R.Read.remaining l.initial.reader) (g.R.Read.remaining l.reader) l.initial.into.items l.into.items l.initial.room l.room

abbrev pub decreases-loop-room : goal.decreases-loop-room
decreases-loop-room g l = l.room
