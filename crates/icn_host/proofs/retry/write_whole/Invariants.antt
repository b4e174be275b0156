use Rattle.std.proofs.Common.{◌≡◌, ℕ, List, ◌++◌, length}
use Rattle.icn_host.specs.Sinks.{Gains}
use Rattle.icn_host.proofs.retry.write_whole.Given as goal

abbrev pub invariant-loop-rest : goal.invariant-loop-rest
invariant-loop-rest g l =
    (done : List ℕ) × Gains (g.W.Write.contents l.initial.writer) (g.W.Write.contents l.writer) done × (done ++ l.rest ≡ l.piece)

abbrev pub decreases-loop-rest : goal.decreases-loop-rest
decreases-loop-rest g l = length l.rest
