use Rattle.std.proofs.Common.{◌≡◌, ℕ, List, ◌++◌, length}
use Rattle.icn_host.specs.FileMaps.{GrowsFile}
use Rattle.icn_host.proofs.whole.write_bytes.Given as goal

abbrev pub invariant-loop-rest : goal.invariant-loop-rest
invariant-loop-rest g l =
    (done : List ℕ)
    × GrowsFile (g.S.FileSystem.held l.initial.system) (g.S.FileSystem.held l.system) (g.S.FileSystem.opened l.initial.file) done
    × (g.S.FileSystem.opened l.file ≡ g.S.FileSystem.opened l.initial.file) × (done ++ l.rest ≡ l.bytes)

abbrev pub decreases-loop-rest : goal.decreases-loop-rest
decreases-loop-rest g l = length l.rest
