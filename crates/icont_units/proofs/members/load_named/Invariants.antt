use Rattle.std.proofs.Common.{◌≡◌, ◌≤◌, Some, drop}
use Rattle.icn_host.specs.FileMaps.{FileMap}
use Rattle.icont_units.specs.FetchedFiles.{files_seen}
use Rattle.icont_units.specs.Loading.{AreSoundMembers}
use Rattle.icont_units.proofs.NamedMembers.{CameSo}
use Rattle.icont_units.proofs.members.load_named.Given as goal

abbrev pub invariant-loop-file : goal.invariant-loop-file
invariant-loop-file g l = record {
  came : (held : FileMap) → (g.F.Files.state l.fn.files).held ≡ Some held
      → CameSo held (files_seen l.named) (files_seen (drop l.file-index l.named)) l.members;
  sound : AreSoundMembers l.members;
  same : (g.F.Files.state l.files).held ≡ (g.F.Files.state l.fn.files).held;
  faults : (g.F.Files.state l.files).counts.faults ≡ (g.F.Files.state l.fn.files).counts.faults;
  wants : (g.F.Files.state l.files).counts.wants ≡ (g.F.Files.state l.fn.files).counts.wants;
  absences : (g.F.Files.state l.fn.files).counts.absences ≤ (g.F.Files.state l.files).counts.absences;
}
