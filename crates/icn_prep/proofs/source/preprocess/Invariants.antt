use Rattle.std.proofs.Common.{◌≡◌, ◌≤◌, ◌<◌, ◌+◌, ◌-◌, ◌*◌, Some}
use Rattle.std.specs.Prelude.{slice_get, vec_len, All}
use Rattle.icn_host.specs.FileMaps.{FileMap}
use Rattle.icn_prep.specs.SourceLines.{named_file}
use Rattle.icn_prep.specs.StateViews.{state_of}
use Rattle.icn_prep.proofs.FileStacks.{StackSo}
use Rattle.icn_prep.proofs.source.preprocess.Given as goal

abbrev pub invariant-loop-file : goal.invariant-loop-file
invariant-loop-file g l = record {
  so : (held : FileMap) → (g.F.Files.state l.fn.files).held ≡ Some held
      → StackSo held (named_file held l.name (held l.name)) l.stack.items (state_of l.reading);
  same : (g.F.Files.state l.files).held ≡ (g.F.Files.state l.fn.files).held;
  faults : (g.F.Files.state l.files).counts.faults ≡ (g.F.Files.state l.fn.files).counts.faults;
  wants : (g.F.Files.state l.files).counts.wants ≡ (g.F.Files.state l.fn.files).counts.wants;
  absences : (g.F.Files.state l.fn.files).counts.absences ≤ (g.F.Files.state l.files).counts.absences;
  named : All (λ f. f.cursor.file < vec_len l.reading.names) l.stack.items;
  first : slice_get l.reading.names.items 0 ≡ Some l.name;
}

abbrev pub decreases-loop-file : goal.decreases-loop-file
decreases-loop-file g l = 2 * (16777218 - l.reading.size) + vec_len l.stack
