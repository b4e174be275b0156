use Rattle.std.proofs.Common.{◌≡◌, length}
use Rattle.icont_top.specs.Writing.{texts_seen}
use Rattle.icont_top.proofs.WrittenTexts.{WritesSome}
use Rattle.icont_top.proofs.writing.write_all.Given as goal

abbrev pub invariant-loop-text : goal.invariant-loop-text
invariant-loop-text g l = record {
  some : WritesSome (g.F.Files.state l.initial.files).held (g.F.Files.state l.files).held (texts_seen l.texts) (texts_seen l.rest);
  faults : (g.F.Files.state l.files).counts.faults ≡ (g.F.Files.state l.initial.files).counts.faults;
  wants : (g.F.Files.state l.files).counts.wants ≡ (g.F.Files.state l.initial.files).counts.wants;
  absences : (g.F.Files.state l.files).counts.absences ≡ (g.F.Files.state l.initial.files).counts.absences;
}

abbrev pub decreases-loop-text : goal.decreases-loop-text
decreases-loop-text g l = length l.rest
