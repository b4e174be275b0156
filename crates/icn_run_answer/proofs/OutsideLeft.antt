-- What a call leaves of the outside, of what its parts leave.
use Rattle.std.proofs.Common.{◌≡◌, ◌∙◌, ℕ, List, Option, IfSome}
use Rattle.icn_host.specs.FileMaps.{StoreState}
use Rattle.icn_host.specs.Sinks.{SinkState}
use Rattle.icn_host.specs.Sources.{SourceCounts}
use Rattle.icn_streams.specs.Handed.{CallStreams, KeepsStoreCounts, call_streams}
use Rattle.icn_answer.specs.declared.answer.Answer.{Answer}
use Rattle.icn_answer.specs.Answers.{IsAbsence}
use Rattle.icn_answer.proofs.ToldContent.{if_some_intro}
use Rattle.icn_answer.proofs.TornAnswers.{OnlyRead}
use Rattle.icn_run_answer.specs.CountCauses.{EndsAtFirst}
use Rattle.icn_run_answer.specs.InputLeft.{LosesSome}
use Rattle.icn_run_answer.specs.OutsideLeft.{LeavesOutside}
use Rattle.icn_run_answer.proofs.CountCauses.{after_files}

-- nothing was read of the input
loses_none : (before after : Option (List ℕ)) → after ≡ before → IfSome before (λ left. LosesSome left after)
loses_none before after same = if_some_intro before _ (λ left told. (0, same ∙ told))

-- a call that left the input and the output alone
pub leaves_both : {answer : Answer} {before after : CallStreams} → after.left ≡ before.left → after.counts ≡ before.counts
    → after.output.held ≡ before.output.held → EndsAtFirst answer (IsAbsence answer) before after → LeavesOutside answer before after
leaves_both {before = before} {after} left counts output ends = record {
  causes = ends;
  input = loses_none before.left after.left left;
  refused = λ none. output;
  unread = λ none. left;
  uncalled = λ none. counts;
}

-- files that were read alone have failed nothing
pub read_kept : {was now : StoreState} → OnlyRead was now → KeepsStoreCounts was now
read_kept read = record { faults = read.faults; wants = read.wants; absences = read.absences }

-- files that were read or written before
pub leaves_after : {files files' : StoreState} {left : Option (List ℕ)} {input : SourceCounts} {out errors : SinkState} {after : CallStreams}
    (answer : Answer) → KeepsStoreCounts files files' → LeavesOutside answer (call_streams files' left input out errors) after
    → LeavesOutside answer (call_streams files left input out errors) after
leaves_after answer kept leaves = record {
  causes = after_files answer kept leaves.causes;
  input = leaves.input;
  refused = leaves.refused;
  unread = leaves.unread;
  uncalled = leaves.uncalled;
}
