-- All that a call of the program says, from its words to its status.
use Rattle.std.specs.Prelude.{◌≡◌, ◌⊎◌, ℕ, List, [], IfSome}
use Rattle.std.specs.Process.{exit_status}
use Rattle.std.specs.declared.process.ExitCode.{ExitCode}
use Rattle.icn_host.specs.Counts.{Rose}
use Rattle.icn_answer.specs.declared.answer.Answer.{Answer}
use Rattle.icn_answer.specs.declared.answer.Answer.TheVariants.{NoMemory}
use Rattle.icn_answer.specs.Answers.{IsAbsence, IsFault, IsRefusal, status_of}
use Rattle.icn_run_answer.specs.CountCauses.{EndsAtFirst}
use Rattle.icn_run_answer.specs.FaultAnswers.{IsOfRun}
use Rattle.icn_run_answer.specs.InputLeft.{LosesSome}
use Rattle.icn_run_answer.specs.PendingBytes.{LeavesSettled, PendingBytes}
use Rattle.icn_run_answer.specs.Reporting.{LineStands, Reports}
use Rattle.icn_streams.specs.Handed.{CallStreams}
use Rattle.icont_top.specs.Answered.{AsksForNumber, IsAnswered, IsCommanded, MissesText, TellsLink}
use Rattle.icont_top.specs.Answering.{RunsAsAsked}
use Rattle.icont_top.specs.Outcomes.{AnswersCommand, HasWritten, HoldsWritten, IsComplete, LeavesFiles}
use Rattle.icont_top.specs.Usage.{usage}

-- All that `icont_main` says of its answer, by the clauses' names; the bytes that are pending are told apart.
pub record IsWholeCall (words : List (List ℕ)) (before after : CallStreams)
    (kept keeps : PendingBytes) (answer : Answer) : Type 0 where
  pub outcome : IfSome before.files.held (λ files. IfSome before.left
      (λ left. AnswersCommand words files left answer before after))
  pub faultless : ¬ Rose before.files.counts.faults after.files.counts.faults
      → ¬ Rose before.counts.faults after.counts.faults
      → ¬ Rose before.output.faults after.output.faults
      → ¬ Rose before.errors.faults after.errors.faults → IsFault answer → answer ≡ NoMemory
  pub headline : HasWritten answer
      → IfSome before.files.held (λ files. HoldsWritten words files answer after.files.held)
  pub written : IfSome before.files.held (λ files. LeavesFiles words files answer before.files after.files)
  pub line : IsFault answer ⊎ LineStands usage [] answer before.errors after.errors
  pub fault_line : Reports usage [] before.errors after.errors answer
  pub answered : IfSome before.files.held (λ files. IsAnswered words files answer)
  pub complete : IfSome before.files.held (λ files. IsComplete words files answer)
  pub command : IsCommanded words answer
  pub links : IfSome before.files.held (λ files. MissesText words files → IsFault answer
      ⊎ Rose before.files.counts.absences after.files.counts.absences)
  pub missed : (AsksForNumber words → ⊥)
      → TellsLink answer before.files.counts.absences after.files.counts.absences
  pub input : IfSome before.left (λ left. LosesSome left after.left)
  pub untouched : IsRefusal answer → after.files.held ≡ before.files.held
  pub refused : (IsOfRun answer → ⊥) → after.output.held ≡ before.output.held
  pub unread : (IsOfRun answer → ⊥) → after.left ≡ before.left
  pub uncalled : (IsOfRun answer → ⊥) → after.counts ≡ before.counts
  pub causes : EndsAtFirst answer (IsAbsence answer) before after
  pub ran : IfSome before.files.held (λ files. RunsAsAsked words files answer before after)
  pub settled : LeavesSettled answer kept keeps

-- The program ends with the status of such an answer.
pub record EndsBy (words : List (List ℕ)) (before after : CallStreams)
    (kept keeps : PendingBytes) (code : ExitCode) : Type 0 where
  pub answer : Answer
  pub is : IsWholeCall words before after kept keeps answer
  pub status : exit_status code ≡ status_of answer
