-- What a call that may run a program leaves of the outside, whatever it was asked for.
use Rattle.std.specs.Prelude.{◌≡◌, IfSome}
use Rattle.icn_answer.specs.declared.answer.Answer.{Answer}
use Rattle.icn_answer.specs.Answers.{IsAbsence}
use Rattle.icn_streams.specs.Handed.{CallStreams}
use Rattle.icn_run_answer.specs.CountCauses.{EndsAtFirst}
use Rattle.icn_run_answer.specs.FaultAnswers.{IsOfRun}
use Rattle.icn_run_answer.specs.InputLeft.{LosesSome}

-- What a call with this answer leaves of the input, both outputs, and the counts of all objects.
pub record LeavesOutside (answer : Answer) (before after : CallStreams) : Type 0 where
  -- the first fault ends the call, and an absence is answered only where that count rose
  pub causes : EndsAtFirst answer (IsAbsence answer) before after
  -- where the input tells what it has left, some first bytes of it were taken
  pub input : IfSome before.left (λ left. LosesSome left after.left)
  -- an answer that no run gives leaves the output as it was
  pub refused : (IsOfRun answer → ⊥) → after.output.held ≡ before.output.held
  -- such an answer leaves the input as it was
  pub unread : (IsOfRun answer → ⊥) → after.left ≡ before.left
  -- and calls it no more
  pub uncalled : (IsOfRun answer → ⊥) → after.counts ≡ before.counts
