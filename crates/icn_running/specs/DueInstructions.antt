-- Where an instruction is due.
use Rattle.std.specs.Prelude.{◌==◌, ℕ, Bool, true, false, Result, Ok, Err}
use Rattle.icn_vars.specs.declared.outcome.Halt.{Halt}
use Rattle.icn_machine.specs.declared.stepping.AfterStep.{AfterStep}
use Rattle.icn_machine.specs.declared.stepping.AfterStep.TheVariants as AfterSteps
use Rattle.icn_running.specs.declared.running.AfterTurn.{AfterTurn}
use Rattle.icn_running.specs.declared.running.AfterTurn.TheVariants as AfterTurns

-- the run goes on: an instruction is due
abbrev pub is_on : AfterStep → Bool
is_on AfterSteps.Running = true
is_on AfterSteps.Over = false
is_on AfterSteps.AtBound = false

-- the same after a turn
abbrev pub goes_on : AfterTurn → Bool
goes_on AfterTurns.Running = true
goes_on AfterTurns.Over = false
goes_on AfterTurns.AtBound = false
goes_on AfterTurns.Halted = false

-- where one is due, and no turn was made since so many were
abbrev pub is_within : AfterTurn → ℕ → ℕ → Bool
is_within AfterTurns.Running now turns = now == turns
is_within AfterTurns.Over now turns = false
is_within AfterTurns.AtBound now turns = false
is_within AfterTurns.Halted now turns = false

-- where a run stands after a step
abbrev pub after_of : AfterStep → AfterTurn
after_of AfterSteps.Running = AfterTurns.Running
after_of AfterSteps.Over = AfterTurns.Over
after_of AfterSteps.AtBound = AfterTurns.AtBound

-- what the last step came to, with the halt that is said beside
abbrev pub step_result : AfterTurn → Halt → Result AfterStep Halt
step_result AfterTurns.Running halt = Ok AfterSteps.Running
step_result AfterTurns.Over halt = Ok AfterSteps.Over
step_result AfterTurns.AtBound halt = Ok AfterSteps.AtBound
step_result AfterTurns.Halted halt = Err halt
