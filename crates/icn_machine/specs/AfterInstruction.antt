-- Where a run stands after an instruction.
use Rattle.std.specs.Prelude.{Result, Ok, Err}
use Rattle.icn_vars.specs.declared.outcome.Halt.{Halt}
use Rattle.icn_control.specs.declared.machine.RunState.{RunState}
use Rattle.icn_control.specs.declared.machine.RunState.TheVariants as RunStates
use Rattle.icn_machine.specs.declared.stepping.AfterStep.{AfterStep}
use Rattle.icn_machine.specs.declared.stepping.AfterStep.TheVariants as AfterSteps

-- the stage of a machine
abbrev pub stage_of : AfterStep → RunState
stage_of AfterSteps.Running = RunStates.Running
stage_of AfterSteps.Over = RunStates.Over
stage_of AfterSteps.AtBound = RunStates.AtBound

-- where the run stands after an instruction, or why it halts
abbrev pub stage_result : Result AfterStep Halt → Result RunState Halt
stage_result (Ok stepped) = Ok (stage_of stepped)
stage_result (Err halt) = Err halt
