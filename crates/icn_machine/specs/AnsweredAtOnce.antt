-- Instructions and steps of failing that are done at once, on a machine.
use Rattle.std.specs.Prelude.{◌≡◌, ◌≢◌, ◌==◌, ℕ, Bool, true, false, Option, None, Some, IfSome, IfOk, Result, Ok, Err}
use Rattle.icn_value.specs.Store.{Outside}
use Rattle.icn_vars.specs.declared.outcome.Halt.{Halt}
use Rattle.icn_vars.specs.declared.outcome.Halt.TheVariants.{NoMemory}
use Rattle.icn_code.specs.declared.instr.Instr.{Instr}
use Rattle.icn_code.specs.declared.instr.Instr.TheVariants as Instrs
use Rattle.icn_code.specs.Codes.{Tables}
use Rattle.icn_run.specs.Stacks.{flat}
use Rattle.icn_run.specs.Step.{instruction_at}
use Rattle.icn_streams.specs.Handed.{CallStreams}
use Rattle.icn_control.specs.Machines.{ComesTo, does, stack_seen}
use Rattle.icn_control.specs.declared.machine.Machine.{Machine}
use Rattle.icn_control.specs.declared.machine.RunState.{RunState}
use Rattle.icn_control.specs.declared.machine.RunState.TheVariants as RunStates
use Rattle.icn_instructions.specs.Groups.{group_of}
use Rattle.icn_instructions.specs.declared.groups.InstrGroup.TheVariants as Groups
use Rattle.icn_machine.specs.declared.at_once.AtOnce.{AtOnce}
use Rattle.icn_machine.specs.declared.at_once.AtOnce.TheVariants as AtOnces
use Rattle.icn_machine.specs.declared.stepping.AfterStep.{AfterStep}
use Rattle.icn_machine.specs.AfterInstruction.{stage_result}
use Rattle.icn_machine.specs.DoneInPlace.{StaysSame}
use Rattle.icn_machine.specs.Stepping.{Advances, EndsWhole, FailsFurther, GoesOn, IsFailing, IsReady, IsTurn, is_whole}

-- what was answered, if something was done
abbrev pub answer_of : AtOnce → Option (Result RunState Halt)
answer_of AtOnces.Running = Some (Ok RunStates.Running)
answer_of AtOnces.Failing = Some (Ok RunStates.Failing)
answer_of AtOnces.Hopping = Some (Ok RunStates.Hopping)
answer_of AtOnces.Over = Some (Ok RunStates.Over)
answer_of AtOnces.AtBound = Some (Ok RunStates.AtBound)
answer_of AtOnces.NoMemory = Some (Err NoMemory)
answer_of AtOnces.Not = None

-- where a run stands, as something that was done
abbrev pub done_at : RunState → AtOnce
done_at RunStates.Running = AtOnces.Running
done_at RunStates.Failing = AtOnces.Failing
done_at RunStates.Hopping = AtOnces.Hopping
done_at RunStates.Over = AtOnces.Over
done_at RunStates.AtBound = AtOnces.AtBound

-- the same, if it was
abbrev pub done_if : Option RunState → AtOnce
done_if (Some stage) = done_at stage
done_if None = AtOnces.Not

-- an instruction that may be done on the stack and the world at once: it returns from a procedure, suspends it, ends it, gives the
-- value of a result out of its mark, or opens the mark of a limit
abbrev pub is_done_in_world : Instr → Bool
is_done_in_world Instrs.Eret = true
is_done_in_world Instrs.Pret = true
is_done_in_world Instrs.Pfail = true
is_done_in_world Instrs.Psusp = true
is_done_in_world Instrs.Limit = true
is_done_in_world instr = false

-- It holds of what was answered, if something was done.
abbrev pub IfDone : AtOnce → (Result RunState Halt → Type 0) → Type 0
IfDone done P = IfSome (answer_of done) P

-- The instruction was done, whatever the outside is, and the machine goes on; or nothing has changed, and it is one that
-- touches more than the stack.
pub record DoneAtOnce {K : Type 0} (tables : Tables) (instr : Instr) (m n : Machine K) (answered : AtOnce)
    : Type 0 where
  pub done : IfDone answered (λ answer.
      (outside : Outside) → ComesTo tables outside (does tables outside instr m) n answer)
  pub ready : IfDone answered (λ answer. IfOk answer (IsReady tables n))
  pub whole : is_whole instr ≡ true → IfDone answered EndsWhole
  pub limits : n.limits ≡ m.limits
  pub not_done : answered ≡ AtOnces.Not → StaysSame m n
  pub off_stack : answered ≡ AtOnces.Not → group_of instr ≢ Groups.Stack

-- The instruction that is due was done, with failing behind it or without, whatever the streams hold, which stay; or nothing has
-- changed.
pub record StepsAtOnce {K : Type 0} (tables : Tables) (m n : Machine K) (done : AtOnce) : Type 0 where
  pub steps : IfDone done (λ answer.
      (h : CallStreams) → Advances IsFailing tables m RunStates.Running h n h answer)
  pub ready : IfDone done (λ answer. IfOk answer (IsReady tables n))
  pub whole : (instr : Instr) → instruction_at flat tables (stack_seen m) ≡ Some instr
      → is_whole instr ≡ true → IfDone done EndsWhole
  pub limits : n.limits ≡ m.limits
  pub not_done : done ≡ AtOnces.Not → StaysSame m n
  pub off_stack : done ≡ AtOnces.Not → (instr : Instr)
      → instruction_at flat tables (stack_seen m) ≡ Some instr → group_of instr ≢ Groups.Stack

-- whether the code fails
abbrev pub fails_at_once : AtOnce → Bool
fails_at_once AtOnces.Running = false
fails_at_once AtOnces.Failing = true
fails_at_once AtOnces.Hopping = false
fails_at_once AtOnces.Over = false
fails_at_once AtOnces.AtBound = false
fails_at_once AtOnces.NoMemory = false
fails_at_once AtOnces.Not = false

-- whether it fails in the same turn
abbrev pub fails_in_turn : AtOnce → ℕ → ℕ → Bool
fails_in_turn AtOnces.Running now turns = false
fails_in_turn AtOnces.Failing now turns = now == turns
fails_in_turn AtOnces.Hopping now turns = false
fails_in_turn AtOnces.Over now turns = false
fails_in_turn AtOnces.AtBound now turns = false
fails_in_turn AtOnces.NoMemory now turns = false
fails_in_turn AtOnces.Not now turns = false

-- whether nothing was done
abbrev pub is_not : AtOnce → Bool
is_not AtOnces.Running = false
is_not AtOnces.Failing = false
is_not AtOnces.Hopping = false
is_not AtOnces.Over = false
is_not AtOnces.AtBound = false
is_not AtOnces.NoMemory = false
is_not AtOnces.Not = true

-- whether more is to be done before the next instruction is due
abbrev pub is_unfinished : AtOnce → Bool
is_unfinished AtOnces.Running = false
is_unfinished AtOnces.Failing = true
is_unfinished AtOnces.Hopping = true
is_unfinished AtOnces.Over = true
is_unfinished AtOnces.AtBound = true
is_unfinished AtOnces.NoMemory = true
is_unfinished AtOnces.Not = true

-- Where failing stands: where nothing more was done, the code fails still.
abbrev pub failing_at : AtOnce → Result RunState Halt
failing_at AtOnces.Running = Ok RunStates.Running
failing_at AtOnces.Failing = Ok RunStates.Failing
failing_at AtOnces.Hopping = Ok RunStates.Hopping
failing_at AtOnces.Over = Ok RunStates.Over
failing_at AtOnces.AtBound = Ok RunStates.AtBound
failing_at AtOnces.NoMemory = Err NoMemory
failing_at AtOnces.Not = Ok RunStates.Failing

-- A step of failing was done, whatever the streams hold, which stay; or nothing has changed.
pub record FailsAtOnce {K : Type 0} (tables : Tables) (m n : Machine K) (done : AtOnce) : Type 0 where
  pub steps : IfDone done (λ answer.
      (h : CallStreams) → Advances IsFailing tables m RunStates.Failing h n h answer)
  pub ready : IfDone done (λ answer. IfOk answer (IsReady tables n))
  pub further : IfDone done (λ answer. IfOk answer (FailsFurther m n))
  pub limits : n.limits ≡ m.limits
  pub not_done : done ≡ AtOnces.Not → n ≡ m

-- Failing went on so, in no step or in some; where the code fails still, and more could be done, a turn was made.
pub record FailsOnAtOnce {K : Type 0} (tables : Tables) (m n : Machine K) (done : AtOnce) : Type 0 where
  pub steps : (h : CallStreams) → GoesOn IsFailing tables m RunStates.Failing h n h (failing_at done)
  pub ready : IfOk (failing_at done) (IsReady tables n)
  pub turn : done ≡ AtOnces.Failing → IsTurn m n
  pub limits : n.limits ≡ m.limits

-- The same as far as it could be done.
pub record FailsThroughAtOnce {K : Type 0} (tables : Tables) (m n : Machine K) (done : AtOnce) : Type 0 where
  pub steps : (h : CallStreams) → GoesOn IsFailing tables m RunStates.Failing h n h (failing_at done)
  pub ready : IfOk (failing_at done) (IsReady tables n)
  pub limits : n.limits ≡ m.limits
  pub some : done ≢ AtOnces.Not

-- nothing more was done, and the step was answered so
abbrev pub AddsNothing : {K : Type 0} → Machine K → CallStreams → Machine K → CallStreams
    → Result AfterStep Halt → Result RunState Halt → Type 0
AddsNothing m before n after result answer = (n ≡ m) × ((after ≡ before) × (stage_result result ≡ answer))

-- What is left of a step of which so much was done at once: the failing behind it, or, where nothing was done, all of it.
abbrev pub Finishes : {K : Type 0} → Tables → Machine K → CallStreams → Machine K → CallStreams
    → Result AfterStep Halt → AtOnce → Type 0
Finishes tables m before n after result AtOnces.Running =
    AddsNothing m before n after result (Ok RunStates.Running)
Finishes tables m before n after result AtOnces.Failing =
    GoesOn IsFailing tables m RunStates.Failing before n after (stage_result result)
Finishes tables m before n after result AtOnces.Hopping =
    GoesOn IsFailing tables m RunStates.Hopping before n after (stage_result result)
Finishes tables m before n after result AtOnces.Over =
    AddsNothing m before n after result (Ok RunStates.Over)
Finishes tables m before n after result AtOnces.AtBound =
    AddsNothing m before n after result (Ok RunStates.AtBound)
Finishes tables m before n after result AtOnces.NoMemory = AddsNothing m before n after result (Err NoMemory)
Finishes tables m before n after result AtOnces.Not =
    Advances IsFailing tables m RunStates.Running before n after (stage_result result)

-- where a run stands once so much was done; where nothing was, an instruction is due
abbrev pub stepping_at : AtOnce → Result RunState Halt
stepping_at AtOnces.Running = Ok RunStates.Running
stepping_at AtOnces.Failing = Ok RunStates.Failing
stepping_at AtOnces.Hopping = Ok RunStates.Hopping
stepping_at AtOnces.Over = Ok RunStates.Over
stepping_at AtOnces.AtBound = Ok RunStates.AtBound
stepping_at AtOnces.NoMemory = Err NoMemory
stepping_at AtOnces.Not = Ok RunStates.Running
