-- The run of a code on linked marks.
use Rattle.std.specs.Prelude.{◌==◌, ℕ, Bool, true, false, List}
use Rattle.std.specs.List.{list_any}
use Rattle.icn_code.specs.declared.instr.Instr.{Instr}
use Rattle.icn_code.specs.declared.instr.Instr.TheVariants.{Chfail}
use Rattle.icn_code.specs.Codes.{Tables}
use Rattle.icn_defs.specs.Running.{Observes}
use Rattle.icn_run.specs.Chains.{WaitingChain, LinkedStack, linked_calls, empty}
use Rattle.icn_run.specs.Step as Step
use Rattle.icn_run.specs.Step.{Program, Observation, Launch, instrs_of}

-- a state of a run on linked marks
abbrev pub State : Type 0
State = Step.State WaitingChain LinkedStack

-- The addresses at which marks are opened whose labels may change are told by `repeats`.
abbrev pub step : (ℕ → ℕ → Bool) → Program → State → State
step repeats P state = Step.step (linked_calls repeats) P state

-- so many steps on linked marks
abbrev pub steps : (ℕ → ℕ → Bool) → Program → ℕ → State → State
steps repeats P n state = Step.steps (linked_calls repeats) P n state

-- where a run on linked marks begins
abbrev pub start : (ℕ → ℕ → Bool) → Program → Launch → State
start repeats P launch = Step.start (linked_calls repeats) empty P launch

-- where a run on linked marks begins in which no text names these procedures
abbrev pub start_hiding : (ℕ → ℕ → Bool) → Program → List ℕ → Launch → State
start_hiding repeats P hidden launch = Step.start_hiding (linked_calls repeats) empty P hidden launch

-- the same of the run on linked marks
abbrev pub Runs : (ℕ → ℕ → Bool) → Tables → Launch → Observation → Type 0
Runs repeats tables launch seen =
    Observes (step repeats tables) Step.observation (start repeats tables launch) seen

-- such a run comes to an end of which this is observed
abbrev pub RunsHiding : (ℕ → ℕ → Bool) → List ℕ → Tables → Launch → Observation → Type 0
RunsHiding repeats hidden tables launch seen =
    Observes (step repeats tables) Step.observation (start_hiding repeats tables hidden launch) seen

-- a label of a `chfail` stands there
abbrev pub is_chfail_to : ℕ → Instr → Bool
is_chfail_to address (Chfail label) = label == address
is_chfail_to address instr = false

-- marks may have their labels changed wherever they are opened
abbrev pub repeats_anywhere : ℕ → ℕ → Bool
repeats_anywhere proc address = true

-- the mark at this address of a procedure is one of a repeated alternation: a `chfail` names it
abbrev pub repeats_of : Tables → ℕ → ℕ → Bool
repeats_of tables proc address = list_any (is_chfail_to address) (instrs_of tables proc)
