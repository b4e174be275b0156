-- The run of a code on flat stacks.
use Rattle.std.specs.Prelude.{ℕ, List}
use Rattle.icn_defs.specs.Running.{Observes}
use Rattle.icn_code.specs.Codes.{Tables}
use Rattle.icn_run.specs.Stacks.{Frames, flat, empty}
use Rattle.icn_run.specs.Step as Step
use Rattle.icn_run.specs.Step.{Program, Observation, Launch}

-- a state of a run on flat stacks
abbrev pub State : Type 0
State = Step.State Frames Frames

-- one step on flat stacks
abbrev pub step : Program → State → State
step P state = Step.step flat P state

-- so many steps on flat stacks
abbrev pub steps : Program → ℕ → State → State
steps P n state = Step.steps flat P n state

-- where a run on flat stacks begins
abbrev pub start : Program → Launch → State
start P launch = Step.start flat empty P launch

-- where a run on flat stacks begins in which no text names these procedures
abbrev pub start_hiding : Program → List ℕ → Launch → State
start_hiding P hidden launch = Step.start_hiding flat empty P hidden launch

-- such a run comes to an end of which this is observed
abbrev pub RunsHiding : List ℕ → Tables → Launch → Observation → Type 0
RunsHiding hidden tables launch seen =
    Observes (step tables) Step.observation (start_hiding tables hidden launch) seen

-- the run of a code that is begun so comes to an end of which this is observed
abbrev pub Runs : Tables → Launch → Observation → Type 0
Runs tables launch seen = Observes (step tables) Step.observation (start tables launch) seen
