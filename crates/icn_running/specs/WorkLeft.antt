-- How much of a run is left: it ends by its bound on turns, and between two turns by what is left to do.
use Rattle.std.specs.Prelude.{◌<◌, ◌≤◌, ℕ, List}
use Rattle.icn_value.specs.Store.{Outside, bare_outside}
use Rattle.icn_code.specs.Codes.{Tables}
use Rattle.icn_run.specs.Stacks.{Frames, flat}
use Rattle.icn_run.specs.Step.{State, running, step}
use Rattle.icn_run.specs.AnyOutside.{over_outside, run_over}
use Rattle.law_safe.specs.StepMeasure.{Falls, left_of}
use Rattle.icn_control.specs.Machines.{stack_seen, store_seen}
use Rattle.icn_control.specs.declared.machine.Machine.{Machine}

-- each step from here on falls, whatever the outside is before each
abbrev pub AlwaysFalls : Tables → ℕ → State Frames Frames → Type 0
AlwaysFalls tables bound state = (outsides : List Outside) (outside : Outside)
    → Falls tables bound (over_outside outside (run_over tables outsides state))
    (step flat tables (over_outside outside (run_over tables outsides state)))

-- the state of a machine at which an instruction is due, over this outside
abbrev pub state_seen : {K : Type 0} → Tables → Outside → Machine K → State Frames Frames
state_seen tables outside m = running (stack_seen m) (store_seen tables outside m)

-- so it is from where a machine stands at an instruction, by its own limit of turns
abbrev pub Lasts : {K : Type 0} → Tables → Machine K → Type 0
Lasts tables m = (outside : Outside) → AlwaysFalls tables m.limits.turns (state_seen tables outside m)

-- what is left to do of it before the next turn
abbrev pub left_now : {K : Type 0} → Tables → Machine K → ℕ
left_now tables m = left_of tables (state_seen tables bare_outside m)

-- a turn more was made at least, of those that may be
pub record MadeTurn {K : Type 0} (m n : Machine K) : Type 0 where
  pub more : m.turns < n.turns
  pub within : n.turns ≤ m.limits.turns
