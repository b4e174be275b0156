-- What a row gives, on a stack.
use Rattle.std.specs.Prelude.{◌≡◌}
use Rattle.icn_value.specs.Store.{Setting}
use Rattle.icn_heap.specs.Extents.{Extent}
use Rattle.icn_vars.specs.Outcomes.{outcome_in}
use Rattle.icn_vars.specs.declared.outcome.Outcome.{Outcome}
use Rattle.icn_frames.specs.Stacks.{FlatStack}
use Rattle.icn_run.specs.Stacks.{Frames, flat, set_locals}
use Rattle.icn_run.specs.Step as code
use Rattle.icn_run.specs.Step.{State, Store, running, failing, with_at}
use Rattle.icn_control.specs.StackViews.{stack_in}
use Rattle.icn_control.specs.declared.machine.RunState.{RunState}
use Rattle.icn_control.specs.declared.machine.RunState.TheVariants as RunStates

-- the next instruction is due on this stack, or the code fails with it
abbrev pub StandsAs : State Frames Frames → Frames → Store Frames → RunState → Type 0
StandsAs state m st RunStates.Running = state ≡ running m st
StandsAs state m st RunStates.Failing = state ≡ failing m st
StandsAs state m st RunStates.Hopping = ⊥
StandsAs state m st RunStates.Over = ⊥
StandsAs state m st RunStates.AtBound = ⊥

-- What is given is pushed, over what is kept, which is suspended; the stack is one on which the row has set the locals.
abbrev pub GivesOutcome : Outcome → FlatStack → FlatStack → RunState → Type 0
GivesOutcome outcome m n stage = (all : Extent) (old : Frames) (seen : Setting) (st : Store Frames)
    → set_locals seen.locals old ≡ stack_in all m
    → StandsAs (code.outcome flat (outcome_in all outcome seen) old st) (stack_in all n)
    (with_at seen st) stage
