-- Rows on a stack and on a machine.
use Rattle.std.specs.Prelude.{◌≡◌, false, Result, Ok, Err, ⊤}
use Rattle.std.specs.Option.{option_map}
use Rattle.icn_value.specs.Store.{Names, Outside}
use Rattle.icn_defs.specs.Errors.{ends_run, with_kept}
use Rattle.icn_defs.specs.Rows.{Row}
use Rattle.icn_heap.specs.Extents.{value_in}
use Rattle.icn_heap.specs.Heaps.{extent_of}
use Rattle.icn_vars.specs.declared.outcome.Halt.{Halt}
use Rattle.icn_vars.specs.declared.outcome.Halt.TheVariants as Halts
use Rattle.icn_vars.specs.declared.world.World.{World}
use Rattle.icn_vars.specs.Worlds.{world_of}
use Rattle.icn_frames.specs.Stacks.{FlatStack}
use Rattle.icn_code.specs.Codes.{Tables}
use Rattle.icn_run.specs.Rows.{Exit}
use Rattle.icn_run.specs.Stacks.{Frames, flat}
use Rattle.icn_run.specs.Step.{State, Store, errs, here, outcome, over_with, with_world}
use Rattle.icn_streams.specs.Handed.{CallStreams}
use Rattle.icn_control.specs.Machines.{ComesTo, SettlesAt}
use Rattle.icn_control.specs.StackAndWorld.{StandsWith}
use Rattle.icn_control.specs.StackViews.{stack_in}
use Rattle.icn_control.specs.declared.machine.Machine.{Machine}
use Rattle.icn_control.specs.declared.machine.RunState.{RunState}
use Rattle.icn_machine.specs.InstructionAnswers.{Performs}
use Rattle.law_steps.specs.StateNames.{StackNamed}
use Rattle.law_names.specs.NamedSettings.{WorldNamed}

-- the store with another outside
abbrev pub over_outside : Outside → Store Frames → Store Frames
over_outside outside st = record st { outside = outside }

-- what a row comes to on a stack in a world, over this outside
abbrev pub row_on : Row → World → FlatStack → Store Frames → Outside → State Frames Frames
row_on row w m st was = let at = over_outside was st in
    outcome flat (row (here flat (stack_in (extent_of w.heap) m) at)) (stack_in (extent_of w.heap) m) at

-- where a stack and a world stand after it; or it comes to an error, or the run is over
abbrev pub StandsOver : State Frames Frames → Store Frames → World → FlatStack → Outside
    → Result RunState Halt
    → Type 0
StandsOver state st w m now (Ok stage) = StandsWith state (over_outside now st) w m stage
StandsOver state st w m now (Err (Halts.Error number offending)) =
    state ≡ errs number (option_map (value_in (extent_of w.heap)) offending) (stack_in (extent_of w.heap) m)
    (with_world (world_of w) (over_outside now st))
StandsOver state st w m now (Err (Halts.Ends status)) = state ≡ over_with (Exit status) (world_of w) now
StandsOver state st w m now (Err Halts.ReadFault) = ⊥
StandsOver state st w m now (Err Halts.WriteFault) = ⊥
StandsOver state st w m now (Err Halts.FileFault) = ⊥
StandsOver state st w m now (Err Halts.NoMemory) = ⊤

-- A row is performed on a stack in a world: what it gives is pushed, and what it keeps is suspended.
abbrev pub PerformsRow : Row → World → FlatStack → CallStreams → World → FlatStack → CallStreams
    → Result RunState Halt → Type 0
PerformsRow row w m before v n after result = (st : Store Frames) → st.world ≡ world_of w
    → Performs (row_on row w m st)
    (λ was now answer. StandsOver (row_on row w m st was) st v n now answer) before after result

-- A machine performs an instruction, or what is due on it.
abbrev pub PerformsOn : {K : Type 0} → Tables → (Outside → State Frames Frames) → Machine K → CallStreams
    → CallStreams → Result RunState Halt → Type 0
PerformsOn tables leads m before after result =
    Performs leads (λ was now answer. ComesTo tables now (leads was) m answer) before after result

-- The same, where an error that becomes failure has.
abbrev pub SettlesOn : {K : Type 0} → Tables → (Outside → State Frames Frames) → Machine K → CallStreams
    → CallStreams → Result RunState Halt → Type 0
SettlesOn tables leads m before after result =
    Performs leads (λ was now answer. SettlesAt tables now (leads was) m answer) before after result

-- it holds of what a call leaves, unless the run is over
abbrev pub UnlessOver : {A : Type 0} → World → Result A Halt → Type 0 → Type 0
UnlessOver w (Ok a) P = P
UnlessOver w (Err (Halts.Error number offending)) P = ends_run number w.words.error ≡ false → P
UnlessOver w (Err (Halts.Ends status)) P = ⊤
UnlessOver w (Err Halts.ReadFault) P = ⊤
UnlessOver w (Err Halts.WriteFault) P = ⊤
UnlessOver w (Err Halts.FileFault) P = ⊤
UnlessOver w (Err Halts.NoMemory) P = ⊤

-- What stands on a stack and in a world names only what has a name, unless the run ended; where an error becomes failure, it does so with the error kept.
abbrev pub LeavesNamed : Names → World → FlatStack → Result RunState Halt → Type 0
LeavesNamed names w m (Ok stage) =
    StackNamed names (stack_in (extent_of w.heap) m) × WorldNamed names (world_of w)
LeavesNamed names w m (Err (Halts.Error number offending)) =
    ends_run number w.words.error ≡ false → StackNamed names (stack_in (extent_of w.heap) m)
    × WorldNamed names (with_kept number (option_map (value_in (extent_of w.heap)) offending) (world_of w))
LeavesNamed names w m (Err (Halts.Ends status)) = ⊤
LeavesNamed names w m (Err Halts.ReadFault) = ⊤
LeavesNamed names w m (Err Halts.WriteFault) = ⊤
LeavesNamed names w m (Err Halts.FileFault) = ⊤
LeavesNamed names w m (Err Halts.NoMemory) = ⊤
