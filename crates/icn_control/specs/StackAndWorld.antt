-- What an instruction does that touches the stack that runs and the world, and nothing else.
use Rattle.std.specs.Prelude.{◌≡◌, ℕ, ℤ, pos, negsuc, Option, Some, None, Result, Ok, Err, MatchResult, ⊤}
use Rattle.std.specs.Option.{option_map}
use Rattle.icn_value.specs.declared.val.Val.{Val}
use Rattle.icn_value.specs.Store.{Setting}
use Rattle.icn_heap.specs.Extents.{Extent, value_in}
use Rattle.icn_heap.specs.Heaps.{extent_of}
use Rattle.icn_vars.specs.Worlds.{world_of}
use Rattle.icn_vars.specs.declared.world.World.{World}
use Rattle.icn_vars.specs.declared.stop.Stop.{Stop}
use Rattle.icn_vars.specs.declared.stop.Stop.TheVariants.{Error as StopError, NoMemory as StopNoMemory}
use Rattle.icn_vars.specs.declared.outcome.Halt.{Halt}
use Rattle.icn_vars.specs.declared.outcome.Halt.TheVariants as Halts
use Rattle.icn_frames.specs.Stacks.{FlatStack}
use Rattle.icn_code.specs.declared.instr.Instr.{Instr}
use Rattle.icn_code.specs.Codes.{Tables}
use Rattle.icn_run.specs.Rows.{Item, Val as ItemVal, Gives, Error, value_row}
use Rattle.icn_run.specs.Stacks.{Frames}
use Rattle.icn_run.specs.Step.{State, Store, running, failing, finish_run, errs, with_world}
use Rattle.icn_control.specs.StackViews.{instruction_state, stack_in}
use Rattle.icn_control.specs.declared.machine.RunState.{RunState}
use Rattle.icn_control.specs.declared.machine.RunState.TheVariants as RunStates

-- the next instruction is due on this stack, in this world
abbrev pub RunsWith : State Frames Frames → Store Frames → World → FlatStack → Type 0
RunsWith state st w m = state ≡ running (stack_in (extent_of w.heap) m) (with_world (world_of w) st)

-- the code fails with this stack, in this world
abbrev pub FailsWith : State Frames Frames → Store Frames → World → FlatStack → Type 0
FailsWith state st w m = state ≡ failing (stack_in (extent_of w.heap) m) (with_world (world_of w) st)

-- one of both, or the run is over, as a caller is not there; nothing else comes of an instruction that touches the stack and the world alone
abbrev pub StandsWith : State Frames Frames → Store Frames → World → FlatStack → RunState → Type 0
StandsWith state st w m RunStates.Running = RunsWith state st w m
StandsWith state st w m RunStates.Failing = FailsWith state st w m
StandsWith state st w m RunStates.Over = state ≡ finish_run (with_world (world_of w) st)
StandsWith state st w m RunStates.Hopping = ⊥
StandsWith state st w m RunStates.AtBound = ⊥

-- an error, after which the code would fail with this stack, or want of memory
abbrev pub HaltsWith : State Frames Frames → Store Frames → World → Frames → Halt → Type 0
HaltsWith state st w m (Halts.Error number offending) =
    state ≡ errs number (option_map (value_in (extent_of w.heap)) offending) m (with_world (world_of w) st)
HaltsWith state st w m (Halts.Ends status) = ⊥
HaltsWith state st w m Halts.ReadFault = ⊥
HaltsWith state st w m Halts.WriteFault = ⊥
HaltsWith state st w m Halts.FileFault = ⊥
HaltsWith state st w m Halts.NoMemory = ⊤

-- The instruction goes on with another stack in each world, which stays.
abbrev pub RunsAlone : Instr → FlatStack → FlatStack → Type 0
RunsAlone instr m n = (w : World) (tables : Tables) (st : Store Frames) → st.world ≡ world_of w
    → RunsWith (instruction_state (extent_of w.heap) tables instr m st) st w n

-- The instruction, done on a stack in a world, goes on with another stack in another world, or halts there.
abbrev pub DoesWith : {A : Type 0} → Instr → World → FlatStack → World → FlatStack → Result A Halt → Type 0
DoesWith instr w m v n result = (tables : Tables) (st : Store Frames) → st.world ≡ world_of w
    → MatchResult result (λ _. RunsWith (instruction_state (extent_of w.heap) tables instr m st) st v n)
    (HaltsWith (instruction_state (extent_of w.heap) tables instr m st) st v (stack_in (extent_of v.heap) n))

-- The same where the instruction may fail.
abbrev pub ComesWith : Instr → World → FlatStack → World → FlatStack → Result RunState Halt → Type 0
ComesWith instr w m v n result = (tables : Tables) (st : Store Frames) → st.world ≡ world_of w
    → MatchResult result (StandsWith (instruction_state (extent_of w.heap) tables instr m st) st v n)
    (HaltsWith (instruction_state (extent_of w.heap) tables instr m st) st v (stack_in (extent_of v.heap) n))

-- the value of an item, or why there is none
abbrev pub FindsValue : Extent → Item → Setting → Result Val Stop → Type 0
FindsValue all item setting (Ok val) = value_row item setting ≡ Gives (ItemVal (value_in all val)) setting
FindsValue all item setting (Err (StopError number offending)) =
    value_row item setting ≡ Error number (option_map (value_in all) offending) setting
FindsValue all item setting (Err StopNoMemory) = ⊤

-- an integer that is not below 0
abbrev pub natural_of : ℤ → Option ℕ
natural_of (pos n) = Some n
natural_of (negsuc n) = None
