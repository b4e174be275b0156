-- What an instruction does on a stack in a world, in these tables.
use Rattle.std.specs.Prelude.{◌≡◌, ◌≢◌, [], Option, None, IfSome, Result, Ok, Err, MatchResult}
use Rattle.icn_heap.specs.Extents.{Extent}
use Rattle.icn_heap.specs.Heaps.{extent_of}
use Rattle.icn_vars.specs.Worlds.{reach_of, world_of}
use Rattle.icn_vars.specs.declared.world.World.{World}
use Rattle.icn_vars.specs.declared.outcome.Halt.{Halt}
use Rattle.icn_vars.specs.declared.outcome.Halt.TheVariants.{NoMemory}
use Rattle.icn_frames.specs.Stacks.{FlatStack}
use Rattle.icn_code.specs.declared.instr.Instr.{Instr}
use Rattle.icn_code.specs.Codes.{Tables}
use Rattle.icn_run.specs.Stacks.{Frames}
use Rattle.icn_run.specs.Step.{Store, stuck}
use Rattle.icn_control.specs.LiveStacks.{IsLiveStack}
use Rattle.icn_control.specs.Soundness.{KeepsHeap}
use Rattle.icn_control.specs.StackAndWorld.{HaltsWith, StandsWith}
use Rattle.icn_control.specs.StackViews.{instruction_state, stack_in}
use Rattle.icn_control.specs.declared.machine.RunState.{RunState}

-- The instruction lacks nothing on this stack, with some store.
abbrev pub LacksNothing : Tables → Instr → FlatStack → Type 0
LacksNothing tables instr m =
    (all : Extent) × ((st : Store Frames) × (instruction_state all tables instr m st ≢ stuck))

-- The same in a world.
abbrev pub LacksNothingIn : Tables → Instr → World → FlatStack → Type 0
LacksNothingIn tables instr w m = (st : Store Frames)
    × ((st.world ≡ world_of w) × (instruction_state (extent_of w.heap) tables instr m st ≢ stuck))

-- The instruction, done on a stack in a world, stands at a stage with another stack in another world, or halts there.
abbrev pub ComesIn : Tables → Instr → World → FlatStack → World → FlatStack → Result RunState Halt → Type 0
ComesIn tables instr w m v n result = (st : Store Frames) → st.world ≡ world_of w
    → MatchResult result (StandsWith (instruction_state (extent_of w.heap) tables instr m st) st v n)
    (HaltsWith (instruction_state (extent_of w.heap) tables instr m st) st v (stack_in (extent_of v.heap) n))

-- It is no want of memory.
abbrev pub HasMemory : Result RunState Halt → Type 0
HasMemory result = result ≢ Err NoMemory

-- The instruction was done at once, on a stack in a world whose heap stays; or nothing has changed.
pub record DoesAtOnce (tables : Tables) (instr : Instr) (w : World) (m : FlatStack) (v : World)
    (n : FlatStack) (result : Option RunState) : Type 0 where
  pub step : IfSome result (λ stage. ComesIn tables instr w m v n (Ok stage))
  pub live : IfSome result
      (λ stage. IsLiveStack tables (reach_of w []) m → IsLiveStack tables (reach_of v []) n)
  pub same : KeepsHeap w v
  pub not_done : result ≡ None → (n ≡ m) × (v ≡ w)
