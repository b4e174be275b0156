-- What holds before and after a step of a machine.
use Rattle.std.specs.Prelude.{◌≡◌, [], IfErr, IsSome, Result, Ok, Err, ⊤}
use Rattle.icn_vars.specs.declared.outcome.Halt.{Halt}
use Rattle.icn_vars.specs.declared.outcome.Halt.TheVariants as Halts
use Rattle.icn_vars.specs.declared.world.World.{World}
use Rattle.icn_vars.specs.Outcomes.{IsLiveHalt}
use Rattle.icn_vars.specs.Worlds.{KeepsItems, reach_of}
use Rattle.icn_code.specs.Codes.{Tables}
use Rattle.icn_control.specs.Machines.{HasStack, IsSoundMachine, world_reach}
use Rattle.icn_control.specs.TakenOperands.{KeepsCounts}
use Rattle.icn_control.specs.declared.machine.Machine.{Machine}
use Rattle.icn_control.specs.declared.machine.RunState.{RunState}

-- The run goes on, or would where an error becomes failure; it ended neither with a status nor by a fault or want of memory.
abbrev pub UnlessEnded : {A : Type 0} → Result A Halt → Type 0 → Type 0
UnlessEnded (Ok a) P = P
UnlessEnded (Err (Halts.Error number offending)) P = P
UnlessEnded (Err (Halts.Ends status)) P = ⊤
UnlessEnded (Err Halts.ReadFault) P = ⊤
UnlessEnded (Err Halts.WriteFault) P = ⊤
UnlessEnded (Err Halts.FileFault) P = ⊤
UnlessEnded (Err Halts.NoMemory) P = ⊤

-- A stack runs where the run goes on, but where a hop is due; after an error one runs with which the code would fail.
abbrev pub HasItsStack : {K : Type 0} → Machine K → Result RunState Halt → Type 0
HasItsStack m (Ok stage) = HasStack m stage
HasItsStack m (Err (Halts.Error number offending)) = IsSome m.stacks.table.running
HasItsStack m (Err (Halts.Ends status)) = ⊤
HasItsStack m (Err Halts.ReadFault) = ⊤
HasItsStack m (Err Halts.WriteFault) = ⊤
HasItsStack m (Err Halts.FileFault) = ⊤
HasItsStack m (Err Halts.NoMemory) = ⊤

-- a stack runs, and what the machine keeps is sound
pub record IsRunnable {K : Type 0} (m : Machine K) : Type 0 where
  pub runs : IsSome m.stacks.table.running
  pub sound : (tables : Tables) × IsSoundMachine tables m

-- A step that may halt: what is sound stays so, and a stack runs, unless the run ended; an error is about a value of the
-- world, and the limits stay.
pub record StaysSound {K : Type 0} (before after : Machine K) (result : Result RunState Halt) : Type 0 where
  pub sound : (tables : Tables) → IsSoundMachine tables before
      → UnlessEnded result (IsSoundMachine tables after)
  pub halt : IfErr result (IsLiveHalt (world_reach after))
  pub limits : after.limits ≡ before.limits
  pub stack : HasItsStack after result

-- the same of a step that never halts
pub record GoesOnSound {K : Type 0} (before after : Machine K) (stage : RunState) : Type 0 where
  pub sound : (tables : Tables) → IsSoundMachine tables before → IsSoundMachine tables after
  pub limits : after.limits ≡ before.limits
  pub stack : HasStack after stage

-- the run goes on or halts under the same limits, and an error is about a value of the world
pub record KeepsLimits {K A : Type 0} (before after : Machine K) (result : Result A Halt) : Type 0 where
  pub halt : IfErr result (IsLiveHalt (world_reach after))
  pub limits : after.limits ≡ before.limits

-- What a call leaves of a world: all items stay what they are, and so do the counts of results unless the run ended; an error
-- is about a value of it.
pub record LeavesWorld {A : Type 0} (before after : World) (result : Result A Halt) : Type 0 where
  pub kept : KeepsItems (reach_of before []) (reach_of after [])
  pub counts : UnlessEnded result (KeepsCounts before after)
  pub halt : IfErr result (IsLiveHalt (reach_of after []))

-- the world keeps its heap, and what it may name
pub record KeepsHeap (before after : World) : Type 0 where
  pub heap : after.heap ≡ before.heap
  pub reach : reach_of after [] ≡ reach_of before []
