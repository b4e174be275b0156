-- What a machine stands for: a state of the run of its code.
use Rattle.std.specs.Prelude.{◌≡◌, ℕ, ◌<◌, Bool, List, [], map, length, slice_get, Option, None, Some, IsSome, Result, MatchResult, ⊤}
use Rattle.std.specs.List.{All}
use Rattle.std.specs.Option.{option_map}
use Rattle.icn_value.specs.Limited.{limits_of}
use Rattle.icn_value.specs.Store.{Outside, World as StoreWorld, Names}
use Rattle.icn_heap.specs.Extents.{Extent, IsLive, value_in}
use Rattle.icn_heap.specs.Heaps.{extent_of, heap_of}
use Rattle.icn_vars.specs.Worlds.{Reach, reach_of, world_of}
use Rattle.icn_vars.specs.declared.outcome.Halt.{Halt}
use Rattle.icn_vars.specs.declared.outcome.Halt.TheVariants as Halts
use Rattle.icn_frames.specs.Stacks as held
use Rattle.icn_frames.specs.Stacks.{FlatStack}
use Rattle.icn_coexp.specs.Transfers.{Coexp, CoexpTable}
use Rattle.icn_code.specs.declared.instr.Instr.{Instr}
use Rattle.icn_code.specs.Codes.{Tables}
use Rattle.icn_run.specs.Rows.{Exit, Done}
use Rattle.icn_run.specs.Stacks.{Frames, flat}
use Rattle.icn_run.specs.Step as code
use Rattle.icn_run.specs.Step.{State, Store, Status, Fresh, Active, Waiting, Exhausted, running, failing, hopping, instruction, ended_by, over_with, errs, at_bound, all_names}
use Rattle.icn_control.specs.ResultCounts.{AreCounted}
use Rattle.icn_control.specs.LiveStacks.{IsLiveStack, variable_count}
use Rattle.icn_control.specs.StackViews.{stack_in}
use Rattle.icn_control.specs.declared.machine.Machine.{Machine}
use Rattle.icn_control.specs.declared.machine.RunState.{RunState}
use Rattle.icn_control.specs.declared.machine.RunState.TheVariants as RunStates

-- co-expressions and the stacks with which they wait

-- how a co-expression stands, once its stack is read
abbrev pub status_in : Extent → Status FlatStack → Status Frames
status_in all Fresh = Fresh
status_in all Active = Active
status_in all (Waiting m) = Waiting (stack_in all m)
status_in all Exhausted = Exhausted

-- a co-expression, once its stack and its values are read
abbrev pub coexp_in : Extent → Coexp → code.Coexp Frames
coexp_in all coexp = record {
  status = status_in all coexp.status;
  activator = coexp.activator;
  values = map (value_in all) coexp.values;
  proc = coexp.proc;
  address = coexp.address;
}

-- the store of these things
abbrev pub store_in : Names → Outside → StoreWorld → ℕ → List Bool → Extent → CoexpTable → Store Frames
store_in names outside world turns begun all table = record {
  world = world;
  outside = outside;
  turns = turns;
  begun = begun;
  coexps = map (coexp_in all) table.coexps;
  active = table.active;
  names = names;
}

-- the stack that runs; where a hop is due, one that nothing reads
abbrev pub running_of : Option FlatStack → FlatStack
running_of (Some m) = m
running_of None = held.begin 0 [] 0

-- the stack that a machine runs
abbrev pub stack_of : {K : Type 0} → Machine K → FlatStack
stack_of m = running_of m.stacks.table.running

-- what the values of a machine's heap stand for
abbrev pub extent : {K : Type 0} → Machine K → Extent
extent m = extent_of m.world.heap

-- the stack of the run's state that a machine's stack stands for
abbrev pub stack_seen : {K : Type 0} → Machine K → Frames
stack_seen m = stack_in (extent m) (stack_of m)

-- the store of the run's state that a machine stands for, with this outside
abbrev pub store_seen : {K : Type 0} → Tables → Outside → Machine K → Store Frames
store_seen tables outside m =
    store_in (all_names tables) outside (world_of m.world) m.turns m.begun.items (extent m) m.stacks.table

-- what an instruction comes to
abbrev pub does : {K : Type 0} → Tables → Outside → Instr → Machine K → State Frames Frames
does tables outside instr m = instruction flat tables instr (stack_seen m) (store_seen tables outside m)

-- Where a machine stands: an instruction is due; it fails; an exhausted co-expression was reached; the starting call is over; or one turn more would be
-- past the bound.
abbrev pub StandsAt : {K : Type 0} → Tables → Outside → State Frames Frames → Machine K → RunState → Type 0
StandsAt tables outside state m RunStates.Running =
    state ≡ running (stack_seen m) (store_seen tables outside m)
StandsAt tables outside state m RunStates.Failing =
    state ≡ failing (stack_seen m) (store_seen tables outside m)
StandsAt tables outside state m RunStates.Hopping =
    (old : Frames) × (state ≡ hopping old (store_seen tables outside m))
StandsAt tables outside state m RunStates.Over = state ≡ over_with Done (world_of m.world) outside
StandsAt tables outside state m RunStates.AtBound = state ≡ at_bound (store_seen tables outside m)

-- a stack runs, but where a hop is due
abbrev pub HasStack : {K : Type 0} → Machine K → RunState → Type 0
HasStack m RunStates.Running = IsSome m.stacks.table.running
HasStack m RunStates.Failing = IsSome m.stacks.table.running
HasStack m RunStates.Hopping = m.stacks.table.running ≡ None
HasStack m RunStates.Over = ⊤
HasStack m RunStates.AtBound = ⊤

-- It comes to an error, after which the code would fail with the stack that is left, or the run is over with a status; what neither reads nor writes
-- comes to no fault. Of want of memory this says nothing.
abbrev pub HaltsAt : {K : Type 0} → Tables → Outside → State Frames Frames → Machine K → Halt → Type 0
HaltsAt tables outside state m (Halts.Error number offending) =
    state
    ≡ errs number (option_map (value_in (extent m)) offending) (stack_seen m) (store_seen tables outside m)
HaltsAt tables outside state m (Halts.Ends status) =
    state ≡ over_with (Exit status) (world_of m.world) outside
HaltsAt tables outside state m Halts.ReadFault = ⊥
HaltsAt tables outside state m Halts.WriteFault = ⊥
HaltsAt tables outside state m Halts.FileFault = ⊥
HaltsAt tables outside state m Halts.NoMemory = ⊤

-- the machine stands at this state of the run, or it halts as the run comes to an error or ends in it
abbrev pub ComesTo : {K : Type 0} → Tables → Outside → State Frames Frames → Machine K → Result RunState Halt
    → Type 0
ComesTo tables outside state m result =
    MatchResult result (StandsAt tables outside state m) (HaltsAt tables outside state m)

-- The run is over by an error, or with a status; of want of memory this says nothing.
abbrev pub EndsAt : {K : Type 0} → Tables → Outside → State Frames Frames → Machine K → Halt → Type 0
EndsAt tables outside state m (Halts.Error number offending) =
    state ≡ ended_by number (option_map (value_in (extent m)) offending) (store_seen tables outside m)
EndsAt tables outside state m (Halts.Ends status) =
    state ≡ over_with (Exit status) (world_of m.world) outside
EndsAt tables outside state m Halts.ReadFault = ⊥
EndsAt tables outside state m Halts.WriteFault = ⊥
EndsAt tables outside state m Halts.FileFault = ⊥
EndsAt tables outside state m Halts.NoMemory = ⊤

-- The same where an error that becomes failure has: the machine stands at this state, or the run is over in it.
abbrev pub SettlesAt : {K : Type 0} → Tables → Outside → State Frames Frames → Machine K
    → Result RunState Halt → Type 0
SettlesAt tables outside state m result =
    MatchResult result (StandsAt tables outside state m) (EndsAt tables outside state m)

-- What a machine keeps

-- a stack that waits holds what is of the world
abbrev pub IsLiveStatus : Tables → Reach → Status FlatStack → Type 0
IsLiveStatus tables reach Fresh = ⊤
IsLiveStatus tables reach Active = ⊤
IsLiveStatus tables reach (Waiting m) = IsLiveStack tables reach m
IsLiveStatus tables reach Exhausted = ⊤

-- a co-expression waits with a stack of the world, and was made with values of the world, as many as its procedure has
pub record IsLiveCoexp (tables : Tables) (reach : Reach) (number : ℕ) (coexp : Coexp) : Type 0 where
  pub status : IsLiveStatus tables reach coexp.status
  pub values : All (IsLive reach.extent) coexp.values
  pub count : 0 < number → length coexp.values ≡ variable_count tables coexp.proc

-- the stack that runs, if one does
abbrev pub IsLiveRunning : Tables → Reach → Option FlatStack → Type 0
IsLiveRunning tables reach (Some m) = IsLiveStack tables reach m
IsLiveRunning tables reach None = ⊤

-- all stacks of a table hold what is of the world
pub record AreLiveStacks (tables : Tables) (reach : Reach) (table : CoexpTable) : Type 0 where
  pub runs : IsLiveRunning tables reach table.running
  pub coexps : (n : ℕ) (coexp : Coexp) → slice_get table.coexps n ≡ Some coexp
      → IsLiveCoexp tables reach n coexp

-- what a world may name, with no locals
abbrev pub world_reach : {K : Type 0} → Machine K → Reach
world_reach m = reach_of m.world []

-- All that the stacks of a machine hold is of its world, which has the limits of the machine and a count of results for each co-expression, as the turns
-- allow.
pub record IsSoundMachine {K : Type 0} (tables : Tables) (m : Machine K) : Type 0 where
  pub stacks : AreLiveStacks tables (world_reach m) m.stacks.table
  pub bounds : (heap_of m.world.heap).bounds ≡ limits_of m.limits
  pub counts : length (heap_of m.world.heap).coexps ≡ length m.stacks.table.coexps
  pub counted : AreCounted m
