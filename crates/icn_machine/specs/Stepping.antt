-- What some steps of the run of a code come to, on a machine.
use Rattle.std.specs.Prelude.{◌≡◌, ◌≢◌, ◌⊎◌, ◌<◌, ◌==◌, ℕ, zero, suc, length, Bool, true, false, List, [], ◌∷◌, ◌++◌, Some, IsSome, IfSome, Result, Ok, Err, ⊤}
use Rattle.icn_host.specs.Counts.{raised_count}
use Rattle.icn_host.specs.Sinks.{Gains}
use Rattle.icn_value.specs.Store.{Event, Outside, bare_outside, errors_in, output_in, readings_in}
use Rattle.icn_vars.specs.declared.outcome.Halt.{Halt}
use Rattle.icn_vars.specs.declared.outcome.Halt.TheVariants as Halts
use Rattle.icn_code.specs.Codes.{Tables}
use Rattle.icn_text.specs.declared.op.Op.{Op}
use Rattle.icn_text.specs.declared.op.Op.TheVariants as Ops
use Rattle.icn_code.specs.declared.instr.Instr.{Instr}
use Rattle.icn_code.specs.declared.instr.Instr.TheVariants as Instrs
use Rattle.icn_frames.specs.Stacks as held
use Rattle.icn_run.specs.Stacks.{Frames, flat}
use Rattle.icn_run.specs.Step.{State, running, failing, hopping, over, stuck, step, steps, all_names, instruction_at}
use Rattle.law_steps.specs.StateNames.{StackNamed, StateNamed, StoreNamed}
use Rattle.law_steps.specs.KeepingSizes.{StateFits, StoreFits}
use Rattle.icn_run.specs.AnyOutside.{over_outside, run_over}
use Rattle.icn_defs.specs.Interruptions.{LosesSome}
use Rattle.icn_streams.specs.Handed.{CallStreams, Follows, FailsOnce, KeepsAllCounts, KeepsFaultCounts, KeepsStoreCounts, StoreFailsOnce, TellsOutside, WantsMemory, failed_once, faults_of}
use Rattle.icn_run.specs.InstructionNeeds.{HasCaseMark, HasVariables}
use Rattle.icn_instructions.specs.Ranges.{IsInRange}
use Rattle.icn_control.specs.Machines.{EndsAt, HaltsAt, HasStack, IsSoundMachine, SettlesAt, StandsAt, does, stack_of, stack_seen, store_seen}
use Rattle.icn_control.specs.declared.machine.Machine.{Machine}
use Rattle.icn_control.specs.declared.machine.RunState.{RunState}
use Rattle.icn_control.specs.declared.machine.RunState.TheVariants as RunStates
use Rattle.icn_machine.specs.InstructionAnswers.{AnswersStep}

-- What holds of each state that a run comes to

-- It holds of a state and of all to which steps lead, whatever the outside is before each.
abbrev pub AlwaysOver : Tables → (State Frames Frames → Type 0) → State Frames Frames → Type 0
AlwaysOver tables Holds state = (outsides : List Outside) → Holds (run_over tables outsides state)

-- the store has the variables of the tables
abbrev pub FindsVariables : Tables → State Frames Frames → Type 0
FindsVariables tables (running m st) = HasVariables tables st
FindsVariables tables (failing m st) = HasVariables tables st
FindsVariables tables (hopping m st) = HasVariables tables st
FindsVariables tables (over ending outside) = ⊤
FindsVariables tables stuck = ⊤

-- where a case is due, a mark of its own is open
abbrev pub FindsMark : Tables → State Frames Frames → Type 0
FindsMark tables (running m st) = (instr : Instr) → instruction_at flat tables m ≡ Some instr
    → HasCaseMark instr (flat.go (suc (flat.address m)) m)
FindsMark tables (failing m st) = ⊤
FindsMark tables (hopping m st) = ⊤
FindsMark tables (over ending outside) = ⊤
FindsMark tables stuck = ⊤

-- nothing lacks
pub record LacksNothing (tables : Tables) (state : State Frames Frames) : Type 0 where
  pub goes_on : state ≢ stuck
  pub variables : FindsVariables tables state
  pub mark : FindsMark tables state

-- From this state on nothing ever lacks; what it names has a name, and each of its records is as long as its kind.
pub record IsKept (tables : Tables) (state : State Frames Frames) : Type 0 where
  pub always : AlwaysOver tables (LacksNothing tables) state
  pub named : StateNamed (all_names tables) state
  pub fits : StateFits tables state

-- where a run goes on
abbrev pub goes_on : RunState → Bool
goes_on RunStates.Running = true
goes_on RunStates.Failing = true
goes_on RunStates.Hopping = true
goes_on RunStates.Over = false
goes_on RunStates.AtBound = false

-- whether failing or a hop is due
abbrev pub is_failing : RunState → Bool
is_failing RunStates.Failing = true
is_failing RunStates.Hopping = true
is_failing RunStates.Running = false
is_failing RunStates.Over = false
is_failing RunStates.AtBound = false

-- the outside of a state, with the report of an error in it
abbrev pub outside_at : State Frames Frames → Outside
outside_at (running m st) = st.outside
outside_at (failing m st) = st.outside
outside_at (hopping m st) = st.outside
outside_at (over ending outside) = outside
outside_at stuck = bare_outside

-- The state for which a machine stands, where its run goes on.
abbrev pub IsAt : {K : Type 0} → Tables → Outside → State Frames Frames → Machine K → RunState → Type 0
IsAt tables outside state m RunStates.Running = state ≡ running (stack_seen m) (store_seen tables outside m)
IsAt tables outside state m RunStates.Failing = state ≡ failing (stack_seen m) (store_seen tables outside m)
IsAt tables outside state m RunStates.Hopping =
    (old : Frames) × (state ≡ hopping old (store_seen tables outside m))
IsAt tables outside state m RunStates.Over = ⊥
IsAt tables outside state m RunStates.AtBound = ⊥

-- all this holds of a state for which a machine stands
abbrev pub KeepsState : {K : Type 0} → Tables → Machine K → RunState → Type 0
KeepsState tables m stage = (outside : Outside)
    × ((state : State Frames Frames) × (IsAt tables outside state m stage × IsKept tables state))

-- where the run goes on
abbrev pub IsKeptAt : {K : Type 0} → Tables → Machine K → RunState → Type 0
IsKeptAt tables m RunStates.Running = KeepsState tables m RunStates.Running
IsKeptAt tables m RunStates.Failing = KeepsState tables m RunStates.Failing
IsKeptAt tables m RunStates.Hopping = KeepsState tables m RunStates.Hopping
IsKeptAt tables m RunStates.Over = ⊤
IsKeptAt tables m RunStates.AtBound = ⊤

-- A machine goes on from this stage of the run of a code.
pub record IsReady {K : Type 0} (tables : Tables) (m : Machine K) (stage : RunState) : Type 0 where
  pub sound : IsSoundMachine tables m
  pub stack : HasStack m stage
  pub kept : IsKeptAt tables m stage

-- States between two steps

-- the code fails here, or a hop is due
abbrev pub IsFailing : State Frames Frames → Type 0
IsFailing (running m st) = ⊥
IsFailing (failing m st) = ⊤
IsFailing (hopping m st) = ⊤
IsFailing (over ending outside) = ⊥
IsFailing stuck = ⊥

-- any state
abbrev pub IsAny : State Frames Frames → Type 0
IsAny state = ⊤

-- so many states are such, from this one on, each a step behind the one before
abbrev pub AreAll : (State Frames Frames → Type 0) → Tables → ℕ → State Frames Frames → Type 0
AreAll Is tables zero state = ⊤
AreAll Is tables (suc count) state = Is state × AreAll Is tables count (step flat tables state)

-- the same where the outside is another before each step: a state for each of these
abbrev pub AreAllOver : (State Frames Frames → Type 0) → Tables → List Outside → State Frames Frames → Type 0
AreAllOver Is tables [] state = ⊤
AreAllOver Is tables (outside ∷ later) state =
    Is state × AreAllOver Is tables later (step flat tables (over_outside outside state))

-- before each of these steps the outside has the history of the state, and an input that may be another
abbrev pub AreReadings : Tables → List Outside → State Frames Frames → Type 0
AreReadings tables [] state = ⊤
AreReadings tables (outside ∷ later) state = (outside.history ≡ (outside_at state).history)
    × AreReadings tables later (step flat tables (over_outside outside state))

-- What some steps come to

-- The history has become longer by some events: each output has gained what these put there, and the input was called once
-- for each reading, whatever it gave.
pub record GainsEvents (was now : List Event) (before after : CallStreams) : Type 0 where
  pub done : List Event
  pub history : now ≡ was ++ done
  pub calls : after.counts.calls ≡ raised_count before.counts.calls (readings_in done)
  pub output : Gains before.output.held after.output.held (output_in done)
  pub errors : Gains before.errors.held after.errors.held (errors_in done)

-- some bytes were put on the error output
abbrev pub GainsSome : CallStreams → CallStreams → Type 0
GainsSome before after = (own : List ℕ) × Gains before.errors.held after.errors.held own

-- what is gained where the run goes on or is over, and where a fault or want of memory breaks it off
abbrev pub GainsBy : Result RunState Halt → List Event → List Event → CallStreams → CallStreams → Type 0
GainsBy (Ok stage) was now before after = GainsEvents was now before after
GainsBy (Err (Halts.Error number offending)) was now before after = GainsEvents was now before after
GainsBy (Err (Halts.Ends status)) was now before after = GainsEvents was now before after
GainsBy (Err Halts.ReadFault) was now before after = GainsSome before after
GainsBy (Err Halts.WriteFault) was now before after = GainsSome before after
GainsBy (Err Halts.FileFault) was now before after = GainsSome before after
GainsBy (Err Halts.NoMemory) was now before after = GainsSome before after

-- So many steps are done whole, each to a state that is one of these, and what was handed follows them; then what was
-- answered is so of one step more.
pub record Leads {K : Type 0} (Is : State Frames Frames → Type 0) (tables : Tables)
    (state : State Frames Frames) (was : Outside) (before : CallStreams) (n : Machine K)
    (after : CallStreams) (result : Result RunState Halt) : Type 0 where
  pub count : ℕ
  pub through : AreAll Is tables count (step flat tables state)
  pub between : CallStreams
  pub follows : Follows before between was (outside_at (steps flat tables count state))
  pub last : AnswersStep (λ now answer. SettlesAt tables now (steps flat tables (suc count) state) n answer)
      (steps flat tables (suc count) state) (outside_at (steps flat tables count state)) between after result

-- where a machine stands, or how the run is over; of a fault and of want of memory nothing is said
abbrev pub StandsBy : {K : Type 0} → Tables → Outside → State Frames Frames → Machine K → Result RunState Halt
    → Type 0
StandsBy tables outside state n (Ok stage) = StandsAt tables outside state n stage
StandsBy tables outside state n (Err (Halts.Error number offending)) =
    EndsAt tables outside state n (Halts.Error number offending)
StandsBy tables outside state n (Err (Halts.Ends status)) = EndsAt tables outside state n (Halts.Ends status)
StandsBy tables outside state n (Err Halts.ReadFault) = ⊤
StandsBy tables outside state n (Err Halts.WriteFault) = ⊤
StandsBy tables outside state n (Err Halts.FileFault) = ⊤
StandsBy tables outside state n (Err Halts.NoMemory) = ⊤

-- Steps lead there, one at least, each over some input, and each but the last to a state that is one of these; what was handed
-- has gained what they do.
pub record LeadsOver {K : Type 0} (Is : State Frames Frames → Type 0) (tables : Tables)
    (state : State Frames Frames) (before : CallStreams) (n : Machine K) (after : CallStreams)
    (result : Result RunState Halt) : Type 0 where
  pub first : Outside
  pub later : List Outside
  pub through : AreAllOver Is tables later (step flat tables (over_outside first state))
  pub readings : AreReadings tables (first ∷ later) state
  pub now : Outside
  pub is : StandsBy tables now (run_over tables (first ∷ later) state) n result
  pub gains : GainsBy result (outside_at state).history now.history before after

-- the store of files has failed, once, and nothing else
pub record StoreFails (before after : CallStreams) : Type 0 where
  pub files : StoreFailsOnce before.files after.files
  pub faults : faults_of after.counts ≡ faults_of before.counts
  pub output : KeepsFaultCounts before.output after.output
  pub errors : KeepsFaultCounts before.errors after.errors

-- the input has failed, once, and nothing else
pub record InputFails (before after : CallStreams) : Type 0 where
  pub files : KeepsStoreCounts before.files after.files
  pub faults : faults_of after.counts ≡ failed_once (faults_of before.counts)
  pub output : KeepsFaultCounts before.output after.output
  pub errors : KeepsFaultCounts before.errors after.errors

-- one of the outputs has failed, once, and nothing else
pub data OutputFails (before after : CallStreams) : Type 0 where
  output_fails : KeepsStoreCounts before.files after.files → faults_of after.counts ≡ faults_of before.counts
      → FailsOnce before.output after.output → KeepsFaultCounts before.errors after.errors
      → OutputFails before after
  errors_fail : KeepsStoreCounts before.files after.files → faults_of after.counts ≡ faults_of before.counts
      → KeepsFaultCounts before.output after.output → FailsOnce before.errors after.errors
      → OutputFails before after

-- A fault is answered where that object has failed for the first time; where it is not, nothing has failed.
abbrev pub IsFirstFault : {A : Type 0} → Result A Halt → CallStreams → CallStreams → Type 0
IsFirstFault (Ok a) before after = KeepsAllCounts before after
IsFirstFault (Err (Halts.Error number offending)) before after = KeepsAllCounts before after
IsFirstFault (Err (Halts.Ends status)) before after = KeepsAllCounts before after
IsFirstFault (Err Halts.ReadFault) before after = InputFails before after
IsFirstFault (Err Halts.WriteFault) before after = OutputFails before after
IsFirstFault (Err Halts.FileFault) before after = StoreFails before after
IsFirstFault (Err Halts.NoMemory) before after = WantsMemory before after

-- From where a machine stands, steps lead to what was answered, each but the last to a state that is one of these: over the outside that is told, if it
-- is, and over some outside in any case. Where the input tells what it has left, some first bytes of it were taken.
pub record Advances {K : Type 0} (Is : State Frames Frames → Type 0) (tables : Tables) (m : Machine K)
    (stage : RunState) (before : CallStreams) (n : Machine K) (after : CallStreams)
    (result : Result RunState Halt) : Type 0 where
  pub answers : (was : Outside) (state : State Frames Frames) → IsAt tables was state m stage
      → TellsOutside before was
      → Leads Is tables state was before n after result
  pub meant : (was : Outside) (state : State Frames Frames) → IsAt tables was state m stage
      → LeadsOver Is tables state before n after result
  pub taken : IfSome before.left (λ left. LosesSome left after.left)
  pub caused : IsFirstFault result before after

-- An instruction is being done: the place is that of the next one, nothing lacks, and all that holds of the state of the run is so still.
pub record IsDoing {K : Type 0} (tables : Tables) (m : Machine K) (instr : Instr) : Type 0 where
  pub sound : IsSoundMachine tables m
  pub runs : IsSome m.stacks.table.running
  pub always : (outside : Outside) → AlwaysOver tables (LacksNothing tables) (does tables outside instr m)
  pub variables : (outside : Outside) → HasVariables tables (store_seen tables outside m)
  pub in_range : IsInRange tables (held.proc (stack_of m)) instr
  pub mark : HasCaseMark instr (stack_seen m)
  pub stack_named : StackNamed (all_names tables) (stack_seen m)
  pub store_named : (outside : Outside) → StoreNamed (all_names tables) (store_seen tables outside m)
  pub fits : (outside : Outside) → StoreFits tables (store_seen tables outside m)

-- The machine stands at an error to which a run comes.
abbrev pub KeepsError : {K : Type 0} → Tables → Machine K → Halt → Type 0
KeepsError tables m halt = (outside : Outside)
    × ((state : State Frames Frames) × (HaltsAt tables outside state m halt × IsKept tables state))

-- After an error the machine is sound, a stack runs with which the code would fail, and a run comes to that error.
abbrev pub IsReadyToFail : {K : Type 0} → Tables → Machine K → Result RunState Halt → Type 0
IsReadyToFail tables m (Ok stage) = ⊤
IsReadyToFail tables m (Err (Halts.Error number offending)) = IsSoundMachine tables m
    × (IsSome m.stacks.table.running × KeepsError tables m (Halts.Error number offending))
IsReadyToFail tables m (Err (Halts.Ends status)) = ⊤
IsReadyToFail tables m (Err Halts.ReadFault) = ⊤
IsReadyToFail tables m (Err Halts.WriteFault) = ⊤
IsReadyToFail tables m (Err Halts.FileFault) = ⊤
IsReadyToFail tables m (Err Halts.NoMemory) = ⊤

-- each operation but the one that refreshes a co-expression
abbrev pub applies_op : Op → Bool
applies_op Ops.Refresh = false
applies_op op = true

-- whether an instruction performs such an operation, calls something or takes a field
abbrev pub is_applied : Instr → Bool
is_applied (Instrs.Op op) = applies_op op
is_applied (Instrs.Field place) = true
is_applied (Instrs.Invoke count) = true
is_applied Instrs.Appl = true
is_applied instr = false

-- whether an instruction is done whole, without memory, and never fails
abbrev pub is_whole : Instr → Bool
is_whole Instrs.Pop = true
is_whole Instrs.Unmark = true
is_whole (Instrs.Chfail label) = true
is_whole (Instrs.Goto label) = true
is_whole (Instrs.Loop label) = true
is_whole (Instrs.Init label) = true
is_whole instr = false

-- nothing fails or errs, and memory was not wanting
abbrev pub EndsWhole : Result RunState Halt → Type 0
EndsWhole (Ok stage) = is_failing stage ≡ false
EndsWhole (Err (Halts.Error number offending)) = ⊥
EndsWhole (Err (Halts.Ends status)) = ⊤
EndsWhole (Err Halts.ReadFault) = ⊤
EndsWhole (Err Halts.WriteFault) = ⊤
EndsWhole (Err Halts.FileFault) = ⊤
EndsWhole (Err Halts.NoMemory) = ⊥

-- No step was done, or some steps lead to what was answered.
pub data GoesOn {K : Type 0} (Is : State Frames Frames → Type 0) (tables : Tables) (m : Machine K)
    (stage : RunState) (before : CallStreams) (n : Machine K) (after : CallStreams)
    (result : Result RunState Halt) : Type 0 where
  stays : n ≡ m → after ≡ before → result ≡ Ok stage → GoesOn Is tables m stage before n after result
  advances : Advances Is tables m stage before n after result → GoesOn Is tables m stage before n after result

-- Failing

-- a turn more was made, and there was one
pub record IsTurn {K : Type 0} (m n : Machine K) : Type 0 where
  pub more : n.turns ≡ suc m.turns
  pub within : m.turns < m.limits.turns

-- where the code goes on failing, a turn was made or fewer cells stand
abbrev pub FailsFurther : {K : Type 0} → Machine K → Machine K → RunState → Type 0
FailsFurther m n RunStates.Failing =
    IsTurn m n ⊎ ((n.turns ≡ m.turns) × (length (stack_seen n).cells < length (stack_seen m).cells))
FailsFurther m n RunStates.Hopping = IsTurn m n
FailsFurther m n RunStates.Running = ⊤
FailsFurther m n RunStates.Over = ⊤
FailsFurther m n RunStates.AtBound = ⊤

-- where failing or a hop is due, a turn was made
abbrev pub MakesTurn : {K : Type 0} → Machine K → Machine K → RunState → Type 0
MakesTurn m n RunStates.Failing = IsTurn m n
MakesTurn m n RunStates.Hopping = IsTurn m n
MakesTurn m n RunStates.Running = ⊤
MakesTurn m n RunStates.Over = ⊤
MakesTurn m n RunStates.AtBound = ⊤

-- whether failing goes on in the same turn
abbrev pub fails_within : RunState → ℕ → ℕ → Bool
fails_within RunStates.Failing now turns = now == turns
fails_within RunStates.Hopping now turns = false
fails_within RunStates.Running now turns = false
fails_within RunStates.Over now turns = false
fails_within RunStates.AtBound now turns = false
