-- What is called, and with which arguments.
use Rattle.std.specs.Prelude.{◌≡◌, ◌==◌, ℕ, Bool, List, ◌++◌, length, map, take, replicate, slice_get, Option, None, Some, Result, MatchResult, ⊤}
use Rattle.std.specs.Option.{option_map_or}
use Rattle.icn_text.specs.declared.func.Func.{Func}
use Rattle.icn_value.specs.declared.val.Val.{Val}
use Rattle.icn_value.specs.declared.val.Val.TheVariants.{Null}
use Rattle.icn_value.specs.declared.val.Val.TheVariants as Vals
use Rattle.icn_value.specs.Values.{Value}
use Rattle.icn_value.specs.Store.{Names}
use Rattle.icn_defs.specs.Running.{name_called}
use Rattle.icn_heap.specs.Extents.{value_in}
use Rattle.icn_heap.specs.Heaps.{extent_of}
use Rattle.icn_vars.specs.declared.stop.Stop.{Stop}
use Rattle.icn_vars.specs.declared.world.World.{World}
use Rattle.icn_vars.specs.Stops.{halt_of}
use Rattle.icn_vars.specs.Worlds.{world_of}
use Rattle.icn_frames.specs.Stacks.{FlatStack}
use Rattle.icn_code.specs.Codes.{Tables, Proc, RecordType}
use Rattle.icn_run.specs.Stacks.{Frames, flat}
use Rattle.icn_run.specs.Step as code
use Rattle.icn_run.specs.Step.{State, Store, callee_of, collect_rest, with_world}
use Rattle.icn_control.specs.StackAndWorld.{HaltsWith}
use Rattle.icn_control.specs.declared.machine.RunState.{RunState}
use Rattle.icn_control.specs.declared.machine.RunState.TheVariants as RunStates
use Rattle.icn_control.specs.StackViews.{stack_in}
use Rattle.icn_calls.specs.declared.callees.Callee.{Callee}
use Rattle.icn_calls.specs.declared.callees.Callee.TheVariants as Callees

-- values for so many places, with nulls behind them
abbrev pub values_for : ℕ → List Val → List Val
values_for n vals = take n (vals ++ replicate n Null)

-- what a number names: a procedure, the constructor of a kind of records, a function, or nothing
abbrev pub IsCallee : Tables → ℕ → Callee → Type 0
IsCallee tables n Callees.Proc =
    (entry : Proc) × ((slice_get tables.procs n ≡ Some entry) × (callee_of tables n ≡ code.IsProc entry))
IsCallee tables n (Callees.Rec kind) = (entry : RecordType)
    × ((slice_get tables.records kind ≡ Some entry) × (callee_of tables n ≡ code.IsRecord kind entry))
IsCallee tables n (Callees.Func func) = callee_of tables n ≡ code.IsFunc func
IsCallee tables n Callees.Nothing = callee_of tables n ≡ code.IsNothing

-- what comes of arguments that become parameters, of which the last one may collect
abbrev pub with_parameters_in : Bool → ℕ → World → FlatStack → List Val → Store Frames
    → (List Value → Frames → Store Frames → State Frames Frames) → State Frames Frames
with_parameters_in collects count w m vals st next = collect_rest flat collects count
    (map (value_in (extent_of w.heap)) vals) (stack_in (extent_of w.heap) m) st next

-- Arguments become parameters, in the world after it, where the stack is the same, or why they do not.
abbrev pub FindsParameters : {A : Type 0} → Bool → ℕ → World → FlatStack → List Val → World → List Val
    → Result A Stop → Type 0
FindsParameters collects count w m vals v parameters result =
    (st : Store Frames) (next : List Value → Frames → Store Frames → State Frames Frames)
    → st.world ≡ world_of w
    → MatchResult result (λ _. with_parameters_in collects count w m vals st next
    ≡ next (map (value_in (extent_of v.heap)) parameters) (stack_in (extent_of v.heap) m)
    (with_world (world_of v) st))
    (λ stop. HaltsWith (with_parameters_in collects count w m vals st next) st v
    (stack_in (extent_of v.heap) m) (halt_of stop))

-- how many fields the records of a kind have
abbrev pub field_count : Tables → ℕ → ℕ
field_count tables kind =
    option_map_or (λ (entry : RecordType). length entry.fields) (slice_get tables.records kind) 0

-- the function that is called, where one is
abbrev pub function_callee : code.Callee → Option Func
function_callee (code.IsProc entry) = None
function_callee (code.IsRecord kind entry) = None
function_callee (code.IsFunc func) = Some func
function_callee code.IsNothing = None

-- the function that a value names, where it names one
abbrev pub function_in : Tables → Val → Option Func
function_in tables (Vals.Proc n) = function_callee (callee_of tables n)
function_in tables Vals.Null = None
function_in tables (Vals.Integer n) = None
function_in tables (Vals.Text span) = None
function_in tables (Vals.Chars cset) = None
function_in tables (Vals.Std file) = None
function_in tables (Vals.Rec id) = None
function_in tables (Vals.List id) = None
function_in tables (Vals.Set id) = None
function_in tables (Vals.Table id) = None
function_in tables (Vals.Coexp number) = None

-- a value is called by number, or it names nothing
abbrev pub NamesNothing : Names → Value → Type 0
NamesNothing names value = name_called names value ≡ None

-- it is this number
abbrev pub is_number : ℕ → ℕ → Bool
is_number number other = other == number

-- the run goes on: the next instruction is due, or the code fails
abbrev pub IsGoing : RunState → Type 0
IsGoing RunStates.Running = ⊤
IsGoing RunStates.Failing = ⊤
IsGoing RunStates.Hopping = ⊥
IsGoing RunStates.Over = ⊥
IsGoing RunStates.AtBound = ⊥
