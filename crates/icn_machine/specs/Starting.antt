-- The machine with which a run starts.
use Rattle.std.specs.Prelude.{◌≡◌, ◌+◌, ℕ, true, false, nat_le, List, [], ◌∷◌, String, map, string_bytes, length, None, Some, Result, Ok, Err, ⊤}
use Rattle.std.specs.List.{sum_by}
use Rattle.icn_value.specs.declared.limits.Limits.{Limits}
use Rattle.icn_value.specs.declared.val.Val.{Val}
use Rattle.icn_value.specs.Limited.{Bounds, limits_of}
use Rattle.icn_value.specs.Store.{Heap, Outside, World}
use Rattle.icn_value.specs.Values.{Value}
use Rattle.icn_defs.specs.Running.{Launch, first_heap, first_world}
use Rattle.icn_defs.specs.StepRows.{list_row}
use Rattle.icn_heap.specs.Extents.{value_in}
use Rattle.icn_heap.specs.Heaps.{extent_of}
use Rattle.icn_vars.specs.declared.world.World.{World as HeldWorld}
use Rattle.icn_vars.specs.Worlds.{world_of}
use Rattle.icn_frames.specs.Stacks as held
use Rattle.icn_frames.specs.Stacks.{FlatStack}
use Rattle.icn_vars.specs.declared.stop.Stop.{Stop}
use Rattle.icn_vars.specs.declared.stop.Stop.TheVariants as Stops
use Rattle.icn_vars.specs.declared.outcome.Halt.{Halt}
use Rattle.icn_vars.specs.declared.outcome.Halt.TheVariants as Halts
use Rattle.icn_code.specs.Codes.{Proc, Tables}
use Rattle.icn_run.specs.FlatStep.{start}
use Rattle.icn_run.specs.Stacks.{Frames, flat}
use Rattle.icn_run.specs.Step.{State, Store, begun_if, ended_by, first_globals, first_store, running, static_count, with_world}
use Rattle.icn_control.specs.Machines.{stack_seen, store_seen}
use Rattle.icn_control.specs.StackViews.{stack_in}
use Rattle.icn_control.specs.TakenOperands.{made_in}
use Rattle.icn_control.specs.declared.machine.Machine.{Machine}

-- what a run with these words and limits is begun with, over this outside
abbrev pub launch_with : {Y : Type 0} → List (String Y) → Limits → Outside → Launch
launch_with words limits outside =
    record { words = map string_bytes words; bounds = limits_of limits; outside = outside }

-- The machine stands for the state with which the run of a code starts; or the run is over by an error that is about no value. Of want of memory this
-- says nothing.
abbrev pub StartsAs : {K : Type 0} → Tables → Launch → Result (Machine K) Halt → Type 0
StartsAs tables launch (Ok m) =
    start tables launch ≡ running (stack_seen m) (store_seen tables launch.outside m)
StartsAs tables launch (Err (Halts.Error number None)) =
    start tables launch ≡ ended_by number None (first_store tables launch)
StartsAs tables launch (Err (Halts.Error number (Some offending))) = ⊥
StartsAs tables launch (Err (Halts.Ends status)) = ⊥
StartsAs tables launch (Err Halts.ReadFault) = ⊥
StartsAs tables launch (Err Halts.WriteFault) = ⊥
StartsAs tables launch (Err Halts.FileFault) = ⊥
StartsAs tables launch (Err Halts.NoMemory) = ⊤

-- The bytes of words are charged to a heap; or they are more than its limit.
abbrev pub ChargesWords : {A : Type 0} → Heap → List (List ℕ) → Heap → Result A Stop → Type 0
ChargesWords before words after (Ok a) =
    (nat_le (before.strings + sum_by length words) before.bounds.strings ≡ true)
    × (after ≡ record before { strings = before.strings + sum_by length words })
ChargesWords before words after (Err (Stops.Error number offending)) =
    (nat_le (before.strings + sum_by length words) before.bounds.strings ≡ false)
    × ((number ≡ 306) × (offending ≡ None))
ChargesWords before words after (Err Stops.NoMemory) = ⊤

-- the world before `main` is called, where the bytes of the words are charged
abbrev pub world_charged : Tables → Bounds → List (List ℕ) → World
world_charged tables bounds words =
    record (first_world bounds (first_globals tables) (static_count tables))
    { heap = record (first_heap bounds) { strings = 0 + sum_by length words } }

-- whether the words have no more bytes than the limit
abbrev pub WordsFit : {A : Type 0} → Bounds → List (List ℕ) → Result A Stop → Type 0
WordsFit bounds words (Ok a) = nat_le (0 + sum_by length words) bounds.strings ≡ true
WordsFit bounds words (Err (Stops.Error number offending)) =
    (nat_le (0 + sum_by length words) bounds.strings ≡ false) × (number ≡ 306)
WordsFit bounds words (Err Stops.NoMemory) = ⊤

-- an error without the value that it is about
abbrev pub about_nothing : Stop → Halt
about_nothing (Stops.Error number offending) = Halts.Error number None
about_nothing Stops.NoMemory = Halts.NoMemory

-- the stack on which no procedure runs
abbrev pub bare : FlatStack
bare = held.begin 0 [] 0

-- what comes of the list of the words
abbrev pub begun_with : ℕ → Proc → Value → Frames → Store Frames → State Frames Frames
begun_with main entry list m st =
    begun_if flat (nat_le 1 st.world.heap.bounds.levels) main entry (list ∷ []) m st

-- The list of values is made, and the procedure is begun with what it makes its parameters, and nulls for its other locals; or an error without a
-- value.
abbrev pub BeginsWith : {A : Type 0} → Proc → HeldWorld → List Val → HeldWorld → List Val → Result A Stop
    → Type 0
BeginsWith entry w vals v locals (Ok a) = (main : ℕ) (st : Store Frames) → st.world ≡ world_of w
    → made_in (list_row (map (value_in (extent_of w.heap)) vals)) w bare st (begun_with main entry)
    ≡ running (stack_in (extent_of v.heap) (held.begin main locals 0)) (with_world (world_of v) st)
BeginsWith entry w vals v locals (Err (Stops.Error number offending)) =
    (main : ℕ) (st : Store Frames) → st.world ≡ world_of w
    → made_in (list_row (map (value_in (extent_of w.heap)) vals)) w bare st (begun_with main entry)
    ≡ ended_by number None st
BeginsWith entry w vals v locals (Err Stops.NoMemory) = ⊤
