-- What is said of a stack, or of a stack and a world, said of a machine.
use Rattle.std.proofs.Common.{◌≡◌, ◌≢◌, ℕ, Bool, List, [], Option, Some, None, IsSome, if◌then◌else◌, Result, Ok, Err, refl, sym, ap, ◌∙◌, subst}
use Rattle.std.specs.Option.{option_map}
use Rattle.icn_value.specs.Store.{Heap, Names, Outside, World as StoreWorld}
use Rattle.icn_heap.specs.Extents.{Extent, value_in}
use Rattle.icn_heap.specs.Heaps.{extent_of, heap_of}
use Rattle.icn_vars.specs.declared.world.World.{World}
use Rattle.icn_vars.specs.declared.outcome.Halt.{Halt}
use Rattle.icn_vars.specs.declared.outcome.Halt.TheVariants as Halts
use Rattle.icn_vars.specs.Worlds.{KeepsItems, Reach, reach_of, world_of}
use Rattle.icn_vars.proofs.KeptItems.{keeps_items_refl}
use Rattle.icn_frames.specs.Stacks.{FlatStack}
use Rattle.icn_coexp.specs.Transfers.{CoexpTable}
use Rattle.icn_code.specs.declared.instr.Instr.{Instr}
use Rattle.icn_code.specs.Codes.{Tables}
use Rattle.icn_run.specs.Rows.{Done}
use Rattle.icn_run.specs.Stacks.{Frames, flat}
use Rattle.icn_run.specs.Step.{State, Store, running, failing, errs, over_with, stuck, all_names, instruction, is_main, with_world}
use Rattle.icn_control.specs.LiveStacks.{IsLiveStack}
use Rattle.icn_control.specs.Machines.{store_in, running_of, AreLiveStacks, IsLiveRunning, ComesTo, HaltsAt, StandsAt}
use Rattle.icn_control.specs.declared.machine.Machine.{Machine}
use Rattle.icn_control.specs.declared.machine.RunState.{RunState}
use Rattle.icn_control.specs.declared.machine.RunState.TheVariants as RunStates
use Rattle.icn_control.specs.Soundness.{HasItsStack}
use Rattle.icn_control.specs.StackAndWorld.{StandsWith, HaltsWith}
use Rattle.icn_control.specs.StackViews.{instruction_state, stack_in, GoesOnIn}
use Rattle.icn_control.specs.TakenOperands.{KeepsCounts}
use Rattle.icn_control.proofs.GrowthSteps.{grown_store}
use Rattle.icn_control.proofs.Lifting.{over_is_main}
use Rattle.icn_instructions.specs.InstructionEffects.{ComesIn}

-- the stack that runs is of the world
pub runs_live : (tables : Tables) (reach : Reach) (table : CoexpTable) → IsSome table.running → AreLiveStacks tables reach table
    → IsLiveStack tables reach (running_of table.running)
runs_live tables reach table h k = by_stack table.running h k.runs
  where
    by_stack : (o : Option FlatStack) → IsSome o → IsLiveRunning tables reach o → IsLiveStack tables reach (running_of o)
    by_stack (Some m) q l = l
    by_stack None q l = cc

pub runs_as : (table : CoexpTable) (f : FlatStack) → table.running ≡ Some f → running_of table.running ≡ f
runs_as table f r = ap running_of r

-- the instruction of a machine is done on the stack that runs
pub done_is : (tables : Tables) (all : Extent) (table : CoexpTable) (f : FlatStack) (instr : Instr) (st : Store Frames) → table.running ≡ Some f
    → instruction flat tables instr (stack_in all (running_of table.running)) st ≡ instruction_state all tables instr f st
done_is tables all table f instr st r = ap (λ (o : Option FlatStack). instruction flat tables instr (stack_in all (running_of o)) st) r

pub done_lacks : (tables : Tables) (all : Extent) (table : CoexpTable) (f : FlatStack) (instr : Instr) (st : Store Frames) → table.running ≡ Some f
    → instruction flat tables instr (stack_in all (running_of table.running)) st ≢ stuck → instruction_state all tables instr f st ≢ stuck
done_lacks tables all table f instr st r d = λ q. d (done_is tables all table f instr st r ∙ q)

-- a stack that goes on
pub stack_runs : (tables : Tables) (names : Names) (outside : Outside) (world : StoreWorld) (turns : ℕ) (begun : List Bool) (all : Extent) (table : CoexpTable)
    (f n : FlatStack) (instr : Instr) → table.running ≡ Some f → GoesOnIn tables instr f n
    → instruction flat tables instr (stack_in all (running_of table.running)) (store_in names outside world turns begun all table)
    ≡ running (stack_in all n) (store_in names outside world turns begun all (record table { running = Some n }))
stack_runs tables names outside world turns begun all table f n instr r h =
    done_is tables all table f instr (store_in names outside world turns begun all table) r ∙ h all (store_in names outside world turns begun all table)

-- the store of a machine before an instruction, with its turns and what it began
abbrev pub store_was : {K : Type 0} → Tables → Outside → World → CoexpTable → Machine K → Store Frames
store_was tables outside w table m = store_in (all_names tables) outside (world_of w) m.turns m.begun.items (extent_of w.heap) table

-- what stands after it, in a world that may have grown
module _ {K : Type 0} (m : Machine K) (tables : Tables) (outside : Outside) (w : World) (table : CoexpTable) (n : FlatStack)
    (t : m.stacks.table ≡ record table { running = Some n }) (kept : KeepsItems (reach_of w []) (reach_of m.world []))
    (live : AreLiveStacks tables (reach_of w []) table) where
  moved : (F : Frames → Store Frames → State Frames Frames)
      → F (stack_in (extent_of m.world.heap) n) (with_world (world_of m.world) (store_was tables outside w table m))
      ≡ F (stack_in (extent_of m.world.heap) (running_of m.stacks.table.running))
      (store_in (all_names tables) outside (world_of m.world) m.turns m.begun.items (extent_of m.world.heap) m.stacks.table)
  moved F =
      let H : CoexpTable → State Frames Frames = λ x. F (stack_in (extent_of m.world.heap) (running_of x.running))
      (store_in (all_names tables) outside (world_of m.world) m.turns m.begun.items (extent_of m.world.heap) x) in
      ap (F (stack_in (extent_of m.world.heap) n)) (grown_store tables (all_names tables) outside w m.world m.turns m.begun.items table (Some n) kept live)
      ∙ ap H
      (sym t)

  pub world_stands : (state : State Frames Frames) (stage : RunState) → StandsWith state (store_was tables outside w table m) m.world n stage →
      (stage ≡ RunStates.Over → table.active ≡ 0) → StandsAt tables outside state m stage
  world_stands state RunStates.Running h o = h ∙ moved running
  world_stands state RunStates.Failing h o = h ∙ moved failing
  world_stands state RunStates.Hopping h o = absurd h
  world_stands state RunStates.Over h o =
      let F : Bool → State Frames Frames = λ x. if x then over_with Done (world_of m.world) outside else stuck in
      h ∙ ap F (ap is_main (o refl))
  world_stands state RunStates.AtBound h o = absurd h

  pub world_halts : (state : State Frames Frames) (halt : Halt) → HaltsWith state (store_was tables outside w table m) m.world
      (stack_in (extent_of m.world.heap) n) halt → HaltsAt tables outside state m halt
  world_halts state (Halts.Error number offending) h = h ∙ moved (errs number (option_map (value_in (extent_of m.world.heap)) offending))
  world_halts state (Halts.Ends status) h = absurd h
  world_halts state Halts.ReadFault h = absurd h
  world_halts state Halts.WriteFault h = absurd h
  world_halts state Halts.FileFault h = absurd h
  world_halts state Halts.NoMemory h = tt

-- what comes of an instruction that touches the stack and the world alone
pub world_comes : {K : Type 0} (m : Machine K) (tables : Tables) (elsewhere outside : Outside) (w : World) (table : CoexpTable) (f n : FlatStack)
    (instr : Instr)
    (result : Result RunState Halt) → m.stacks.table ≡ record table { running = Some n }
    → KeepsItems (reach_of w []) (reach_of m.world []) → AreLiveStacks tables (reach_of w []) table → table.running ≡ Some f
    → ComesIn tables instr w f m.world n result
    → instruction flat tables instr (stack_in (extent_of w.heap) (running_of table.running)) (store_was tables elsewhere w table m) ≢ stuck
    → ComesTo tables outside (instruction flat tables instr (stack_in (extent_of w.heap) (running_of table.running)) (store_was tables outside w table m)) m
    result
world_comes m tables elsewhere outside w table f n instr (Ok stage) t kept live r h d =
    let all : Extent = extent_of w.heap in
    let there : Store Frames = store_was tables elsewhere w table m in
    let here : Store Frames = store_was tables outside w table m in
    let main : stage ≡ RunStates.Over → table.active ≡ 0
    = λ e. over_is_main table.active (over_with Done (world_of m.world) elsewhere) (instruction_state all tables instr f there)
    (subst (λ (z : RunState). StandsWith (instruction_state all tables instr f there) there m.world n z) e (h there refl))
    (done_lacks tables all table f instr there r d) in
    subst (λ (s : State Frames Frames). StandsAt tables outside s m stage) (sym (done_is tables all table f instr here r))
    (world_stands m tables outside w table n t kept live (instruction_state all tables instr f here) stage (h here refl) main)
world_comes m tables elsewhere outside w table f n instr (Err halt) t kept live r h d =
    let all : Extent = extent_of w.heap in
    let here : Store Frames = store_was tables outside w table m in
    subst (λ (s : State Frames Frames). HaltsAt tables outside s m halt) (sym (done_is tables all table f instr here r))
    (world_halts m tables outside w table n t kept live (instruction_state all tables instr f here) halt (h here refl))

-- a stack runs after it, as it enters no co-expression
pub world_stack : {K : Type 0} (m : Machine K) (tables : Tables) (instr : Instr) (w : World) (f : FlatStack) (v : World) (n : FlatStack)
    (result : Result RunState Halt) (st : Store Frames) → st.world ≡ world_of w → IsSome m.stacks.table.running
    → ComesIn tables instr w f v n result → HasItsStack m result
world_stack m tables instr w f v n (Ok RunStates.Running) st e p h = p
world_stack m tables instr w f v n (Ok RunStates.Failing) st e p h = p
world_stack m tables instr w f v n (Ok RunStates.Hopping) st e p h = absurd (h st e)
world_stack m tables instr w f v n (Ok RunStates.Over) st e p h = tt
world_stack m tables instr w f v n (Ok RunStates.AtBound) st e p h = tt
world_stack m tables instr w f v n (Err (Halts.Error number offending)) st e p h = p
world_stack m tables instr w f v n (Err (Halts.Ends status)) st e p h = tt
world_stack m tables instr w f v n (Err Halts.ReadFault) st e p h = tt
world_stack m tables instr w f v n (Err Halts.WriteFault) st e p h = tt
world_stack m tables instr w f v n (Err Halts.FileFault) st e p h = tt
world_stack m tables instr w f v n (Err Halts.NoMemory) st e p h = tt

-- A world that keeps what it may name, and its counts

pub reach_keeps : (w v : World) → reach_of v [] ≡ reach_of w [] → KeepsItems (reach_of w []) (reach_of v [])
reach_keeps w v e = subst (λ (r : Reach). KeepsItems (reach_of w []) r) (sym e) (keeps_items_refl (reach_of w []))

pub seen_keeps : (w v : World) → heap_of v.heap ≡ heap_of w.heap → KeepsCounts w v
seen_keeps w v e = record { bounds = ap (λ (h : Heap). h.bounds) e; coexps = ap (λ (h : Heap). h.coexps) e }

pub heap_keeps : (w v : World) → v.heap ≡ w.heap → KeepsCounts w v
heap_keeps w v e = seen_keeps w v (ap heap_of e)
