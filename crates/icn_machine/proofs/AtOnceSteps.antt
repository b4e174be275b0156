-- Instructions that are done on the stack alone, on a machine.
use Rattle.std.proofs.Common.{◌≡◌, ℕ, Bool, false, List, [], length, map, Option, Some, None, IfSome, IsSome, Result, Ok, refl, sym, ap, ◌∙◌, subst}
use Rattle.std.specs.List.{All}
use Rattle.icn_value.specs.Limited.{limits_of}
use Rattle.icn_value.specs.Store.{Names, Outside}
use Rattle.icn_heap.specs.Heaps.{extent_of, heap_of}
use Rattle.law_names.specs.NamedSettings.{WorldNamed}
use Rattle.law_names.specs.RowSizes.{FitSizes}
use Rattle.icn_vars.specs.declared.outcome.Halt.{Halt}
use Rattle.icn_vars.specs.declared.world.World.{World}
use Rattle.icn_vars.specs.Worlds.{reach_of, world_of}
use Rattle.icn_frames.specs.Stacks as held
use Rattle.icn_frames.specs.Stacks.{FlatStack}
use Rattle.icn_frames.specs.StackInvariant.{SeenStack}
use Rattle.icn_coexp.specs.Transfers.{CoexpTable}
use Rattle.icn_streams.specs.Handed.{CallStreams}
use Rattle.icn_code.specs.Codes.{Tables}
use Rattle.icn_code.specs.declared.instr.Instr.{Instr}
use Rattle.icn_code.specs.declared.instr.Instr.TheVariants as Instrs
use Rattle.icn_run.specs.Stacks.{Frames, flat}
use Rattle.icn_run.specs.Step.{State, Store, all_names, instruction}
use Rattle.icn_run.specs.InstructionNeeds.{HasCaseMark, HasVariables}
use Rattle.law_steps.specs.KeepingNames.{MayCall, StepsKeepNames}
use Rattle.law_steps.specs.KeepingSizes.{StepsKeepSizes, StoreFits, field_count}
use Rattle.law_steps.specs.StateNames.{CoexpNamed, StackNamed, StoreNamed}
use Rattle.icn_control.specs.ResultCounts.{EnterOthers, FitTurns}
use Rattle.icn_control.specs.Machines.{AreLiveStacks, ComesTo, IsSoundMachine, SettlesAt, coexp_in, does, running_of, stack_seen, store_in, store_seen}
use Rattle.icn_control.specs.Soundness.{UnlessEnded}
use Rattle.icn_control.specs.StackViews.{stack_in}
use Rattle.icn_control.specs.declared.machine.Machine.{Machine}
use Rattle.icn_control.specs.declared.machine.RunState.{RunState}
use Rattle.icn_instructions.specs.Ranges.{IsInRange}
use Rattle.icn_machine.specs.DoneInPlace.{DoneInPlace, StaysSame}
use Rattle.icn_machine.specs.Performing.{SettlesOn}
use Rattle.icn_machine.specs.Stepping.{AlwaysOver, IsDoing, IsKept, IsReady, LacksNothing}
use Rattle.icn_machine.proofs.InPlaceSteps.{on_stack, stays_on}
use Rattle.icn_machine.proofs.NextSteps.{called_keeps, comes_quietly, done_keeps, ready_after}
use Rattle.icn_machine.proofs.PerformEvents.{performs_as, still_performs}

-- Where nothing was done

pub not_begun : {K : Type 0} (tables : Tables) (instr : Instr) (m : Machine K) → DoneInPlace tables instr m m None
not_begun tables instr m = record {
  done = tt;
  sound = tt;
  stack = tt;
  limits = refl;
  not_done = λ q. record { world = refl; table = refl; turns = refl; begun = refl; limits = refl };
}

pub nothing_done : {K : Type 0} (tables : Tables) (instr : Instr) (m : Machine K) (s : SeenStack) (f : FlatStack) → m.stacks.table.running ≡ Some f
    → s.flat ≡ f → DoneInPlace tables instr m (on_stack m s) None
nothing_done tables instr m s f e same = record {
  done = tt;
  sound = tt;
  stack = tt;
  limits = refl;
  not_done = λ q. stays_on m s f e same;
}

-- A machine of which nothing has changed

module _ {K : Type 0} (m n : Machine K) (same : StaysSame m n) where
  pub same_stack : stack_seen n ≡ stack_seen m
  same_stack =
      ap (λ (w : World). stack_in (extent_of w.heap) (running_of n.stacks.table.running)) same.world
      ∙ ap (λ (t : CoexpTable). stack_in (extent_of m.world.heap) (running_of t.running)) same.table

  pub same_store : (tables : Tables) (outside : Outside) → store_seen tables outside n ≡ store_seen tables outside m
  same_store tables outside =
      ap (λ (w : World). store_in (all_names tables) outside (world_of w) n.turns n.begun.items (extent_of w.heap) n.stacks.table) same.world
      ∙ ap (λ (t : ℕ). store_in (all_names tables) outside (world_of m.world) t n.begun.items (extent_of m.world.heap) n.stacks.table) same.turns
      ∙ ap (λ (b : List Bool). store_in (all_names tables) outside (world_of m.world) m.turns b (extent_of m.world.heap) n.stacks.table) same.begun
      ∙ ap (λ (t : CoexpTable). store_in (all_names tables) outside (world_of m.world) m.turns m.begun.items (extent_of m.world.heap) t) same.table

  pub same_sound : (tables : Tables) → IsSoundMachine tables m → IsSoundMachine tables n
  same_sound tables k = record {
    stacks = subst (λ (w : World). AreLiveStacks tables (reach_of w []) n.stacks.table) (sym same.world)
        (subst (λ (t : CoexpTable). AreLiveStacks tables (reach_of m.world []) t) (sym same.table) k.stacks);
    bounds = ap (λ (w : World). (heap_of w.heap).bounds) same.world ∙ k.bounds ∙ sym (ap limits_of same.limits);
    counts = ap (λ (w : World). length (heap_of w.heap).coexps) same.world ∙ k.counts ∙ sym (ap (λ (t : CoexpTable). length t.coexps) same.table);
    counted = record {
      results = subst (λ (w : World). FitTurns n.turns n.stacks.table.active (heap_of w.heap).coexps) (sym same.world)
          (subst (λ (t : ℕ). FitTurns t n.stacks.table.active (heap_of m.world.heap).coexps) (sym same.turns)
          (subst (λ (t : CoexpTable). FitTurns m.turns t.active (heap_of m.world.heap).coexps) (sym same.table) k.counted.results));
      activators = subst (λ (t : CoexpTable). EnterOthers t.coexps) (sym same.table) k.counted.activators;
    };
  }

  -- what the instruction does there
  pub does_alike : (tables : Tables) (outside : Outside) (instr : Instr) → does tables outside instr n ≡ does tables outside instr m
  does_alike tables outside instr =
      ap (λ (s : Frames). instruction flat tables instr s (store_seen tables outside n)) same_stack
      ∙ ap (λ (st : Store Frames). instruction flat tables instr (stack_seen m) st) (same_store tables outside)

  pub doing_alike : (tables : Tables) (instr : Instr) → IsDoing tables m instr → IsDoing tables n instr
  doing_alike tables instr d = record {
    sound = same_sound tables d.sound;
    runs = subst (λ (t : CoexpTable). IsSome t.running) (sym same.table) d.runs;
    always = λ outside. subst (λ (s : State Frames Frames). AlwaysOver tables (LacksNothing tables) s) (sym (does_alike tables outside instr))
        (d.always outside);
    variables = λ outside. subst (λ (st : Store Frames). HasVariables tables st) (sym (same_store tables outside)) (d.variables outside);
    in_range = subst (λ (t : CoexpTable). IsInRange tables (held.proc (running_of t.running)) instr) (sym same.table) d.in_range;
    mark = subst (λ (s : Frames). HasCaseMark instr s) (sym same_stack) d.mark;
    stack_named = subst (λ (s : Frames). StackNamed (all_names tables) s) (sym same_stack) d.stack_named;
    store_named = λ outside. subst (λ (st : Store Frames). StoreNamed (all_names tables) st) (sym (same_store tables outside)) (d.store_named outside);
    fits = λ outside. subst (λ (st : Store Frames). StoreFits tables st) (sym (same_store tables outside)) (d.fits outside);
  }

  pub settles_alike : (tables : Tables) (instr : Instr) (after : Machine K) (before now : CallStreams) (result : Result RunState Halt)
      → SettlesOn tables (λ outside. does tables outside instr n) after before now result
      → SettlesOn tables (λ outside. does tables outside instr m) after before now result
  settles_alike tables instr after before now result p =
      performs_as (λ outside. does tables outside instr m) (λ outside. does tables outside instr n)
      (λ was now answer. SettlesAt tables now (does tables was instr n) after answer)
      (λ was now answer. SettlesAt tables now (does tables was instr m) after answer) before now result (λ was. sym (does_alike tables was instr))
      (λ was now h. subst (λ (s : State Frames Frames). SettlesAt tables now s after result) (does_alike tables was instr) h) p

-- Where it was done

-- the machine goes on from there
pub ready_at_once : {K : Type 0} (tables : Tables) (m n : Machine K) (instr : Instr) (r : Option RunState)
    → ((stage : RunState) (was now : Outside) → ComesTo tables now (does tables was instr m) n (Ok stage)
    → UnlessEnded {A = RunState} (Ok stage) (IsKept tables (does tables was instr m)))
    → IsSoundMachine tables m → DoneInPlace tables instr m n r → IfSome r (IsReady tables n)
ready_at_once tables m n instr (Some stage) kept sound d =
    ready_after tables (λ o. does tables o instr m) n (Ok stage) (kept stage)
    (comes_quietly tables (λ o. does tables o instr m) n (Ok stage) d.done) (d.sound sound) d.stack
ready_at_once tables m n instr None kept sound d = tt

-- an operation
pub operation_ready : {K : Type 0} (tables : Tables) → StepsKeepNames → StepsKeepSizes → (m n : Machine K) (instr : Instr) (r : Option RunState)
    → (MayCall instr → ⊥) → IsDoing tables m instr → DoneInPlace tables instr m n r → IfSome r (IsReady tables n)
operation_ready tables names sizes m n instr r calls d done =
    ready_at_once tables m n instr r (λ stage was now comes. done_keeps tables names sizes m n instr (Ok stage) calls d was now comes) d.sound done

-- a call
pub call_ready : {K : Type 0} (tables : Tables) (m n : Machine K) (instr : Instr) (r : Option RunState) → IsDoing tables m instr
    → n.world ≡ m.world → n.stacks.table.coexps ≡ m.stacks.table.coexps → IfSome r (λ stage. StackNamed (all_names tables) (stack_seen n))
    → DoneInPlace tables instr m n r → IfSome r (IsReady tables n)
call_ready tables m n instr None d same coexps named done = tt
call_ready tables m n instr (Some stage) d same coexps named done =
    let names : Names = all_names tables in
    let store : (outside : Outside) → StoreNamed names (store_seen tables outside m) = d.store_named in
    ready_at_once tables m n instr (Some stage)
    (λ other was now comes. called_keeps names tables m n instr instr (Ok other) refl refl d
    (named, subst (λ (w : World). WorldNamed names (world_of w)) (sym same) (store was).world)
    (λ all. subst (λ (w : World). All (CoexpNamed names) (map (coexp_in (extent_of w.heap)) n.stacks.table.coexps)) (sym same)
    (subst (λ cs. All (CoexpNamed names) (map (coexp_in (extent_of m.world.heap)) cs)) (sym coexps) all))
    (λ fits. subst (λ (w : World). FitSizes (field_count tables) (heap_of w.heap)) (sym same) fits) was now comes)
    d.sound done

-- the same of another name of the instruction
pub done_as : {K : Type 0} (tables : Tables) (instr other : Instr) (m n : Machine K) (r : Option RunState) → instr ≡ other
    → DoneInPlace tables other m n r → DoneInPlace tables instr m n r
done_as tables instr other m n r e d = subst (λ (x : Instr). DoneInPlace tables x m n r) (sym e) d

pub some_part : (P : Bool) (r : Option RunState) → P ≡ false → IfSome r (λ stage. P ≡ false)
some_part P (Some stage) e = e
some_part P None e = tt

-- what was done settles at once
pub settled_at_once : {K : Type 0} (tables : Tables) (m n : Machine K) (instr : Instr) (before : CallStreams) (stage : RunState)
    → ((outside : Outside) → ComesTo tables outside (does tables outside instr m) n (Ok stage))
    → SettlesOn tables (λ outside. does tables outside instr m) n before before (Ok stage)
settled_at_once tables m n instr before stage done =
    still_performs (λ outside. does tables outside instr m) (λ was now answer. SettlesAt tables now (does tables was instr m) n answer) before (Ok stage) tt
    done
