-- A machine at which an instruction is being done.
use Rattle.std.proofs.Common.{◌≡◌, ◌≢◌, ℕ, suc, Bool, true, false, List, [], length, Option, Some, None, Result, Ok, Err, refl, sym, ap, ◌∙◌, subst}
use Rattle.std.specs.Option.{option_map}
use Rattle.std.specs.Prelude.{IsErrAnd, IsSome, slice_get, slice_index_or, nat_lt, ⊤}
use Rattle.icn_value.specs.Store.{Outside, bare_outside}
use Rattle.icn_value.specs.Values.{Value}
use Rattle.icn_value.specs.Limited.{limits_of}
use Rattle.icn_heap.specs.Extents.{value_in}
use Rattle.icn_heap.specs.Heaps.{extent_of, heap_of}
use Rattle.icn_vars.specs.declared.outcome.Halt.{Halt}
use Rattle.icn_vars.specs.declared.outcome.Halt.TheVariants as Halts
use Rattle.icn_vars.specs.declared.world.World.{World}
use Rattle.icn_vars.specs.Worlds.{reach_of, world_of}
use Rattle.icn_frames.specs.Stacks as held
use Rattle.icn_frames.specs.Stacks.{FlatStack}
use Rattle.icn_coexp.specs.Transfers.{CoexpTable}
use Rattle.icn_code.specs.Codes.{Tables}
use Rattle.icn_code.specs.Rules.{keeps_rules}
use Rattle.icn_code.specs.declared.instr.Instr.{Instr}
use Rattle.icn_code.specs.declared.instr.Instr.TheVariants as Instrs
use Rattle.icn_run.specs.Stacks.{Frames, flat}
use Rattle.icn_defs.specs.Running.{Ending, Done, Exit, Errored, AtBound}
use Rattle.icn_run.proofs.Errors.{at_error}
use Rattle.icn_run.specs.Step.{State, Store, running, failing, hopping, over, stuck, step, all_names, errs, initial_if, instruction, instruction_at, instrs_of, turn_if, with_found}
use Rattle.law_steps.specs.StateNames.{StackNamed, StoreNamed}
use Rattle.law_steps.specs.KeepingNames.{MayCall}
use Rattle.law_steps.specs.KeepingSizes.{StoreFits}
use Rattle.icn_streams.specs.Handed.{CallStreams}
use Rattle.icn_control.specs.ResultCounts.{EnterOthers, FitTurns}
use Rattle.icn_control.specs.Machines.{AreLiveStacks, ComesTo, IsSoundMachine, StandsAt, does, extent, running_of, stack_of, stack_seen, store_in, store_seen}
use Rattle.icn_control.specs.StackViews.{stack_in}
use Rattle.icn_control.specs.declared.machine.Machine.{Machine}
use Rattle.icn_control.specs.declared.machine.RunState.{RunState}
use Rattle.icn_control.specs.declared.machine.RunState.TheVariants as RunStates
use Rattle.icn_control.proofs.LiveCalls.{live_go}
use Rattle.icn_control.proofs.MachineSteps.{stacks_on}
use Rattle.icn_instructions.proofs.RangeSteps.{instr_in_range}
use Rattle.icn_instructions.specs.InstructionEffects.{HasMemory}
use Rattle.icn_instructions.specs.Groups.{takes_no_memory}
use Rattle.icn_run.specs.InstructionNeeds.{HasCaseMark, HasVariables}
use Rattle.icn_instructions.specs.Ranges.{IsInRange}
use Rattle.icn_machine.specs.Performing.{PerformsOn}
use Rattle.icn_machine.specs.AfterInstruction.{stage_result}
use Rattle.icn_machine.specs.declared.stepping.AfterStep.{AfterStep}
use Rattle.icn_machine.specs.Stepping.{Advances, AlwaysOver, EndsWhole, GoesOn, IsDoing, IsFailing, IsReady, LacksNothing, advances, goes_on, is_failing, is_whole, stays}
use Rattle.icn_machine.proofs.AdvanceSteps.{Passes, advances_then}
use Rattle.icn_machine.proofs.NextSteps.{always_doing, kept_running, read_instr, step_does}

-- The next place

-- The machine is as it was, but for the place of the stack that runs.
pub record Moves {K : Type 0} (m n : Machine K) (f : FlatStack) : Type 0 where
  pub runs : m.stacks.table.running ≡ Some f
  pub world : n.world ≡ m.world
  pub turns : n.turns ≡ m.turns
  pub begun : n.begun.items ≡ m.begun.items
  pub limits : n.limits ≡ m.limits
  pub table : n.stacks.table ≡ record m.stacks.table { running = Some (held.go (suc f.address) f) }

module _ {K : Type 0} (m n : Machine K) (f : FlatStack) (moves : Moves m n f) where
  abbrev there : FlatStack
  there = held.go (suc f.address) f

  was_stack : stack_seen m ≡ stack_in (extent_of m.world.heap) f
  was_stack = ap (λ (o : Option FlatStack). stack_in (extent_of m.world.heap) (running_of o)) moves.runs

  now_stack : stack_of n ≡ there
  now_stack = ap (λ (t : CoexpTable). running_of t.running) moves.table

  pub moved_stack : stack_seen n ≡ flat.go (suc (flat.address (stack_seen m))) (stack_seen m)
  moved_stack =
      ap (λ (w : World). stack_in (extent_of w.heap) (stack_of n)) moves.world
      ∙ ap (λ (s : FlatStack). stack_in (extent_of m.world.heap) s) now_stack
      ∙ sym (ap (λ (s : Frames). flat.go (suc s.address) s) was_stack)

  pub moved_store : (tables : Tables) (outside : Outside) → store_seen tables outside n ≡ store_seen tables outside m
  moved_store tables outside =
      ap (λ (w : World). store_in (all_names tables) outside (world_of w) n.turns n.begun.items (extent_of w.heap) n.stacks.table) moves.world
      ∙ ap (λ (t : ℕ). store_in (all_names tables) outside (world_of m.world) t n.begun.items (extent_of m.world.heap) n.stacks.table) moves.turns
      ∙ ap (λ (b : List Bool). store_in (all_names tables) outside (world_of m.world) m.turns b (extent_of m.world.heap) n.stacks.table) moves.begun
      ∙ ap (λ (t : CoexpTable). store_in (all_names tables) outside (world_of m.world) m.turns m.begun.items (extent_of m.world.heap) t) moves.table

  moved_sound : (tables : Tables) → IsSoundMachine tables m → IsSoundMachine tables n
  moved_sound tables k = record {
    stacks = subst (λ (w : World). AreLiveStacks tables (reach_of w []) n.stacks.table) (sym moves.world)
        (subst (λ (t : CoexpTable). AreLiveStacks tables (reach_of m.world []) t) (sym moves.table)
        (stacks_on tables (reach_of m.world []) m.stacks.table f there moves.runs (λ l. live_go tables (reach_of m.world []) f (suc f.address) l) k.stacks));
    bounds = ap (λ (w : World). (heap_of w.heap).bounds) moves.world ∙ k.bounds ∙ sym (ap limits_of moves.limits);
    counts = ap (λ (w : World). length (heap_of w.heap).coexps) moves.world ∙ k.counts ∙ sym (ap (λ (t : CoexpTable). length t.coexps) moves.table);
    counted = record {
      results = subst (λ (w : World). FitTurns n.turns n.stacks.table.active (heap_of w.heap).coexps) (sym moves.world)
          (subst (λ (t : ℕ). FitTurns t n.stacks.table.active (heap_of m.world.heap).coexps) (sym moves.turns)
          (subst (λ (t : CoexpTable). FitTurns m.turns t.active (heap_of m.world.heap).coexps) (sym moves.table) k.counted.results));
      activators = subst (λ (t : CoexpTable). EnterOthers t.coexps) (sym moves.table) k.counted.activators;
    };
  }

  module _ (tables : Tables) (instr : Instr) (stands : slice_get (instrs_of tables (held.proc f)) f.address ≡ Some instr) where
    pub instr_here : instruction_at flat tables (stack_seen m) ≡ Some instr
    instr_here = ap (λ (s : Frames). instruction_at flat tables s) was_stack ∙ read_instr tables (extent_of m.world.heap) f instr stands

    pub step_here : (outside : Outside) → step flat tables (running (stack_seen m) (store_seen tables outside m)) ≡ does tables outside instr n
    step_here outside =
        step_does tables (stack_seen m) instr (store_seen tables outside m) instr_here
        ∙ sym (ap (λ (s : Frames). instruction flat tables instr s (store_seen tables outside n)) moved_stack
        ∙ ap (λ (st : Store Frames). instruction flat tables instr (flat.go (suc (flat.address (stack_seen m))) (stack_seen m)) st)
        (moved_store tables outside))

    pub doing_here : keeps_rules tables ≡ true → IsReady tables m RunStates.Running → IsDoing tables n instr
    doing_here rules ready = record {
      sound = moved_sound tables ready.sound;
      runs = subst (λ (t : CoexpTable). IsSome t.running) (sym moves.table) refl;
      always = λ outside. subst (λ (s : State Frames Frames). AlwaysOver tables (LacksNothing tables) s)
          (sym (step_does tables (stack_seen m) instr (store_seen tables outside m) instr_here) ∙ step_here outside)
          (always_doing tables (stack_seen m) instr (store_seen tables outside m) instr_here (kept_running tables m ready.kept outside));
      variables =
          λ outside. subst (λ (st : Store Frames). HasVariables tables st) (sym (moved_store tables outside))
          ((kept_running tables m ready.kept outside).always []).variables;
      in_range =
          subst (λ (s : FlatStack). IsInRange tables (held.proc s) instr) (sym now_stack) (instr_in_range tables (held.proc f) f.address instr rules stands);
      mark =
          subst (λ (s : Frames). HasCaseMark instr s) (sym moved_stack) (((kept_running tables m ready.kept bare_outside).always []).mark instr instr_here);
      stack_named =
          subst (λ (s : Frames). StackNamed (all_names tables) s) (sym moved_stack)
          (record { cells = (kept_running tables m ready.kept bare_outside).named.0.cells });
      store_named =
          λ outside. subst (λ (st : Store Frames). StoreNamed (all_names tables) st) (sym (moved_store tables outside))
          (kept_running tables m ready.kept outside).named.1;
      fits = λ outside. subst (λ (st : Store Frames). StoreFits tables st) (sym (moved_store tables outside)) (kept_running tables m ready.kept outside).fits;
    }

-- Instructions that are done whole

-- a run that ends so ends by no error
abbrev IsNoError : Ending → Type 0
IsNoError Done = ⊤
IsNoError (Exit status) = ⊤
IsNoError (Errored number) = ⊥
IsNoError AtBound = ⊤

abbrev NeverFails : State Frames Frames → Type 0
NeverFails (running m st) = ⊤
NeverFails (failing m st) = ⊥
NeverFails (hopping m st) = ⊥
NeverFails (over ending outside) = IsNoError ending
NeverFails stuck = ⊤

errs_fails : (number : ℕ) (value : Option Value) (m : Frames) (st : Store Frames) → NeverFails (errs number value m st) → ⊥
errs_fails number value m st = at_error (λ (s : State Frames Frames). NeverFails s → ⊥) number value m st (λ h. h) (λ h. h)

found_whole : {A : Type 0} (o : Option A) (next : A → State Frames Frames) → ((x : A) → NeverFails (next x)) → NeverFails (with_found o next)
found_whole (Some x) next f = f x
found_whole None next f = tt

turn_whole : (b : Bool) (m : Frames) (st : Store Frames) → NeverFails (turn_if b st (running m))
turn_whole true m st = tt
turn_whole false m st = tt

initial_whole : (b : Bool) (label : ℕ) (m : Frames) (st : Store Frames) → NeverFails (initial_if flat b label m st)
initial_whole true label m st = tt
initial_whole false label m st = tt

whole_state : (tables : Tables) (instr : Instr) (m : Frames) (st : Store Frames) → is_whole instr ≡ true → NeverFails (instruction flat tables instr m st)
whole_state tables Instrs.Pop m st e = found_whole (flat.pop m) _ (λ x. tt)
whole_state tables Instrs.Unmark m st e = found_whole (flat.unmark m) _ (λ x. tt)
whole_state tables (Instrs.Chfail label) m st e = found_whole (flat.relabel label m) _ (λ x. tt)
whole_state tables (Instrs.Goto label) m st e = tt
whole_state tables (Instrs.Loop label) m st e = turn_whole (nat_lt st.turns st.world.heap.bounds.turns) (flat.go label m) st
whole_state tables (Instrs.Init label) m st e = initial_whole (slice_index_or st.begun (flat.proc m) true) label m st
whole_state tables _ m st e = cc

whole_stands : {K : Type 0} (tables : Tables) (outside : Outside) (state : State Frames Frames) (n : Machine K) (stage : RunState) → NeverFails state
    → StandsAt tables outside state n stage → is_failing stage ≡ false
whole_stands tables outside state n RunStates.Running h e = refl
whole_stands tables outside state n RunStates.Over h e = refl
whole_stands tables outside state n RunStates.AtBound h e = refl
whole_stands tables outside state n RunStates.Failing h e = absurd (subst NeverFails e h)
whole_stands tables outside state n RunStates.Hopping h e = absurd (subst NeverFails e.1 h)

whole_memory : (instr : Instr) → is_whole instr ≡ true → takes_no_memory instr ≡ true
whole_memory Instrs.Pop e = refl
whole_memory Instrs.Unmark e = refl
whole_memory (Instrs.Chfail label) e = refl
whole_memory (Instrs.Goto label) e = refl
whole_memory (Instrs.Loop label) e = refl
whole_memory (Instrs.Init label) e = refl
whole_memory _ e = cc

pub whole_done : {K : Type 0} (tables : Tables) (m n : Machine K) (instr : Instr) (result : Result RunState Halt) → is_whole instr ≡ true
    → ((outside : Outside) → ComesTo tables outside (does tables outside instr m) n result)
    → (takes_no_memory instr ≡ true → HasMemory result) → EndsWhole result
whole_done tables m n instr (Ok stage) w comes memory =
    let o : Outside
    = bare_outside in whole_stands tables o (does tables o instr m) n stage (whole_state tables instr (stack_seen m) (store_seen tables o m) w) (comes o)
whole_done tables m n instr (Err (Halts.Error number offending)) w comes memory =
    let o : Outside = bare_outside in
    errs_fails number (option_map (value_in (extent n)) offending) (stack_seen n) (store_seen tables o n)
    (subst NeverFails (comes o) (whole_state tables instr (stack_seen m) (store_seen tables o m) w))
whole_done tables m n instr (Err (Halts.Ends status)) w comes memory = tt
whole_done tables m n instr (Err Halts.ReadFault) w comes memory = tt
whole_done tables m n instr (Err Halts.WriteFault) w comes memory = tt
whole_done tables m n instr (Err Halts.FileFault) w comes memory = tt
whole_done tables m n instr (Err Halts.NoMemory) w comes memory = absurd (memory (whole_memory instr w) refl)

-- Answers

pub applied_performs : {K : Type 0} (tables : Tables) (m n : Machine K) (instr j : Instr) (before after : CallStreams) (result : Result RunState Halt)
    → instr ≡ j
    → PerformsOn tables (λ o. does tables o j m) n before after result → PerformsOn tables (λ o. does tables o instr m) n before after result
applied_performs tables m n instr j before after result e p = subst (λ (x : Instr). PerformsOn tables (λ o. does tables o x m) n before after result) (sym e) p

pub calls_as : (instr j : Instr) → instr ≡ j → (MayCall j → ⊥) → MayCall instr → ⊥
calls_as instr j e h k = h (subst MayCall e k)

pub staged_err : {K : Type 0} (tables : Tables) (m : Machine K) (stage : RunState) (a : CallStreams) (n : Machine K) (b : CallStreams) (halt : Halt)
    (result : Result AfterStep Halt)
    → IsErrAnd result (λ h. h ≡ halt) → GoesOn IsFailing tables m stage a n b (Err halt)
    → GoesOn IsFailing tables m stage a n b (stage_result result)
staged_err tables m stage a n b halt (Err h) e p = subst (λ (x : Halt). GoesOn IsFailing tables m stage a n b (Err x)) (sym e) p
staged_err tables m stage a n b halt (Ok s) e p = absurd e

pub advanced_err : {K : Type 0} (tables : Tables) (m : Machine K) (stage : RunState) (a : CallStreams) (n : Machine K) (b : CallStreams) (halt : Halt)
    (result : Result AfterStep Halt)
    → IsErrAnd result (λ h. h ≡ halt) → Advances IsFailing tables m stage a n b (Err halt)
    → Advances IsFailing tables m stage a n b (stage_result result)
advanced_err tables m stage a n b halt (Err h) e p = subst (λ (x : Halt). Advances IsFailing tables m stage a n b (Err x)) (sym e) p
advanced_err tables m stage a n b halt (Ok s) e p = absurd e

pub err_memory : (halt : Halt) (result : Result AfterStep Halt) → IsErrAnd result (λ h. h ≡ halt) → EndsWhole (Err halt) → result ≢ Err Halts.NoMemory
err_memory halt (Ok s) e w = absurd e
err_memory halt (Err h) e w = by h (subst (λ (x : Halt). EndsWhole (Err x)) (sym e) w)
  where
    by : (x : Halt) → EndsWhole (Err x) → ◌≢◌ {A = Result AfterStep Halt} (Err x) (Err Halts.NoMemory)
    by (Halts.Error number offending) q = λ r. absurd (cc)
    by (Halts.Ends status) q = λ r. absurd (cc)
    by Halts.ReadFault q = λ r. absurd (cc)
    by Halts.WriteFault q = λ r. absurd (cc)
    by Halts.FileFault q = λ r. absurd (cc)
    by Halts.NoMemory q = absurd q

-- failing behind an instruction
pub then_fails : {K : Type 0} (tables : Tables) (m : Machine K) (stage : RunState) (a : CallStreams) (n : Machine K) (next : RunState) (b : CallStreams)
    (k : Machine K) (c : CallStreams) (result : Result RunState Halt)
    → goes_on next ≡ true → Passes IsFailing tables n next
    → Advances IsFailing tables m stage a n b (Ok next) → GoesOn IsFailing tables n next b k c result → Advances IsFailing tables m stage a k c result
then_fails tables m stage a n next b k c result goes passes p (advances q) =
    advances_then IsFailing tables m stage a n next b k c result goes passes p q
then_fails {K} tables m stage a n next b k c result goes passes p (stays e h f) =
    subst (λ (x : Machine K). Advances IsFailing tables m stage a x c result) (sym e)
    (subst (λ (x : CallStreams). Advances IsFailing tables m stage a n x result) (sym h)
    (subst (λ (x : Result RunState Halt). Advances IsFailing tables m stage a n b x) (sym f) p))
