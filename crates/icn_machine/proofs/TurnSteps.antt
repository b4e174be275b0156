-- Operations and calls that are done at once on a stack in a world, as turns, said of a machine.
use Rattle.std.proofs.Common.{◌≡◌, ◌≢◌, ◌+◌, ℕ, suc, true, nat_lt, [], map, Option, Some, None, IfOk, IfSome, Result, Ok, refl, sym, ap, ◌∙◌, subst, add-one}
use Rattle.std.specs.List.{All}
use Rattle.icn_value.specs.Store.{Names, Outside, bare_outside}
use Rattle.icn_heap.specs.Heaps.{extent_of, heap_of}
use Rattle.icn_vars.specs.declared.outcome.Halt.{Halt}
use Rattle.icn_vars.specs.declared.world.World.{World}
use Rattle.icn_vars.specs.Worlds.{KeepsItems, reach_of, world_of}
use Rattle.icn_frames.specs.Stacks.{FlatStack}
use Rattle.icn_frames.specs.StackInvariant.{SeenStack}
use Rattle.icn_coexp.specs.Transfers.{with_stack}
use Rattle.icn_code.specs.Codes.{Tables}
use Rattle.icn_code.specs.declared.instr.Instr.{Instr}
use Rattle.icn_code.specs.declared.instr.Instr.TheVariants as Instrs
use Rattle.icn_run.specs.Stacks.{Frames}
use Rattle.icn_run.specs.Step.{State, Store, all_names, failing, running}
use Rattle.law_steps.specs.KeepingNames.{MayCall, StepsKeepNames}
use Rattle.law_steps.specs.KeepingSizes.{StepsKeepSizes, field_count}
use Rattle.law_steps.specs.StateNames.{CoexpNamed, StackNamed, StoreNamed}
use Rattle.law_names.specs.NamedSettings.{WorldNamed}
use Rattle.icn_control.specs.LiveStacks.{IsLiveStack}
use Rattle.icn_control.specs.Machines.{ComesTo, HasStack, IsSoundMachine, StandsAt, coexp_in, does, extent, running_of, stack_seen, store_seen}
use Rattle.icn_control.specs.StackViews.{instruction_state, stack_in}
use Rattle.icn_control.specs.TakenOperands.{KeepsCounts}
use Rattle.icn_control.specs.declared.machine.Machine.{Machine}
use Rattle.icn_control.specs.declared.machine.RunState.{RunState}
use Rattle.icn_control.specs.declared.machine.RunState.TheVariants as RunStates
use Rattle.icn_control.proofs.GrowthSteps.{grown_store}
use Rattle.icn_control.proofs.ListSteps.{on_running}
use Rattle.icn_control.proofs.LiteralSteps.{running_live}
use Rattle.icn_instructions.specs.Groups.{group_of}
use Rattle.icn_instructions.specs.declared.groups.InstrGroup.TheVariants as Groups
use Rattle.icn_apply.specs.SizesAfter.{WorldsKeepSizes}
use Rattle.icn_machine.specs.AnsweredAtOnce.{DoneAtOnce, answer_of}
use Rattle.icn_machine.specs.declared.at_once.AtOnce.{AtOnce}
use Rattle.icn_machine.specs.declared.at_once.AtOnce.TheVariants as AtOnces
use Rattle.icn_machine.specs.DoneInPlace.{StaysSame}
use Rattle.icn_machine.specs.Stepping.{IsDoing, IsReady, is_whole}
use Rattle.icn_machine.specs.TurnsAtOnce.{CallsAsTurn, DoesAsTurn}
use Rattle.icn_machine.proofs.AtOnceAnswers.{if_answered, lacks_memory, stands_done, was_done}
use Rattle.icn_machine.proofs.AtOnceSteps.{does_alike}
use Rattle.icn_machine.proofs.CallFacts.{sizes_stay_on}
use Rattle.icn_machine.proofs.InPlaceSteps.{stays_on}
use Rattle.icn_machine.proofs.NextSteps.{called_keeps, comes_quietly, ready_after}
use Rattle.icn_machine.proofs.OperandCalls.{coexps_left}
use Rattle.icn_machine.proofs.OperateSteps.{sound_after}
use Rattle.icn_machine.proofs.WorldAtOnce.{in_both}

-- the machine with this world and this stack, a turn later
abbrev pub in_turn_with : {K : Type 0} → Machine K → World → SeenStack → Machine K
in_turn_with m v s = record { world = v; stacks = with_stack m.stacks s; turns = m.turns + 1; begun = m.begun; limits = m.limits }

-- Where it stands

module _ {K : Type 0} (tables : Tables) (m : Machine K) (v : World) (s : SeenStack) (instr : Instr) (f : FlatStack)
    (runs : m.stacks.table.running ≡ Some f) (more : nat_lt m.turns (heap_of m.world.heap).bounds.turns ≡ true) (sound : IsSoundMachine tables m) where
  stands_running : DoesAsTurn tables instr m.world f v s.flat AtOnces.Running → (outside : Outside)
      → StandsAt tables outside (does tables outside instr m) (in_turn_with m v s) RunStates.Running
  stands_running d outside =
      let st : Store Frames = store_seen tables outside m in
      let all = extent_of v.heap in
      on_running m.stacks.table f (λ x. instruction_state (extent m) tables instr x st) runs ∙ d.step st refl more
      ∙ ap (running (stack_in all s.flat))
      (grown_store tables (all_names tables) outside m.world v (suc m.turns) m.begun.items m.stacks.table (Some s.flat) d.kept sound.stacks)
      ∙ ap (λ (t : ℕ). let after = in_turn_with m v s in running (stack_seen after) (record (store_seen tables outside after) { turns = t }))
      (sym (add-one m.turns))

  stands_failing : DoesAsTurn tables instr m.world f v s.flat AtOnces.Failing → (outside : Outside)
      → StandsAt tables outside (does tables outside instr m) (in_turn_with m v s) RunStates.Failing
  stands_failing d outside =
      let st : Store Frames = store_seen tables outside m in
      let all = extent_of v.heap in
      on_running m.stacks.table f (λ x. instruction_state (extent m) tables instr x st) runs ∙ d.step st refl more
      ∙ ap (failing (stack_in all s.flat))
      (grown_store tables (all_names tables) outside m.world v (suc m.turns) m.begun.items m.stacks.table (Some s.flat) d.kept sound.stacks)
      ∙ ap (λ (t : ℕ). let after = in_turn_with m v s in failing (stack_seen after) (record (store_seen tables outside after) { turns = t }))
      (sym (add-one m.turns))

  sound_turned : (IsLiveStack tables (reach_of m.world []) f → IsLiveStack tables (reach_of v []) s.flat) → KeepsItems (reach_of m.world []) (reach_of v [])
      → KeepsCounts m.world v → IsSoundMachine tables (in_turn_with m v s)
  sound_turned live kept counts =
      sound_after m (in_turn_with m v s) tables s.flat kept refl refl refl sound
      (live (running_live tables (reach_of m.world []) m.stacks.table f runs sound.stacks)) counts

-- where nothing has changed
pub same_turned : {K : Type 0} (tables : Tables) (m : Machine K) (v : World) (s : SeenStack) (instr : Instr) (f : FlatStack)
    → m.stacks.table.running ≡ Some f → group_of instr ≢ Groups.Stack → (s.flat ≡ f) × (v ≡ m.world) → DoneAtOnce tables instr m (in_both m v s) AtOnces.Not
same_turned tables m v s instr f runs off same =
    let on = stays_on m s f runs same.0 in
    record {
      done = tt;
      ready = tt;
      whole = λ w. tt;
      limits = refl;
      not_done = λ q. record { world = same.1; table = on.table; turns = refl; begun = refl; limits = refl };
      off_stack = λ q. off;
    }

-- An operation

module _ {K : Type 0} (tables : Tables) (names : StepsKeepNames) (sizes : StepsKeepSizes) (m : Machine K) (v : World) (s : SeenStack) (instr : Instr)
    (f : FlatStack) (runs : m.stacks.table.running ≡ Some f) (calls : MayCall instr → ⊥) (none : is_whole instr ≡ true → ⊥)
    (doing : IsDoing tables m instr) (more : nat_lt m.turns (heap_of m.world.heap).bounds.turns ≡ true) where
  pub operation_turned : (done : AtOnce) → (done ≡ AtOnces.Not → ⊥) → DoesAsTurn tables instr m.world f v s.flat done
      → DoneAtOnce tables instr m (in_turn_with m v s) done
  operation_turned AtOnces.Running some d =
      stands_done tables names sizes m (in_turn_with m v s) instr AtOnces.Running RunStates.Running refl calls doing
      (stands_running tables m v s instr f runs more doing.sound d)
      (sound_turned tables m v s instr f runs more doing.sound d.live d.kept d.counts) refl refl
  operation_turned AtOnces.Failing some d =
      stands_done tables names sizes m (in_turn_with m v s) instr AtOnces.Failing RunStates.Failing refl calls doing
      (stands_failing tables m v s instr f runs more doing.sound d)
      (sound_turned tables m v s instr f runs more doing.sound d.live d.kept d.counts) refl refl
  operation_turned AtOnces.Hopping some d = absurd (d.step (store_seen tables bare_outside m) refl more)
  operation_turned AtOnces.Over some d = absurd (d.step (store_seen tables bare_outside m) refl more)
  operation_turned AtOnces.AtBound some d = absurd (d.step (store_seen tables bare_outside m) refl more)
  operation_turned AtOnces.NoMemory some d = lacks_memory tables m (in_turn_with m v s) instr none refl
  operation_turned AtOnces.Not some d = absurd (some refl)

-- A call

-- a machine that stands somewhere after a call is ready there, and it was done
called_done : {K : Type 0} (tables : Tables) (m n : Machine K) (instr : Instr) (done : AtOnce) (stage : RunState) → answer_of done ≡ Some (Ok stage)
    → (is_whole instr ≡ true → ⊥) → IsDoing tables m instr
    → ((outside : Outside) → StandsAt tables outside (does tables outside instr m) n stage) → IsSoundMachine tables n → HasStack n stage
    → n.limits ≡ m.limits → (StackNamed (all_names tables) (stack_seen n) × WorldNamed (all_names tables) (world_of n.world))
    → (All (CoexpNamed (all_names tables)) (map (coexp_in (extent m)) m.stacks.table.coexps)
    → All (CoexpNamed (all_names tables)) (map (coexp_in (extent n)) n.stacks.table.coexps))
    → WorldsKeepSizes m.world n.world → DoneAtOnce tables instr m n done
called_done tables m n instr done stage e none doing stands sound stack limits named coexps sized =
    let answer : Result RunState Halt = Ok stage in
    let comes : (outside : Outside) → ComesTo tables outside (does tables outside instr m) n answer = stands in
    record {
      done = if_answered done answer (λ a. (outside : Outside) → ComesTo tables outside (does tables outside instr m) n a) e comes;
      ready = if_answered done answer (λ a. IfOk a (IsReady tables n)) e
          (ready_after tables (λ o. does tables o instr m) n answer
          (λ was now h. called_keeps (all_names tables) tables m n instr instr answer refl refl doing named coexps
          (λ fits. sizes_stay_on answer m.world n.world (field_count tables) sized fits) was now h)
          (comes_quietly tables (λ o. does tables o instr m) n answer comes) sound stack);
      whole = λ w. absurd (none w);
      limits = limits;
      not_done = λ q. was_done done answer e q;
      off_stack = λ q. was_done done answer e q;
    }

module _ {K : Type 0} (tables : Tables) (m : Machine K) (v : World) (s : SeenStack) (count : ℕ) (f : FlatStack)
    (runs : m.stacks.table.running ≡ Some f) (doing : IsDoing tables m (Instrs.Invoke count))
    (more : nat_lt m.turns (heap_of m.world.heap).bounds.turns ≡ true) where
  names : Names
  names = all_names tables

  stack_named : StackNamed names (stack_in (extent m) f)
  unfolding names
  stack_named = subst (λ (o : Option FlatStack). StackNamed names (stack_in (extent m) (running_of o))) runs doing.stack_named

  coexps_named : KeepsItems (reach_of m.world []) (reach_of v []) → All (CoexpNamed names) (map (coexp_in (extent m)) m.stacks.table.coexps)
      → All (CoexpNamed names) (map (coexp_in (extent_of v.heap)) m.stacks.table.coexps)
  coexps_named kept h = coexps_left tables names m.world v m.stacks.table s.flat kept doing.sound.stacks h

  world_named : WorldNamed names (world_of m.world)
  unfolding names
  world_named = let stored : StoreNamed names (store_seen tables bare_outside m) = doing.store_named bare_outside in stored.world

  pub call_turned : (done : AtOnce) → (done ≡ AtOnces.Not → ⊥) → CallsAsTurn tables count m.world f v s.flat done
      → DoneAtOnce tables (Instrs.Invoke count) m (in_turn_with m v s) done
  unfolding names
  call_turned AtOnces.Running some d =
      called_done tables m (in_turn_with m v s) (Instrs.Invoke count) AtOnces.Running RunStates.Running refl (λ w. cc) doing
      (stands_running tables m v s (Instrs.Invoke count) f runs more doing.sound d.does)
      (sound_turned tables m v s (Instrs.Invoke count) f runs more doing.sound d.does.live d.does.kept d.does.counts) refl refl
      (d.named (all_names tables) world_named stack_named) (coexps_named d.does.kept) d.sized
  call_turned AtOnces.Failing some d =
      called_done tables m (in_turn_with m v s) (Instrs.Invoke count) AtOnces.Failing RunStates.Failing refl (λ w. cc) doing
      (stands_failing tables m v s (Instrs.Invoke count) f runs more doing.sound d.does)
      (sound_turned tables m v s (Instrs.Invoke count) f runs more doing.sound d.does.live d.does.kept d.does.counts) refl refl
      (d.named (all_names tables) world_named stack_named) (coexps_named d.does.kept) d.sized
  call_turned AtOnces.Hopping some d = absurd (d.does.step (store_seen tables bare_outside m) refl more)
  call_turned AtOnces.Over some d = absurd (d.does.step (store_seen tables bare_outside m) refl more)
  call_turned AtOnces.AtBound some d = absurd (d.does.step (store_seen tables bare_outside m) refl more)
  call_turned AtOnces.NoMemory some d = lacks_memory tables m (in_turn_with m v s) (Instrs.Invoke count) (λ w. cc) refl
  call_turned AtOnces.Not some d = absurd (some refl)

-- what was done on a machine of which nothing had changed
answer_alike : {K : Type 0} (tables : Tables) (m k n : Machine K) (instr : Instr) (o : Option (Result RunState Halt)) → StaysSame m k
    → IfSome o (λ answer. (outside : Outside) → ComesTo tables outside (does tables outside instr k) n answer)
    → IfSome o (λ answer. (outside : Outside) → ComesTo tables outside (does tables outside instr m) n answer)
answer_alike tables m k n instr (Some answer) same h =
    λ outside. subst (λ (x : State Frames Frames). ComesTo tables outside x n answer) (does_alike m k same tables outside instr) (h outside)
answer_alike tables m k n instr None same h = tt

pub done_alike : {K : Type 0} (tables : Tables) (m k n : Machine K) (instr : Instr) (done : AtOnce) → StaysSame m k → DoneAtOnce tables instr k n done
    → DoneAtOnce tables instr m n done
done_alike tables m k n instr done same d = record {
  done = answer_alike tables m k n instr (answer_of done) same d.done;
  ready = d.ready;
  whole = d.whole;
  limits = d.limits ∙ same.limits;
  not_done = λ q. let rest = d.not_done q in record {
    world = rest.world ∙ same.world;
    table = rest.table ∙ same.table;
    turns = rest.turns ∙ same.turns;
    begun = rest.begun ∙ same.begun;
    limits = rest.limits ∙ same.limits;
  };
  off_stack = d.off_stack;
}
