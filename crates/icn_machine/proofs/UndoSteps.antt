-- Assignments to variables of the world that are taken back at once, as steps of failing.
use Rattle.std.proofs.Common.{◌≡◌, ℕ, suc, true, nat_lt, [], Some, None, refl, sym, ap, ◌∙◌, subst, add-one}
use Rattle.std.specs.List.{All}
use Rattle.icn_value.specs.declared.item.Root.{Root}
use Rattle.icn_value.specs.declared.item.VarRef.TheVariants as VarRefs
use Rattle.icn_value.specs.declared.residual.Residual.{Residual}
use Rattle.icn_value.specs.declared.residual.Residual.TheVariants as Residuals
use Rattle.icn_value.specs.declared.val.Val.{Val}
use Rattle.icn_value.specs.Store.{Outside, Setting, bare_outside}
use Rattle.icn_value.specs.Values.{Whole}
use Rattle.icn_defs.specs.Applying.{again}
use Rattle.icn_defs.specs.ReadAndAssign.{undoes}
use Rattle.icn_defs.specs.Rows.{Outcome, fails as fails_row, wrong}
use Rattle.icn_heap.specs.Extents.{IsLive, value_in}
use Rattle.icn_heap.specs.Heaps.{extent_of, heap_of}
use Rattle.icn_vars.specs.declared.outcome.Outcome.TheVariants.{Fails as HeldFails}
use Rattle.icn_vars.specs.declared.world.World.{World}
use Rattle.icn_vars.specs.Outcomes.{outcome_in, residual_in}
use Rattle.icn_vars.specs.Worlds.{IsLiveRoot, KeepsItems, reach_of, root_in, setting_of, world_of}
use Rattle.icn_frames.specs.declared.layout.Why.TheVariants as Whys
use Rattle.icn_frames.specs.Newest.{IsHeldBy}
use Rattle.icn_frames.specs.StackInvariant.{SeenStack}
use Rattle.icn_frames.specs.Stacks as held
use Rattle.icn_frames.specs.Stacks.{FlatStack}
use Rattle.icn_code.specs.Codes.{Tables}
use Rattle.icn_run.specs.Stacks.{Frames, flat}
use Rattle.icn_run.specs.Step.{State, Store, all_names, failing, fails, here, outcome, running}
use Rattle.law_steps.specs.KeepingNames.{StepsKeepNames}
use Rattle.law_steps.specs.KeepingSizes.{StepsKeepSizes}
use Rattle.icn_control.specs.LiveStacks.{IsLiveStack, with_locals}
use Rattle.icn_control.specs.Machines.{IsSoundMachine, StandsAt, extent, stack_seen, store_seen}
use Rattle.icn_control.specs.StackAndWorld.{StandsWith}
use Rattle.icn_control.specs.StackViews.{stack_in}
use Rattle.icn_control.specs.TakenOperands.{KeepsCounts}
use Rattle.icn_control.specs.declared.machine.Machine.{Machine}
use Rattle.icn_control.specs.declared.machine.RunState.TheVariants as RunStates
use Rattle.icn_control.proofs.FailingStackSteps.{falls_by}
use Rattle.icn_control.proofs.GrowthSteps.{grown_store}
use Rattle.icn_control.proofs.KeptItems.{stack_stays}
use Rattle.icn_control.proofs.ListSteps.{on_running}
use Rattle.icn_control.proofs.LiteralSteps.{running_live}
use Rattle.icn_control.proofs.LiveCalls.{own_locals}
use Rattle.icn_control.proofs.LiveFrames.{live_resume}
use Rattle.icn_control.proofs.OperandValues.{here_is, live_locals}
use Rattle.icn_machine.specs.declared.at_once.AtOnce.{AtOnce}
use Rattle.icn_machine.specs.declared.at_once.AtOnce.TheVariants as AtOnces
use Rattle.icn_machine.specs.AnsweredAtOnce.{FailsAtOnce}
use Rattle.icn_machine.specs.AssignmentsInPlace.{PutsInto}
use Rattle.icn_machine.specs.Stepping.{IsReady}
use Rattle.icn_machine.specs.TurnsAtOnce.{FailsInTurn, a_turn_later}
use Rattle.icn_machine.proofs.AssignmentSteps.{stands_in}
use Rattle.icn_machine.proofs.FailingAtOnce.{fails_done, memory_failed, same_on}
use Rattle.icn_machine.proofs.FailingSteps.{failed}
use Rattle.icn_machine.proofs.GiveSteps.{fails_given}
use Rattle.icn_machine.proofs.OperateSteps.{in_turn, sound_after}
use Rattle.icn_machine.proofs.PerformSteps.{set_is}
use Rattle.icn_machine.proofs.TurnSteps.{in_turn_with}
use Rattle.icn_machine.proofs.WorldAtOnce.{in_both}

-- nothing was done
pub not_undone : (w : World) (m : FlatStack) → FailsInTurn w m w m AtOnces.Not
not_undone w m = record { step = λ tables st is more. tt; live = tt; kept = tt; counts = tt }

-- memory was wanting
pub lacks_undone : (w v : World) (m n : FlatStack) → FailsInTurn w m v n AtOnces.NoMemory
lacks_undone w v m n = record { step = λ tables st is more. tt; live = tt; kept = tt; counts = tt }

-- Taking back

-- what takes an assignment back
abbrev pub undo_residual : Root → Val → Residual
undo_residual root old = Residuals.UndoAssign (VarRefs.Whole root) old

-- the variable is of the world, and the value that it gets back
pub undo_live : (t : Tables) (w : World) (m : FlatStack) (rest : Residual) (root : Root) (old : Val) → IsHeldBy (Whys.Op rest) m
    → rest ≡ undo_residual root old → IsLiveStack t (reach_of w []) m
    → ((locals : ℕ) × IsLiveRoot (with_locals locals (reach_of w [])) root) × IsLive (extent_of w.heap) old
undo_live t w m rest root old held is live =
    let by : IsHeldBy (Whys.Op (undo_residual root old)) m = subst (λ (r : Residual). IsHeldBy (Whys.Op r) m) is held in
    let why = (live_resume t (reach_of w []) m by.0 (Whys.Op (undo_residual root old)) by.1 live).why_live in
    ((own_locals by.0, why.live.live_variable.live), why.live.live_value)

undone : (w v : World) (k : FlatStack) (root : Root) (old : Val) → PutsInto w root old v → All (IsLive (extent_of w.heap)) (held.locals k)
    → (st : Store Frames) → st.world ≡ world_of w
    → again (residual_in (extent_of w.heap) (undo_residual root old)) (here flat (stack_in (extent_of w.heap) k) st)
    ≡ outcome_in (extent_of v.heap) HeldFails (setting_of st.outside v (held.locals k))
undone w v k root old puts live st same =
    let all = extent_of w.heap in
    ap (λ (s : Setting). undoes (Whole (root_in all root)) (value_in all old) fails_row s) (here_is w k st same)
    ∙ puts st.outside (held.locals k) live (wrong 205 None) fails_row

-- it was taken back so, where the suspension came back
pub undoes_as_turn : (t : Tables) (w v : World) (m k : FlatStack) (rest : Residual) (root : Root) (old : Val) → held.resume m ≡ Some (Whys.Op rest, k)
    → rest ≡ undo_residual root old → IsLiveStack t (reach_of w []) m → held.set_locals (held.locals k) k ≡ k → PutsInto w root old v
    → KeepsItems (reach_of w []) (reach_of v []) → KeepsCounts w v → FailsInTurn w m v k AtOnces.Failing
undoes_as_turn t w v m k rest root old e is live back puts kept counts =
    let all = extent_of w.heap in
    let left : IsLiveStack t (reach_of w []) k = (live_resume t (reach_of w []) m k (Whys.Op rest) e live).rest in
    let on : Frames = stack_in all k in
    record {
      step = λ tables st same more.
          let later : Store Frames = a_turn_later st in
          let seen : Setting = setting_of st.outside v (held.locals k) in
          let event : Store Frames → State Frames Frames = λ s. outcome flat (again (residual_in all rest) (here flat on s)) on s in
          let leads : fails flat tables (stack_in all m) st ≡ event later
          = falls_by all m k (Whys.Op rest) e tables st ∙ in_turn tables st event more in
          let row : again (residual_in all rest) (here flat on later) ≡ outcome_in (extent_of v.heap) HeldFails seen
          = ap (λ (r : Residual). again (residual_in all r) (here flat on later)) is
          ∙ undone w v k root old puts (live_locals t (reach_of w []) k left) later same in
          subst (λ (s : State Frames Frames). StandsWith s later v k RunStates.Failing)
          (sym (leads ∙ ap (λ (o : Outcome). outcome flat o on later) row))
          (stands_in v k (held.locals k) later RunStates.Failing (outcome flat (outcome_in (extent_of v.heap) HeldFails seen) on later)
          (fails_given HeldFails k refl (extent_of v.heap) on seen later (set_is t w v k k kept left back)));
      live = λ tables l.
          stack_stays tables (reach_of w []) (reach_of v []) k kept (live_resume tables (reach_of w []) m k (Whys.Op rest) e l).rest;
      kept = kept;
      counts = counts;
    }

-- On a machine

-- one of which nothing has changed
pub same_in_both : {K : Type 0} (m : Machine K) (v : World) (s was : SeenStack) → m.stacks.table.running ≡ Some was.flat → m.stacks.spare ≡ was.spare
    → s ≡ was → v ≡ m.world → in_both m v s ≡ m
same_in_both m v s was runs spare e same = ap (λ (x : World). in_both m x s) same ∙ same_on m s was runs spare e

module _ {K : Type 0} (tables : Tables) (m : Machine K) (v : World) (s : SeenStack) (f : FlatStack)
    (runs : m.stacks.table.running ≡ Some f) (more : nat_lt m.turns (heap_of m.world.heap).bounds.turns ≡ true) (sound : IsSoundMachine tables m) where
  fails_running : FailsInTurn m.world f v s.flat AtOnces.Running → (outside : Outside)
      → StandsAt tables outside (failed tables m outside) (in_turn_with m v s) RunStates.Running
  fails_running d outside =
      let st : Store Frames = store_seen tables outside m in
      let all = extent_of v.heap in
      on_running m.stacks.table f (λ x. fails flat tables (stack_in (extent m) x) st) runs ∙ d.step tables st refl more
      ∙ ap (running (stack_in all s.flat))
      (grown_store tables (all_names tables) outside m.world v (suc m.turns) m.begun.items m.stacks.table (Some s.flat) d.kept sound.stacks)
      ∙ ap (λ (t : ℕ). let after = in_turn_with m v s in running (stack_seen after) (record (store_seen tables outside after) { turns = t }))
      (sym (add-one m.turns))

  fails_failing : FailsInTurn m.world f v s.flat AtOnces.Failing → (outside : Outside)
      → StandsAt tables outside (failed tables m outside) (in_turn_with m v s) RunStates.Failing
  fails_failing d outside =
      let st : Store Frames = store_seen tables outside m in
      let all = extent_of v.heap in
      on_running m.stacks.table f (λ x. fails flat tables (stack_in (extent m) x) st) runs ∙ d.step tables st refl more
      ∙ ap (failing (stack_in all s.flat))
      (grown_store tables (all_names tables) outside m.world v (suc m.turns) m.begun.items m.stacks.table (Some s.flat) d.kept sound.stacks)
      ∙ ap (λ (t : ℕ). let after = in_turn_with m v s in failing (stack_seen after) (record (store_seen tables outside after) { turns = t }))
      (sym (add-one m.turns))

  sound_failed : ((tables : Tables) → IsLiveStack tables (reach_of m.world []) f → IsLiveStack tables (reach_of v []) s.flat)
      → KeepsItems (reach_of m.world []) (reach_of v []) → KeepsCounts m.world v → IsSoundMachine tables (in_turn_with m v s)
  sound_failed live kept counts =
      sound_after m (in_turn_with m v s) tables s.flat kept refl refl refl sound
      (live tables (running_live tables (reach_of m.world []) m.stacks.table f runs sound.stacks)) counts

-- a step of failing that was done on a stack in a world was done on a machine
pub turn_failed : {K : Type 0} (tables : Tables) → StepsKeepNames → StepsKeepSizes → (m : Machine K) (v : World) (s : SeenStack) (f : FlatStack)
    → m.stacks.table.running ≡ Some f → nat_lt m.turns (heap_of m.world.heap).bounds.turns ≡ true → (done : AtOnce) → (done ≡ AtOnces.Not → ⊥)
    → FailsInTurn m.world f v s.flat done → IsReady tables m RunStates.Failing → FailsAtOnce tables m (in_turn_with m v s) done
turn_failed tables names sizes m v s f runs more AtOnces.Running some d ready =
    fails_done tables names sizes m (in_turn_with m v s) AtOnces.Running RunStates.Running refl (fails_running tables m v s f runs more ready.sound d)
    (sound_failed tables m v s f runs more ready.sound d.live d.kept d.counts) refl refl ready
turn_failed tables names sizes m v s f runs more AtOnces.Failing some d ready =
    fails_done tables names sizes m (in_turn_with m v s) AtOnces.Failing RunStates.Failing refl (fails_failing tables m v s f runs more ready.sound d)
    (sound_failed tables m v s f runs more ready.sound d.live d.kept d.counts) refl refl ready
turn_failed tables names sizes m v s f runs more AtOnces.Hopping some d ready = absurd (d.step tables (store_seen tables bare_outside m) refl more)
turn_failed tables names sizes m v s f runs more AtOnces.Over some d ready = absurd (d.step tables (store_seen tables bare_outside m) refl more)
turn_failed tables names sizes m v s f runs more AtOnces.AtBound some d ready = absurd (d.step tables (store_seen tables bare_outside m) refl more)
turn_failed tables names sizes m v s f runs more AtOnces.NoMemory some d ready = memory_failed tables m (in_turn_with m v s) refl
turn_failed tables names sizes m v s f runs more AtOnces.Not some d ready = absurd (some refl)
