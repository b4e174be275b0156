-- Failing at once, on a machine.
use Rattle.std.proofs.Common.{◌≡◌, ◌⊎◌, inl, inr, ◌<◌, ◌-◌, ◌==◌, ℕ, suc, Bool, true, false, nat_lt, length, [], Option, Some, None, IfOk, IfSome, Result, Ok, Err, OnOk, refl, sym, ap, ◌∙◌, subst, add-one, arith}
use Rattle.std.proofs.lemmas.Bool.{eqb-true, eqb-false}
use Rattle.icn_value.specs.declared.limits.Limits.{Limits}
use Rattle.icn_value.specs.Store.{Outside, bare_outside}
use Rattle.icn_heap.specs.Heaps.{heap_of}
use Rattle.icn_vars.specs.declared.outcome.Halt.{Halt}
use Rattle.icn_vars.specs.declared.outcome.Halt.TheVariants.{NoMemory}
use Rattle.icn_vars.specs.Worlds.{reach_of}
use Rattle.icn_frames.specs.StackInvariant.{SeenStack}
use Rattle.icn_frames.specs.Stacks.{FlatStack}
use Rattle.icn_code.specs.Codes.{Tables}
use Rattle.icn_run.specs.Stacks.{Frames, flat}
use Rattle.icn_run.specs.Step.{State, Store, failing, fails, running}
use Rattle.law_steps.specs.KeepingNames.{StepsKeepNames}
use Rattle.law_steps.specs.KeepingSizes.{StepsKeepSizes}
use Rattle.icn_streams.specs.Handed.{CallStreams}
use Rattle.icn_control.specs.LiveStacks.{StaysLive}
use Rattle.icn_control.specs.Machines.{ComesTo, HasStack, IsSoundMachine, SettlesAt, StandsAt, extent, stack_seen, store_seen}
use Rattle.icn_control.specs.StackViews.{stack_in}
use Rattle.icn_control.specs.declared.machine.Machine.{Machine}
use Rattle.icn_control.specs.declared.machine.RunState.{RunState}
use Rattle.icn_control.specs.declared.machine.RunState.TheVariants as RunStates
use Rattle.icn_control.proofs.ListSteps.{on_running}
use Rattle.icn_machine.specs.declared.at_once.AtOnce.{AtOnce}
use Rattle.icn_machine.specs.declared.at_once.AtOnce.TheVariants as AtOnces
use Rattle.icn_machine.specs.AnsweredAtOnce.{FailsAtOnce, FailsOnAtOnce, FailsThroughAtOnce, IfDone, answer_of, done_at, failing_at, fails_at_once, fails_in_turn, is_not}
use Rattle.icn_machine.specs.Counts.{FailsAsTurn}
use Rattle.icn_machine.specs.Stepping.{Advances, FailsFurther, GoesOn, IsFailing, IsReady, IsTurn, advances, stays}
use Rattle.icn_machine.proofs.AdvanceSteps.{at_failing}
use Rattle.icn_machine.proofs.AtOnceAnswers.{answer_at, if_answered, so_answered, was_done}
use Rattle.icn_machine.proofs.FailingSteps.{failed, failed_further, failed_kept, failed_performing, failed_quietly, lands_quietly}
use Rattle.icn_machine.proofs.InPlaceSteps.{a_turn_on, on_stack}
use Rattle.icn_machine.proofs.LoopSteps.{failing_left, goes_goes, within_more}
use Rattle.icn_machine.proofs.PerformEvents.{comes_performs, performs_as}
use Rattle.icn_machine.proofs.PlainCallSteps.{sound_called}

pub some_so : {A : Type 0} (r : Option A) (P Q : A → Type 0) → ((x : A) → P x → Q x) → IfSome r P → IfSome r Q
some_so (Some x) P Q f p = f x p
some_so None P Q f p = tt

-- A machine whose stack is as it was

pub same_on : {K : Type 0} (m : Machine K) (s was : SeenStack) → m.stacks.table.running ≡ Some was.flat → m.stacks.spare ≡ was.spare → s ≡ was
    → on_stack m s ≡ m
same_on {K} m s was runs spare e =
    let F : Option FlatStack → ℕ → Machine K = λ o n. record {
      world = m.world;
      stacks = record { table = record m.stacks.table { running = o }; spare = n };
      turns = m.turns;
      begun = m.begun;
      limits = m.limits;
    } in
    ap (on_stack m) e ∙ ap (λ (o : Option FlatStack). F o was.spare) (sym runs) ∙ ap (F m.stacks.table.running) (sym spare)

pub not_failed : {K : Type 0} (tables : Tables) (m n : Machine K) → n ≡ m → n.limits ≡ m.limits → FailsAtOnce tables m n AtOnces.Not
not_failed tables m n e limits = record { steps = tt; ready = tt; further = tt; limits = limits; not_done = λ q. e }

-- A step of failing that was done, and stands at a stage

pub fails_done : {K : Type 0} (tables : Tables) → StepsKeepNames → StepsKeepSizes → (m n : Machine K) (done : AtOnce) (stage : RunState)
    → answer_of done ≡ Some (Ok stage) → ((outside : Outside) → StandsAt tables outside (failed tables m outside) n stage) → IsSoundMachine tables n
    → HasStack n stage → n.limits ≡ m.limits → IsReady tables m RunStates.Failing → FailsAtOnce tables m n done
fails_done tables names sizes m n done stage e stands sound stack limits ready =
    let answer : Result RunState Halt = Ok stage in
    record {
      steps = if_answered done answer (λ a. (h : CallStreams) → Advances IsFailing tables m RunStates.Failing h n h a) e
          (λ h. failed_quietly tables m n h stage stands);
      ready = if_answered done answer (λ a. IfOk a (IsReady tables n)) e
          (record { sound = sound; stack = stack; kept = failed_kept tables names sizes m n stage ready.kept (lands_quietly tables m n stage stands) });
      further = if_answered done answer (λ a. IfOk a (FailsFurther m n)) e
          (failed_further tables m n stage ready.sound.bounds (lands_quietly tables m n stage stands));
      limits = limits;
      not_done = λ q. was_done done answer e q;
    }

-- Counts

turn_stands : {K : Type 0} (m : Machine K) (s : SeenStack) (tables : Tables) (was : Outside) (f : FlatStack) (stage : RunState)
    → m.stacks.table.running ≡ Some f → nat_lt m.turns (heap_of m.world.heap).bounds.turns ≡ true → FailsAsTurn f s.flat stage
    → StandsAt tables was (failed tables m was) (a_turn_on m s) stage
turn_stands m s tables was f RunStates.Running e more h =
    let st : Store Frames = store_seen tables was m in
    on_running m.stacks.table f (λ x. fails flat tables (stack_in (extent m) x) st) e ∙ h (extent m) tables st more
    ∙ ap (λ (t : ℕ). running (stack_in (extent m) s.flat) (record st { turns = t })) (sym (add-one m.turns))
turn_stands m s tables was f RunStates.Failing e more h =
    let st : Store Frames = store_seen tables was m in
    on_running m.stacks.table f (λ x. fails flat tables (stack_in (extent m) x) st) e ∙ h (extent m) tables st more
    ∙ ap (λ (t : ℕ). failing (stack_in (extent m) s.flat) (record st { turns = t })) (sym (add-one m.turns))
turn_stands m s tables was f RunStates.Hopping e more h = absurd (h (extent m) tables (store_seen tables was m) more)
turn_stands m s tables was f RunStates.Over e more h = absurd (h (extent m) tables (store_seen tables was m) more)
turn_stands m s tables was f RunStates.AtBound e more h = absurd (h (extent m) tables (store_seen tables was m) more)

pub memory_failed : {K : Type 0} (tables : Tables) (m n : Machine K) → n.limits ≡ m.limits → FailsAtOnce tables m n AtOnces.NoMemory
memory_failed tables m n limits =
    let leads : Outside → State Frames Frames = failed tables m in
    let lack : Result RunState Halt = Err NoMemory in
    record {
      steps = λ h. failed_performing tables m h n h lack
          (performs_as leads leads (λ was now answer. ComesTo tables now (leads was) n answer) (λ was now answer. SettlesAt tables now (leads was) n answer)
          h h lack (λ was. refl) (λ was now x. tt) (comes_performs tables leads n h lack (λ outside. tt)));
      ready = tt;
      further = tt;
      limits = limits;
      not_done = λ q. absurd (cc);
    }

-- what was done stands at a stage, or memory was wanting for it
data HowDone (done : AtOnce) : Type 0 where
  at_stage : (stage : RunState) → done ≡ done_at stage → HowDone done
  for_memory : done ≡ AtOnces.NoMemory → HowDone done

how_done : (done : AtOnce) → is_not done ≡ false → HowDone done
how_done AtOnces.Running some = at_stage RunStates.Running refl
how_done AtOnces.Failing some = at_stage RunStates.Failing refl
how_done AtOnces.Hopping some = at_stage RunStates.Hopping refl
how_done AtOnces.Over some = at_stage RunStates.Over refl
how_done AtOnces.AtBound some = at_stage RunStates.AtBound refl
how_done AtOnces.NoMemory some = for_memory refl
how_done AtOnces.Not some = cc

turn_runs : {K : Type 0} (m : Machine K) (s : SeenStack) (tables : Tables) (f : FlatStack) (stage : RunState)
    → nat_lt m.turns (heap_of m.world.heap).bounds.turns ≡ true → FailsAsTurn f s.flat stage → HasStack (a_turn_on m s) stage
turn_runs m s tables f RunStates.Running more h = refl
turn_runs m s tables f RunStates.Failing more h = refl
turn_runs m s tables f RunStates.Hopping more h = absurd (h (extent m) tables (store_seen tables bare_outside m) more)
turn_runs m s tables f RunStates.Over more h = tt
turn_runs m s tables f RunStates.AtBound more h = tt

-- a count went on, as a turn, and stands at a stage
count_stands : {K : Type 0} (tables : Tables) → StepsKeepNames → StepsKeepSizes → (m : Machine K) (s : SeenStack) (f : FlatStack) (stage : RunState)
    → m.stacks.table.running ≡ Some f → nat_lt m.turns (heap_of m.world.heap).bounds.turns ≡ true → FailsAsTurn f s.flat stage → StaysLive f s.flat
    → IsReady tables m RunStates.Failing → FailsAtOnce tables m (a_turn_on m s) (done_at stage)
count_stands tables names sizes m s f stage e more counts live ready =
    fails_done tables names sizes m (a_turn_on m s) (done_at stage) stage (answer_at stage) (λ o. turn_stands m s tables o f stage e more counts)
    (sound_called m s tables f e (live tables (reach_of m.world [])) ready.sound) (turn_runs m s tables f stage more counts) refl ready

-- the same, if memory was not wanting
pub count_failed : {K : Type 0} (tables : Tables) → StepsKeepNames → StepsKeepSizes → (m : Machine K) (s : SeenStack) (f : FlatStack) (done : AtOnce)
    → m.stacks.table.running ≡ Some f → nat_lt m.turns (heap_of m.world.heap).bounds.turns ≡ true
    → IfDone done (λ answer. IfOk answer (FailsAsTurn f s.flat)) → IfDone done (λ answer. OnOk answer (StaysLive f s.flat)) → is_not done ≡ false
    → IsReady tables m RunStates.Failing → FailsAtOnce tables m (a_turn_on m s) done
count_failed tables names sizes m s f done e more counts live some ready = by (how_done done some)
  where
    by : HowDone done → FailsAtOnce tables m (a_turn_on m s) done
    by (at_stage stage is) =
        let answer : Result RunState Halt = Ok stage in
        let answered : answer_of done ≡ Some answer = ap answer_of is ∙ answer_at stage in
        subst (λ (d : AtOnce). FailsAtOnce tables m (a_turn_on m s) d) (sym is)
        (count_stands tables names sizes m s f stage e more (so_answered done answer (λ a. IfOk a (FailsAsTurn f s.flat)) answered counts)
        (so_answered done answer (λ a. OnOk a (StaysLive f s.flat)) answered live) ready)
    by (for_memory is) = subst (λ (d : AtOnce). FailsAtOnce tables m (a_turn_on m s) d) (sym is) (memory_failed tables m (a_turn_on m s) refl)

-- Some steps

-- in one turn so far
pub record FailsSoFar {K : Type 0} (tables : Tables) (m n : Machine K) (done : AtOnce) : Type 0 where
  pub steps : (h : CallStreams) → GoesOn IsFailing tables m RunStates.Failing h n h (failing_at done)
  pub ready : IfOk (failing_at done) (IsReady tables n)
  pub within : done ≡ AtOnces.Failing → (n.turns ≡ m.turns) ⊎ IsTurn m n
  pub limits : n.limits ≡ m.limits

pub none_so_far : {K : Type 0} (tables : Tables) (m : Machine K) → IsReady tables m RunStates.Failing → FailsSoFar tables m m AtOnces.Failing
none_so_far tables m ready = record { steps = λ h. stays refl refl refl; ready = ready; within = λ q. inl refl; limits = refl }

pub in_turn_is : (done : AtOnce) (now turns : ℕ) → fails_in_turn done now turns ≡ true → (done ≡ AtOnces.Failing) × (now ≡ turns)
in_turn_is AtOnces.Failing now turns e = (refl, eqb-true _ _ e)
in_turn_is _ now turns e = cc

-- and one more
step_goes : {K : Type 0} (tables : Tables) (m n k : Machine K) (done : AtOnce) → FailsSoFar tables m n AtOnces.Failing → FailsAtOnce tables n k done
    → (h : CallStreams) → GoesOn IsFailing tables m RunStates.Failing h k h (failing_at done)
step_goes {K} tables m n k done f s h = by done s.steps s.not_done
  where
    then_one : (answer : Result RunState Halt) → Advances IsFailing tables n RunStates.Failing h k h answer
        → GoesOn IsFailing tables m RunStates.Failing h k h answer
    then_one answer p =
        goes_goes IsFailing tables m RunStates.Failing h n RunStates.Failing h k h answer refl (at_failing tables n RunStates.Failing refl) (f.steps h)
        (advances p)

    by : (d : AtOnce) → IfDone d (λ answer. (h : CallStreams) → Advances IsFailing tables n RunStates.Failing h k h answer) → (d ≡ AtOnces.Not → k ≡ n)
        → GoesOn IsFailing tables m RunStates.Failing h k h (failing_at d)
    by AtOnces.Running p q = then_one (Ok RunStates.Running) (p h)
    by AtOnces.Failing p q = then_one (Ok RunStates.Failing) (p h)
    by AtOnces.Hopping p q = then_one (Ok RunStates.Hopping) (p h)
    by AtOnces.Over p q = then_one (Ok RunStates.Over) (p h)
    by AtOnces.AtBound p q = then_one (Ok RunStates.AtBound) (p h)
    by AtOnces.NoMemory p q = then_one (Err NoMemory) (p h)
    by AtOnces.Not p q = subst (λ (x : Machine K). GoesOn IsFailing tables m RunStates.Failing h x h (Ok RunStates.Failing)) (sym (q refl)) (f.steps h)

step_ready : {K : Type 0} (tables : Tables) (n k : Machine K) (done : AtOnce) → IsReady tables n RunStates.Failing → FailsAtOnce tables n k done
    → IfOk (failing_at done) (IsReady tables k)
step_ready {K} tables n k done r s = by done s.ready s.not_done
  where
    by : (d : AtOnce) → IfDone d (λ answer. IfOk answer (IsReady tables k)) → (d ≡ AtOnces.Not → k ≡ n) → IfOk (failing_at d) (IsReady tables k)
    by AtOnces.Running p q = p
    by AtOnces.Failing p q = p
    by AtOnces.Hopping p q = p
    by AtOnces.Over p q = p
    by AtOnces.AtBound p q = p
    by AtOnces.NoMemory p q = p
    by AtOnces.Not p q = subst (λ (x : Machine K). IsReady tables x RunStates.Failing) (sym (q refl)) r

further_is : {K : Type 0} (tables : Tables) (n k : Machine K) (done : AtOnce) → FailsAtOnce tables n k done → done ≡ AtOnces.Failing
    → FailsFurther n k RunStates.Failing
further_is tables n k done s e = by done s.further e
  where
    by : (d : AtOnce) → IfDone d (λ answer. IfOk answer (FailsFurther n k)) → d ≡ AtOnces.Failing → FailsFurther n k RunStates.Failing
    by AtOnces.Failing p q = p
    by _ p q = cc

pub more_so_far : {K : Type 0} (tables : Tables) (m n k : Machine K) (done : AtOnce) → FailsSoFar tables m n AtOnces.Failing → n.turns ≡ m.turns
    → FailsAtOnce tables n k done → FailsSoFar tables m k done
more_so_far tables m n k done f same s = record {
  steps = step_goes tables m n k done f s;
  ready = step_ready tables n k done f.ready s;
  within = λ q. within_more m n k RunStates.Failing same f.limits (further_is tables n k done s q);
  limits = s.limits ∙ f.limits;
}

less_left : (b : Bool) (x y : ℕ) → (b ≡ true → x < y) → failing_left b x < suc y
less_left true x y f = let l = f refl in omega (arith, l)
less_left false x y f = omega arith

-- fewer cells are left in a turn
pub cells_fall : {K : Type 0} (tables : Tables) (n k : Machine K) (done : AtOnce) (turns : ℕ) → n.turns ≡ turns → FailsAtOnce tables n k done
    → failing_left (fails_in_turn done k.turns turns) (length (stack_seen k).cells) < suc (length (stack_seen n).cells)
cells_fall tables n k done turns same s =
    less_left (fails_in_turn done k.turns turns) (length (stack_seen k).cells) (length (stack_seen n).cells)
    (λ on. let is = in_turn_is done k.turns turns on in by (further_is tables n k done s is.0) is.1)
  where
    by : FailsFurther n k RunStates.Failing → k.turns ≡ turns → length (stack_seen k).cells < length (stack_seen n).cells
    by (inl t) e = let more = t.more in absurd (omega (arith, more, same, e))
    by (inr t) e = t.1

pub so_far_ended : {K : Type 0} (tables : Tables) (m n : Machine K) (done : AtOnce) → FailsSoFar tables m n done
    → fails_in_turn done n.turns m.turns ≡ false → FailsOnAtOnce tables m n done
so_far_ended tables m n done f off = record {
  steps = f.steps;
  ready = f.ready;
  turn = λ q. turned (f.within q) (sym (ap (λ (d : AtOnce). fails_in_turn d n.turns m.turns) q) ∙ off);
  limits = f.limits;
}
  where
    turned : (n.turns ≡ m.turns) ⊎ IsTurn m n → (n.turns == m.turns) ≡ false → IsTurn m n
    turned (inr t) e = t
    turned (inl t) e = absurd (eqb-false _ _ e t)

-- Several turns

pub record FailsAllTheWay {K : Type 0} (tables : Tables) (m n : Machine K) (done : AtOnce) : Type 0 where
  pub steps : (h : CallStreams) → GoesOn IsFailing tables m RunStates.Failing h n h (failing_at done)
  pub ready : IfOk (failing_at done) (IsReady tables n)
  pub limits : n.limits ≡ m.limits

pub no_turn_yet : {K : Type 0} (tables : Tables) (m : Machine K) → IsReady tables m RunStates.Failing → FailsAllTheWay tables m m AtOnces.Failing
no_turn_yet tables m ready = record { steps = λ h. stays refl refl refl; ready = ready; limits = refl }

pub turn_after : {K : Type 0} (tables : Tables) (m n k : Machine K) (done : AtOnce) → FailsAllTheWay tables m n AtOnces.Failing
    → FailsOnAtOnce tables n k done → FailsAllTheWay tables m k done
turn_after tables m n k done f s = record {
  steps = λ h. goes_goes IsFailing tables m RunStates.Failing h n RunStates.Failing h k h (failing_at done) refl (at_failing tables n RunStates.Failing refl)
      (f.steps h) (s.steps h);
  ready = s.ready;
  limits = s.limits ∙ f.limits;
}

-- fewer turns are left
pub turns_left_fall : {K : Type 0} (tables : Tables) (n k : Machine K) (done : AtOnce) → FailsOnAtOnce tables n k done
    → failing_left (fails_at_once done) (k.limits.turns - k.turns) < suc (n.limits.turns - n.turns)
turns_left_fall tables n k done s = by done s.turn
  where
    limit : k.limits.turns ≡ n.limits.turns
    limit = ap (λ (l : Limits). l.turns) s.limits

    by : (d : AtOnce) → (d ≡ AtOnces.Failing → IsTurn n k) → failing_left (fails_at_once d) (k.limits.turns - k.turns) < suc (n.limits.turns - n.turns)
    by AtOnces.Failing t = let turn = t refl in let more = turn.more in let within = turn.within in omega (arith, limit, more, within)
    by AtOnces.Running t = omega arith
    by AtOnces.Hopping t = omega arith
    by AtOnces.Over t = omega arith
    by AtOnces.AtBound t = omega arith
    by AtOnces.NoMemory t = omega arith
    by AtOnces.Not t = omega arith

pub way_ended : {K : Type 0} (tables : Tables) (m n : Machine K) (done : AtOnce) → FailsAllTheWay tables m n done → is_not done ≡ false
    → FailsThroughAtOnce tables m n done
way_ended tables m n done f some = record {
  steps = f.steps;
  ready = f.ready;
  limits = f.limits;
  some = λ q. let bad : true ≡ false = sym (ap is_not q) ∙ some in absurd (cc);
}

-- where something else is to be resumed
pub way_stopped : {K : Type 0} (tables : Tables) (m n : Machine K) (done : AtOnce) → FailsAllTheWay tables m n done → is_not done ≡ true
    → FailsThroughAtOnce tables m n AtOnces.Failing
way_stopped tables m n AtOnces.Not f e = record { steps = f.steps; ready = f.ready; limits = f.limits; some = λ q. absurd (cc) }
way_stopped tables m n _ f e = cc
