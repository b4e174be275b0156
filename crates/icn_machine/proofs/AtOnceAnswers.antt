-- What is answered of an instruction that was done at once.
use Rattle.std.proofs.Common.{◌≡◌, ◌≢◌, ◌-◌, ℕ, suc, true, false, Option, Some, None, IfOk, IfSome, IsSome, Result, Ok, Err, refl, sym, ap, ◌∙◌, subst, arith}
use Rattle.std.proofs.lemmas.Option.{same_Some}
use Rattle.icn_text.specs.declared.op.Op.{Op}
use Rattle.icn_text.specs.declared.op.Op.TheVariants as Ops
use Rattle.icn_value.specs.Store.{Outside}
use Rattle.icn_vars.specs.declared.outcome.Halt.{Halt}
use Rattle.icn_vars.specs.declared.outcome.Halt.TheVariants.{NoMemory}
use Rattle.icn_frames.specs.Stacks as held
use Rattle.icn_frames.specs.Stacks.{FlatStack}
use Rattle.icn_coexp.specs.Transfers.{CoexpTable}
use Rattle.icn_code.specs.Codes.{Tables}
use Rattle.icn_code.specs.declared.instr.Instr.{Instr}
use Rattle.icn_code.specs.declared.instr.Instr.TheVariants as Instrs
use Rattle.icn_run.specs.Stacks.{Frames, flat}
use Rattle.icn_run.specs.Step.{State, instruction_at, running, step}
use Rattle.law_steps.specs.KeepingNames.{MayCall, StepsKeepNames}
use Rattle.law_steps.specs.KeepingSizes.{StepsKeepSizes}
use Rattle.icn_streams.specs.Handed.{CallStreams}
use Rattle.icn_control.specs.Machines.{ComesTo, HasStack, IsSoundMachine, SettlesAt, StandsAt, does, stack_seen, store_seen}
use Rattle.icn_control.specs.declared.machine.Machine.{Machine}
use Rattle.icn_control.specs.declared.machine.RunState.{RunState}
use Rattle.icn_control.specs.declared.machine.RunState.TheVariants as RunStates
use Rattle.icn_instructions.specs.Groups.{group_of}
use Rattle.icn_instructions.specs.declared.groups.InstrGroup.TheVariants as Groups
use Rattle.icn_machine.specs.declared.at_once.AtOnce.{AtOnce}
use Rattle.icn_machine.specs.declared.at_once.AtOnce.TheVariants as AtOnces
use Rattle.icn_machine.specs.declared.stepping.AfterStep.{AfterStep}
use Rattle.icn_machine.specs.AfterInstruction.{stage_result}
use Rattle.icn_machine.specs.AnsweredAtOnce.{AddsNothing, DoneAtOnce, FailsThroughAtOnce, Finishes, IfDone, StepsAtOnce, answer_of, done_at, done_if, failing_at, fails_at_once, is_done_in_world, is_not, is_unfinished, stepping_at}
use Rattle.icn_machine.specs.DoneInPlace.{DoneInPlace, IsPast, StaysSame}
use Rattle.icn_machine.specs.Performing.{SettlesOn}
use Rattle.icn_machine.specs.Stepping.{Advances, EndsWhole, IsAt, IsDoing, IsFailing, IsReady, applies_op, is_applied, is_failing, is_whole}
use Rattle.icn_machine.proofs.AdvanceSteps.{at_failing}
use Rattle.icn_machine.proofs.AtOnceSteps.{same_sound, same_stack, same_store, settled_at_once}
use Rattle.icn_machine.proofs.DoingSteps.{then_fails, whole_done}
use Rattle.icn_machine.proofs.NextSteps.{comes_quietly, done_keeps, next_step, ready_after, stack_applies_none}
use Rattle.icn_machine.proofs.PerformEvents.{comes_performs, performs_as}

-- The answers

pub answer_at : (stage : RunState) → answer_of (done_at stage) ≡ Some (Ok stage)
answer_at RunStates.Running = refl
answer_at RunStates.Failing = refl
answer_at RunStates.Hopping = refl
answer_at RunStates.Over = refl
answer_at RunStates.AtBound = refl

-- what holds of an answer that is known
pub if_answered : (done : AtOnce) (answer : Result RunState Halt) (P : Result RunState Halt → Type 0) → answer_of done ≡ Some answer → P answer
    → IfDone done P
if_answered done answer P e p = subst (λ (o : Option (Result RunState Halt)). IfSome o P) (sym e) p

-- and the other way round
pub so_answered : (done : AtOnce) (answer : Result RunState Halt) (P : Result RunState Halt → Type 0) → answer_of done ≡ Some answer → IfDone done P
    → P answer
so_answered done answer P e p = subst (λ (o : Option (Result RunState Halt)). IfSome o P) e p

-- what was answered was done
pub was_done : {A : Type 0} (done : AtOnce) (answer : Result RunState Halt) → answer_of done ≡ Some answer → done ≡ AtOnces.Not → A
was_done done answer e q =
    let none : Some answer ≡ None = sym e ∙ ap answer_of q in
    absurd (cc)

-- Instructions

-- one that was done, and stands at a stage
pub stands_done : {K : Type 0} (tables : Tables) → StepsKeepNames → StepsKeepSizes → (m n : Machine K) (instr : Instr) (done : AtOnce) (stage : RunState)
    → answer_of done ≡ Some (Ok stage) → (MayCall instr → ⊥) → IsDoing tables m instr
    → ((outside : Outside) → StandsAt tables outside (does tables outside instr m) n stage) → IsSoundMachine tables n → HasStack n stage
    → n.limits ≡ m.limits → DoneAtOnce tables instr m n done
stands_done tables names sizes m n instr done stage e calls doing stands sound stack limits =
    let answer : Result RunState Halt = Ok stage in
    let comes : (outside : Outside) → ComesTo tables outside (does tables outside instr m) n answer = stands in
    record {
      done = if_answered done answer (λ a. (outside : Outside) → ComesTo tables outside (does tables outside instr m) n a) e comes;
      ready = if_answered done answer (λ a. IfOk a (IsReady tables n)) e
          (ready_after tables (λ o. does tables o instr m) n answer (done_keeps tables names sizes m n instr answer calls doing)
          (comes_quietly tables (λ o. does tables o instr m) n answer comes) sound stack);
      whole = λ w. if_answered done answer EndsWhole e (whole_done tables m n instr answer w comes (λ t q. cc));
      limits = limits;
      not_done = λ q. was_done done answer e q;
      off_stack = λ q. was_done done answer e q;
    }

-- one for which memory was wanting
pub lacks_memory : {K : Type 0} (tables : Tables) (m n : Machine K) (instr : Instr) → (is_whole instr ≡ true → ⊥) → n.limits ≡ m.limits
    → DoneAtOnce tables instr m n AtOnces.NoMemory
lacks_memory tables m n instr none limits = record {
  done = λ outside. tt;
  ready = tt;
  whole = λ w. absurd (none w);
  limits = limits;
  not_done = λ q. absurd (cc);
  off_stack = λ q. absurd (cc);
}

-- one that was done in place, or not
pub placed_done : {K : Type 0} (tables : Tables) (m n : Machine K) (instr : Instr) (r : Option RunState) → DoneInPlace tables instr m n r
    → IfSome r (IsReady tables n) → (is_whole instr ≡ true → IfSome r (λ stage. is_failing stage ≡ false)) → group_of instr ≢ Groups.Stack
    → DoneAtOnce tables instr m n (done_if r)
placed_done tables m n instr (Some stage) d ready whole off =
    let done : AtOnce = done_at stage in
    let answer : Result RunState Halt = Ok stage in
    let e : answer_of done ≡ Some answer = answer_at stage in
    record {
      done = if_answered done answer (λ a. (outside : Outside) → ComesTo tables outside (does tables outside instr m) n a) e d.done;
      ready = if_answered done answer (λ a. IfOk a (IsReady tables n)) e ready;
      whole = λ w. if_answered done answer EndsWhole e (whole w);
      limits = d.limits;
      not_done = λ q. was_done done answer e q;
      off_stack = λ q. off;
    }
placed_done tables m n instr None d ready whole off = record {
  done = tt;
  ready = tt;
  whole = λ w. tt;
  limits = d.limits;
  not_done = λ q. d.not_done refl;
  off_stack = λ q. off;
}

-- one that was not begun
pub not_done_at_once : {K : Type 0} (tables : Tables) (m : Machine K) (instr : Instr) → group_of instr ≢ Groups.Stack
    → DoneAtOnce tables instr m m AtOnces.Not
not_done_at_once tables m instr off = record {
  done = tt;
  ready = tt;
  whole = λ w. tt;
  limits = refl;
  not_done = λ q. record { world = refl; table = refl; turns = refl; begun = refl; limits = refl };
  off_stack = λ q. off;
}

pub off_op : (op : Op) → group_of (Instrs.Op op) ≢ Groups.Stack
off_op op e = let none : applies_op op ≡ false = stack_applies_none (Instrs.Op op) e in by_op op e none
  where
    by_op : (o : Op) → group_of (Instrs.Op o) ≡ Groups.Stack → applies_op o ≡ false → ⊥
    by_op Ops.Refresh q r = cc
    by_op _ q r = cc

pub off_invoke : (n : ℕ) → group_of (Instrs.Invoke n) ≢ Groups.Stack
off_invoke n e = cc

-- one that may be done on the stack and the world
pub in_world_applies_none : (instr : Instr) → is_done_in_world instr ≡ true → is_applied instr ≡ false
in_world_applies_none Instrs.Eret e = refl
in_world_applies_none Instrs.Pret e = refl
in_world_applies_none Instrs.Pfail e = refl
in_world_applies_none Instrs.Psusp e = refl
in_world_applies_none Instrs.Limit e = refl
in_world_applies_none _ e = cc

pub in_world_never_whole : (instr : Instr) → is_done_in_world instr ≡ true → is_whole instr ≡ true → ⊥
in_world_never_whole Instrs.Eret e w = cc
in_world_never_whole Instrs.Pret e w = cc
in_world_never_whole Instrs.Pfail e w = cc
in_world_never_whole Instrs.Psusp e w = cc
in_world_never_whole Instrs.Limit e w = cc
in_world_never_whole _ e w = cc

-- The step

settles_memory : {K : Type 0} (tables : Tables) (m n : Machine K) (instr : Instr) (h : CallStreams)
    → SettlesOn tables (λ outside. does tables outside instr m) n h h (Err NoMemory)
settles_memory tables m n instr h =
    let leads : Outside → State Frames Frames = λ outside. does tables outside instr m in
    let lack : Result RunState Halt = Err NoMemory in
    performs_as leads leads (λ was now answer. ComesTo tables now (leads was) n answer) (λ was now answer. SettlesAt tables now (leads was) n answer) h h lack
    (λ was. refl) (λ was now x. tt) (comes_performs tables leads n h lack (λ outside. tt))

-- where the instruction that is due was done
pub steps_done : {K : Type 0} (tables : Tables) (m k n : Machine K) (instr : Instr) (done : AtOnce)
    → ((outside : Outside) → step flat tables (running (stack_seen m) (store_seen tables outside m)) ≡ does tables outside instr k)
    → IfDone done (λ answer. (outside : Outside) → ComesTo tables outside (does tables outside instr k) n answer)
    → IfDone done (λ answer. (h : CallStreams) → Advances IsFailing tables m RunStates.Running h n h answer)
steps_done tables m k n instr AtOnces.Running e f =
    λ h. next_step tables m k instr h n h (Ok RunStates.Running) e (settled_at_once tables k n instr h RunStates.Running f)
steps_done tables m k n instr AtOnces.Failing e f =
    λ h. next_step tables m k instr h n h (Ok RunStates.Failing) e (settled_at_once tables k n instr h RunStates.Failing f)
steps_done tables m k n instr AtOnces.Hopping e f =
    λ h. next_step tables m k instr h n h (Ok RunStates.Hopping) e (settled_at_once tables k n instr h RunStates.Hopping f)
steps_done tables m k n instr AtOnces.Over e f =
    λ h. next_step tables m k instr h n h (Ok RunStates.Over) e (settled_at_once tables k n instr h RunStates.Over f)
steps_done tables m k n instr AtOnces.AtBound e f =
    λ h. next_step tables m k instr h n h (Ok RunStates.AtBound) e (settled_at_once tables k n instr h RunStates.AtBound f)
steps_done tables m k n instr AtOnces.NoMemory e f = λ h. next_step tables m k instr h n h (Err NoMemory) e (settles_memory tables k n instr h)
steps_done tables m k n instr AtOnces.Not e f = tt

-- What is left of the step

-- it was done, or it was not
pub other_done : {A : Type 0} (done d : AtOnce) → is_not d ≡ false → done ≡ d → done ≡ AtOnces.Not → A
other_done done d off is q = let bad : true ≡ false = sym (ap is_not q) ∙ ap is_not is ∙ off in absurd (cc)

pub finishes_as : {K : Type 0} (tables : Tables) (m : Machine K) (before : CallStreams) (n : Machine K) (after : CallStreams) (result : Result AfterStep Halt)
    (done d : AtOnce) → done ≡ d → Finishes tables m before n after result d → Finishes tables m before n after result done
finishes_as tables m before n after result done d e f = subst (λ (x : AtOnce). Finishes tables m before n after result x) (sym e) f

pub ready_stopped : {K : Type 0} (tables : Tables) (m : Machine K) (done d : AtOnce) → done ≡ d → IfOk (stepping_at done) (IsReady tables m)
    → IfOk (stepping_at d) (IsReady tables m)
ready_stopped tables m done d e r = subst (λ (x : AtOnce). IfOk (stepping_at x) (IsReady tables m)) e r

-- on a machine of which nothing has changed
module _ {K : Type 0} (tables : Tables) (m k : Machine K) (same : StaysSame m k) where
  at_alike : (was : Outside) (state : State Frames Frames) → IsAt tables was state m RunStates.Running → IsAt tables was state k RunStates.Running
  at_alike was state at =
      at ∙ ap (λ (s : Frames). running s (store_seen tables was m)) (sym (same_stack m k same))
      ∙ ap (running (stack_seen k)) (sym (same_store m k same tables was))

  pub advances_alike : (before : CallStreams) (n : Machine K) (after : CallStreams) (result : Result RunState Halt)
      → Advances IsFailing tables k RunStates.Running before n after result → Advances IsFailing tables m RunStates.Running before n after result
  advances_alike before n after result p = record {
    answers = λ was state at told. p.answers was state (at_alike was state at) told;
    meant = λ was state at. p.meant was state (at_alike was state at);
    taken = p.taken;
    caused = p.caused;
  }

  pub ready_alike : IsReady tables m RunStates.Running → IsReady tables k RunStates.Running
  ready_alike r = record {
    sound = same_sound m k same tables r.sound;
    stack = subst (λ (t : CoexpTable). IsSome t.running) (sym same.table) r.stack;
    kept = (r.kept.0, (r.kept.1.0, (at_alike r.kept.0 r.kept.1.0 r.kept.1.1.0, r.kept.1.1.1)));
  }

  pub instr_alike : (instr : Instr) → instruction_at flat tables (stack_seen k) ≡ Some instr → instruction_at flat tables (stack_seen m) ≡ Some instr
  instr_alike instr at = ap (λ (s : Frames). instruction_at flat tables s) (sym (same_stack m k same)) ∙ at

pub ready_alike_done : {K : Type 0} (tables : Tables) (m k : Machine K) (done : AtOnce) → IsReady tables m RunStates.Running → StepsAtOnce tables m k done
    → IfOk (stepping_at done) (IsReady tables k)
ready_alike_done tables m k AtOnces.Running r s = s.ready
ready_alike_done tables m k AtOnces.Failing r s = s.ready
ready_alike_done tables m k AtOnces.Hopping r s = s.ready
ready_alike_done tables m k AtOnces.Over r s = s.ready
ready_alike_done tables m k AtOnces.AtBound r s = s.ready
ready_alike_done tables m k AtOnces.NoMemory r s = tt
ready_alike_done tables m k AtOnces.Not r s = ready_alike tables m k (s.not_done refl) r

pub off_alike : {K : Type 0} (tables : Tables) (m k : Machine K) (done : AtOnce) → StepsAtOnce tables m k done → done ≡ AtOnces.Not → (instr : Instr)
    → instruction_at flat tables (stack_seen k) ≡ Some instr → group_of instr ≢ Groups.Stack
off_alike tables m k done s q instr at = s.off_stack q instr (instr_alike tables m k (s.not_done q) instr at)

over_then : {K : Type 0} (tables : Tables) (m : Machine K) (before : CallStreams) (k n : Machine K) (after : CallStreams) (result : Result AfterStep Halt)
    (answer : Result RunState Halt)
    → Advances IsFailing tables m RunStates.Running before k before answer → AddsNothing k before n after result answer
    → Advances IsFailing tables m RunStates.Running before n after (stage_result result)
over_then {K} tables m before k n after result answer p f =
    subst (λ (x : Machine K). Advances IsFailing tables m RunStates.Running before x after (stage_result result)) (sym f.0)
    (subst (λ (x : CallStreams). Advances IsFailing tables m RunStates.Running before k x (stage_result result)) (sym f.1.0)
    (subst (λ (x : Result RunState Halt). Advances IsFailing tables m RunStates.Running before k before x) (sym f.1.1) p))

-- the whole step
pub finished : {K : Type 0} (tables : Tables) (m : Machine K) (before : CallStreams) (k n : Machine K) (after : CallStreams) (result : Result AfterStep Halt)
    (done : AtOnce) → StepsAtOnce tables m k done → Finishes tables k before n after result done
    → Advances IsFailing tables m RunStates.Running before n after (stage_result result)
finished tables m before k n after result AtOnces.Running s f = over_then tables m before k n after result (Ok RunStates.Running) (s.steps before) f
finished tables m before k n after result AtOnces.Failing s f =
    then_fails tables m RunStates.Running before k RunStates.Failing before n after (stage_result result) refl (at_failing tables k RunStates.Failing refl)
    (s.steps before) f
finished tables m before k n after result AtOnces.Hopping s f =
    then_fails tables m RunStates.Running before k RunStates.Hopping before n after (stage_result result) refl (at_failing tables k RunStates.Hopping refl)
    (s.steps before) f
finished tables m before k n after result AtOnces.Over s f = over_then tables m before k n after result (Ok RunStates.Over) (s.steps before) f
finished tables m before k n after result AtOnces.AtBound s f = over_then tables m before k n after result (Ok RunStates.AtBound) (s.steps before) f
finished tables m before k n after result AtOnces.NoMemory s f = over_then tables m before k n after result (Err NoMemory) (s.steps before) f
finished tables m before k n after result AtOnces.Not s f = advances_alike tables m k (s.not_done refl) before n after (stage_result result) f

not_lacking : (result : Result AfterStep Halt) (stage : RunState) → stage_result result ≡ Ok stage → result ≢ Err NoMemory
not_lacking result stage e q =
    let bad : ◌≡◌ {A = Result RunState Halt} (Ok stage) (Err NoMemory) = sym e ∙ ap stage_result q in
    absurd (cc)

-- an instruction that is done whole never lacks memory
pub finished_memory : {K : Type 0} (tables : Tables) (m : Machine K) (before : CallStreams) (k n : Machine K) (after : CallStreams)
    (result : Result AfterStep Halt) (done : AtOnce) → StepsAtOnce tables m k done → Finishes tables k before n after result done → (instr : Instr)
    → instruction_at flat tables (stack_seen m) ≡ Some instr → is_whole instr ≡ true
    → (done ≡ AtOnces.Not → (i : Instr) → instruction_at flat tables (stack_seen k) ≡ Some i → is_whole i ≡ true → result ≢ Err NoMemory)
    → result ≢ Err NoMemory
finished_memory tables m before k n after result AtOnces.Running s f instr at w slow = not_lacking result RunStates.Running f.1.1
finished_memory tables m before k n after result AtOnces.Failing s f instr at w slow = let bad : true ≡ false = s.whole instr at w in absurd (cc)
finished_memory tables m before k n after result AtOnces.Hopping s f instr at w slow = let bad : true ≡ false = s.whole instr at w in absurd (cc)
finished_memory tables m before k n after result AtOnces.Over s f instr at w slow = not_lacking result RunStates.Over f.1.1
finished_memory tables m before k n after result AtOnces.AtBound s f instr at w slow = not_lacking result RunStates.AtBound f.1.1
finished_memory tables m before k n after result AtOnces.NoMemory s f instr at w slow = absurd (s.whole instr at w)
finished_memory tables m before k n after result AtOnces.Not s f instr at w slow =
    let same = s.not_done refl in
    slow refl instr (ap (λ (x : Frames). instruction_at flat tables x) (same_stack m k same) ∙ at) w

-- The instruction that is due

pub not_is : (done : AtOnce) → is_not done ≡ true → done ≡ AtOnces.Not
not_is AtOnces.Not e = refl
not_is _ e = cc

pub failing_is : (done : AtOnce) → fails_at_once done ≡ true → done ≡ AtOnces.Failing
failing_is AtOnces.Failing e = refl
failing_is _ e = cc

-- the address of a stack that stands at the next one
pub next_address : (f was : FlatStack) (next : ℕ) → Some f ≡ Some (held.go (suc was.address) was) → next ≡ f.address → next ≡ suc was.address
next_address f was next e n = n ∙ ap (λ (x : FlatStack). x.address) (same_Some f (held.go (suc was.address) was) e)

-- the stack at the address before it
pub back_again : (f g was : FlatStack) (next : ℕ) → Some f ≡ Some (held.go (suc was.address) was) → next ≡ f.address → g ≡ held.go (next - 1) f → g ≡ was
back_again f g was next e n h =
    let same : f ≡ held.go (suc was.address) was = same_Some f (held.go (suc was.address) was) e in
    let at : next ≡ suc was.address = next_address f was next e n in
    let minus : suc was.address - 1 ≡ was.address = omega arith in
    h ∙ ap (λ (x : FlatStack). held.go (next - 1) x) same ∙ ap (λ (a : ℕ). held.go (a - 1) (held.go (suc was.address) was)) at
    ∙ ap (λ (a : ℕ). held.go a was) minus

-- a machine that went on and came back
pub back_same : {K : Type 0} (m k n o : Machine K) (past : IsPast m k) → StaysSame k n
    → o.stacks.table ≡ record n.stacks.table { running = Some past.was } → o.world ≡ n.world → o.turns ≡ n.turns → o.begun.items ≡ n.begun.items
    → o.limits ≡ n.limits → StaysSame m o
back_same m k n o past same table world turns begun limits = record {
  world = world ∙ same.world ∙ past.world;
  table = table ∙ ap (λ (t : CoexpTable). record t { running = Some past.was }) (same.table ∙ past.table)
      ∙ ap (λ (r : Option FlatStack). record m.stacks.table { running = r }) (sym past.runs);
  turns = turns ∙ same.turns ∙ past.turns;
  begun = begun ∙ same.begun ∙ past.begun;
  limits = limits ∙ same.limits ∙ past.limits;
}

-- it was not done
pub not_stepped : {K : Type 0} (tables : Tables) (m k o : Machine K) (instr : Instr) → instruction_at flat tables (stack_seen m) ≡ Some instr → StaysSame m o
    → group_of instr ≢ Groups.Stack → StepsAtOnce tables m o AtOnces.Not
not_stepped tables m k o instr at same off = record {
  steps = tt;
  ready = tt;
  whole = λ i there w. tt;
  limits = same.limits;
  not_done = λ q. same;
  off_stack = λ q i there. subst (λ (x : Instr). group_of x ≢ Groups.Stack) (same_Some instr i (sym at ∙ there)) off;
}

-- it was
pub done_due : {K : Type 0} (tables : Tables) (m k n : Machine K) (instr : Instr) (done : AtOnce) → instruction_at flat tables (stack_seen m) ≡ Some instr
    → ((outside : Outside) → step flat tables (running (stack_seen m) (store_seen tables outside m)) ≡ does tables outside instr k)
    → k.limits ≡ m.limits → is_not done ≡ false → DoneAtOnce tables instr k n done → StepsAtOnce tables m n done
done_due tables m k n instr done at steps limits some d = record {
  steps = steps_done tables m k n instr done steps d.done;
  ready = d.ready;
  whole = λ i there w. d.whole (subst (λ (x : Instr). is_whole x ≡ true) (same_Some i instr (sym there ∙ at)) w);
  limits = d.limits ∙ limits;
  not_done = λ q. let bad : true ≡ false = sym (ap is_not q) ∙ some in absurd (cc);
  off_stack = λ q. let bad : true ≡ false = sym (ap is_not q) ∙ some in absurd (cc);
}

-- The failing behind it

pub if_failing_at : (done : AtOnce) (P : Result RunState Halt → Type 0) → P (failing_at done) → IfDone done P
if_failing_at AtOnces.Running P p = p
if_failing_at AtOnces.Failing P p = p
if_failing_at AtOnces.Hopping P p = p
if_failing_at AtOnces.Over P p = p
if_failing_at AtOnces.AtBound P p = p
if_failing_at AtOnces.NoMemory P p = p
if_failing_at AtOnces.Not P p = tt

pub stepped_failing : {K : Type 0} (tables : Tables) (m k n : Machine K) (done : AtOnce) → StepsAtOnce tables m k AtOnces.Failing
    → FailsThroughAtOnce tables k n done → StepsAtOnce tables m n done
stepped_failing tables m k n done s f = record {
  steps = if_failing_at done (λ answer. (h : CallStreams) → Advances IsFailing tables m RunStates.Running h n h answer)
      (λ h. then_fails tables m RunStates.Running h k RunStates.Failing h n h (failing_at done) refl (at_failing tables k RunStates.Failing refl) (s.steps h)
      (f.steps h));
  ready = if_failing_at done (λ answer. IfOk answer (IsReady tables n)) f.ready;
  whole = λ i at w. let bad : true ≡ false = s.whole i at w in absurd (cc);
  limits = f.limits ∙ s.limits;
  not_done = λ q. absurd (f.some q);
  off_stack = λ q. absurd (f.some q);
}

-- where the next instruction is due at once
running_is : (done : AtOnce) → is_unfinished done ≡ false → done ≡ AtOnces.Running
running_is AtOnces.Running e = refl
running_is _ e = cc

pub running_step : {K : Type 0} (tables : Tables) (m n : Machine K) (done : AtOnce) → StepsAtOnce tables m n done → is_unfinished done ≡ false
    → (h : CallStreams) → Advances IsFailing tables m RunStates.Running h n h (Ok RunStates.Running)
running_step tables m n done s e h =
    let there : StepsAtOnce tables m n AtOnces.Running = subst (λ (d : AtOnce). StepsAtOnce tables m n d) (running_is done e) s in
    there.steps h

pub running_ready : {K : Type 0} (tables : Tables) (m n : Machine K) (done : AtOnce) → StepsAtOnce tables m n done → is_unfinished done ≡ false
    → IsReady tables n RunStates.Running
running_ready tables m n done s e =
    let there : StepsAtOnce tables m n AtOnces.Running = subst (λ (d : AtOnce). StepsAtOnce tables m n d) (running_is done e) s in
    there.ready
