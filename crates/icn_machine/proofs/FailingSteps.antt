-- A step of failing, on a machine.
use Rattle.std.proofs.Common.{◌≡◌, ◌≢◌, ◌⊎◌, inl, inr, ◌<◌, ℕ, suc, length, Result, Ok, Err, IfOk, refl, sym, ap, subst, arith}
use Rattle.icn_value.specs.declared.limits.Limits.{Limits}
use Rattle.icn_value.specs.Limited.{Bounds, limits_of}
use Rattle.icn_value.specs.Store.{Names, Outside, bare_outside}
use Rattle.icn_heap.specs.Heaps.{heap_of}
use Rattle.icn_vars.specs.declared.outcome.Halt.{Halt}
use Rattle.icn_code.specs.Codes.{Tables}
use Rattle.icn_run.specs.Stacks.{Frames, flat}
use Rattle.icn_run.specs.Step.{State, failing, hopping, stuck, step, fails, hop}
use Rattle.law_steps.specs.KeepingNames.{StepsKeepNames}
use Rattle.law_steps.specs.KeepingSizes.{StepsKeepSizes}
use Rattle.icn_streams.proofs.CallSequences.{outside_told, told_so}
use Rattle.icn_streams.specs.Handed.{CallStreams}
use Rattle.icn_control.specs.FailingMachines.{DueAt}
use Rattle.icn_control.specs.FailingStacks.{DueNamed}
use Rattle.icn_control.specs.Machines.{ComesTo, IsSoundMachine, StandsAt, extent, stack_seen, store_seen}
use Rattle.icn_control.specs.Soundness.{HasItsStack, UnlessEnded}
use Rattle.icn_control.specs.declared.failing.AfterFailure.{AfterFailure}
use Rattle.icn_control.specs.declared.machine.Machine.{Machine}
use Rattle.icn_control.specs.declared.machine.RunState.{RunState}
use Rattle.icn_control.specs.declared.machine.RunState.TheVariants as RunStates
use Rattle.icn_control.proofs.Halts.{unless_ended}
use Rattle.icn_machine.specs.Performing.{PerformsOn, SettlesOn}
use Rattle.icn_machine.specs.Stepping.{Advances, FailsFurther, IsFailing, IsKept, IsKeptAt, IsReady, IsReadyToFail, IsTurn, KeepsState, MakesTurn}
use Rattle.icn_machine.proofs.AdvanceSteps.{quiet_step, performed_step}
use Rattle.icn_machine.proofs.FailFalls.{Further, fails_further, hops_further}
use Rattle.icn_machine.proofs.KeptSteps.{kept_at, kept_failing, kept_hopping, kept_over, next_lacks_nothing}
use Rattle.icn_machine.proofs.NextSteps.{comes_by, erring_after, ready_after}
use Rattle.icn_machine.proofs.PerformEvents.{performs_as}

-- the state in which a machine fails
abbrev pub seen : {K : Type 0} → Tables → Machine K → Outside → State Frames Frames
seen tables m outside = failing (stack_seen m) (store_seen tables outside m)

-- what a step of failing leads to
abbrev pub failed : {K : Type 0} → Tables → Machine K → Outside → State Frames Frames
failed tables m outside = fails flat tables (stack_seen m) (store_seen tables outside m)

-- the state is kept over every outside
pub kept_seen : {K : Type 0} (tables : Tables) (m : Machine K) → KeepsState tables m RunStates.Failing → (outside : Outside)
    → IsKept tables (seen tables m outside)
kept_seen tables m k outside = kept_over tables outside (seen tables m k.0) (subst (λ (s : State Frames Frames). IsKept tables s) k.1.1.0 k.1.1.1)

pub never_failed : {K : Type 0} (tables : Tables) (m : Machine K) → KeepsState tables m RunStates.Failing → (outside : Outside)
    → failed tables m outside ≢ stuck
never_failed tables m k outside = next_lacks_nothing tables (seen tables m outside) (kept_seen tables m k outside)

-- what is due, once it is told
pub at_due : {K : Type 0} (tables : Tables) (outside : Outside) (state : State Frames Frames) (n : Machine K) (due d : AfterFailure) → due ≡ d
    → DueAt tables outside state n due → DueAt tables outside state n d
at_due tables outside state n due d e h = subst (λ (x : AfterFailure). DueAt tables outside state n x) e h

pub due_named : {K : Type 0} (names : Names) (n : Machine K) (due d : AfterFailure) → due ≡ d → DueNamed names (extent n) due → DueNamed names (extent n) d
due_named names n due d e h = subst (λ (x : AfterFailure). DueNamed names (extent n) x) e h

-- over some outside it leads to where a machine stands
abbrev pub Lands : {K : Type 0} → Tables → Machine K → Machine K → RunState → Type 0
Lands tables m n stage = (was : Outside) × ((now : Outside) × StandsAt tables now (failed tables m was) n stage)

pub failed_kept : {K : Type 0} (tables : Tables) → StepsKeepNames → StepsKeepSizes → (m n : Machine K) (stage : RunState)
    → KeepsState tables m RunStates.Failing → Lands tables m n stage → IsKeptAt tables n stage
failed_kept tables names sizes m n stage k l =
    kept_at tables l.1.0 (failed tables m l.0) n stage l.1.1
    (kept_failing tables names sizes (stack_seen m) (store_seen tables l.0 m) (kept_seen tables m k l.0))

-- so many turns may be made
turns_bound : (bounds : Bounds) (limits : Limits) → bounds ≡ limits_of limits → bounds.turns ≡ limits.turns
turns_bound bounds limits e = ap (λ (b : Bounds). b.turns) e

pub failed_further : {K : Type 0} (tables : Tables) (m n : Machine K) (stage : RunState) → (heap_of m.world.heap).bounds ≡ limits_of m.limits
    → Lands tables m n stage → FailsFurther m n stage
failed_further tables m n RunStates.Running b l = tt
failed_further tables m n RunStates.Over b l = tt
failed_further tables m n RunStates.AtBound b l = tt
failed_further tables m n RunStates.Hopping b l =
    let bound : (heap_of m.world.heap).bounds.turns ≡ m.limits.turns = turns_bound (heap_of m.world.heap).bounds m.limits b in
    let there : Further m.turns (heap_of m.world.heap).bounds.turns (length (stack_seen m).cells) (hopping l.1.1.0 (store_seen tables l.1.0 n)) =
    subst (λ (s : State Frames Frames). Further m.turns (heap_of m.world.heap).bounds.turns (length (stack_seen m).cells) s) l.1.1.1
    (fails_further tables (stack_seen m) (store_seen tables l.0 m)) in
    record { more = there.0; within = subst (λ (x : ℕ). m.turns < x) bound there.1 }
failed_further tables m n RunStates.Failing b l =
    let there : Further m.turns (heap_of m.world.heap).bounds.turns (length (stack_seen m).cells) (failing (stack_seen n) (store_seen tables l.1.0 n)) =
    subst (λ (s : State Frames Frames). Further m.turns (heap_of m.world.heap).bounds.turns (length (stack_seen m).cells) s) l.1.1
    (fails_further tables (stack_seen m) (store_seen tables l.0 m)) in
    by there
  where
    by : ((n.turns ≡ suc m.turns) × (m.turns < (heap_of m.world.heap).bounds.turns))
        ⊎ ((n.turns ≡ m.turns) × (length (stack_seen n).cells < length (stack_seen m).cells))
        → FailsFurther m n RunStates.Failing
    by (inl x) = inl (record { more = x.0; within = subst (λ (t : ℕ). m.turns < t) (turns_bound (heap_of m.world.heap).bounds m.limits b) x.1 })
    by (inr x) = inr x

-- where it neither reads nor puts
pub failed_quietly : {K : Type 0} (tables : Tables) (m n : Machine K) (h : CallStreams) (stage : RunState)
    → ((outside : Outside) → StandsAt tables outside (failed tables m outside) n stage) → Advances IsFailing tables m RunStates.Failing h n h (Ok stage)
failed_quietly tables m n h stage f =
    quiet_step tables m RunStates.Failing h n stage refl
    (λ was state at. subst (λ (s : State Frames Frames). StandsAt tables was (step flat tables s) n stage) (sym at) (f was))

pub lands_quietly : {K : Type 0} (tables : Tables) (m n : Machine K) (stage : RunState)
    → ((outside : Outside) → StandsAt tables outside (failed tables m outside) n stage) → Lands tables m n stage
lands_quietly tables m n stage f = (bare_outside, (bare_outside, f bare_outside))

-- a turn and what comes behind it
pub by_due : {K : Type 0} (tables : Tables) (outside : Outside) (state due : State Frames Frames) (n : Machine K) (stage : RunState) → state ≡ due
    → StandsAt tables outside due n stage → StandsAt tables outside state n stage
by_due tables outside state due n stage e h = subst (λ (s : State Frames Frames). StandsAt tables outside s n stage) (sym e) h

-- where a row is resumed
pub resumed_performs : {K : Type 0} (tables : Tables) (leads : Outside → State Frames Frames) (m : Machine K) (before : CallStreams) (k : Machine K)
    (after : CallStreams) (answer : Result RunState Halt)
    → ((was : Outside) → failed tables m was ≡ leads was) → PerformsOn tables leads k before after answer
    → PerformsOn tables (failed tables m) k before after answer
resumed_performs tables leads m before k after answer e p =
    performs_as (failed tables m) leads (λ was now a. ComesTo tables now (leads was) k a) (λ was now a. ComesTo tables now (failed tables m was) k a)
    before after answer e (λ was now h. subst (λ (s : State Frames Frames). ComesTo tables now s k answer) (sym (e was)) h) p

resumed_keeps : {K : Type 0} (tables : Tables) → StepsKeepNames → StepsKeepSizes → (m k : Machine K) (answer : Result RunState Halt)
    → KeepsState tables m RunStates.Failing
    → (was now : Outside) → ComesTo tables now (failed tables m was) k answer → UnlessEnded answer (IsKept tables (failed tables m was))
resumed_keeps tables names sizes m k answer kept was now comes =
    unless_ended answer (IsKept tables (failed tables m was))
    (kept_failing tables names sizes (stack_seen m) (store_seen tables was m) (kept_seen tables m kept was))

pub resumed_ready : {K : Type 0} (tables : Tables) → StepsKeepNames → StepsKeepSizes → (m : Machine K) (before : CallStreams) (k : Machine K)
    (after : CallStreams) (answer : Result RunState Halt) → KeepsState tables m RunStates.Failing
    → PerformsOn tables (failed tables m) k before after answer → UnlessEnded answer (IsSoundMachine tables k) → HasItsStack k answer
    → IfOk answer (IsReady tables k)
resumed_ready tables names sizes m before k after answer kept p sound stack =
    ready_after tables (failed tables m) k answer (resumed_keeps tables names sizes m k answer kept)
    (comes_by tables (failed tables m) before k after answer p) sound stack

pub resumed_erring : {K : Type 0} (tables : Tables) → StepsKeepNames → StepsKeepSizes → (m : Machine K) (before : CallStreams) (k : Machine K)
    (after : CallStreams) (answer : Result RunState Halt) → KeepsState tables m RunStates.Failing
    → PerformsOn tables (failed tables m) k before after answer → UnlessEnded answer (IsSoundMachine tables k) → HasItsStack k answer
    → IsReadyToFail tables k answer
resumed_erring tables names sizes m before k after answer kept p sound stack =
    erring_after tables (failed tables m) k answer (resumed_keeps tables names sizes m k answer kept)
    (comes_by tables (failed tables m) before k after answer p) sound stack

-- and where its error is settled
pub failed_performing : {K : Type 0} (tables : Tables) (m : Machine K) (before : CallStreams) (n : Machine K) (after : CallStreams)
    (result : Result RunState Halt)
    → SettlesOn tables (failed tables m) n before after result → Advances IsFailing tables m RunStates.Failing before n after result
failed_performing tables m before n after result p =
    performed_step tables (failed tables m) m RunStates.Failing before n after result (λ was state at. ap (step flat tables) at) p

pub lands_performing : {K : Type 0} (tables : Tables) (m : Machine K) (before : CallStreams) (n : Machine K) (after : CallStreams)
    (result : Result RunState Halt)
    → SettlesOn tables (failed tables m) n before after result → IfOk result (Lands tables m n)
lands_performing tables m before n after (Ok stage) p =
    let first : Outside = outside_told p.had in let told = p.meant first (told_so p.had) in (first, (told.now, told.is))
lands_performing tables m before n after (Err halt) p = tt

-- what follows where something is answered
pub if_so : {A E : Type 0} (result : Result A E) (Q R : A → Type 0) → ((x : A) → Q x → R x) → IfOk result Q → IfOk result R
if_so (Ok x) Q R f q = f x q
if_so (Err e) Q R f q = tt

-- Hops

-- what a hop leads to
abbrev pub hopped : {K : Type 0} → Tables → Machine K → Outside → Frames → State Frames Frames
hopped tables m outside old = hop flat tables old (store_seen tables outside m)

pub hopped_quietly : {K : Type 0} (tables : Tables) (m n : Machine K) (h : CallStreams) (stage : RunState)
    → ((outside : Outside) (old : Frames) → StandsAt tables outside (hopped tables m outside old) n stage)
    → Advances IsFailing tables m RunStates.Hopping h n h (Ok stage)
hopped_quietly tables m n h stage f =
    quiet_step tables m RunStates.Hopping h n stage refl
    (λ was state at. subst (λ (s : State Frames Frames). StandsAt tables was (step flat tables s) n stage) (sym at.1) (f was at.0))

pub hopped_kept : {K : Type 0} (tables : Tables) → StepsKeepNames → StepsKeepSizes → (m n : Machine K) (stage : RunState)
    → KeepsState tables m RunStates.Hopping → ((outside : Outside) (old : Frames) → StandsAt tables outside (hopped tables m outside old) n stage)
    → IsKeptAt tables n stage
hopped_kept tables names sizes m n stage k f =
    let old = k.1.1.0.0 in
    kept_at tables k.0 (hopped tables m k.0 old) n stage (f k.0 old)
    (kept_hopping tables names sizes old (store_seen tables k.0 m) (subst (λ (s : State Frames Frames). IsKept tables s) k.1.1.0.1 k.1.1.1))

pub hopped_turn : {K : Type 0} (tables : Tables) (m n : Machine K) (stage : RunState) → (heap_of m.world.heap).bounds ≡ limits_of m.limits
    → ((outside : Outside) (old : Frames) → StandsAt tables outside (hopped tables m outside old) n stage) → MakesTurn m n stage
hopped_turn tables m n RunStates.Running b f = tt
hopped_turn tables m n RunStates.Over b f = tt
hopped_turn tables m n RunStates.AtBound b f = tt
hopped_turn tables m n RunStates.Hopping b f =
    let o : Outside = bare_outside in
    let l = f o (stack_seen m) in
    let there : Further m.turns (heap_of m.world.heap).bounds.turns 0 (hopping l.0 (store_seen tables o n)) =
    subst (λ (s : State Frames Frames). Further m.turns (heap_of m.world.heap).bounds.turns 0 s) l.1
    (hops_further tables (stack_seen m) (store_seen tables o m) 0) in
    record { more = there.0; within = subst (λ (t : ℕ). m.turns < t) (turns_bound (heap_of m.world.heap).bounds m.limits b) there.1 }
hopped_turn tables m n RunStates.Failing b f =
    let o : Outside = bare_outside in
    let there : Further m.turns (heap_of m.world.heap).bounds.turns 0 (failing (stack_seen n) (store_seen tables o n)) =
    subst (λ (s : State Frames Frames). Further m.turns (heap_of m.world.heap).bounds.turns 0 s) (f o (stack_seen m))
    (hops_further tables (stack_seen m) (store_seen tables o m) 0) in
    by there
  where
    by : ((n.turns ≡ suc m.turns) × (m.turns < (heap_of m.world.heap).bounds.turns)) ⊎ ((n.turns ≡ m.turns) × (length (stack_seen n).cells < 0)) → IsTurn m n
    by (inl x) = record { more = x.0; within = subst (λ (t : ℕ). m.turns < t) (turns_bound (heap_of m.world.heap).bounds m.limits b) x.1 }
    by (inr x) = let none = x.1 in absurd (omega (arith, none))
