-- An error to which a step came ends the run, or it is kept and the code fails.
use Rattle.std.proofs.Common.{◌≡◌, ℕ, Bool, true, false, Option, Result, Ok, Err, refl, sym, subst}
use Rattle.std.specs.Prelude.{IfErr, IfOk}
use Rattle.std.specs.Option.{option_map}
use Rattle.icn_value.specs.declared.val.Val.{Val}
use Rattle.icn_value.specs.Values.{Value}
use Rattle.icn_value.specs.Store.{Names, Outside}
use Rattle.icn_defs.specs.Errors.{ended_or_failed, ends_run}
use Rattle.icn_defs.specs.RowFacts.{is_error_number}
use Rattle.icn_heap.specs.Extents.{value_in}
use Rattle.icn_vars.specs.declared.outcome.Halt.{Halt}
use Rattle.icn_vars.specs.declared.outcome.Halt.TheVariants as Halts
use Rattle.icn_code.specs.Codes.{Tables}
use Rattle.icn_run.specs.Stacks.{Frames}
use Rattle.icn_run.specs.Step.{State, Store, all_names, ended_by, errs, failing, with_world}
use Rattle.icn_run.proofs.Errors.{kept_in}
use Rattle.law_steps.specs.KeepingSizes.{StateFits, StoreFits}
use Rattle.law_steps.specs.StateNames.{StackNamed, StateNamed, StoreNamed}
use Rattle.icn_streams.specs.Handed.{CallStreams}
use Rattle.icn_control.specs.Machines.{ComesTo, HaltsAt, HasStack, IsSoundMachine, SettlesAt, extent, stack_of, stack_seen, store_seen}
use Rattle.icn_control.specs.Soundness.{HasItsStack, UnlessEnded}
use Rattle.icn_control.specs.declared.machine.Machine.{Machine}
use Rattle.icn_control.specs.declared.machine.RunState.{RunState}
use Rattle.icn_control.specs.declared.machine.RunState.TheVariants as RunStates
use Rattle.icn_streams.specs.Answers.{streams_telling}
use Rattle.icn_machine.specs.InstructionAnswers.{AnswersStep, IsCause, Tells}
use Rattle.icn_machine.specs.Performing.{LeavesNamed, PerformsOn, SettlesOn}
use Rattle.icn_machine.specs.Settling.{IsKnown, SettlesTo}
use Rattle.icn_machine.specs.Stepping.{EndsWhole, IsReady, IsReadyToFail}

-- what holds of the state that an error leads to, where it becomes failure

abbrev became : ℕ → Option Value → Frames → Store Frames → Bool → State Frames Frames
became number value m st b = ended_or_failed b number value st.world (ended_by number value st) (λ world. failing m (with_world world st))

pub errs_named : (names : Names) (number : ℕ) (value : Option Value) (m : Frames) (st : Store Frames) → StateNamed names (errs number value m st)
    → ends_run number st.world.error ≡ false → StackNamed names m × StoreNamed names (kept_in number value st)
errs_named names number value m st h goes = subst (λ (b : Bool). StateNamed names (became number value m st b)) goes h

pub errs_fit : (tables : Tables) (number : ℕ) (value : Option Value) (m : Frames) (st : Store Frames) → StateFits tables (errs number value m st)
    → ends_run number st.world.error ≡ false → StoreFits tables st
errs_fit tables number value m st h goes = subst (λ (b : Bool). StateFits tables (became number value m st b)) goes h

-- and that leads to it

pub named_errs : (names : Names) (number : ℕ) (value : Option Value) (m : Frames) (st : Store Frames)
    → (ends_run number st.world.error ≡ false → StackNamed names m × StoreNamed names (kept_in number value st)) → StateNamed names (errs number value m st)
named_errs names number value m st h = by_end (ends_run number st.world.error) refl
  where
    by_end : (b : Bool) → ends_run number st.world.error ≡ b → StateNamed names (became number value m st b)
    by_end true e = tt
    by_end false e = h e

pub fit_errs : (tables : Tables) (number : ℕ) (value : Option Value) (m : Frames) (st : Store Frames)
    → (ends_run number st.world.error ≡ false → StoreFits tables st) → StateFits tables (errs number value m st)
fit_errs tables number value m st h = by_end (ends_run number st.world.error) refl
  where
    by_end : (b : Bool) → ends_run number st.world.error ≡ b → StateFits tables (became number value m st b)
    by_end true e = tt
    by_end false e = h e

-- its number is that of an error, as a run keeps no other
pub settled_known : {K : Type 0} (names : Names) (tables : Tables) (outside : Outside) (state : State Frames Frames) (m : Machine K) (number : ℕ)
    (value : Option Val)
    → HaltsAt tables outside state m (Halts.Error number value) → StateNamed names state → ends_run number m.world.words.error ≡ false
    → is_error_number number ≡ true
settled_known names tables outside state m number value h named goes =
    let there = errs_named names number (option_map (value_in (extent m)) value) (stack_seen m) (store_seen tables outside m)
    (subst (StateNamed names) h named) goes in
    there.1.world.kept.1

-- What a step answered, once its error is settled

settled_answers : {K : Type 0} (tables : Tables) (state : State Frames Frames) (m n : Machine K) (was : Outside) (before after : CallStreams)
    (answer result : Result RunState Halt)
    → ((now : Outside) → ComesTo tables now state m answer → SettlesAt tables now state n result) → SettlesTo m n answer result
    → AnswersStep (λ now a. ComesTo tables now state m a) state was before after answer
    → AnswersStep (λ now a. SettlesAt tables now state n a) state was before after result
settled_answers tables state m n was before after (Ok stage) result f s t =
    let is : SettlesAt tables t.now state n (Ok stage) = subst (λ (r : Result RunState Halt). SettlesAt tables t.now state n r) s.1 (f t.now t.is) in
    let there : Tells (λ now a. SettlesAt tables now state n a) was before after (Ok stage) = record { now = t.now; follows = t.follows; is = is } in
    subst (λ (r : Result RunState Halt). AnswersStep (λ now a. SettlesAt tables now state n a) state was before after r) (sym s.1) there
settled_answers tables state m n was before after (Err (Halts.Error number offending)) (Ok stage) f s t =
    record { now = t.now; follows = t.follows; is = f t.now t.is }
settled_answers tables state m n was before after (Err (Halts.Error number offending)) (Err halt) f s t =
    let halts : Halt = Halts.Error number offending in
    let is : SettlesAt tables t.now state n (Err halts) = subst (λ (h : Halt). SettlesAt tables t.now state n (Err h)) s.1 (f t.now t.is) in
    let there : Tells (λ now a. SettlesAt tables now state n a) was before after (Err halts) = record { now = t.now; follows = t.follows; is = is } in
    subst (λ (h : Halt). AnswersStep (λ now a. SettlesAt tables now state n a) state was before after (Err h)) (sym s.1) there
settled_answers tables state m n was before after (Err (Halts.Ends status)) result f s t =
    let halts : Halt = Halts.Ends status in
    let is : SettlesAt tables t.now state n (Err halts) = subst (λ (r : Result RunState Halt). SettlesAt tables t.now state n r) s.1 (f t.now t.is) in
    let there : Tells (λ now a. SettlesAt tables now state n a) was before after (Err halts) = record { now = t.now; follows = t.follows; is = is } in
    subst (λ (r : Result RunState Halt). AnswersStep (λ now a. SettlesAt tables now state n a) state was before after r) (sym s.1) there
settled_answers tables state m n was before after (Err Halts.ReadFault) result f s t =
    subst (λ (r : Result RunState Halt). AnswersStep (λ now a. SettlesAt tables now state n a) state was before after r) (sym s.1) t
settled_answers tables state m n was before after (Err Halts.WriteFault) result f s t =
    subst (λ (r : Result RunState Halt). AnswersStep (λ now a. SettlesAt tables now state n a) state was before after r) (sym s.1) t
settled_answers tables state m n was before after (Err Halts.FileFault) result f s t =
    subst (λ (r : Result RunState Halt). AnswersStep (λ now a. SettlesAt tables now state n a) state was before after r) (sym s.1) t
settled_answers tables state m n was before after (Err Halts.NoMemory) result f s t =
    subst (λ (r : Result RunState Halt). AnswersStep (λ now a. SettlesAt tables now state n a) state was before after r) (sym s.1) t

settled_cause : {K : Type 0} (m n : Machine K) (before after : CallStreams) (answer result : Result RunState Halt) → SettlesTo m n answer result
    → IsCause answer before after → IsCause result before after
settled_cause m n before after (Ok stage) result s c = subst (λ (r : Result RunState Halt). IsCause r before after) (sym s.1) c
settled_cause m n before after (Err (Halts.Error number offending)) (Ok stage) s c = c
settled_cause m n before after (Err (Halts.Error number offending)) (Err halt) s c =
    subst (λ (h : Halt). IsCause {A = RunState} (Err h) before after) (sym s.1) c
settled_cause m n before after (Err (Halts.Ends status)) result s c = subst (λ (r : Result RunState Halt). IsCause r before after) (sym s.1) c
settled_cause m n before after (Err Halts.ReadFault) result s c = subst (λ (r : Result RunState Halt). IsCause r before after) (sym s.1) c
settled_cause m n before after (Err Halts.WriteFault) result s c = subst (λ (r : Result RunState Halt). IsCause r before after) (sym s.1) c
settled_cause m n before after (Err Halts.FileFault) result s c = subst (λ (r : Result RunState Halt). IsCause r before after) (sym s.1) c
settled_cause m n before after (Err Halts.NoMemory) result s c = subst (λ (r : Result RunState Halt). IsCause r before after) (sym s.1) c

-- what was performed, with the machine that is left
pub settles_on : {K : Type 0} (tables : Tables) (leads : Outside → State Frames Frames) (m n : Machine K) (before after : CallStreams)
    (answer result : Result RunState Halt)
    → ((outside : Outside) (state : State Frames Frames) → ComesTo tables outside state m answer → SettlesAt tables outside state n result)
    → SettlesTo m n answer result → PerformsOn tables leads m before after answer → SettlesOn tables leads n before after result
settles_on tables leads m n before after answer result f s p = record {
  answers = λ was told. settled_answers tables (leads was) m n was before after answer result (λ now. f now (leads was)) s (p.answers was told);
  had = p.had;
  has = p.has;
  allowed = p.allowed;
  allows = p.allows;
  meant =
      λ was left. settled_answers tables (leads was) m n was (streams_telling p.had before) (streams_telling p.has after) answer result
      (λ now. f now (leads was)) s
      (p.meant was left);
  caused = settled_cause m n before after answer result s p.caused;
}

-- the machine goes on from there
pub settled_ready : {K : Type 0} (tables : Tables) (m n : Machine K) (answer result : Result RunState Halt) → IfOk answer (IsReady tables m)
    → IsReadyToFail tables m answer
    → ((outside : Outside) (state : State Frames Frames) → ComesTo tables outside state m answer → SettlesAt tables outside state n result)
    → (UnlessEnded answer (IsSoundMachine tables m) → UnlessEnded result (IsSoundMachine tables n)) → (HasItsStack m answer → IfOk result (HasStack n))
    → SettlesTo m n answer result → IfOk result (IsReady tables n)
settled_ready {K} tables m n (Ok stage) result ready erring f sound stack s =
    subst (λ (r : Result RunState Halt). IfOk r (IsReady tables n)) (sym s.1) (subst (λ (x : Machine K). IsReady tables x stage) (sym s.0) ready)
settled_ready tables m n (Err (Halts.Error number offending)) (Ok RunStates.Failing) ready erring f sound stack s =
    let error = erring.1.1 in
    record {
      sound = sound erring.0;
      stack = stack erring.1.0;
      kept = (error.0, (error.1.0, (f error.0 error.1.0 error.1.1.0, error.1.1.1)));
    }
settled_ready tables m n (Err (Halts.Error number offending)) (Ok RunStates.Running) ready erring f sound stack s = absurd s
settled_ready tables m n (Err (Halts.Error number offending)) (Ok RunStates.Hopping) ready erring f sound stack s = absurd s
settled_ready tables m n (Err (Halts.Error number offending)) (Ok RunStates.Over) ready erring f sound stack s = absurd s
settled_ready tables m n (Err (Halts.Error number offending)) (Ok RunStates.AtBound) ready erring f sound stack s = absurd s
settled_ready tables m n (Err (Halts.Error number offending)) (Err halt) ready erring f sound stack s = tt
settled_ready tables m n (Err (Halts.Ends status)) result ready erring f sound stack s =
    subst (λ (r : Result RunState Halt). IfOk r (IsReady tables n)) (sym s.1) tt
settled_ready tables m n (Err Halts.ReadFault) result ready erring f sound stack s =
    subst (λ (r : Result RunState Halt). IfOk r (IsReady tables n)) (sym s.1) tt
settled_ready tables m n (Err Halts.WriteFault) result ready erring f sound stack s =
    subst (λ (r : Result RunState Halt). IfOk r (IsReady tables n)) (sym s.1) tt
settled_ready tables m n (Err Halts.FileFault) result ready erring f sound stack s =
    subst (λ (r : Result RunState Halt). IfOk r (IsReady tables n)) (sym s.1) tt
settled_ready tables m n (Err Halts.NoMemory) result ready erring f sound stack s =
    subst (λ (r : Result RunState Halt). IfOk r (IsReady tables n)) (sym s.1) tt

-- what is done whole is so once it is settled
pub settled_whole : {K : Type 0} (m n : Machine K) (answer result : Result RunState Halt) → SettlesTo m n answer result → EndsWhole answer → EndsWhole result
settled_whole m n (Ok stage) result s w = subst EndsWhole (sym s.1) w
settled_whole m n (Err (Halts.Error number offending)) result s w = absurd w
settled_whole m n (Err (Halts.Ends status)) result s w = subst EndsWhole (sym s.1) tt
settled_whole m n (Err Halts.ReadFault) result s w = subst EndsWhole (sym s.1) tt
settled_whole m n (Err Halts.WriteFault) result s w = subst EndsWhole (sym s.1) tt
settled_whole m n (Err Halts.FileFault) result s w = subst EndsWhole (sym s.1) tt
settled_whole m n (Err Halts.NoMemory) result s w = absurd w

-- The number of an error is known

pub ready_known : {K : Type 0} (tables : Tables) (m : Machine K) (answer : Result RunState Halt) → IsReadyToFail tables m answer → IfErr answer (IsKnown m)
ready_known tables m (Ok stage) h = tt
ready_known tables m (Err (Halts.Error number offending)) h =
    let error = h.1.1 in settled_known (all_names tables) tables error.0 error.1.0 m number offending error.1.1.0 error.1.1.1.named
ready_known tables m (Err (Halts.Ends status)) h = tt
ready_known tables m (Err Halts.ReadFault) h = tt
ready_known tables m (Err Halts.WriteFault) h = tt
ready_known tables m (Err Halts.FileFault) h = tt
ready_known tables m (Err Halts.NoMemory) h = tt

pub left_known : {K : Type 0} (names : Names) (m : Machine K) (answer : Result RunState Halt) → LeavesNamed names m.world (stack_of m) answer
    → IfErr answer (IsKnown m)
left_known names m (Ok stage) h = tt
left_known names m (Err (Halts.Error number offending)) h = λ goes. (h goes).1.kept.1
left_known names m (Err (Halts.Ends status)) h = tt
left_known names m (Err Halts.ReadFault) h = tt
left_known names m (Err Halts.WriteFault) h = tt
left_known names m (Err Halts.FileFault) h = tt
left_known names m (Err Halts.NoMemory) h = tt
