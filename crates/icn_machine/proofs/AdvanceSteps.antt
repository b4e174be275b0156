-- What some steps come to, put together.
use Rattle.std.proofs.Common.{◌≡◌, ℕ, zero, suc, ◌+◌, List, [], ◌∷◌, ◌++◌, append_assoc, append-nil, true, Option, None, Some, Result, Ok, Err, refl, sym, ap, ◌∙◌, subst, arith}
use Rattle.std.specs.Prelude.{IfSome}
use Rattle.icn_host.specs.Counts.{raised_count}
use Rattle.icn_host.specs.Sinks.{Gains}
use Rattle.icn_host.proofs.KeptSteps.{gains_keeps}
use Rattle.icn_host.proofs.SinkSteps.{gains_nothing, gains_then}
use Rattle.icn_value.specs.Store.{Event, Outside, errors_in, readings_in}
use Rattle.icn_defs.specs.Interruptions.{LosesSome}
use Rattle.icn_defs.proofs.Interruptions.{calls_then, errors_then as errors_behind, output_then as output_behind}
use Rattle.icn_vars.specs.declared.outcome.Halt.{Halt}
use Rattle.icn_vars.specs.declared.outcome.Halt.TheVariants as Halts
use Rattle.icn_code.specs.Codes.{Tables}
use Rattle.icn_run.specs.Stacks.{Frames, flat}
use Rattle.icn_run.specs.Step.{State, step, steps}
use Rattle.icn_run.specs.AnyOutside.{over_outside, run_over}
use Rattle.icn_streams.specs.Answers.{Told, streams_telling}
use Rattle.icn_streams.specs.Handed.{CallStreams, Follows, TellsOutside}
use Rattle.icn_streams.proofs.IdleCalls.{keeps_all_counts_refl}
use Rattle.icn_streams.proofs.CallSequences.{follows_all, follows_tells, follows_then, outside_told, told_so}
use Rattle.icn_control.specs.Machines.{SettlesAt, StandsAt}
use Rattle.icn_control.specs.declared.machine.Machine.{Machine}
use Rattle.icn_control.specs.declared.machine.RunState.{RunState}
use Rattle.icn_control.specs.declared.machine.RunState.TheVariants as RunStates
use Rattle.icn_machine.specs.Performing.{SettlesOn}
use Rattle.icn_machine.specs.InstructionAnswers.{AnswersStep, BreaksOff, behind as done_behind, files, idle, putting, reading}
use Rattle.icn_machine.specs.Stepping.{Advances, AreAll, AreAllOver, AreReadings, GainsBy, GainsEvents, GainsSome, IsAny, IsAt, IsFailing, Leads, StandsBy, goes_on, is_failing, outside_at}
use Rattle.icn_machine.proofs.CountedFaults.{fault_then, first_fault, step_taken, taken_then, told_taken}

-- Where a machine stands

-- the state has the outside over which the machine stands for it
pub at_own : {K : Type 0} (tables : Tables) (was : Outside) (state : State Frames Frames) (m : Machine K) (stage : RunState)
    → IsAt tables was state m stage → outside_at state ≡ was
at_own tables was state m RunStates.Running e = ap outside_at e
at_own tables was state m RunStates.Failing e = ap outside_at e
at_own tables was state m RunStates.Hopping e = ap outside_at e.1
at_own tables was state m RunStates.Over e = absurd e
at_own tables was state m RunStates.AtBound e = absurd e

-- over another outside it stands for the state with that
pub at_elsewhere : {K : Type 0} (tables : Tables) (was now : Outside) (state : State Frames Frames) (m : Machine K) (stage : RunState)
    → IsAt tables was state m stage → IsAt tables now (over_outside now state) m stage
at_elsewhere tables was now state m RunStates.Running e = ap (over_outside now) e
at_elsewhere tables was now state m RunStates.Failing e = ap (over_outside now) e
at_elsewhere tables was now state m RunStates.Hopping e = (e.0, ap (over_outside now) e.1)
at_elsewhere tables was now state m RunStates.Over e = absurd e
at_elsewhere tables was now state m RunStates.AtBound e = absurd e

pub at_same : {K : Type 0} (tables : Tables) (was : Outside) (state : State Frames Frames) (m : Machine K) (stage : RunState)
    → IsAt tables was state m stage → over_outside was state ≡ state
at_same tables was state m RunStates.Running e = ap (over_outside was) e ∙ sym e
at_same tables was state m RunStates.Failing e = ap (over_outside was) e ∙ sym e
at_same tables was state m RunStates.Hopping e = ap (over_outside was) e.1 ∙ sym e.1
at_same tables was state m RunStates.Over e = absurd e
at_same tables was state m RunStates.AtBound e = absurd e

-- where the run goes on, the state is the one at which it stands
pub is_at : {K : Type 0} (tables : Tables) (was : Outside) (state : State Frames Frames) (m : Machine K) (stage : RunState) → goes_on stage ≡ true
    → StandsAt tables was state m stage → IsAt tables was state m stage
is_at tables was state m RunStates.Running e h = h
is_at tables was state m RunStates.Failing e h = h
is_at tables was state m RunStates.Hopping e h = h
is_at tables was state m RunStates.Over e h = cc
is_at tables was state m RunStates.AtBound e h = cc

-- Steps

steps_then : (tables : Tables) (n k : ℕ) (a : State Frames Frames) → steps flat tables (n + k) a ≡ steps flat tables k (steps flat tables n a)
steps_then tables zero k a = let e : zero + k ≡ k = omega arith in ap (λ (j : ℕ). steps flat tables j a) e
steps_then tables (suc n) k a =
    let e : suc n + k ≡ suc (n + k) = omega arith in
    ap (λ (j : ℕ). steps flat tables j a) e ∙ steps_then tables n k (step flat tables a)

over_then : (tables : Tables) (os ps : List Outside) (a : State Frames Frames) → run_over tables (os ++ ps) a ≡ run_over tables ps (run_over tables os a)
over_then tables [] ps a = refl
over_then tables (o ∷ os) ps a = over_then tables os ps (step flat tables (over_outside o a))

readings_then : (tables : Tables) (os ps : List Outside) (a : State Frames Frames) → AreReadings tables os a → AreReadings tables ps (run_over tables os a)
    → AreReadings tables (os ++ ps) a
readings_then tables [] ps a one two = two
readings_then tables (o ∷ os) ps a one two = (one.0, readings_then tables os ps (step flat tables (over_outside o a)) one.1 two)

-- all states behind some steps, and those behind one more
all_then : (Is : State Frames Frames → Type 0) (tables : Tables) (n k : ℕ) (a : State Frames Frames)
    → AreAll Is tables n a → Is (steps flat tables n a) → AreAll Is tables k (step flat tables (steps flat tables n a)) → AreAll Is tables (suc n + k) a
all_then Is tables zero k a all here behind =
    let e : suc zero + k ≡ suc k = omega arith in subst (λ (j : ℕ). AreAll Is tables j a) (sym e) (here, behind)
all_then Is tables (suc n) k a all here behind =
    let e : suc (suc n) + k ≡ suc (suc n + k) = omega arith in
    subst (λ (j : ℕ). AreAll Is tables j a) (sym e) (all.0, all_then Is tables n k (step flat tables a) all.1 here behind)

all_over_then : (Is : State Frames Frames → Type 0) (tables : Tables) (os : List Outside) (p : Outside) (ps : List Outside) (a : State Frames Frames)
    → AreAllOver Is tables os a → Is (run_over tables os a) → AreAllOver Is tables ps (step flat tables (over_outside p (run_over tables os a)))
    → AreAllOver Is tables (os ++ p ∷ ps) a
all_over_then Is tables [] p ps a all here behind = (here, behind)
all_over_then Is tables (o ∷ os) p ps a all here behind =
    (all.0, all_over_then Is tables os p ps (step flat tables (over_outside o a)) all.1 here behind)

-- each state for which the machine stands at this stage is one of these
abbrev pub Passes : {K : Type 0} → (State Frames Frames → Type 0) → Tables → Machine K → RunState → Type 0
Passes Is tables m stage = (was : Outside) (state : State Frames Frames) → IsAt tables was state m stage → Is state

pub at_failing : {K : Type 0} (tables : Tables) (m : Machine K) (stage : RunState) → is_failing stage ≡ true → Passes IsFailing tables m stage
at_failing tables m RunStates.Failing e was state at = subst IsFailing (sym at) tt
at_failing tables m RunStates.Hopping e was state at = subst IsFailing (sym at.1) tt
at_failing tables m RunStates.Running e was state at = absurd (cc e)
at_failing tables m RunStates.Over e was state at = absurd (cc e)
at_failing tables m RunStates.AtBound e was state at = absurd (cc e)

-- What was handed gains

-- where nothing was done
pub gains_none : {was now : List Event} (a : CallStreams) → now ≡ was → GainsEvents was now a a
gains_none {was} a same = record {
  done = [];
  history = same ∙ sym (append-nil was);
  calls = refl;
  output = gains_nothing a.output.held;
  errors = gains_nothing a.errors.held;
}

-- by what follows an outside over some input
gains_followed : (was now : Outside) (a b : CallStreams) (had has : Told) → Follows (streams_telling had a) (streams_telling has b) was now
    → GainsEvents was.history now.history a b
gains_followed was now a b had has follows = record {
  done = follows.done;
  history = follows.extends.history;
  calls = follows.stands.calls;
  output = follows.stands.output;
  errors = follows.stands.errors;
}

gains_more : {was between now : List Event} {a b c : CallStreams} → GainsEvents was between a b → GainsEvents between now b c → GainsEvents was now a c
gains_more {was} {between} {now} {a} {b} {c} first second = record {
  done = first.done ++ second.done;
  history = second.history ∙ ap (λ (h : List Event). h ++ second.done) first.history ∙ append_assoc was first.done second.done;
  calls = second.calls ∙ ap (λ (k : ℕ). raised_count k (readings_in second.done)) first.calls ∙ sym (calls_then a.counts.calls first.done second.done);
  output = subst (Gains a.output.held c.output.held) (sym (output_behind first.done second.done)) (gains_then first.output second.output);
  errors = subst (Gains a.errors.held c.errors.held) (sym (errors_behind first.done second.done)) (gains_then first.errors second.errors);
}

some_more : {was between : List Event} {a b : CallStreams} (c : CallStreams) → GainsEvents was between a b → GainsSome b c → GainsSome a c
some_more c first second = (errors_in first.done ++ second.0, gains_then first.errors second.1)

-- what was put before a step was broken off for want of memory
some_off : (state : State Frames Frames) (was : Outside) (a b : CallStreams) (had has : Told)
    → BreaksOff state was (streams_telling had a) (streams_telling has b) → GainsSome a b
some_off state was a b had has (idle e) = ([], gains_keeps (gains_nothing a.errors.held) e.errors.held)
some_off state was a b had has (reading broken) = (errors_in broken.done, broken.stands.errors)
some_off state was a b had has (files broken) = (errors_in broken.done, broken.stands.errors)
some_off state was a b had has (putting broken) = (errors_in broken.done, broken.stands.errors)
some_off state was a b had has (done_behind follows) = (errors_in follows.done, follows.stands.errors)

gains_by_then : {was between : List Event} {a b : CallStreams} (now : List Event) (c : CallStreams) (result : Result RunState Halt)
    → GainsEvents was between a b → GainsBy result between now b c → GainsBy result was now a c
gains_by_then now c (Ok stage) first second = gains_more first second
gains_by_then now c (Err (Halts.Error number offending)) first second = gains_more first second
gains_by_then now c (Err (Halts.Ends status)) first second = gains_more first second
gains_by_then now c (Err Halts.ReadFault) first second = some_more c first second
gains_by_then now c (Err Halts.WriteFault) first second = some_more c first second
gains_by_then now c (Err Halts.FileFault) first second = some_more c first second
gains_by_then now c (Err Halts.NoMemory) first second = some_more c first second

-- One step

-- a step is answered from the state's own outside on
own_step : {K : Type 0} (tables : Tables) (m : Machine K) (stage : RunState) (n : Machine K) (was : Outside) (state : State Frames Frames)
    (before after : CallStreams) (result : Result RunState Halt)
    → IsAt tables was state m stage → TellsOutside before was
    → AnswersStep (λ now answer. SettlesAt tables now (step flat tables state) n answer) (step flat tables state) was before after result
    → Leads IsFailing tables state was before n after result
own_step tables m stage n was state before after result at told last =
    let own = at_own tables was state m stage at in record {
      count = 0;
      through = tt;
      between = before;
      follows = subst (λ (o : Outside). Follows before before was o) (sym own) (follows_all before was told);
      last =
          subst (λ (o : Outside). AnswersStep (λ now answer. SettlesAt tables now (step flat tables state) n answer) (step flat tables state) o before
          after result)
          (sym own) last;
    }

-- nothing is taken
none_lost : (left : Option (List ℕ)) → IfSome left (λ l. LosesSome l left)
none_lost None = tt
none_lost (Some l) = (0, refl)

-- a step that neither reads nor puts, and never errs
pub quiet_step : {K : Type 0} (tables : Tables) (m : Machine K) (stage : RunState) (h : CallStreams) (n : Machine K) (next : RunState)
    → goes_on stage ≡ true
    → ((was : Outside) (state : State Frames Frames) → IsAt tables was state m stage → StandsAt tables was (step flat tables state) n next)
    → Advances IsFailing tables m stage h n h (Ok next)
quiet_step tables m stage h n next goes stands = record {
  answers =
      λ was state at told. own_step tables m stage n was state h h (Ok next) at told
      (record { now = was; follows = follows_all h was told; is = stands was state at });
  meant = λ was state at. let own : outside_at state ≡ was = at_own tables was state m stage at in record {
    first = was;
    later = [];
    through = tt;
    readings = (ap (λ (o : Outside). o.history) (sym own), tt);
    now = was;
    is = subst (λ (s : State Frames Frames). StandsAt tables was (step flat tables s) n next) (sym (at_same tables was state m stage at)) (stands was state at);
    gains = gains_none h (ap (λ (o : Outside). o.history) (sym own));
  };
  taken = none_lost h.left;
  caused = keeps_all_counts_refl h;
}

-- where the machine stands over the input that the answer is meant for, and what was handed has gained
meant_at : {K : Type 0} (tables : Tables) (state : State Frames Frames) (n : Machine K) (was : Outside) (before after : CallStreams) (had has : Told)
    (result : Result RunState Halt)
    → AnswersStep (λ now answer. SettlesAt tables now state n answer) state was (streams_telling had before) (streams_telling has after) result
    → (now : Outside) × (StandsBy tables now state n result × GainsBy result was.history now.history before after)
meant_at tables state n was before after had has (Ok stage) h = (h.now, (h.is, gains_followed was h.now before after had has h.follows))
meant_at tables state n was before after had has (Err (Halts.Error number offending)) h =
    (h.now, (h.is, gains_followed was h.now before after had has h.follows))
meant_at tables state n was before after had has (Err (Halts.Ends status)) h =
    (h.now, (h.is, gains_followed was h.now before after had has h.follows))
meant_at tables state n was before after had has (Err Halts.ReadFault) h = (was, (tt, (errors_in h.done, h.stands.errors)))
meant_at tables state n was before after had has (Err Halts.WriteFault) h = (was, (tt, (errors_in h.done, h.stands.errors)))
meant_at tables state n was before after had has (Err Halts.FileFault) h = (was, (tt, (errors_in h.done, h.stands.errors)))
meant_at tables state n was before after had has (Err Halts.NoMemory) h = (was, (tt, some_off state was before after had has h))

-- a step that performs a row
pub performed_step : {K : Type 0} (tables : Tables) (leads : Outside → State Frames Frames) (m : Machine K) (stage : RunState) (before : CallStreams)
    (n : Machine K) (after : CallStreams) (result : Result RunState Halt)
    → ((was : Outside) (state : State Frames Frames) → IsAt tables was state m stage → step flat tables state ≡ leads was)
    → SettlesOn tables leads n before after result → Advances IsFailing tables m stage before n after result
performed_step tables leads m stage before n after result is p = record {
  answers = λ was state at told. own_step tables m stage n was state before after result at told
      (subst (λ (s : State Frames Frames). AnswersStep (λ now answer. SettlesAt tables now s n answer) s was before after result) (sym (is was state at))
      (p.answers was told));
  meant = λ was state at.
      let first : Outside = record (outside_at state) { left = p.had.left; files = p.had.files } in
      let same : step flat tables (over_outside first state) ≡ leads first
      = is first (over_outside first state) (at_elsewhere tables was first state m stage at) in
      let there = meant_at tables (leads first) n first before after p.had p.has result (p.meant first (record { left = refl; files = λ name. refl })) in
      record {
        first = first;
        later = [];
        through = tt;
        readings = (refl, tt);
        now = there.0;
        is = subst (λ (s : State Frames Frames). StandsBy tables there.0 s n result) (sym same) there.1.0;
        gains = there.1.1;
      };
  taken = told_taken before after p.had p.has p.allowed p.allows
      (step_taken (λ now answer. SettlesAt tables now (leads (outside_told p.had)) n answer) (leads (outside_told p.had))
      (outside_told p.had) (streams_telling p.had before) (streams_telling p.has after) result refl
      (p.meant (outside_told p.had) (told_so p.had)));
  caused = first_fault before after result p.caused;
}

-- Some steps after others
pub advances_then : {K : Type 0} (Is : State Frames Frames → Type 0) (tables : Tables) (m : Machine K) (stage : RunState) (a : CallStreams) (n : Machine K)
    (next : RunState) (b : CallStreams) (k : Machine K) (c : CallStreams) (result : Result RunState Halt)
    → goes_on next ≡ true → Passes Is tables n next
    → Advances Is tables m stage a n b (Ok next) → Advances Is tables n next b k c result → Advances Is tables m stage a k c result
advances_then Is tables m stage a n next b k c result goes passes first second = record {
  answers = λ was state at told.
      let one = first.answers was state at told in
      let now = one.last.now in
      let one_told = follows_tells told one.follows in
      let there = steps flat tables (suc one.count) state in
      let two = second.answers now there (is_at tables now there n next goes one.last.is) (follows_tells one_told one.last.follows) in
      let same : steps flat tables (suc one.count + two.count) state ≡ steps flat tables two.count there = steps_then tables (suc one.count) two.count state in
      let more : suc (suc one.count + two.count) ≡ suc one.count + suc two.count = omega arith in
      let all : steps flat tables (suc (suc one.count + two.count)) state ≡ steps flat tables (suc two.count) there
      = ap (λ (j : ℕ). steps flat tables j state) more ∙ steps_then tables (suc one.count) (suc two.count) state in
      record {
        count = suc one.count + two.count;
        through = all_then Is tables one.count two.count (step flat tables state) one.through
            (passes now there (is_at tables now there n next goes one.last.is)) two.through;
        between = two.between;
        follows =
            subst (λ (s : State Frames Frames). Follows a two.between was (outside_at s)) (sym same)
            (follows_then (follows_then one.follows one.last.follows) two.follows);
        last =
            subst (λ (s : State Frames Frames). AnswersStep
            (λ now answer. SettlesAt tables now (steps flat tables (suc (suc one.count + two.count)) state) k answer)
            (steps flat tables (suc (suc one.count + two.count)) state) (outside_at s) two.between c result)
            (sym same)
            (subst
            (λ (s : State Frames Frames). AnswersStep (λ now answer. SettlesAt tables now s k answer) s (outside_at (steps flat tables two.count there))
            two.between c result)
            (sym all) two.last);
      };
  meant = λ was state at.
      let one = first.meant was state at in
      let there = run_over tables (one.first ∷ one.later) state in
      let two = second.meant one.now there (is_at tables one.now there n next goes one.is) in
      record {
        first = one.first;
        later = one.later ++ two.first ∷ two.later;
        through = all_over_then Is tables one.later two.first two.later (step flat tables (over_outside one.first state)) one.through
            (passes one.now there (is_at tables one.now there n next goes one.is)) two.through;
        readings = readings_then tables (one.first ∷ one.later) (two.first ∷ two.later) state one.readings two.readings;
        now = two.now;
        is =
            subst (λ (s : State Frames Frames). StandsBy tables two.now s k result)
            (sym (over_then tables (one.first ∷ one.later) (two.first ∷ two.later) state)) two.is;
        gains = gains_by_then two.now.history c result one.gains
            (subst (λ (o : Outside). GainsBy result o.history two.now.history b c) (at_own tables one.now there n next
            (is_at tables one.now there n next goes one.is)) two.gains);
      };
  taken = taken_then a.left b.left c.left first.taken second.taken;
  caused = fault_then a b c result first.caused second.caused;
}

-- Whatever the states between are

all_any : (Is : State Frames Frames → Type 0) (tables : Tables) (n : ℕ) (a : State Frames Frames) → AreAll Is tables n a → AreAll IsAny tables n a
all_any Is tables zero a all = tt
all_any Is tables (suc n) a all = (tt, all_any Is tables n (step flat tables a) all.1)

all_over_any : (Is : State Frames Frames → Type 0) (tables : Tables) (os : List Outside) (a : State Frames Frames) → AreAllOver Is tables os a
    → AreAllOver IsAny tables os a
all_over_any Is tables [] a all = tt
all_over_any Is tables (o ∷ os) a all = (tt, all_over_any Is tables os (step flat tables (over_outside o a)) all.1)

pub advances_any : {K : Type 0} {Is : State Frames Frames → Type 0} {tables : Tables} {m : Machine K} {stage : RunState} {a : CallStreams} {n : Machine K}
    {b : CallStreams} {result : Result RunState Halt} → Advances Is tables m stage a n b result → Advances IsAny tables m stage a n b result
advances_any {K} {Is} {tables} p = record {
  answers = λ was state at told. let one = p.answers was state at told in record {
    count = one.count;
    through = all_any Is tables one.count (step flat tables state) one.through;
    between = one.between;
    follows = one.follows;
    last = one.last;
  };
  meant = λ was state at. let one = p.meant was state at in record {
    first = one.first;
    later = one.later;
    through = all_over_any Is tables one.later (step flat tables (over_outside one.first state)) one.through;
    readings = one.readings;
    now = one.now;
    is = one.is;
    gains = one.gains;
  };
  taken = p.taken;
  caused = p.caused;
}
