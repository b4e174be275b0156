-- What a run reports that is over, and what it puts, whatever its input tells.
use Rattle.std.proofs.Common.{◌≡◌, ◌∙◌, inl, inr, ℕ, List, [], ◌∷◌, ◌++◌, Some, None, Result, Ok, Err, refl, sym, ap, subst, take}
use Rattle.std.specs.Prelude.{IsErrAnd}
use Rattle.std.specs.Option.{option_map}
use Rattle.icn_host.specs.Counts.{raised_count}
use Rattle.icn_host.specs.FileMaps.{FileMap, StoreState}
use Rattle.icn_host.specs.Sinks.{Gains, SinkState}
use Rattle.icn_host.proofs.KeptSteps.{gains_keeps}
use Rattle.icn_host.proofs.SinkSteps.{gains_nothing, gains_then}
use Rattle.icn_value.specs.Limited.{Bounds}
use Rattle.icn_value.specs.Store.{Event, Heap, Outside, errors_in, outside_of, output_in, readings_in}
use Rattle.icn_heap.specs.Extents.{value_in}
use Rattle.icn_heap.specs.Heaps.{heap_of}
use Rattle.icn_defs.specs.Errors.{error_report}
use Rattle.icn_defs.specs.Running.{Ending, Done, Exit, Errored, AtBound, Launch, bound_report, launch_of, with_errors}
use Rattle.icn_defs.specs.declared.ending.Ending.{Ending as HeldEnding}
use Rattle.icn_vars.specs.declared.outcome.Halt.{Halt}
use Rattle.icn_vars.specs.declared.outcome.Halt.TheVariants as Halts
use Rattle.icn_code.specs.Codes.{Tables}
use Rattle.icn_run.specs.AnyOutside.{run_over}
use Rattle.icn_run.specs.FlatStep.{start}
use Rattle.icn_run.specs.Stacks.{Frames}
use Rattle.icn_run.specs.Step.{State, all_names, first_store, over}
use Rattle.icn_streams.specs.Handed.{CallStreams, LeavesStreams}
use Rattle.icn_streams.specs.Settling.{HoldsBoth}
use Rattle.icn_control.specs.Machines.{extent}
use Rattle.icn_control.specs.declared.machine.Machine.{Machine}
use Rattle.icn_control.specs.declared.machine.RunState.{RunState}
use Rattle.icn_control.specs.declared.machine.RunState.TheVariants as RunStates
use Rattle.icn_machine.specs.AfterInstruction.{stage_result}
use Rattle.icn_machine.specs.Starting.{StartsAs}
use Rattle.icn_machine.specs.Stepping.{AreReadings, GainsBy, GainsEvents, GainsSome, IsAny, IsAt, LeadsOver, outside_at}
use Rattle.icn_machine.specs.declared.stepping.AfterStep.{AfterStep}
use Rattle.icn_machine.specs.declared.stepping.AfterStep.TheVariants as AfterSteps
use Rattle.icn_machine.proofs.AdvanceSteps.{gains_none}
use Rattle.icn_running.specs.declared.fault.RunFault.{RunFault}
use Rattle.icn_running.specs.declared.fault.RunFault.TheVariants.{ReadFault, WriteFault, FileFault, NoMemory}
use Rattle.icn_running.specs.Reported.{AnswersEnd, AnswersFault, AnswersMachine, AnswersUnbegun, CutsShort, EndObjects, IsReportOf, at_end, cut_short, end_objects, ended, unwritten}
use Rattle.icn_running.specs.Runs.{ReportsRun, ReportsRuns, RunsOver}
use Rattle.icn_running.specs.SettledEnds.{SettlesRun}
use Rattle.icn_running.proofs.Observations.{no_errors, then_errors, then_files}
use Rattle.icn_running.proofs.SettledEnds.{holds_by}

-- Where a run is over

-- The run is over so over some outside, with this report, behind which the files of this heap are written; what was handed has gained what it did
-- before the report.
pub record ComesOver (tables : Tables) (launch : Launch) (before between : CallStreams) (ending : Ending) (heap : Heap) (report : List ℕ) : Type 0 where
  pub outsides : List Outside
  pub readings : AreReadings tables outsides (start tables launch)
  pub now : Outside
  pub is : run_over tables outsides (start tables launch) ≡ over ending (at_end ending heap (with_errors report now))
  pub gains : GainsEvents [] now.history before between

module _ {K : Type 0} (tables : Tables) (launch : Launch) (none : (outside_at (start tables launch)).history ≡ []) (n : Machine K)
    (before between : CallStreams) where
  -- the heap of the machine
  abbrev held : Heap
  held = heap_of n.world.heap

  comes_over : (result : Result RunState Halt) (ending : Ending) (report : List ℕ)
      → (leads : LeadsOver IsAny tables (start tables launch) before n between result)
      → run_over tables (leads.first ∷ leads.later) (start tables launch) ≡ over ending (at_end ending held (with_errors report leads.now))
      → GainsEvents (outside_at (start tables launch)).history leads.now.history before between
      → ComesOver tables launch before between ending held report
  comes_over result ending report leads is gains = record {
    outsides = leads.first ∷ leads.later;
    readings = leads.readings;
    now = leads.now;
    is = is;
    gains = subst (λ (h : List Event). GainsEvents h leads.now.history before between) none gains;
  }

  -- without a report
  quiet_over : (result : Result RunState Halt) (ending : Ending)
      → (leads : LeadsOver IsAny tables (start tables launch) before n between result)
      → run_over tables (leads.first ∷ leads.later) (start tables launch) ≡ over ending (at_end ending held leads.now)
      → GainsEvents (outside_at (start tables launch)).history leads.now.history before between
      → ComesOver tables launch before between ending held []
  quiet_over result ending leads is gains =
      comes_over result ending [] leads (is ∙ ap (λ (o : Outside). over ending (at_end ending held o)) (sym (no_errors leads.now))) gains

-- What was put

some_kept : (a b c : CallStreams) → b.errors ≡ c.errors → GainsSome a b → GainsSome a c
some_kept a b c same some = (some.0, subst (λ (s : SinkState). Gains a.errors.held s.held some.0) same some.1)

-- events, and then some first part of a report
some_then : {was now : List Event} {a b : CallStreams} (errors : SinkState) (more : List ℕ) → GainsEvents was now a b
    → Gains b.errors.held errors.held more → GainsSome a (then_errors b errors)
some_then errors more gains part = (errors_in gains.done ++ more, gains_then gains.errors part)

some_events : {was now : List Event} {a b : CallStreams} → GainsEvents was now a b → GainsSome a b
some_events gains = (errors_in gains.done, gains.errors)

some_by : (was now : List Event) (a b : CallStreams) (result : Result RunState Halt) → GainsBy result was now a b → GainsSome a b
some_by was now a b (Ok stage) gains = some_events gains
some_by was now a b (Err (Halts.Error number offending)) gains = some_events gains
some_by was now a b (Err (Halts.Ends status)) gains = some_events gains
some_by was now a b (Err Halts.ReadFault) some = some
some_by was now a b (Err Halts.WriteFault) some = some
some_by was now a b (Err Halts.FileFault) some = some
some_by was now a b (Err Halts.NoMemory) some = some

-- What is answered

module _ (tables : Tables) (launch : Launch) (before between : CallStreams) (store : StoreState) (errors : SinkState) where
  -- what is handed, once the report is put and the files are written
  abbrev given : CallStreams
  given = then_files (then_errors between errors) store

  abbrev Reports : Result HeldEnding RunFault → Type 0
  Reports answered = ReportsRun tables launch answered before given

  -- some first part of the report was put
  cut_by : (fault : RunFault) (ending : Ending) (heap : Heap) (report : List ℕ) → ComesOver tables launch before between ending heap report
      → CutsShort fault between.errors errors report → GainsSome before given
  cut_by ReadFault ending heap report comes cut = absurd cut
  cut_by WriteFault ending heap report comes cut = some_then errors (take cut.part.count report) comes.gains (record { appends = cut.part.appends })
  cut_by FileFault ending heap report comes cut = absurd cut
  cut_by NoMemory ending heap report comes (inl same) = some_kept before between given (sym same) (some_events comes.gains)
  cut_by NoMemory ending heap report comes (inr short) =
      some_then errors (take short.part.count report) comes.gains (record { appends = short.part.appends })

  -- the report was put, whole or in part
  over_end : (ending : Ending) (heap : Heap) (report : List ℕ) (answered : Result HeldEnding RunFault) → IsReportOf (all_names tables) ending report
      → ComesOver tables launch before between ending heap report
      → AnswersEnd ending heap report answered (end_objects between.files between.errors) (end_objects store errors) → Reports answered
  over_end ending heap report answered kind comes (ended answer is same puts writes) =
      subst Reports (sym is) (subst (λ (x : Ending). RunsOver tables launch x before given) (sym same) (record {
        report = record {
          outsides = comes.outsides;
          readings = comes.readings;
          now = comes.now;
          report = report;
          heap = heap;
          is = comes.is;
          kind = kind;
          gains = gains_then
              (subst (λ (h : List Event). Gains before.errors.held between.errors.held (errors_in h)) (sym comes.gains.history) comes.gains.errors)
              puts.gains;
        };
        calls = subst (λ (h : List Event). between.counts.calls ≡ raised_count before.counts.calls (readings_in h)) (sym comes.gains.history) comes.gains.calls;
        output = subst (λ (h : List Event). Gains before.output.held between.output.held (output_in h)) (sym comes.gains.history) comes.gains.output;
      }))
  over_end ending heap report answered kind comes (cut_short fault is cut left) = subst Reports (sym is) (cut_by fault ending heap report comes cut)
  over_end ending heap report answered kind comes (unwritten fault is puts writes) = subst Reports (sym is) (some_then errors report comes.gains puts.gains)

  -- a fault broke the run off
  over_fault : (fault : RunFault) (answered : Result HeldEnding RunFault) → GainsSome before between
      → AnswersFault fault answered (end_objects between.files between.errors) (end_objects store errors) → Reports answered
  over_fault fault answered some p =
      subst Reports (sym p.0) (some_kept before between given (sym (ap (λ (x : EndObjects). x.errors) p.1)) some)

  module _ {K : Type 0} (none : (outside_at (start tables launch)).history ≡ []) (n : Machine K) where
    -- the machine has stopped
    over_machine : (stopped : Result AfterStep Halt) (answered : Result HeldEnding RunFault)
        → LeadsOver IsAny tables (start tables launch) before n between (stage_result stopped)
        → AnswersMachine (all_names tables) n stopped answered (end_objects between.files between.errors) (end_objects store errors) → Reports answered
    over_machine (Ok AfterSteps.Running) answered leads p = absurd p
    over_machine (Ok AfterSteps.Over) answered leads p =
        over_end Done (heap_of n.world.heap) [] answered refl
        (quiet_over tables launch none n before between (Ok RunStates.Over) Done leads leads.is leads.gains) p
    over_machine (Ok AfterSteps.AtBound) answered leads p =
        over_end AtBound (heap_of n.world.heap) bound_report answered refl
        (comes_over tables launch none n before between (Ok RunStates.AtBound) AtBound bound_report leads leads.is leads.gains) p
    over_machine (Err (Halts.Error number offending)) answered leads p =
        let report : List ℕ = error_report (all_names tables) (heap_of n.world.heap) number (option_map (value_in (extent n)) offending) in
        over_end (Errored number) (heap_of n.world.heap) report answered (heap_of n.world.heap, (option_map (value_in (extent n)) offending, refl))
        (comes_over tables launch none n before between (Err (Halts.Error number offending)) (Errored number) report leads leads.is leads.gains) p
    over_machine (Err (Halts.Ends status)) answered leads p =
        over_end (Exit status) (heap_of n.world.heap) [] answered refl
        (quiet_over tables launch none n before between (Err (Halts.Ends status)) (Exit status) leads leads.is leads.gains) p
    over_machine (Err Halts.ReadFault) answered leads p = over_fault ReadFault answered leads.gains p
    over_machine (Err Halts.WriteFault) answered leads p = over_fault WriteFault answered leads.gains p
    over_machine (Err Halts.FileFault) answered leads p = over_fault FileFault answered leads.gains p
    over_machine (Err Halts.NoMemory) answered leads p = over_fault NoMemory answered leads.gains p

-- of a run that has started
pub started_reports : {K : Type 0} (tables : Tables) (m n : Machine K) (before between : CallStreams) (store : StoreState) (errors : SinkState)
    (stopped : Result AfterStep Halt) (answered : Result HeldEnding RunFault)
    → ((was : Outside) (state : State Frames Frames) → IsAt tables was state m RunStates.Running
    → LeadsOver IsAny tables state before n between (stage_result stopped))
    → AnswersMachine (all_names tables) n stopped answered (end_objects between.files between.errors) (end_objects store errors)
    → ReportsRuns tables m answered before (then_files (then_errors between errors) store)
started_reports tables m n before between store errors stopped answered meant p words bounds left files stands =
    over_machine tables (launch_of words bounds left files) before between store errors
    (ap (λ (s : State Frames Frames). (outside_at s).history) stands) n stopped answered
    (meant (outside_of left files) (start tables (launch_of words bounds left files)) stands) p

-- of one that was over before its first instruction
pub unbegun_reports : (K : Type 0) (tables : Tables) (words : List (List ℕ)) (bounds : Bounds) (left : List ℕ) (files : FileMap)
    (halt : Halt) (answered : Result HeldEnding RunFault) (before : CallStreams) (store : StoreState) (errors : SinkState)
    → StartsAs {K = K} tables (launch_of words bounds left files) (Err halt)
    → AnswersUnbegun (all_names tables) (first_store {K = Frames} tables (launch_of words bounds left files)).world.heap halt answered
    (end_objects before.files before.errors) (end_objects store errors)
    → ReportsRun tables (launch_of words bounds left files) answered before (then_files (then_errors before errors) store)
unbegun_reports K tables words bounds left files (Halts.Error number None) answered before store errors starts p =
    over_end tables (launch_of words bounds left files) before before store errors (Errored number)
    (first_store {K = Frames} tables (launch_of words bounds left files)).world.heap
    (error_report (all_names tables) (first_store {K = Frames} tables (launch_of words bounds left files)).world.heap number None) answered
    ((first_store {K = Frames} tables (launch_of words bounds left files)).world.heap, (None, refl))
    (record { outsides = []; readings = tt; now = outside_of left files; is = starts; gains = gains_none before refl }) p
unbegun_reports K tables words bounds left files (Halts.Error number (Some offending)) answered before store errors starts p = absurd p
unbegun_reports K tables words bounds left files (Halts.Ends status) answered before store errors starts p = absurd p
unbegun_reports K tables words bounds left files Halts.ReadFault answered before store errors starts p = absurd p
unbegun_reports K tables words bounds left files Halts.WriteFault answered before store errors starts p = absurd p
unbegun_reports K tables words bounds left files Halts.FileFault answered before store errors starts p = absurd p
unbegun_reports K tables words bounds left files Halts.NoMemory answered before store errors starts p =
    over_fault tables (launch_of words bounds left files) before before store errors NoMemory answered ([], gains_nothing before.errors.held) p

-- Both outputs were settled, or could not be

gains_settled : {was now : List Event} {a b c : CallStreams} → LeavesStreams b c → GainsEvents was now a b → GainsEvents was now a c
gains_settled leaves gains = record {
  done = gains.done;
  history = gains.history;
  calls = leaves.calls ∙ gains.calls;
  output = gains_keeps gains.output leaves.output.held;
  errors = gains_keeps gains.errors leaves.errors.held;
}

some_held : (a : CallStreams) {b c : CallStreams} → GainsSome a b → HoldsBoth b c → GainsSome a c
some_held a some holds = (some.0, gains_keeps some.1 holds.errors)

by_settled : (was now : List Event) (a : CallStreams) {b c : CallStreams} (result : Result RunState Halt) → LeavesStreams b c
    → GainsBy result was now a b → GainsBy result was now a c
by_settled was now a (Ok stage) leaves gains = gains_settled leaves gains
by_settled was now a (Err (Halts.Error number offending)) leaves gains = gains_settled leaves gains
by_settled was now a (Err (Halts.Ends status)) leaves gains = gains_settled leaves gains
by_settled was now a (Err Halts.ReadFault) leaves some = (some.0, gains_keeps some.1 leaves.errors.held)
by_settled was now a (Err Halts.WriteFault) leaves some = (some.0, gains_keeps some.1 leaves.errors.held)
by_settled was now a (Err Halts.FileFault) leaves some = (some.0, gains_keeps some.1 leaves.errors.held)
by_settled was now a (Err Halts.NoMemory) leaves some = (some.0, gains_keeps some.1 leaves.errors.held)

pub over_settled : {K : Type 0} (tables : Tables) (state : State Frames Frames) (before : CallStreams) (n : Machine K) (between settled : CallStreams)
    (result : Result RunState Halt) → LeavesStreams between settled
    → LeadsOver IsAny tables state before n between result → LeadsOver IsAny tables state before n settled result
over_settled tables state before n between settled result leaves leads = record {
  first = leads.first;
  later = leads.later;
  through = leads.through;
  readings = leads.readings;
  now = leads.now;
  is = leads.is;
  gains = by_settled (outside_at state).history leads.now.history before result leaves leads.gains;
}

pub unsettled_reports : {K : Type 0} (tables : Tables) (m n : Machine K) (before between after : CallStreams) (stopped : Result AfterStep Halt)
    (fault : RunFault) (answered : Result HeldEnding RunFault)
    → IsErrAnd answered (λ f. f ≡ fault) → SettlesRun {A = Unit {0}} between after (Err fault)
    → ((was : Outside) (state : State Frames Frames) → IsAt tables was state m RunStates.Running
    → LeadsOver IsAny tables state before n between (stage_result stopped))
    → ReportsRuns tables m answered before after
unsettled_reports tables m n before between after stopped fault (Ok ending) same settles meant words bounds left files stands = absurd same
unsettled_reports tables m n before between after stopped fault (Err other) same settles meant words bounds left files stands =
    let leads = meant (outside_of left files) (start tables (launch_of words bounds left files)) stands in
    some_held before
    (some_by (outside_at (start tables (launch_of words bounds left files))).history leads.now.history before between (stage_result stopped) leads.gains)
    (holds_by between after fault settles)
