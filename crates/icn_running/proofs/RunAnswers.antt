-- What is answered of a whole run, once its report is put.
use Rattle.std.proofs.Common.{inl, inr, ℕ, List, [], Some, None, Result, Ok, Err, sym, subst}
use Rattle.std.specs.Prelude.{IfErr, IfOk}
use Rattle.std.specs.Option.{option_map}
use Rattle.icn_host.specs.Sinks.{GainsPart, SinkState}
use Rattle.icn_host.proofs.SinkSteps.{part_nothing}
use Rattle.icn_host.specs.FileMaps.{FileMap, StoreState}
use Rattle.icn_host.specs.Puts.{PutsAll}
use Rattle.icn_host.specs.declared.fault.Fault.{Fault}
use Rattle.icn_host.specs.declared.fault.Fault.TheVariants as Faults
use Rattle.icn_value.specs.Limited.{Bounds}
use Rattle.icn_value.specs.Store.{Heap, Outside, outside_of}
use Rattle.icn_heap.specs.Extents.{value_in}
use Rattle.icn_heap.specs.Heaps.{heap_of}
use Rattle.icn_defs.specs.Errors.{error_report}
use Rattle.icn_defs.specs.Interruptions.{breaks_between, breaks_files}
use Rattle.icn_defs.specs.Running.{Ending, Done, Exit, Errored, AtBound, Launch, Observation, bound_report, launch_of}
use Rattle.icn_vars.specs.declared.outcome.Halt.{Halt}
use Rattle.icn_vars.specs.declared.outcome.Halt.TheVariants as Halts
use Rattle.icn_code.specs.Codes.{Tables}
use Rattle.icn_defs.specs.declared.ending.Ending.{Ending as HeldEnding}
use Rattle.icn_run.specs.FlatStep.{Runs, start}
use Rattle.icn_run.specs.Stacks.{Frames}
use Rattle.icn_run.specs.Step.{State, all_names, first_store}
use Rattle.icn_streams.specs.Handed.{CallStreams, TellsOutside}
use Rattle.icn_streams.proofs.CallSequences.{follows_all}
use Rattle.icn_control.specs.Machines.{extent}
use Rattle.icn_control.specs.declared.machine.Machine.{Machine}
use Rattle.icn_control.specs.declared.machine.RunState.TheVariants as RunStates
use Rattle.icn_machine.specs.declared.stepping.AfterStep.{AfterStep}
use Rattle.icn_machine.specs.declared.stepping.AfterStep.TheVariants as AfterSteps
use Rattle.icn_machine.specs.Starting.{StartsAs}
use Rattle.icn_machine.specs.Stepping.{IsAny, IsAt, Leads}
use Rattle.icn_machine.specs.AfterInstruction.{stage_result}
use Rattle.icn_running.specs.declared.fault.RunFault.{RunFault}
use Rattle.icn_running.specs.declared.fault.RunFault.TheVariants.{ReadFault, WriteFault, FileFault, NoMemory}
use Rattle.icn_running.specs.Reported.{AnswersEnd, AnswersFault, AnswersMachine, AnswersUnbegun, CutsShort, EndObjects, WritesAtEnd, cut_short, end_objects, ended, ending_seen, of_store, unwritten}
use Rattle.icn_running.specs.Runs.{AnswersRun, AnswersRuns, IsBrokenOff, LeavesBy, RunsTo}
use Rattle.icn_running.proofs.BrokenOff.{run_breaks_files, run_breaks_off, run_breaks_putting, run_breaks_reading, run_cut_short, run_not_begun, run_unwritten}
use Rattle.icn_running.proofs.Observations.{ComesToEnd, bounded, ended as run_ended, erred, finished, run_reported, then_errors, then_files}

module _ (tables : Tables) (words : List (List ℕ)) (bounds : Bounds) (input : List ℕ) (held : FileMap) (seen : Observation)
    (r : Runs tables (launch_of words bounds input held) seen) (before between : CallStreams) (told : TellsOutside before (outside_of input held))
    (store : StoreState) (errors : SinkState) where
  abbrev launch : Launch
  launch = launch_of words bounds input held

  -- what is handed, once the report is put and the files are written
  abbrev given : CallStreams
  given = then_files (then_errors between errors) store

  abbrev Answers : Result HeldEnding RunFault → Type 0
  Answers answered = AnswersRun tables launch answered before given

  -- the same, where no file is written
  abbrev Unwritten : RunFault → Type 0
  Unwritten fault = AnswersRun tables launch (Err fault) before (then_errors between errors)

  cut_by : (fault : RunFault) (ending : Ending) (heap : Heap) (report : List ℕ) → ComesToEnd tables launch before between ending heap report
      → CutsShort fault between.errors errors report → Unwritten fault
  cut_by ReadFault ending heap report comes cut = absurd cut
  cut_by WriteFault ending heap report comes cut =
      (seen, (r, run_cut_short tables words bounds input held seen r before between errors ending heap report comes told cut.part))
  cut_by FileFault ending heap report comes cut = absurd cut
  cut_by NoMemory ending heap report comes (inl same) = (
    seen,
    (
      r,
      breaks_between (run_cut_short tables words bounds input held seen r before between errors ending heap report comes told
          (subst (λ (s : SinkState). GainsPart between.errors.held s.held report) (sym same) (part_nothing between.errors.held report))),
    ),
  )
  cut_by NoMemory ending heap report comes (inr short) =
      (seen, (r, breaks_between (run_cut_short tables words bounds input held seen r before between errors ending heap report comes told short.part)))

  unwritten_by : (fault : Fault) (ending : Ending) (heap : Heap) (report : List ℕ) → ComesToEnd tables launch before between ending heap report
      → PutsAll between.errors errors report → WritesAtEnd ending heap between.files store (Err fault) → Answers (Err (of_store fault))
  unwritten_by Faults.Failed ending heap report comes puts writes =
      (seen, (r, run_unwritten tables words bounds input held seen r before between store errors ending heap report comes told puts.gains writes.written))
  unwritten_by Faults.NoMemory ending heap report comes puts writes = (
    seen,
    (
      r,
      breaks_files (run_unwritten tables words bounds input held seen r before between store errors ending heap report comes told puts.gains
          writes.written),
    ),
  )

  -- the run is over, its report is put whole or in part, and its files are written or not
  at_its_end : (ending : Ending) (heap : Heap) (report : List ℕ) (answered : Result HeldEnding RunFault)
      → ComesToEnd tables launch before between ending heap report
      → AnswersEnd ending heap report answered (end_objects between.files between.errors) (end_objects store errors) → Answers answered
  at_its_end ending heap report answered comes (ended answer is same puts writes) =
      subst Answers (sym is)
      (subst (λ (x : Ending). RunsTo tables launch x before given) (sym same)
      (run_reported tables words bounds input held before between store errors ending heap report comes told puts.gains writes))
  at_its_end ending heap report answered comes (cut_short fault is cut kept) =
      subst Answers (sym is)
      (subst (λ (s : StoreState). AnswersRun tables launch (Err fault) before (then_files (then_errors between errors) s)) (sym kept)
      (cut_by fault ending heap report comes cut))
  at_its_end ending heap report answered comes (unwritten fault is puts writes) =
      subst Answers (sym is) (unwritten_by fault ending heap report comes puts writes)

  -- a fault broke it off
  at_fault : (fault : RunFault) (answered : Result HeldEnding RunFault) → LeavesBy fault (outside_of input held) seen before between
      → AnswersFault fault answered (end_objects between.files between.errors) (end_objects store errors) → Answers answered
  at_fault fault answered leaves p =
      subst Answers (sym p.0)
      (subst (λ (x : EndObjects). AnswersRun tables launch (Err fault) before (then_files (then_errors between x.errors) x.files)) (sym p.1)
      (seen, (r, leaves)))

  -- its machine has stopped
  at_machine : {K : Type 0} (n : Machine K) (stopped : Result AfterStep Halt) (answered : Result HeldEnding RunFault)
      → Leads IsAny tables (start tables launch) launch.outside before n between (stage_result stopped)
      → AnswersMachine (all_names tables) n stopped answered (end_objects between.files between.errors) (end_objects store errors) → Answers answered
  at_machine n (Ok AfterSteps.Running) answered leads p = absurd p
  at_machine n (Ok AfterSteps.Over) answered leads p =
      at_its_end Done (heap_of n.world.heap) [] answered (finished tables launch n before between leads) p
  at_machine n (Ok AfterSteps.AtBound) answered leads p =
      at_its_end AtBound (heap_of n.world.heap) bound_report answered (bounded tables launch n before between leads) p
  at_machine n (Err (Halts.Error number offending)) answered leads p =
      at_its_end (Errored number) (heap_of n.world.heap)
      (error_report (all_names tables) (heap_of n.world.heap) number (option_map (value_in (extent n)) offending)) answered
      (erred tables launch n before between number offending leads) p
  at_machine n (Err (Halts.Ends status)) answered leads p =
      at_its_end (Exit status) (heap_of n.world.heap) [] answered (run_ended tables launch n before between status leads) p
  at_machine n (Err Halts.ReadFault) answered leads p =
      at_fault ReadFault answered
      (run_breaks_reading tables words bounds input held seen r leads.count before leads.between between leads.follows leads.last) p
  at_machine n (Err Halts.WriteFault) answered leads p =
      at_fault WriteFault answered
      (run_breaks_putting tables words bounds input held seen r leads.count before leads.between between leads.follows leads.last) p
  at_machine n (Err Halts.FileFault) answered leads p =
      at_fault FileFault answered
      (run_breaks_files tables words bounds input held seen r leads.count before leads.between between leads.follows leads.last) p
  at_machine n (Err Halts.NoMemory) answered leads p =
      at_fault NoMemory answered
      (run_breaks_off tables words bounds input held seen r leads.count before leads.between between leads.follows leads.last) p

-- of a run that has started
pub started_answers : {K : Type 0} (tables : Tables) (m n : Machine K) (before between : CallStreams) (store : StoreState) (errors : SinkState)
    (stopped : Result AfterStep Halt) (answered : Result HeldEnding RunFault)
    → ((launch : Launch) → (seen : Observation) × Runs tables launch seen)
    → ((was : Outside) (state : State Frames Frames) → IsAt tables was state m RunStates.Running → TellsOutside before was
    → Leads IsAny tables state was before n between (stage_result stopped))
    → AnswersMachine (all_names tables) n stopped answered (end_objects between.files between.errors) (end_objects store errors)
    → AnswersRuns tables m answered before (then_files (then_errors between errors) store)
started_answers tables m n before between store errors stopped answered ends leads p words bounds input held told stands =
    let run = ends (launch_of words bounds input held) in
    at_machine tables words bounds input held run.0 run.1 before between told store errors n stopped answered
    (leads (outside_of input held) (start tables (launch_of words bounds input held)) stands told) p

-- of one that was over before its first instruction
pub unbegun_answers : (K : Type 0) (tables : Tables) (words : List (List ℕ)) (bounds : Bounds) (input : List ℕ) (held : FileMap) (seen : Observation)
    (halt : Halt) (answered : Result HeldEnding RunFault) (before : CallStreams) (store : StoreState) (errors : SinkState)
    → Runs tables (launch_of words bounds input held) seen → TellsOutside before (outside_of input held)
    → StartsAs {K = K} tables (launch_of words bounds input held) (Err halt)
    → AnswersUnbegun (all_names tables) (first_store {K = Frames} tables (launch_of words bounds input held)).world.heap halt answered
    (end_objects before.files before.errors) (end_objects store errors)
    → AnswersRun tables (launch_of words bounds input held) answered before (then_files (then_errors before errors) store)
unbegun_answers K tables words bounds input held seen (Halts.Error number None) answered before store errors r told starts p =
    at_its_end tables words bounds input held seen r before before told store errors (Errored number)
    (first_store {K = Frames} tables (launch_of words bounds input held)).world.heap
    (error_report (all_names tables) (first_store {K = Frames} tables (launch_of words bounds input held)).world.heap number None) answered
    (record { count = 0; now = outside_of input held; is = starts; follows = follows_all before (outside_of input held) told }) p
unbegun_answers K tables words bounds input held seen (Halts.Error number (Some offending)) answered before store errors r told starts p = absurd p
unbegun_answers K tables words bounds input held seen (Halts.Ends status) answered before store errors r told starts p = absurd p
unbegun_answers K tables words bounds input held seen Halts.ReadFault answered before store errors r told starts p = absurd p
unbegun_answers K tables words bounds input held seen Halts.WriteFault answered before store errors r told starts p = absurd p
unbegun_answers K tables words bounds input held seen Halts.FileFault answered before store errors r told starts p = absurd p
unbegun_answers K tables words bounds input held seen Halts.NoMemory answered before store errors r told starts p =
    at_fault tables words bounds input held seen r before before told store errors NoMemory answered
    (breaks_between (run_not_begun tables words bounds input held seen r before told)) p

-- By what was answered

module _ (tables : Tables) (launch : List ℕ → FileMap → Launch) (before after : CallStreams) where
  pub run_ends : (answered : Result HeldEnding RunFault)
      → ((left : List ℕ) (files : FileMap) → TellsOutside before (outside_of left files) → AnswersRun tables (launch left files) answered before after)
      → IfOk answered (λ ending. (left : List ℕ) (files : FileMap) → TellsOutside before (outside_of left files)
      → RunsTo tables (launch left files) (ending_seen ending) before after)
  run_ends (Ok ending) answers = answers
  run_ends (Err fault) answers = tt

  pub run_breaks : (answered : Result HeldEnding RunFault)
      → ((left : List ℕ) (files : FileMap) → TellsOutside before (outside_of left files) → AnswersRun tables (launch left files) answered before after)
      → IfErr answered (λ fault. (left : List ℕ) (files : FileMap) → TellsOutside before (outside_of left files)
      → IsBrokenOff tables (launch left files) fault before after)
  run_breaks (Ok ending) answers = tt
  run_breaks (Err fault) answers = answers
