-- What is answered of a run once both outputs are settled, or where they could not be.
use Rattle.std.proofs.Common.{refl, None, Some, ◌≡◌, ◌∙◌, ap, sym, subst, ℕ, true, false, List, [], Option, Result, Ok, Err}
use Rattle.std.specs.Prelude.{IfOk, IfSome, IsErrAnd, OnOk}
use Rattle.std.specs.Option.{option_map}
use Rattle.icn_host.specs.FileMaps.{FileMap, StoreState}
use Rattle.icn_host.specs.Sinks.{SinkState}
use Rattle.icn_host.specs.Sources.{SourceCounts}
use Rattle.icn_value.specs.Limited.{Bounds}
use Rattle.icn_value.specs.Store.{Names, Outside, outside_of}
use Rattle.icn_heap.specs.Extents.{value_in}
use Rattle.icn_heap.specs.Heaps.{heap_of}
use Rattle.icn_defs.specs.Errors.{error_report}
use Rattle.icn_defs.specs.Interruptions.{BreaksBetween, LosesSome, breaks_between}
use Rattle.icn_defs.proofs.Interruptions.{stands_kept}
use Rattle.icn_defs.specs.Running.{Done, Exit, Errored, AtBound, Launch, Observation, bound_report, launch_of}
use Rattle.icn_vars.specs.declared.outcome.Halt.{Halt}
use Rattle.icn_vars.specs.declared.outcome.Halt.TheVariants as Halts
use Rattle.icn_code.specs.Codes.{Tables}
use Rattle.icn_defs.specs.declared.ending.Ending.{Ending as HeldEnding}
use Rattle.icn_run.specs.FlatStep.{Runs, start}
use Rattle.icn_run.specs.Stacks.{Frames}
use Rattle.icn_run.specs.Step.{State, all_names}
use Rattle.icn_streams.specs.Handed.{CallStreams, Follows, KeepsAllCounts, LeavesStreams, TellsOutside, call_streams, streams_of}
use Rattle.icn_streams.specs.Settling.{HoldsBoth, Settles}
use Rattle.icn_control.specs.Machines.{extent}
use Rattle.icn_control.specs.declared.machine.Machine.{Machine}
use Rattle.icn_control.specs.declared.machine.RunState.TheVariants as RunStates
use Rattle.icn_machine.specs.declared.stepping.AfterStep.{AfterStep}
use Rattle.icn_machine.specs.declared.stepping.AfterStep.TheVariants as AfterSteps
use Rattle.icn_machine.specs.Stepping.{IsAny, IsAt, IsFirstFault, Leads}
use Rattle.icn_machine.proofs.CountedFaults.{fault_then, first_fault, left_alone, sink_then, store_then}
use Rattle.icn_machine.specs.AfterInstruction.{stage_result}
use Rattle.icn_running.specs.DueInstructions.{is_on}
use Rattle.icn_running.specs.declared.fault.RunFault.{RunFault}
use Rattle.icn_running.specs.declared.fault.RunFault.TheVariants.{ReadFault, WriteFault, FileFault, NoMemory}
use Rattle.icn_running.specs.Reported.{AnswersMachine, EndObjects}
use Rattle.icn_running.specs.Runs.{AnswersRun, AnswersRuns, EndsAtFirst, LeavesBy}
use Rattle.icn_running.specs.SettledEnds.{SettlesRun, is_broken}
use Rattle.icn_running.proofs.BrokenOff.{run_unsettled}
use Rattle.icn_running.proofs.Observations.{bounded, ended, erred, finished}

-- What is pending

-- a run that a fault has broken off comes to no ending
pub broken_answers : {K : Type 0} (P : Type 0) (names : Names) (m : Machine K) (stopped : Result AfterStep Halt) (result : Result HeldEnding RunFault)
    (before after : EndObjects) → is_broken stopped ≡ true → AnswersMachine names m stopped result before after → OnOk result P
broken_answers P names m (Ok stepped) result before after broken is = absurd (cc broken)
broken_answers P names m (Err (Halts.Error number offending)) result before after broken is = absurd (cc broken)
broken_answers P names m (Err (Halts.Ends status)) result before after broken is = absurd (cc broken)
broken_answers P names m (Err Halts.ReadFault) result before after broken is = subst (λ r. OnOk r P) (sym is.0) tt
broken_answers P names m (Err Halts.WriteFault) result before after broken is = subst (λ r. OnOk r P) (sym is.0) tt
broken_answers P names m (Err Halts.FileFault) result before after broken is = subst (λ r. OnOk r P) (sym is.0) tt
broken_answers P names m (Err Halts.NoMemory) result before after broken is = subst (λ r. OnOk r P) (sym is.0) tt

pub both_settled : (P Q : Type 0) (result : Result HeldEnding RunFault) → P → OnOk result Q → OnOk result (P × Q)
both_settled P Q (Ok ending) first second = (first, second)
both_settled P Q (Err fault) first second = tt

-- an input that was left alone
pub none_taken : (left : Option (List ℕ)) → IfSome left (λ bytes. LosesSome bytes left)
none_taken None = tt
none_taken (Some bytes) = (0, refl)

-- Why outputs could not be settled

pub settles_at : (halt other : Halt) (o o' e e' : SinkState) → halt ≡ other
    → ((files : StoreState) (left : Option (List ℕ)) (counts : SourceCounts)
    → Settles {A = Unit {0}} (call_streams files left counts o e) (call_streams files left counts o' e') (Err halt))
    → (files : StoreState) (left : Option (List ℕ)) (counts : SourceCounts)
    → Settles {A = Unit {0}} (call_streams files left counts o e) (call_streams files left counts o' e') (Err other)
settles_at halt other o o' e e' same settles files left counts =
    subst (λ h. Settles {A = Unit {0}} (call_streams files left counts o e) (call_streams files left counts o' e') (Err h)) same (settles files left counts)

-- Behind a settling

follows_settled : {a b c : CallStreams} {was now : Outside} → Follows a b was now → LeavesStreams b c → Follows a c was now
follows_settled {a} {b} {c} first settled = record {
  done = first.done;
  extends = first.extends;
  stands = stands_kept (streams_of a) (streams_of b) (streams_of c)
      (ap (λ (s : StoreState). s.held) settled.files) settled.left settled.calls settled.output.held settled.errors.held first.stands;
}

-- what led to an end leads there still
pub leads_settled : {K : Type 0} (tables : Tables) (state : State Frames Frames) (was : Outside) (before : CallStreams) (n : Machine K)
    (between settled : CallStreams) (stopped : Result AfterStep Halt) → is_broken stopped ≡ false → LeavesStreams between settled
    → Leads IsAny tables state was before n between (stage_result stopped) → Leads IsAny tables state was before n settled (stage_result stopped)
leads_settled tables state was before n between settled (Ok stepped) whole leaves leads = record {
  count = leads.count;
  through = leads.through;
  between = leads.between;
  follows = leads.follows;
  last = record { now = leads.last.now; follows = follows_settled leads.last.follows leaves; is = leads.last.is };
}
leads_settled tables state was before n between settled (Err (Halts.Error number offending)) whole leaves leads = record {
  count = leads.count;
  through = leads.through;
  between = leads.between;
  follows = leads.follows;
  last = record { now = leads.last.now; follows = follows_settled leads.last.follows leaves; is = leads.last.is };
}
leads_settled tables state was before n between settled (Err (Halts.Ends status)) whole leaves leads = record {
  count = leads.count;
  through = leads.through;
  between = leads.between;
  follows = leads.follows;
  last = record { now = leads.last.now; follows = follows_settled leads.last.follows leaves; is = leads.last.is };
}
leads_settled tables state was before n between settled (Err Halts.ReadFault) whole leaves leads = absurd (cc whole)
leads_settled tables state was before n between settled (Err Halts.WriteFault) whole leaves leads = absurd (cc whole)
leads_settled tables state was before n between settled (Err Halts.FileFault) whole leaves leads = absurd (cc whole)
leads_settled tables state was before n between settled (Err Halts.NoMemory) whole leaves leads = absurd (cc whole)

-- no count rose in a run that no fault broke off
none_rose : (before between : CallStreams) (stopped : Result AfterStep Halt) → is_broken stopped ≡ false
    → IsFirstFault (stage_result stopped) before between → KeepsAllCounts before between
none_rose before between (Ok stepped) whole first = first
none_rose before between (Err (Halts.Error number offending)) whole first = first
none_rose before between (Err (Halts.Ends status)) whole first = first
none_rose before between (Err Halts.ReadFault) whole first = absurd (cc whole)
none_rose before between (Err Halts.WriteFault) whole first = absurd (cc whole)
none_rose before between (Err Halts.FileFault) whole first = absurd (cc whole)
none_rose before between (Err Halts.NoMemory) whole first = absurd (cc whole)

rose_none : (before after : CallStreams) (stopped : Result AfterStep Halt) → is_broken stopped ≡ false → KeepsAllCounts before after
    → IsFirstFault (stage_result stopped) before after
rose_none before after (Ok stepped) whole kept = kept
rose_none before after (Err (Halts.Error number offending)) whole kept = kept
rose_none before after (Err (Halts.Ends status)) whole kept = kept
rose_none before after (Err Halts.ReadFault) whole kept = absurd (cc whole)
rose_none before after (Err Halts.WriteFault) whole kept = absurd (cc whole)
rose_none before after (Err Halts.FileFault) whole kept = absurd (cc whole)
rose_none before after (Err Halts.NoMemory) whole kept = absurd (cc whole)

counts_settled : {a b c : CallStreams} → KeepsAllCounts a b → LeavesStreams b c → KeepsAllCounts a c
counts_settled {a} {b} {c} first settled = record {
  files = store_then first.files (left_alone b.files c.files settled.files);
  faults = settled.faults ∙ first.faults;
  output = sink_then first.output settled.output.counts;
  errors = sink_then first.errors settled.errors.counts;
}

pub first_settled : (before between settled : CallStreams) (stopped : Result AfterStep Halt) → is_broken stopped ≡ false
    → LeavesStreams between settled → IsFirstFault (stage_result stopped) before between → IsFirstFault (stage_result stopped) before settled
first_settled before between settled stopped whole leaves first =
    rose_none before settled stopped whole (counts_settled (none_rose before between stopped whole first) leaves)

-- Where the outputs could not be settled

module _ {K : Type 0} (tables : Tables) (words : List (List ℕ)) (bounds : Bounds) (input : List ℕ) (held : FileMap) (seen : Observation)
    (r : Runs tables (launch_of words bounds input held) seen) (before between after : CallStreams)
    (told : TellsOutside before (outside_of input held)) (holds : HoldsBoth between after) (n : Machine K) where
  abbrev launch : Launch
  launch = launch_of words bounds input held

  -- a run that is over
  unsettled : (stopped : Result AfterStep Halt) → is_broken stopped ≡ false → IfOk stopped (λ stepped. is_on stepped ≡ false)
      → Leads IsAny tables (start tables launch) launch.outside before n between (stage_result stopped)
      → BreaksBetween (outside_of input held) seen.outside (streams_of before) (streams_of after)
  unsettled (Ok AfterSteps.Running) whole stops leads = absurd (cc stops)
  unsettled (Ok AfterSteps.Over) whole stops leads =
      run_unsettled tables words bounds input held seen r before between after Done (heap_of n.world.heap) []
      (finished tables launch n before between leads) told holds
  unsettled (Ok AfterSteps.AtBound) whole stops leads =
      run_unsettled tables words bounds input held seen r before between after AtBound (heap_of n.world.heap) bound_report
      (bounded tables launch n before between leads) told holds
  unsettled (Err (Halts.Error number offending)) whole stops leads =
      run_unsettled tables words bounds input held seen r before between after (Errored number) (heap_of n.world.heap)
      (error_report (all_names tables) (heap_of n.world.heap) number (option_map (value_in (extent n)) offending))
      (erred tables launch n before between number offending leads) told holds
  unsettled (Err (Halts.Ends status)) whole stops leads =
      run_unsettled tables words bounds input held seen r before between after (Exit status) (heap_of n.world.heap) []
      (ended tables launch n before between status leads) told holds
  unsettled (Err Halts.ReadFault) whole stops leads = absurd (cc whole)
  unsettled (Err Halts.WriteFault) whole stops leads = absurd (cc whole)
  unsettled (Err Halts.FileFault) whole stops leads = absurd (cc whole)
  unsettled (Err Halts.NoMemory) whole stops leads = absurd (cc whole)

pub holds_by : (between after : CallStreams) (fault : RunFault) → SettlesRun {A = Unit {0}} between after (Err fault) → HoldsBoth between after
holds_by between after ReadFault settles = absurd settles
holds_by between after WriteFault settles = settles.0
holds_by between after FileFault settles = absurd settles
holds_by between after NoMemory settles = settles.0

leaves_by : (first : Outside) (seen : Observation) (before between after : CallStreams) (fault : RunFault)
    → SettlesRun {A = Unit {0}} between after (Err fault)
    → BreaksBetween first seen.outside (streams_of before) (streams_of after) → LeavesBy fault first seen before after
leaves_by first seen before between after ReadFault settles breaks = absurd settles
leaves_by first seen before between after WriteFault settles breaks = breaks
leaves_by first seen before between after FileFault settles breaks = absurd settles
leaves_by first seen before between after NoMemory settles breaks = breaks_between breaks

-- the fault for which the outputs could not be settled is answered
pub unsettled_answers : {K : Type 0} (tables : Tables) (m n : Machine K) (before between after : CallStreams)
    (stopped : Result AfterStep Halt) (fault : RunFault) (answered : Result HeldEnding RunFault)
    → IsErrAnd answered (λ f. f ≡ fault) → is_broken stopped ≡ false → IfOk stopped (λ stepped. is_on stepped ≡ false)
    → SettlesRun {A = Unit {0}} between after (Err fault)
    → ((launch : Launch) → (seen : Observation) × Runs tables launch seen)
    → ((was : Outside) (state : State Frames Frames) → IsAt tables was state m RunStates.Running → TellsOutside before was
    → Leads IsAny tables state was before n between (stage_result stopped))
    → AnswersRuns tables m answered before after
unsettled_answers tables m n before between after stopped fault
    (Ok ending) same whole stops settles ends leads words bounds input held told stands = absurd same
unsettled_answers tables m n before between after stopped fault (Err other) same whole stops settles ends leads words bounds input held told stands =
    let run = ends (launch_of words bounds input held) in
    subst (λ f. AnswersRun tables (launch_of words bounds input held) (Err f) before after) (sym same) (
      run.0,
      (
        run.1,
        leaves_by (outside_of input held) run.0 before between after fault settles
            (unsettled tables words bounds input held run.0 run.1 before between after told (holds_by between after fault settles) n stopped whole stops
            (leads (outside_of input held) (start tables (launch_of words bounds input held)) stands told)),
      ),
    )

counts_by : (before between after : CallStreams) (fault : RunFault) → KeepsAllCounts before between → SettlesRun {A = Unit {0}} between after (Err fault)
    → EndsAtFirst {A = HeldEnding} (Err fault) before after
counts_by before between after ReadFault kept settles = absurd settles
counts_by before between after WriteFault kept settles =
    fault_then {A = Unit {0}} before between after (Err Halts.WriteFault) kept
    (first_fault {A = Unit {0}} between after (Err Halts.WriteFault) settles.1)
counts_by before between after FileFault kept settles = absurd settles
counts_by before between after NoMemory kept settles = fault_then {A = Unit {0}} before between after (Err Halts.NoMemory) kept settles.1

pub unsettled_counts : (before between after : CallStreams) (stopped : Result AfterStep Halt) (fault : RunFault) (answered : Result HeldEnding RunFault)
    → IsErrAnd answered (λ f. f ≡ fault) → is_broken stopped ≡ false → IsFirstFault (stage_result stopped) before between
    → SettlesRun {A = Unit {0}} between after (Err fault) → EndsAtFirst answered before after
unsettled_counts before between after stopped fault (Ok ending) same whole first settles = absurd same
unsettled_counts before between after stopped fault (Err other) same whole first settles =
    subst (λ f. EndsAtFirst {A = HeldEnding} (Err f) before after) (sym same)
    (counts_by before between after fault (none_rose before between stopped whole first) settles)
