-- What is observed of a run that is over, and what it leaves in the streams.
use Rattle.std.proofs.Common.{◌≡◌, ℕ, suc, List, [], Option, Some, Ok, Err, refl, sym, ap, ◌∙◌, subst, append-nil}
use Rattle.std.specs.Prelude.{map}
use Rattle.std.specs.Option.{option_map}
use Rattle.icn_host.specs.Counts.{raised_count}
use Rattle.icn_host.specs.FileMaps.{FileMap, StoreState}
use Rattle.icn_host.specs.Sinks.{Gains, SinkState}
use Rattle.icn_host.proofs.SinkSteps.{gains_nothing}
use Rattle.icn_value.specs.Limited.{Bounds}
use Rattle.icn_value.specs.Store.{ErrorByte, Event, Heap, Outside, errors_in, output_in, outside_of, readings_in}
use Rattle.icn_value.specs.declared.val.Val.{Val}
use Rattle.icn_heap.specs.Extents.{value_in}
use Rattle.icn_heap.specs.Heaps.{heap_of}
use Rattle.icn_defs.specs.Errors.{error_report}
use Rattle.icn_defs.specs.Interruptions.{Ends, ExtendsBy, HoldsMap, files_behind, left_behind}
use Rattle.icn_defs.proofs.Interruptions.{errors_put, errors_read_none, extends_by_ending, extends_by_errors, extends_itself, files_by_errors, holds_told, left_by_errors, output_of_errors}
use Rattle.icn_defs.specs.Running.{Ending, Done, Exit, Errored, AtBound, Launch, bound_report, files_written, launch_of, with_errors}
use Rattle.icn_vars.specs.declared.outcome.Halt.TheVariants as Halts
use Rattle.icn_code.specs.Codes.{Tables}
use Rattle.icn_run.specs.FlatStep.{start}
use Rattle.icn_run.specs.Stacks.{flat}
use Rattle.icn_run.specs.Step.{all_names, observation, over, steps}
use Rattle.icn_streams.specs.Handed.{CallStreams, Follows, TellsOutside, streams_of}
use Rattle.icn_streams.proofs.CallSequences.{follows_left, follows_tells, follows_then}
use Rattle.icn_streams.proofs.IdleCalls.{leaves_sink_refl}
use Rattle.icn_filefn.proofs.CloseSteps.{stands_by}
use Rattle.icn_filefn.proofs.WrittenSteps.{WritesOn, all_on}
use Rattle.icn_control.specs.Machines.{extent}
use Rattle.icn_control.specs.declared.machine.Machine.{Machine}
use Rattle.icn_control.specs.declared.machine.RunState.TheVariants as RunStates
use Rattle.icn_machine.specs.Stepping.{IsAny, Leads}
use Rattle.icn_running.specs.Reported.{WritesAtEnd, at_end}
use Rattle.icn_running.specs.Runs.{RunsTo}

-- the error output alone is another since
abbrev pub then_errors : CallStreams → SinkState → CallStreams
then_errors handed errors = record handed { errors = errors }

-- the store of files alone is
abbrev pub then_files : CallStreams → StoreState → CallStreams
then_files handed files = record handed { files = files }

-- Where a run is over

-- The run is over so after some steps, with this report, behind which the files of this heap are written; what is told of the streams is so before
-- that.
pub record ComesToEnd (tables : Tables) (launch : Launch) (before between : CallStreams) (ending : Ending) (heap : Heap) (report : List ℕ) : Type 0 where
  pub count : ℕ
  pub now : Outside
  pub is : steps flat tables count (start tables launch) ≡ over ending (at_end ending heap (with_errors report now))
  pub follows : Follows before between launch.outside now

-- an empty report changes nothing
pub no_errors : (now : Outside) → with_errors [] now ≡ now
no_errors now = ap (λ (h : List Event). let o : Outside = record now { history = h } in o) (append-nil now.history)

module _ {K : Type 0} (tables : Tables) (launch : Launch) (n : Machine K) (before between : CallStreams) where
  -- the heap of the machine
  abbrev held : Heap
  held = heap_of n.world.heap

  quiet_end : (ending : Ending) (count : ℕ) (now : Outside) → steps flat tables count (start tables launch) ≡ over ending (at_end ending held now)
      → Follows before between launch.outside now → ComesToEnd tables launch before between ending held []
  quiet_end ending count now is follows = record {
    count = count;
    now = now;
    is = is ∙ ap (λ (o : Outside). over ending (at_end ending held o)) (sym (no_errors now));
    follows = follows;
  }

  -- the starting call is over
  pub finished : Leads IsAny tables (start tables launch) launch.outside before n between (Ok RunStates.Over)
      → ComesToEnd tables launch before between Done held []
  finished leads = quiet_end Done (suc leads.count) leads.last.now leads.last.is (follows_then leads.follows leads.last.follows)

  -- it was ended with a status
  pub ended : (status : ℕ) → Leads IsAny tables (start tables launch) launch.outside before n between (Err (Halts.Ends status))
      → ComesToEnd tables launch before between (Exit status) held []
  ended status leads = quiet_end (Exit status) (suc leads.count) leads.last.now leads.last.is (follows_then leads.follows leads.last.follows)

  -- it stands at the bound of turns
  pub bounded : Leads IsAny tables (start tables launch) launch.outside before n between (Ok RunStates.AtBound)
      → ComesToEnd tables launch before between AtBound held bound_report
  bounded leads = record {
    count = suc leads.count;
    now = leads.last.now;
    is = leads.last.is;
    follows = follows_then leads.follows leads.last.follows;
  }

  -- a run-time error ended it
  pub erred : (number : ℕ) (offending : Option Val) → Leads IsAny tables (start tables launch) launch.outside before n between (Err (Halts.Error number
      offending))
      → ComesToEnd tables launch before between (Errored number) held
      (error_report (all_names tables) held number (option_map (value_in (extent n)) offending))
  erred number offending leads = record {
    count = suc leads.count;
    now = leads.last.now;
    is = leads.last.is;
    follows = follows_then leads.follows leads.last.follows;
  }

-- What is seen of it once its report is put

ends_there : (ending : Ending) (input : List ℕ) (files : FileMap) (before after : CallStreams) (now : Outside)
    → Follows before after (outside_of input files) now
    → Ends input files (record { ending = ending; outside = now }) (streams_of before) (streams_of after)
ends_there ending input files before after now follows = record {
  taken = follows.extends.left ∙ ap (left_behind input) (sym follows.extends.history);
  written = follows.extends.files ∙ ap (files_behind files) (sym follows.extends.history);
  files = subst (λ (m : FileMap). HoldsMap before.files.held after.files.held m) (sym follows.extends.files) follows.stands.files;
  left = follows_left follows;
  calls = subst (λ (h : List Event). after.counts.calls ≡ raised_count before.counts.calls (readings_in h)) (sym follows.extends.history) follows.stands.calls;
  output = subst (λ (h : List Event). Gains before.output.held after.output.held (output_in h)) (sym follows.extends.history) follows.stands.output;
  errors = subst (λ (h : List Event). Gains before.errors.held after.errors.held (errors_in h)) (sym follows.extends.history) follows.stands.errors;
}

pub follows_report : (between : CallStreams) (errors : SinkState) (now : Outside) (report : List ℕ) → TellsOutside between now
    → Gains between.errors.held errors.held report → Follows between (then_errors between errors) now (with_errors report now)
follows_report between errors now report told gains = record {
  done = map ErrorByte report;
  extends = extends_by_errors report now;
  stands = record {
    files = subst (λ (m : FileMap). HoldsMap between.files.held between.files.held m) (sym (files_by_errors now.files report))
        (holds_told between.files.held now.files told.files);
    rest = told.left ∙ ap (λ (l : List ℕ). Some l) (sym (left_by_errors now.left report));
    calls = ap (raised_count between.counts.calls) (sym (errors_read_none report));
    output = subst (Gains between.output.held between.output.held) (sym (output_of_errors report)) (gains_nothing between.output.held);
    errors = subst (Gains between.errors.held errors.held) (sym (errors_put report)) gains;
  };
}

-- The files that are written at an end

written_on : (heap : Heap) (a : CallStreams) (store : StoreState) (was : Outside) → TellsOutside a was
    → HoldsMap a.files.held store.held (files_written heap was).files → Follows a (then_files a store) was (files_written heap was)
written_on heap a store was told held =
    let on : WritesOn was (files_written heap was) = all_on heap.files was in
    record {
      done = on.done;
      extends = on.extends;
      stands = stands_by a (then_files a store) was on.done on.of_files told.left (subst (HoldsMap a.files.held store.held) on.extends.files held) refl refl
          (leaves_sink_refl a.output).held (leaves_sink_refl a.errors).held;
    }

pub follows_end : (ending : Ending) (heap : Heap) (a : CallStreams) (store : StoreState) (was : Outside) → TellsOutside a was
    → HoldsMap a.files.held store.held (at_end ending heap was).files → Follows a (then_files a store) was (at_end ending heap was)
follows_end Done heap a store was told held = written_on heap a store was told held
follows_end (Exit status) heap a store was told held = written_on heap a store was told held
follows_end (Errored number) heap a store was told held = written_on heap a store was told held
follows_end AtBound heap a store was told held = record {
  done = [];
  extends = extends_itself was;
  stands = stands_by a (then_files a store) was [] tt told.left held refl refl (leaves_sink_refl a.output).held (leaves_sink_refl a.errors).held;
}

-- what an end does outside
pub extends_at_end : (ending : Ending) (heap : Heap) (was : Outside) → (done : List Event) × ExtendsBy was done (at_end ending heap was)
extends_at_end Done heap was = extends_by_ending heap.files was
extends_at_end (Exit status) heap was = extends_by_ending heap.files was
extends_at_end (Errored number) heap was = extends_by_ending heap.files was
extends_at_end AtBound heap was = ([], extends_itself was)

pub run_reported : (tables : Tables) (words : List (List ℕ)) (bounds : Bounds) (input : List ℕ) (files : FileMap) (before between : CallStreams)
    (store : StoreState) (errors : SinkState) (ending : Ending) (heap : Heap) (report : List ℕ)
    → ComesToEnd tables (launch_of words bounds input files) before between ending heap report
    → TellsOutside before (outside_of input files)
    → Gains between.errors.held errors.held report → WritesAtEnd ending heap between.files store (Ok tt)
    → RunsTo tables (launch_of words bounds input files) ending before (then_files (then_errors between errors) store)
run_reported tables words bounds input files before between store errors ending heap report comes first gains written =
    let told : TellsOutside between comes.now = follows_tells first comes.follows in
    let put : Follows between (then_errors between errors) comes.now (with_errors report comes.now)
    = follows_report between errors comes.now report told gains in
    let last : TellsOutside (then_errors between errors) (with_errors report comes.now) = follows_tells told put in (
      record { ending = ending; outside = at_end ending heap (with_errors report comes.now) },
      (
        refl,
        (
          record { count = comes.count; is = ap observation comes.is },
          ends_there ending input files before (then_files (then_errors between errors) store) (at_end ending heap (with_errors report comes.now))
              (follows_then comes.follows (follows_then put
              (follows_end ending heap (then_errors between errors) store (with_errors report comes.now) last (written.written (with_errors report comes.now)
              last.files)))),
        ),
      ),
    )
