-- Runs under the bound of turns that is said.
use Rattle.std.proofs.Common.{◌≡◌, ℕ, List, [], append-nil, Option, None, Err, refl, ap, subst, sym}
use Rattle.icn_host.specs.FileMaps.{FileMap}
use Rattle.icn_host.specs.Sinks.{Gains, SinkState}
use Rattle.icn_code.specs.Codes.{Tables}
use Rattle.icn_value.specs.Limited.{Bounds}
use Rattle.icn_value.specs.Store.{output_in}
use Rattle.icn_defs.specs.Running.{Launch, launch_of, Ending as SeenEnding}
use Rattle.icn_defs.specs.declared.ending.Ending.{Ending}
use Rattle.icn_streams.specs.Handed.{CallStreams}
use Rattle.icn_running.specs.declared.fault.RunFault.{RunFault}
use Rattle.icn_running.specs.declared.fault.RunFault.TheVariants as Runs
use Rattle.icn_running.specs.Reported.{PutsReport, ending_seen}
use Rattle.icn_running.specs.Runs.{EndsAtFirst as RunEnds, IsBrokenOff, RunsOver, RunsTo}
use Rattle.icn_answer.specs.declared.answer.Answer.TheVariants.{Ran}
use Rattle.icn_run_answer.specs.CountCauses.{EndsBehind}
use Rattle.icn_run_answer.specs.FaultAnswers.{of_run}
use Rattle.icn_run_answer.specs.Reporting.{ReportStands}
use Rattle.icont_words.specs.Words.{Run}
use Rattle.icont_top.specs.Job.{bounds_with, run_launch}
use Rattle.icont_top.specs.Running.{IsOver, IsRanOrBroken, WasOver, broken, ran}

launched_as : (run : Run) (bounds : Bounds) (left : List ℕ) (files : FileMap) → bounds ≡ bounds_with run.turns
    → launch_of run.arguments bounds left files ≡ run_launch run left files
launched_as run bounds left files e = ap (λ b. launch_of run.arguments b left files) e

pub run_ended : {before after : CallStreams} (tables : Tables) (run : Run) (left : List ℕ) (files : FileMap) (bounds : Bounds) (ending : Ending)
    → bounds ≡ bounds_with run.turns
    → RunsTo tables (launch_of run.arguments bounds left files) (ending_seen ending) before after
    → IsRanOrBroken tables (run_launch run left files) (Ran ending) before after
run_ended {before} {after} tables run left files bounds ending e ends =
    ran ending refl (subst (λ launch. RunsTo tables launch (ending_seen ending) before after) (launched_as run bounds left files e) ends)

-- the report of a run under the bound that is said
pub run_reported : {before after : SinkState} (tables : Tables) (run : Run) (files : FileMap) (bounds : Bounds) (ending : Ending)
    → PutsReport tables (launch_of run.arguments bounds [] files) (ending_seen ending) before after → ReportStands ending before after
run_reported tables run files bounds ending report = (tables, (launch_of run.arguments bounds [] files, report))

-- how it was over, whatever the input tells
pub run_over : {before after : CallStreams} (tables : Tables) (run : Run) (files : FileMap) (bounds : Bounds) (ending : SeenEnding)
    → bounds ≡ bounds_with run.turns
    → RunsOver tables (launch_of run.arguments bounds [] files) ending before after → WasOver tables (run_launch run [] files) None ending before after
run_over {before} {after} tables run files bounds ending e over =
    let there : RunsOver tables (run_launch run [] files) ending before after =
    subst (λ launch. RunsOver tables launch ending before after) (launched_as run bounds [] files e) over in
    record {
      report = there.report;
      calls = there.calls;
      output = subst (Gains before.output.held after.output.held) (sym (append-nil (output_in there.report.now.history))) there.output;
    }

-- of one that was broken off nothing is said
pub never_over : (tables : Tables) (launch : Launch) (number : Option ℕ) (before after : CallStreams) (wrong : RunFault)
    → IsOver tables launch number (of_run wrong) before after
never_over tables launch number before after Runs.ReadFault = tt
never_over tables launch number before after Runs.WriteFault = tt
never_over tables launch number before after Runs.FileFault = tt
never_over tables launch number before after Runs.NoMemory = tt

pub run_broken : {before between after : CallStreams} (tables : Tables) (run : Run) (left : List ℕ) (files : FileMap) (bounds : Bounds) (wrong : RunFault)
    → bounds ≡ bounds_with run.turns → RunEnds {A = Ending} (Err wrong) before between
    → IsBrokenOff tables (launch_of run.arguments bounds left files) wrong before between → EndsBehind (of_run wrong) between after
    → IsRanOrBroken tables (run_launch run left files) (of_run wrong) before after
run_broken {before} {between} tables run left files bounds wrong e first off behind =
    broken wrong between refl first (subst (λ launch. IsBrokenOff tables launch wrong before between) (launched_as run bounds left files e) off) behind
