-- What a run leaves, as the code tells it.
use Rattle.std.specs.Prelude.{◌≡◌, ℕ, Bool, true, false, ◌++◌, Option, Some, Err, ⊤}
use Rattle.icn_host.specs.Counts.{raised_count}
use Rattle.icn_host.specs.declared.fault.Fault.{Fault}
use Rattle.icn_host.specs.declared.fault.Fault.TheVariants as Faults
use Rattle.icn_host.specs.Puts.{LeadsBy, Puts, PutsAll}
use Rattle.icn_host.specs.Sinks.{Gains, SinkState}
use Rattle.icn_code.specs.Codes.{Tables}
use Rattle.icn_value.specs.Store.{errors_in, output_in, readings_in}
use Rattle.icn_defs.specs.Interruptions.{HoldsMap}
use Rattle.icn_defs.specs.Running.{Launch, Observation, Ending as SeenEnding}
use Rattle.icn_defs.specs.declared.ending.Ending.{Ending}
use Rattle.icn_defs.specs.declared.ending.Ending.TheVariants as Endings
use Rattle.law_simulation.specs.FirstLaw.{RunsFlat}
use Rattle.icn_streams.specs.Handed.{CallStreams}
use Rattle.icn_running.specs.declared.fault.RunFault.{RunFault}
use Rattle.icn_running.specs.Reported.{PutsReport, ending_seen}
use Rattle.icn_running.specs.Runs.{EndsAtFirst, IsBrokenOff, RunsTo}
use Rattle.icn_answer.specs.declared.answer.Answer.{Answer}
use Rattle.icn_answer.specs.declared.answer.Answer.TheVariants.{Wrote, Ran, Refused, Command, Missing, BadUcode, BadImage, FileFault, ReadFault, WriteFault, NoMemory}
use Rattle.icn_answer.specs.Endings.{ending_held}
use Rattle.icn_run_answer.specs.CountCauses.{EndsBehind}
use Rattle.icn_run_answer.specs.FaultAnswers.{of_run}
use Rattle.icn_answer.specs.Lines.{fault_line}
use Rattle.icn_answer.specs.Refusing.{PutsOwn}
use Rattle.icn_run_answer.specs.ToldObjects.{with_errors}
use Rattle.icont_units.specs.Generated.{sizes_line}
use Rattle.icont_top.specs.Job.{behind}
use Rattle.icont_top.specs.Outcomes.{LeavesBehind, StopsPut}

-- the run ended, or it was broken off, and a fault is answered whose line was put behind
pub data IsRanOrBroken (tables : Tables) (launch : Launch) (answer : Answer)
    (before after : CallStreams) : Type 0 where
  ran : (ending : Ending) → answer ≡ Ran ending → RunsTo tables launch (ending_seen ending) before after
      → IsRanOrBroken tables launch answer before after
  broken : (fault : RunFault) (between : CallStreams) → answer ≡ of_run fault
      → EndsAtFirst {A = Ending} (Err fault) before between
      → IsBrokenOff tables launch fault before between → EndsBehind answer between after
      → IsRanOrBroken tables launch answer before after

-- The program of a number

-- whether the program was done
abbrev pub is_done : Answer → Bool
is_done (Ran Endings.Done) = true
is_done (Ran (Endings.Exit status)) = false
is_done (Ran (Endings.Errored number)) = false
is_done (Ran Endings.AtBound) = false
is_done Wrote = false
is_done (Refused file line rule) = false
is_done (Command kind) = false
is_done (Missing name) = false
is_done (BadUcode name rule) = false
is_done (BadImage rule) = false
is_done FileFault = false
is_done ReadFault = false
is_done WriteFault = false
is_done NoMemory = false

-- the answer where a put was stopped so
abbrev pub put_answer : Fault → Answer
put_answer Faults.Failed = WriteFault
put_answer Faults.NoMemory = NoMemory

-- the line of the sizes was put on the output, or a part of it, and a fault is answered whose line was put on the error output
pub data PutsSizes (number : ℕ) (answer : Answer) (out out' err err' : SinkState) : Type 0 where
  sizes_put : answer ≡ Ran Endings.Done → PutsAll out out' (sizes_line number) → err' ≡ err
      → PutsSizes number answer out out' err err'
  sizes_broken : (fault : Fault) → answer ≡ put_answer fault → LeadsBy fault out out' (sizes_line number)
      → PutsOwn answer err err'
      → PutsSizes number answer out out' err err'

-- The program ended, and the line of its sizes was put where it is that of a number; or it was broken off, or that line was.
pub data HasRun (tables : Tables) (launch : Launch) (number : Option ℕ) (answer : Answer)
    (before after : CallStreams) : Type 0 where
  has_ended : (seen : Observation) → RunsFlat tables launch seen → answer ≡ Ran (ending_held seen.ending)
      → HoldsMap before.files.held after.files.held seen.outside.files
      → after.left ≡ Some seen.outside.left
      → after.counts.calls ≡ raised_count before.counts.calls (readings_in seen.outside.history)
      → Gains before.output.held after.output.held
      (output_in seen.outside.history ++ behind number seen.ending)
      → Gains before.errors.held after.errors.held (errors_in seen.outside.history)
      → HasRun tables launch number answer before after
  was_broken : (fault : RunFault) (between : CallStreams) → answer ≡ of_run fault
      → EndsAtFirst {A = Ending} (Err fault) before between
      → IsBrokenOff tables launch fault before between → EndsBehind answer between after
      → HasRun tables launch number answer before after
  was_broken_behind : (n : ℕ) (fault : RunFault) (between : SinkState) (seen : Observation) → number ≡ Some n
      → StopsPut fault
      → answer ≡ of_run fault → EndsAtFirst {A = Ending} (Err fault) before (with_errors between after)
      → RunsFlat tables launch seen
      → LeavesBehind n seen before (with_errors between after) → Puts between after.errors (fault_line answer)
      → HasRun tables launch number answer before after

-- A run was over so, whatever the input tells: over some input, which may be another before each step, with its report behind what it
-- put, and with the line of the sizes where it is the program of a number.
pub record WasOver (tables : Tables) (launch : Launch) (number : Option ℕ) (ending : SeenEnding)
    (before after : CallStreams) : Type 0 where
  pub report : PutsReport tables launch ending before.errors after.errors
  pub calls : after.counts.calls ≡ raised_count before.counts.calls (readings_in report.now.history)
  pub output : Gains before.output.held after.output.held
      (output_in report.now.history ++ behind number ending)

-- the same of an answer; of one that is no run that ended, nothing is said
abbrev pub IsOver : Tables → Launch → Option ℕ → Answer → CallStreams → CallStreams → Type 0
IsOver tables launch number (Ran ending) before after =
    WasOver tables launch number (ending_seen ending) before after
IsOver tables launch number Wrote before after = ⊤
IsOver tables launch number (Refused file line rule) before after = ⊤
IsOver tables launch number (Command kind) before after = ⊤
IsOver tables launch number (Missing name) before after = ⊤
IsOver tables launch number (BadUcode name rule) before after = ⊤
IsOver tables launch number (BadImage rule) before after = ⊤
IsOver tables launch number FileFault before after = ⊤
IsOver tables launch number ReadFault before after = ⊤
IsOver tables launch number WriteFault before after = ⊤
IsOver tables launch number NoMemory before after = ⊤
