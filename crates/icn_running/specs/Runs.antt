-- How a run ends, and what it leaves in the streams.
use Rattle.std.specs.Prelude.{◌≡◌, ℕ, List, IfSome, Result, Ok, Err}
use Rattle.icn_value.specs.Limited.{Bounds}
use Rattle.icn_host.specs.Counts.{raised_count}
use Rattle.icn_host.specs.FileMaps.{FileMap}
use Rattle.icn_host.specs.Sinks.{Gains}
use Rattle.icn_value.specs.Store.{Outside, outside_of, output_in, readings_in}
use Rattle.icn_defs.specs.Interruptions.{Breaks, BreaksBetween, BreaksFiles, BreaksReading, Ends, LosesSome}
use Rattle.icn_defs.specs.Running.{Ending, Launch, Observation, launch_of}
use Rattle.icn_code.specs.Codes.{Tables}
use Rattle.icn_run.specs.FlatStep.{Runs, start}
use Rattle.icn_run.specs.Step.{running}
use Rattle.icn_defs.specs.declared.ending.Ending.{Ending as HeldEnding}
use Rattle.law_safe.specs.StepMeasure.{EachStepFalls}
use Rattle.icn_streams.specs.Handed.{CallStreams, KeepsAllCounts, TellsOutside, WantsMemory, streams_of}
use Rattle.icn_control.specs.Machines.{stack_seen, store_seen}
use Rattle.icn_control.specs.declared.machine.Machine.{Machine}
use Rattle.icn_machine.specs.Stepping.{GainsSome, InputFails, IsKept, OutputFails, StoreFails}
use Rattle.icn_running.specs.declared.fault.RunFault.{RunFault}
use Rattle.icn_running.specs.declared.fault.RunFault.TheVariants.{ReadFault, WriteFault, FileFault, NoMemory}
use Rattle.icn_running.specs.Reported.{PutsReport, ending_seen}

-- The run of a code ends so, and the streams have gained what it puts, with what it leaves of the input.
abbrev pub RunsTo : Tables → Launch → Ending → CallStreams → CallStreams → Type 0
RunsTo tables launch ending before after =
    (seen : Observation)
    × ((seen.ending ≡ ending)
    × (Runs tables launch seen
    × Ends launch.outside.left launch.outside.files seen (streams_of before) (streams_of after)))

-- What this fault leaves of a run that was begun with this outside: one moment of it, in a reading where the input failed, between two events where an
-- output did, in a call of the store of files where that did, and any of these where memory was wanting.
abbrev pub LeavesBy : RunFault → Outside → Observation → CallStreams → CallStreams → Type 0
LeavesBy ReadFault first seen before after =
    BreaksReading first seen.outside (streams_of before) (streams_of after)
LeavesBy WriteFault first seen before after =
    BreaksBetween first seen.outside (streams_of before) (streams_of after)
LeavesBy FileFault first seen before after =
    BreaksFiles first seen.outside (streams_of before) (streams_of after)
LeavesBy NoMemory first seen before after = Breaks first seen.outside (streams_of before) (streams_of after)

-- The run of a code was broken off by this fault.
abbrev pub IsBrokenOff : Tables → Launch → RunFault → CallStreams → CallStreams → Type 0
IsBrokenOff tables launch fault before after =
    (seen : Observation) × (Runs tables launch seen × LeavesBy fault launch.outside seen before after)

-- what is said of a run that was begun so, by what was answered
abbrev pub AnswersRun : Tables → Launch → Result HeldEnding RunFault → CallStreams → CallStreams → Type 0
AnswersRun tables launch (Ok ending) before after = RunsTo tables launch (ending_seen ending) before after
AnswersRun tables launch (Err fault) before after = IsBrokenOff tables launch fault before after

-- the same of each run with whose start this machine stands
abbrev pub AnswersRuns : {K : Type 0} → Tables → Machine K → Result HeldEnding RunFault → CallStreams
    → CallStreams → Type 0
AnswersRuns tables m result before after =
    (words : List (List ℕ)) (bounds : Bounds) (left : List ℕ) (files : FileMap)
    → TellsOutside before (outside_of left files)
    → start tables (launch_of words bounds left files)
    ≡ running (stack_seen m) (store_seen tables (outside_of left files) m)
    → AnswersRun tables (launch_of words bounds left files) result before after

-- The run of a code is over so, over some outside, which may be another before each step, with its report behind what it put; the
-- output has gained what it puts there, and the input was called once for each of its readings.
pub record RunsOver (tables : Tables) (launch : Launch) (ending : Ending)
    (before after : CallStreams) : Type 0 where
  pub report : PutsReport tables launch ending before.errors after.errors
  pub calls : after.counts.calls ≡ raised_count before.counts.calls (readings_in report.now.history)
  pub output : Gains before.output.held after.output.held (output_in report.now.history)

-- what is said of a run whatever the input tells: of one that a fault broke off, that it has put something
abbrev pub ReportsRun : Tables → Launch → Result HeldEnding RunFault → CallStreams → CallStreams → Type 0
ReportsRun tables launch (Ok ending) before after = RunsOver tables launch (ending_seen ending) before after
ReportsRun tables launch (Err fault) before after = GainsSome before after

-- the same of each run with whose start this machine stands
abbrev pub ReportsRuns : {K : Type 0} → Tables → Machine K → Result HeldEnding RunFault → CallStreams
    → CallStreams → Type 0
ReportsRuns tables m result before after =
    (words : List (List ℕ)) (bounds : Bounds) (left : List ℕ) (files : FileMap)
    → start tables (launch_of words bounds left files)
    ≡ running (stack_seen m) (store_seen tables (outside_of left files) m)
    → ReportsRun tables (launch_of words bounds left files) result before after

-- A fault is answered where that object has failed for the first time; where it is not, nothing has failed.
abbrev pub EndsAtFirst : {A : Type 0} → Result A RunFault → CallStreams → CallStreams → Type 0
EndsAtFirst (Ok a) before after = KeepsAllCounts before after
EndsAtFirst (Err ReadFault) before after = InputFails before after
EndsAtFirst (Err WriteFault) before after = OutputFails before after
EndsAtFirst (Err FileFault) before after = StoreFails before after
EndsAtFirst (Err NoMemory) before after = WantsMemory before after

-- Where the input tells what it has left, some first bytes of it were taken, whatever the files tell.
abbrev pub TakesSome : CallStreams → CallStreams → Type 0
TakesSome before after = IfSome before.left (λ left. LosesSome left after.left)

-- What holds of a run from its start on: nothing ever lacks, each step makes a turn or leaves less to do, and there is an end.
pub record RunHolds (tables : Tables) (launch : Launch) : Type 0 where
  pub kept : IsKept tables (start tables launch)
  pub falls : EachStepFalls tables launch
  pub ends : (seen : Observation) × Runs tables launch seen
