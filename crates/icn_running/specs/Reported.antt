-- How a run ends, and what is put on the error output then.
use Rattle.std.specs.Prelude.{◌≡◌, ◌⊎◌, ℕ, List, [], ◌++◌, Option, Some, None, Result, Ok, Err}
use Rattle.std.specs.Option.{option_map}
use Rattle.icn_host.specs.FileMaps.{StoreState}
use Rattle.icn_host.specs.declared.fault.Fault.{Fault}
use Rattle.icn_host.specs.Sinks.{Gains, SinkState}
use Rattle.icn_host.specs.Puts.{FailsPutting, PutsAll, RunsShort}
use Rattle.icn_host.specs.declared.fault.Fault.TheVariants as Faults
use Rattle.icn_value.specs.Store.{Heap, Names, Outside, errors_in}
use Rattle.icn_value.specs.Values.{Value}
use Rattle.icn_heap.specs.Extents.{Extent, value_in}
use Rattle.icn_heap.specs.Heaps.{heap_of}
use Rattle.icn_defs.specs.Errors.{error_report}
use Rattle.icn_defs.specs.Running.{Ending, Done, Exit, Errored, AtBound, Launch, bound_report, files_written, with_errors}
use Rattle.icn_defs.specs.Interruptions.{TellsMap}
use Rattle.icn_code.specs.Codes.{Tables}
use Rattle.icn_run.specs.AnyOutside.{run_over}
use Rattle.icn_run.specs.FlatStep.{start}
use Rattle.icn_run.specs.Step.{all_names, over}
use Rattle.icn_filefn.specs.WrittenFiles.{ComesToFiles, StoreCause}
use Rattle.icn_vars.specs.declared.outcome.Halt.{Halt}
use Rattle.icn_vars.specs.declared.outcome.Halt.TheVariants as Halts
use Rattle.icn_defs.specs.declared.ending.Ending.{Ending as HeldEnding}
use Rattle.icn_defs.specs.declared.ending.Ending.TheVariants as HeldEndings
use Rattle.icn_control.specs.Machines.{extent}
use Rattle.icn_control.specs.declared.machine.Machine.{Machine}
use Rattle.icn_machine.specs.Stepping.{AreReadings}
use Rattle.icn_machine.specs.declared.stepping.AfterStep.{AfterStep}
use Rattle.icn_machine.specs.declared.stepping.AfterStep.TheVariants as AfterSteps
use Rattle.icn_running.specs.declared.fault.RunFault.{RunFault}
use Rattle.icn_running.specs.declared.fault.RunFault.TheVariants.{ReadFault, WriteFault, FileFault, NoMemory}

-- the ending that an answer is
abbrev pub ending_seen : HeldEnding → Ending
ending_seen HeldEndings.Done = Done
ending_seen (HeldEndings.Exit status) = Exit status
ending_seen (HeldEndings.Errored number) = Errored number
ending_seen HeldEndings.AtBound = AtBound

-- the report of a run that ended so, by the names of its code
abbrev pub IsReportOf : Names → Ending → List ℕ → Type 0
IsReportOf names Done text = text ≡ []
IsReportOf names (Exit status) text = text ≡ []
IsReportOf names (Errored number) text = (heap : Heap)
    × ((offending : Option Value) × (text ≡ error_report names heap number offending))
IsReportOf names AtBound text = text ≡ bound_report

-- what an end leaves outside: the files that are still open to be written are written, but at the bound
abbrev pub at_end : Ending → Heap → Outside → Outside
at_end Done heap outside = files_written heap outside
at_end (Exit status) heap outside = files_written heap outside
at_end (Errored number) heap outside = files_written heap outside
at_end AtBound heap outside = outside

-- The run of a code is over so, over some outside, which may be another before each step but for its history; behind what it
-- has put itself on the error output stands the report with which it is over, whole, and then it writes its files.
pub record PutsReport (tables : Tables) (launch : Launch) (ending : Ending)
    (before after : SinkState) : Type 0 where
  pub outsides : List Outside
  pub readings : AreReadings tables outsides (start tables launch)
  pub now : Outside
  pub report : List ℕ
  pub heap : Heap
  pub is : run_over tables outsides (start tables launch)
      ≡ over ending (at_end ending heap (with_errors report now))
  pub kind : IsReportOf (all_names tables) ending report
  pub gains : Gains before.held after.held (errors_in now.history ++ report)

-- What is answered at the end

-- a report was not put whole, and this is the fault; where memory was wanting, it may be that it was not begun
abbrev pub CutsShort : RunFault → SinkState → SinkState → List ℕ → Type 0
CutsShort ReadFault before after text = ⊥
CutsShort WriteFault before after text = FailsPutting before after text
CutsShort FileFault before after text = ⊥
CutsShort NoMemory before after text = (after ≡ before) ⊎ RunsShort before after text

-- what an end is put on and written to: the store of files and the error output
pub record EndObjects : Type 0 where
  pub files : StoreState
  pub errors : SinkState

-- this store and this error output
abbrev pub end_objects : StoreState → SinkState → EndObjects
end_objects files errors = record { files = files; errors = errors }

-- the fault of a store, as that of a run
abbrev pub of_store : Fault → RunFault
of_store Faults.Failed = FileFault
of_store Faults.NoMemory = NoMemory

-- A store comes to what an end leaves of it; or a fault is answered, in one of the calls by which it does.
pub record WritesAtEnd (ending : Ending) (heap : Heap) (before after : StoreState)
    (result : Result (Unit {0}) Fault) : Type 0 where
  pub written : (was : Outside) → TellsMap before.held was.files
      → ComesToFiles was (at_end ending heap was) before.held after.held result
  pub cause : StoreCause result before after

-- The ending is answered once its report is put, and then the files are written that are open; or the fault for which the
-- report was not put whole, and no file was written; or the report was put whole, and not all files were written.
pub data AnswersEnd (ending : Ending) (heap : Heap) (text : List ℕ) (result : Result HeldEnding RunFault)
    (before after : EndObjects) : Type 0 where
  ended : (answer : HeldEnding) → result ≡ Ok answer → ending_seen answer ≡ ending
      → PutsAll before.errors after.errors text → WritesAtEnd ending heap before.files after.files (Ok tt)
      → AnswersEnd ending heap text result before after
  cut_short : (fault : RunFault) → result ≡ Err fault → CutsShort fault before.errors after.errors text
      → after.files ≡ before.files
      → AnswersEnd ending heap text result before after
  unwritten : (fault : Fault) → result ≡ Err (of_store fault) → PutsAll before.errors after.errors text
      → WritesAtEnd ending heap before.files after.files (Err fault)
      → AnswersEnd ending heap text result before after

-- the fault that broke the run off is answered, and nothing is put or written
abbrev pub AnswersFault : RunFault → Result HeldEnding RunFault → EndObjects → EndObjects → Type 0
AnswersFault fault result before after = (result ≡ Err fault) × (after ≡ before)

-- What is answered of a run that an error, its own end or a fault has halted.
abbrev pub AnswersHalt : Names → Heap → Extent → Halt → Result HeldEnding RunFault → EndObjects → EndObjects
    → Type 0
AnswersHalt names heap all (Halts.Error number offending) result before after =
    AnswersEnd (Errored number) heap
    (error_report names heap number (option_map (value_in all) offending)) result before after
AnswersHalt names heap all (Halts.Ends status) result before after =
    AnswersEnd (Exit status) heap [] result before after
AnswersHalt names heap all Halts.ReadFault result before after = AnswersFault ReadFault result before after
AnswersHalt names heap all Halts.WriteFault result before after = AnswersFault WriteFault result before after
AnswersHalt names heap all Halts.FileFault result before after = AnswersFault FileFault result before after
AnswersHalt names heap all Halts.NoMemory result before after = AnswersFault NoMemory result before after

-- the same of one that is finished or stands at its bound; where an instruction is due, it has no end
abbrev pub AnswersStop : Heap → AfterStep → Result HeldEnding RunFault → EndObjects → EndObjects → Type 0
AnswersStop heap AfterSteps.Running result before after = ⊥
AnswersStop heap AfterSteps.Over result before after = AnswersEnd Done heap [] result before after
AnswersStop heap AfterSteps.AtBound result before after =
    AnswersEnd AtBound heap bound_report result before after

-- What is answered of a run whose machine has stopped so.
abbrev pub AnswersMachine : {K : Type 0} → Names → Machine K → Result AfterStep Halt
    → Result HeldEnding RunFault → EndObjects → EndObjects → Type 0
AnswersMachine names m (Ok stepped) result before after =
    AnswersStop (heap_of m.world.heap) stepped result before after
AnswersMachine names m (Err halt) result before after =
    AnswersHalt names (heap_of m.world.heap) (extent m) halt result before after

-- What is answered of a run that was over before its first instruction, over the heap that it was to have: by an error that is about no value, or for
-- want of memory.
abbrev pub AnswersUnbegun : Names → Heap → Halt → Result HeldEnding RunFault → EndObjects → EndObjects
    → Type 0
AnswersUnbegun names heap (Halts.Error number None) result before after =
    AnswersEnd (Errored number) heap (error_report names heap number None) result before after
AnswersUnbegun names heap (Halts.Error number (Some offending)) result before after = ⊥
AnswersUnbegun names heap (Halts.Ends status) result before after = ⊥
AnswersUnbegun names heap Halts.ReadFault result before after = ⊥
AnswersUnbegun names heap Halts.WriteFault result before after = ⊥
AnswersUnbegun names heap Halts.FileFault result before after = ⊥
AnswersUnbegun names heap Halts.NoMemory result before after = AnswersFault NoMemory result before after
