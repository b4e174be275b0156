-- What a call comes to, where the objects tell their content.
use Rattle.std.specs.Prelude.{◌≡◌, ◌⊎◌, ◌≤◌, ℕ, List, [], ◌∷◌, ◌++◌, Option, Some, All, Ok, Err, length, take}
use Rattle.std.specs.Map.{update}
use Rattle.std.specs.Str.{bytes_eq}
use Rattle.icn_profile.specs.Numbers.{most_bytes_of_image}
use Rattle.icn_host.specs.Counts.{raised_count}
use Rattle.icn_host.specs.FileMaps.{FileMap, Follows, IsLeftBehind, StoreState}
use Rattle.icn_host.specs.Puts.{FailsPutting, Puts, RunsShort}
use Rattle.icn_host.specs.Sinks.{Gains, SinkState}
use Rattle.icn_value.specs.Store.{errors_in, outside_of, output_in, readings_in}
use Rattle.icn_defs.specs.Interruptions.{HoldsMap}
use Rattle.icn_code.specs.Codes.{Tables}
use Rattle.icn_defs.specs.Running.{Done, Launch, Observation}
use Rattle.icn_unit.specs.UnitTexts.{decls_text, procs_text}
use Rattle.icn_ucode.specs.UnitReading.{Whole, unit_read}
use Rattle.icn_image.specs.Reading.{image_read}
use Rattle.icn_verify.specs.Faults.{IsVerified}
use Rattle.law_simulation.specs.FirstLaw.{RunsFlat}
use Rattle.icn_streams.specs.Handed.{CallStreams}
use Rattle.icn_defs.specs.declared.ending.Ending.{Ending}
use Rattle.icn_running.specs.declared.fault.RunFault.{RunFault}
use Rattle.icn_running.specs.declared.fault.RunFault.TheVariants as RunFaults
use Rattle.icn_running.specs.Runs.{EndsAtFirst, LeavesBy}
use Rattle.icn_answer.specs.declared.answer.Answer.{Answer}
use Rattle.icn_answer.specs.declared.answer.Answer.TheVariants.{Wrote, Ran, Refused, Command, Missing, BadUcode, BadImage, FileFault, ReadFault, WriteFault, NoMemory}
use Rattle.icn_answer.specs.Answers.{IsFault}
use Rattle.icn_answer.specs.TornFiles.{IsTornFault}
use Rattle.icn_run_answer.specs.CountCauses.{EndsBehind}
use Rattle.icn_run_answer.specs.FaultAnswers.{IsOfRun, of_run}
use Rattle.icn_answer.specs.Lines.{fault_line}
use Rattle.icn_run_answer.specs.ToldObjects.{with_errors}
use Rattle.icont_words.specs.Words.{Run}
use Rattle.icont_units.specs.Generated.{sizes_line}
use Rattle.icont_units.specs.Units.{Member, unit_of}
use Rattle.icont_top.specs.Programs.{Behaves}
use Rattle.icont_top.specs.Job.{IsJob, IsPlanned, AsksForUnits, Job, Plan, WrittenFile, image_file, run_launch, ucode_files, with_image}

-- Files that are written

-- each name holds its bytes, one file after the other, and the other names what they held
abbrev pub written_over : FileMap → List WrittenFile → FileMap
written_over files [] = files
written_over files (next ∷ others) = written_over (update bytes_eq files next.name (Some next.bytes)) others

-- all were written
pub record WritesAll (before after : Option FileMap) (written : List WrittenFile) : Type 0 where
  pub follows : Follows before after (λ old new. (q : List ℕ) → new q ≡ written_over old written q)

-- Some first ones were written. The next name holds what a broken write may leave, and all others stand as they were.
pub record WritesPart (before after : Option FileMap) (written : List WrittenFile) : Type 0 where
  pub whole : List WrittenFile
  pub torn : WrittenFile
  pub others : List WrittenFile
  pub are : written ≡ whole ++ torn ∷ others
  pub follows : Follows before after (λ old new. (content : Option (List ℕ))
      × IsLeftBehind (written_over old whole torn.name) torn.bytes content
      × ((q : List ℕ) → new q ≡ update bytes_eq (written_over old whole) torn.name content q))

-- the job was done
pub record Completes (job : Job) (answer : Answer) (before after : CallStreams) : Type 0 where
  pub answered : answer ≡ job.answer
  pub files : WritesAll before.files.held after.files.held job.written
  pub left : after.left ≡ Some job.left
  pub calls : after.counts.calls ≡ raised_count before.counts.calls job.readings
  pub output : Gains before.output.held after.output.held job.output
  pub errors : Gains before.errors.held after.errors.held job.errors

-- What the words ask to be written, of files that break no rule
pub data AreWritten (words : List (List ℕ)) (files : FileMap) : List WrittenFile → Type 0 where
  ucode : (members : List Member) → AsksForUnits words files (Ok members)
      → AreWritten words files (ucode_files members)
  image : (plan : Plan) (members : List Member) (tables : Tables) → IsPlanned words files plan members tables
      → AreWritten words files (image_file plan.image members tables ∷ [])

-- Where nothing was done, what was put before the fault's own line, by the answer: of a file fault nothing; of a failed put of the line of a job
-- that writes no file, a part of it; of want of memory nothing, or such a part. No other answer leaves nothing done.
abbrev pub IsIdleFault : (Job → Type 0) → Answer → SinkState → SinkState → Type 0
IsIdleFault IsJobOf Wrote before between = ⊥
IsIdleFault IsJobOf (Ran ending) before between = ⊥
IsIdleFault IsJobOf (Refused file line rule) before between = ⊥
IsIdleFault IsJobOf (Command kind) before between = ⊥
IsIdleFault IsJobOf (Missing name) before between = ⊥
IsIdleFault IsJobOf (BadUcode name rule) before between = ⊥
IsIdleFault IsJobOf (BadImage rule) before between = ⊥
IsIdleFault IsJobOf FileFault before between = between ≡ before
IsIdleFault IsJobOf ReadFault before between = ⊥
IsIdleFault IsJobOf WriteFault before between =
    (job : Job) × IsJobOf job × (job.written ≡ []) × FailsPutting before between job.errors
IsIdleFault IsJobOf NoMemory before between =
    (between ≡ before)
    ⊎ ((job : Job) × IsJobOf job × (job.written ≡ []) × RunsShort before between job.errors)

-- What a fault leaves of a program that is run with this input and these files: all is said of what is observed of it, as each program comes to an
-- end.
pub record ProgramBrokenOff (members : List Member) (run : Run) (left : List ℕ) (files : FileMap)
    (fault : RunFault) (before after : CallStreams) : Type 0 where
  pub seen : Observation
  pub behaves : Behaves members (run_launch run left files) seen
  pub leaves : LeavesBy fault (outside_of left files) seen before after

-- what a put may be stopped by
abbrev pub StopsPut : RunFault → Type 0
StopsPut RunFaults.ReadFault = ⊥
StopsPut RunFaults.WriteFault = Unit {0}
StopsPut RunFaults.FileFault = ⊥
StopsPut RunFaults.NoMemory = Unit {0}

-- What a put that was stopped leaves of the line of the sizes, behind a program that was done.
pub record LeavesBehind (number : ℕ) (seen : Observation) (before after : CallStreams) : Type 0 where
  pub done : seen.ending ≡ Done
  pub files : HoldsMap before.files.held after.files.held seen.outside.files
  pub input : after.left ≡ Some seen.outside.left
  pub calls : after.counts.calls ≡ raised_count before.counts.calls (readings_in seen.outside.history)
  pub count : ℕ
  pub output : Gains before.output.held after.output.held
      (output_in seen.outside.history ++ take count (sizes_line number))
  pub errors : Gains before.errors.held after.errors.held (errors_in seen.outside.history)

-- The program of a number was done, and the line of its sizes was put in part behind its output.
pub record BrokenBehind (members : List Member) (run : Run) (number : ℕ) (left : List ℕ) (files : FileMap)
    (before after : CallStreams) : Type 0 where
  pub seen : Observation
  pub behaves : Behaves members (run_launch run left files) seen
  pub leaves : LeavesBehind number seen before after

-- nothing was done: the outside failed, or memory was wanting, before anything was
pub record EndsIdle (words : List (List ℕ)) (files : FileMap) (left : List ℕ) (answer : Answer)
    (before after : CallStreams) : Type 0 where
  pub between : SinkState
  pub files_stay : after.files.held ≡ before.files.held
  pub input_stays : after.left ≡ before.left
  pub counts_stay : after.counts ≡ before.counts
  pub output_stays : after.output.held ≡ before.output.held
  pub cause : IsIdleFault (IsJob words files left) answer before.errors between
  pub line : Puts between after.errors (fault_line answer)

-- a file could not be written whole, since the store failed or wanted memory
pub record EndsTorn (words : List (List ℕ)) (files : FileMap) (left : List ℕ) (answer : Answer)
    (before after : CallStreams) : Type 0 where
  pub written : List WrittenFile
  pub cause : IsTornFault answer before.files after.files
  pub asked : AreWritten words files written
  pub part : WritesPart before.files.held after.files.held written
  pub input_stays : after.left ≡ before.left
  pub counts_stay : after.counts ≡ before.counts
  pub output_stays : after.output.held ≡ before.output.held
  pub line : Puts before.errors after.errors (fault_line answer)

-- the image was written, and its run broke off, which found it among the files
pub record EndsBroken (words : List (List ℕ)) (files : FileMap) (left : List ℕ) (answer : Answer)
    (before after : CallStreams) : Type 0 where
  pub plan : Plan
  pub members : List Member
  pub tables : Tables
  pub run : Run
  pub stopped : RunFault
  pub between : CallStreams
  pub asked : IsPlanned words files plan members tables
  pub runs : plan.run ≡ Some run
  pub answered : answer ≡ of_run stopped
  pub first : EndsAtFirst {A = Ending} (Err stopped) before between
  pub broken : ProgramBrokenOff members run left (with_image (image_file plan.image members tables) files)
      stopped
      before between
  pub line : EndsBehind answer between after

-- the image was written and its run ended; the line of sizes behind it could not be put
pub record EndsBrokenBehind (words : List (List ℕ)) (files : FileMap) (left : List ℕ) (answer : Answer)
    (before after : CallStreams) : Type 0 where
  pub plan : Plan
  pub members : List Member
  pub tables : Tables
  pub run : Run
  pub number : ℕ
  pub stopped : RunFault
  pub between : SinkState
  pub asked : IsPlanned words files plan members tables
  pub runs : plan.run ≡ Some run
  pub numbered : plan.number ≡ Some number
  pub stops : StopsPut stopped
  pub answered : answer ≡ of_run stopped
  pub first : EndsAtFirst {A = Ending} (Err stopped) before (with_errors between after)
  pub broken : BrokenBehind members run number left (with_image (image_file plan.image members tables) files)
      before (with_errors between after)
  pub line : Puts between after.errors (fault_line answer)

-- What a fault leaves, told apart by the answer, with its own line behind, as far as the error output took it. Nothing was done but that a
-- refusal's line may be begun; or a file could not be written whole, since the store failed or wanted memory; or the image was written, and the
-- program was broken off as it ran, or the line behind its output was.
pub data EndsByFault (words : List (List ℕ)) (files : FileMap) (left : List ℕ) (answer : Answer)
    (before after : CallStreams) : Type 0 where
  idle : EndsIdle words files left answer before after → EndsByFault words files left answer before after
  torn : EndsTorn words files left answer before after → EndsByFault words files left answer before after
  broke : EndsBroken words files left answer before after → EndsByFault words files left answer before after
  broke_behind : EndsBrokenBehind words files left answer before after
      → EndsByFault words files left answer before after

-- the job was done, or a fault is answered
pub data AnswersCommand (words : List (List ℕ)) (files : FileMap) (left : List ℕ) (answer : Answer)
    (before after : CallStreams) : Type 0 where
  done : (job : Job) → IsJob words files left job → Completes job answer before after
      → AnswersCommand words files left answer before after
  fault : IsFault answer → EndsByFault words files left answer before after
      → AnswersCommand words files left answer before after

-- an answer that files were written
abbrev pub HasWritten : Answer → Type 0
HasWritten Wrote = Unit {0}
HasWritten (Ran ending) = Unit {0}
HasWritten answer = ⊥

-- an answer that may come where no file was written: a refusal, or a fault that is none of the input
abbrev pub IsUnwritten : Answer → Type 0
IsUnwritten Wrote = ⊥
IsUnwritten (Ran ending) = ⊥
IsUnwritten (Refused file line rule) = Unit {0}
IsUnwritten (Command kind) = Unit {0}
IsUnwritten (Missing name) = Unit {0}
IsUnwritten (BadUcode name rule) = Unit {0}
IsUnwritten (BadImage rule) = Unit {0}
IsUnwritten FileFault = Unit {0}
IsUnwritten ReadFault = ⊥
IsUnwritten WriteFault = Unit {0}
IsUnwritten NoMemory = Unit {0}

-- What a call leaves of the files, whatever the input tells, told apart by the answer: they are as they were; or all that is asked for was
-- written; or some first ones were, and perhaps a part of the next, since the store failed or wanted memory; or the program was run, which may
-- write files of its own: what it writes is said where the input tells too.
pub data LeavesFiles (words : List (List ℕ)) (files : FileMap) (answer : Answer)
    (before after : StoreState) : Type 0 where
  left_alone : IsUnwritten answer → after.held ≡ before.held → LeavesFiles words files answer before after
  all_written : (written : List WrittenFile) → AreWritten words files written → answer ≡ Wrote
      → WritesAll before.held after.held written → LeavesFiles words files answer before after
  part_written : (written : List WrittenFile) → AreWritten words files written
      → IsTornFault answer before after → WritesPart before.held after.held written
      → LeavesFiles words files answer before after
  by_run : (plan : Plan) (members : List Member) (tables : Tables) (run : Run) → IsOfRun answer
      → IsPlanned words files plan members tables → plan.run ≡ Some run
      → LeavesFiles words files answer before after

-- where the words and the files ask for files to be written, they were, or a fault is answered
abbrev pub IsComplete : List (List ℕ) → FileMap → Answer → Type 0
IsComplete words files answer =
    (written : List WrittenFile) → AreWritten words files written → IsFault answer ⊎ HasWritten answer

-- These bytes are the image of a code that `iconx` reads and verifies, and its run is, with all words, limits and inputs, what the
-- program is: what its files mean, where all are sources.
pub record IsImage (members : List Member) (bytes : List ℕ) : Type 0 where
  pub tables : Tables
  pub within : length bytes ≤ most_bytes_of_image
  pub read : image_read bytes ≡ Ok tables
  pub verified : IsVerified tables
  pub runs : (launch : Launch) (seen : Observation)
      → (Behaves members launch seen → RunsFlat tables launch seen)
      × (RunsFlat tables launch seen → Behaves members launch seen)

-- the two texts of each unit are read as that unit
abbrev pub IsReadBack : Member → Type 0
IsReadBack member =
    unit_read (unit_of member).name (procs_text (unit_of member).procs) (decls_text (unit_of member).decls)
    ≡ Whole (unit_of member)

-- the name holds these bytes
abbrev pub HoldsNow : Option FileMap → WrittenFile → Type 0
HoldsNow after written = (held : FileMap) × (after ≡ Some held) × (held written.name ≡ Some written.bytes)

-- What an answer that files were written says: the texts of each unit are there; or the image of the program is. Where the program was run, it
-- found the image there as it began, and may have written that name itself.
pub data HoldsWritten (words : List (List ℕ)) (files : FileMap) (answer : Answer)
    (after : Option FileMap) : Type 0 where
  ucode : (members : List Member) → AsksForUnits words files (Ok members)
      → WritesAll (Some files) after (ucode_files members) → All IsReadBack members
      → HoldsWritten words files answer after
  image : (plan : Plan) (members : List Member) (tables : Tables) → IsPlanned words files plan members tables
      → (answer ≡ Wrote → HoldsNow after (image_file plan.image members tables))
      → IsImage members (image_file plan.image members tables).bytes
      → HoldsWritten words files answer after
