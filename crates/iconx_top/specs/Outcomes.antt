-- What a call comes to, where the objects tell their content.
use Rattle.std.specs.Prelude.{◌≡◌, ◌⊎◌, ℕ, List, [], Option, Some, ⊤}
use Rattle.icn_host.specs.Counts.{raised_count}
use Rattle.icn_host.specs.FileMaps.{FileMap, Follows, SetsFile, SetsPart, StoreState}
use Rattle.icn_host.specs.Sinks.{Gains, SinkState}
use Rattle.icn_host.specs.Puts.{FailsPutting, Puts, RunsShort}
use Rattle.icn_defs.specs.Running.{Launch}
use Rattle.icn_streams.specs.Handed.{CallStreams}
use Rattle.icn_code.specs.Codes.{Tables}
use Rattle.icn_image.specs.Spelling.{image_of}
use Rattle.icn_running.specs.declared.fault.RunFault.{RunFault}
use Rattle.icn_running.specs.Reported.{ending_seen}
use Rattle.icn_running.specs.Runs.{IsBrokenOff, RunsOver}
use Rattle.icn_answer.specs.declared.answer.Answer.{Answer}
use Rattle.icn_answer.specs.declared.answer.Answer.TheVariants.{Wrote, Ran, Refused, Command, Missing, BadUcode, BadImage, FileFault, ReadFault, WriteFault, NoMemory}
use Rattle.icn_answer.specs.Answers.{IsFault}
use Rattle.icn_answer.specs.TornFiles.{IsTornFault}
use Rattle.icn_run_answer.specs.CountCauses.{EndsBehind, IsFirstFaultOf}
use Rattle.icn_run_answer.specs.FaultAnswers.{IsOfRun, of_run}
use Rattle.icn_answer.specs.Lines.{fault_line, line_of}
use Rattle.iconx_top.specs.Job.{Job, IsJob, IsMigration, IsRun, IsShort, refusal}
use Rattle.iconx_top.specs.Usage.{usage}

-- the job was done
pub record Completes (job : Job) (answer : Answer) (before after : CallStreams) : Type 0 where
  pub answered : answer ≡ job.answer
  pub files : Follows before.files.held after.files.held
      (λ old new. (name : List ℕ) → new name ≡ job.files name)
  pub left : after.left ≡ Some job.left
  pub calls : after.counts.calls ≡ raised_count before.counts.calls job.readings
  pub output : Gains before.output.held after.output.held job.output
  pub errors : Gains before.errors.held after.errors.held job.errors

-- a refusal, of which some part of the line was put in this way
abbrev pub PutsPartOfRefusal : (List ℕ → Answer → Type 0) → (List ℕ → Type 0) → Type 0
PutsPartOfRefusal Refuses PutsPart = (name : List ℕ)
    × ((refused : Answer) × (Refuses name refused × PutsPart (line_of usage name refused)))

-- Where nothing was done, what was put before the fault's own line, by the answer: of a file fault nothing; of a failed put of a refusal's
-- line, a part of it; of want of memory nothing, or such a part. No other answer leaves nothing done.
abbrev pub IsIdleFault : (List ℕ → Answer → Type 0) → Answer → SinkState → SinkState → Type 0
IsIdleFault Refuses Wrote before between = ⊥
IsIdleFault Refuses (Ran ending) before between = ⊥
IsIdleFault Refuses (Refused file line rule) before between = ⊥
IsIdleFault Refuses (Command kind) before between = ⊥
IsIdleFault Refuses (Missing name) before between = ⊥
IsIdleFault Refuses (BadUcode name rule) before between = ⊥
IsIdleFault Refuses (BadImage rule) before between = ⊥
IsIdleFault Refuses FileFault before between = between ≡ before
IsIdleFault Refuses ReadFault before between = ⊥
IsIdleFault Refuses WriteFault before between = PutsPartOfRefusal Refuses (FailsPutting before between)
IsIdleFault Refuses NoMemory before between =
    (between ≡ before) ⊎ PutsPartOfRefusal Refuses (RunsShort before between)

-- the words, the files and the input ask for nothing but this answer, where the image has this name
abbrev pub AsksForRefusal : List (List ℕ) → FileMap → List ℕ → List ℕ → Answer → Type 0
AsksForRefusal words files left name refused = IsJob words files left (refusal files left name refused)

-- nothing was done: the outside failed, or memory was wanting, before anything was
pub record EndsIdle (words : List (List ℕ)) (files : FileMap) (left : List ℕ) (answer : Answer)
    (before after : CallStreams) : Type 0 where
  pub between : SinkState
  pub files_stay : after.files.held ≡ before.files.held
  pub input_stays : after.left ≡ before.left
  pub counts_stay : after.counts ≡ before.counts
  pub output_stays : after.output ≡ before.output
  pub cause : IsIdleFault (AsksForRefusal words files left) answer before.errors between
  pub line : Puts between after.errors (fault_line answer)

-- the new image could not be written whole, since the store failed or wanted memory
pub record EndsTorn (words : List (List ℕ)) (files : FileMap) (left : List ℕ) (answer : Answer)
    (before after : CallStreams) : Type 0 where
  pub new : List ℕ
  pub tables : Tables
  pub cause : IsTornFault answer before.files after.files
  pub asked : IsMigration words files new tables
  pub short : IsShort tables
  pub part : SetsPart before.files.held after.files.held new (image_of tables)
  pub input_stays : after.left ≡ before.left
  pub counts_stay : after.counts ≡ before.counts
  pub output_stays : after.output ≡ before.output
  pub line : Puts before.errors after.errors (fault_line answer)

-- the run broke off
pub record EndsBroken (words : List (List ℕ)) (files : FileMap) (left : List ℕ) (answer : Answer)
    (before after : CallStreams) : Type 0 where
  pub stopped : RunFault
  pub between : CallStreams
  pub tables : Tables
  pub launch : Launch
  pub answered : answer ≡ of_run stopped
  pub asked : IsRun words files left tables launch
  pub first : IsFirstFaultOf answer before between
  pub broken : IsBrokenOff tables launch stopped before between
  pub line : EndsBehind answer between after

-- A fault, told apart by the answer: nothing was done but that a refusal's line may be begun; or the new image could not be written whole; or
-- the run of the image that the words name was broken off, by the first failure. The fault's own line comes behind, as far as the error
-- output took it.
pub data EndsByFault (words : List (List ℕ)) (files : FileMap) (left : List ℕ) (answer : Answer)
    (before after : CallStreams) : Type 0 where
  idle : EndsIdle words files left answer before after → EndsByFault words files left answer before after
  torn : EndsTorn words files left answer before after → EndsByFault words files left answer before after
  broke : EndsBroken words files left answer before after → EndsByFault words files left answer before after

-- the job was done, or a fault is answered
pub data AnswersCommand (words : List (List ℕ)) (files : FileMap) (left : List ℕ) (answer : Answer)
    (before after : CallStreams) : Type 0 where
  done : (job : Job) → IsJob words files left job → Completes job answer before after
      → AnswersCommand words files left answer before after
  fault : IsFault answer → EndsByFault words files left answer before after
      → AnswersCommand words files left answer before after

-- The new image that the words ask for was written: its name holds the second version of the code of the image that they name, and every other
-- name what it held.
pub record HoldsMigration (words : List (List ℕ)) (files : FileMap) (after : Option FileMap) : Type 0 where
  pub new : List ℕ
  pub tables : Tables
  pub asked : IsMigration words files new tables
  pub within : IsShort tables
  pub written : SetsFile (Some files) after new (image_of tables)

-- What a call leaves of the files, whatever the input tells, told apart by the answer: they are as they were; or the new image was written; or a
-- part of it may have been, since the store failed or wanted memory; or a run was asked for, which may write files of its own: what it writes is
-- said where the input tells too.
pub data LeavesFiles (words : List (List ℕ)) (files : FileMap) (answer : Answer)
    (before after : StoreState) : Type 0 where
  left_alone : (answer ≡ Wrote → ⊥) → after.held ≡ before.held → LeavesFiles words files answer before after
  by_run : (left : List ℕ) (tables : Tables) (launch : Launch) → IsOfRun answer
      → IsRun words files left tables launch → LeavesFiles words files answer before after
  all_written : answer ≡ Wrote → HoldsMigration words files after.held
      → LeavesFiles words files answer before after
  part_written : (new : List ℕ) (tables : Tables) → IsTornFault answer before after
      → IsMigration words files new tables → IsShort tables
      → SetsPart before.held after.held new (image_of tables)
      → LeavesFiles words files answer before after

-- Of a run that is answered, whatever the input tells: it is the run of the code of the image that the words name, with the words
-- and limits that they say, over some input, which may be another before each step.
abbrev pub RunsAsAsked : List (List ℕ) → FileMap → Answer → CallStreams → CallStreams → Type 0
RunsAsAsked words files (Ran ending) before after = (tables : Tables) × ((launch : Launch)
    × (IsRun words files [] tables launch × RunsOver tables launch (ending_seen ending) before after))
RunsAsAsked words files Wrote before after = ⊤
RunsAsAsked words files (Refused file line rule) before after = ⊤
RunsAsAsked words files (Command kind) before after = ⊤
RunsAsAsked words files (Missing name) before after = ⊤
RunsAsAsked words files (BadUcode name rule) before after = ⊤
RunsAsAsked words files (BadImage rule) before after = ⊤
RunsAsAsked words files FileFault before after = ⊤
RunsAsAsked words files ReadFault before after = ⊤
RunsAsAsked words files WriteFault before after = ⊤
RunsAsAsked words files NoMemory before after = ⊤
