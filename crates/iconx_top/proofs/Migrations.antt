-- What the words ask for where they ask for a new image, and what became of it.
use Rattle.std.proofs.Common.{◌≡◌, ◌⊎◌, ◌↔◌, ◌∙◌, inl, inr, ℕ, List, Option, Some, Ok, Err, IsErrOf, refl, sym, ap, subst}
use Rattle.std.specs.Str.{bytes_eq}
use Rattle.std.specs.Map.{update}
use Rattle.icn_host.proofs.SinkSteps.{gains_nothing}
use Rattle.icn_host.specs.Counts.{CountsOnce}
use Rattle.icn_host.specs.FileMaps.{FileMap, Follows, SetsFile, SetsPart, StoreState}
use Rattle.icn_host.specs.Sinks.{SinkState}
use Rattle.icn_host.specs.Sources.{SourceCounts}
use Rattle.icn_host.specs.declared.fault.Fault.{Fault}
use Rattle.icn_host.specs.declared.fault.Fault.TheVariants as Faults
use Rattle.icn_tree.specs.declared.rule.Rule.TheVariants.{I7}
use Rattle.icn_code.specs.Codes.{Tables}
use Rattle.icn_code.specs.CodeTables.{tables_of}
use Rattle.icn_image.specs.Spelling.{image_of}
use Rattle.icn_verify.specs.declared.verified.Verified.{Verified}
use Rattle.icn_answer.specs.declared.answer.Answer.{Answer}
use Rattle.icn_answer.specs.declared.answer.Answer.TheVariants.{Wrote, BadImage, FileFault, NoMemory}
use Rattle.icn_answer.specs.Answers.{IsAbsence}
use Rattle.icn_answer.specs.Refusing.{PutsItsLine, PutsOwn, own, put, want, write_fault}
use Rattle.icn_answer.proofs.NoFaults.{wrote_no_fault}
use Rattle.icn_answer.proofs.TornAnswers.{OnlyRead, is_torn, torn_fault, torn_since}
use Rattle.icn_run_answer.proofs.Reports.{puts_own}
use Rattle.icn_streams.specs.Handed.{CallStreams, call_streams, streams_of}
use Rattle.icn_defs.specs.Interruptions.{Breaks, BreaksBetween, BreaksFiles, BreaksReading}
use Rattle.icn_defs.specs.Running.{Launch}
use Rattle.icn_running.specs.declared.fault.RunFault.{RunFault}
use Rattle.icn_running.specs.declared.fault.RunFault.TheVariants as RunFaults
use Rattle.icn_running.specs.Runs.{IsBrokenOff, LeavesBy}
use Rattle.icn_run_answer.specs.FaultAnswers.{IsOfRun}
use Rattle.icn_run_answer.proofs.CountCauses.{first_behind_files}
use Rattle.icn_run_answer.proofs.OutsideLeft.{read_kept}
use Rattle.iconx_top.specs.declared.words.CommandAsked.{CommandAsked}
use Rattle.iconx_top.specs.declared.words.CommandAsked.TheVariants.{Run, Migration}
use Rattle.iconx_top.specs.declared.words.MigrationAsked.{MigrationAsked}
use Rattle.iconx_top.specs.declared.words.RunAsked.{RunAsked}
use Rattle.iconx_top.specs.Answered.{IsAnswered, fault as answered_fault, wrong_words, missing, bad, ran, writes as answered_writes, grows as answered_grows}
use Rattle.iconx_top.specs.Asking.{migration_reading, reading_of, run_reading}
use Rattle.iconx_top.specs.Job.{IsJob, IsMigration, IsShort, Job, grows, migration_job, refusal, writes}
use Rattle.iconx_top.specs.Loading.{IsLoaded, IsNoSecondImage, IsOfImage, IsOfLoading}
use Rattle.iconx_top.specs.Outcomes.{AnswersCommand, Completes, EndsBroken, EndsByFault, EndsIdle, EndsTorn, HoldsMigration, LeavesFiles, all_written, broke, by_run, done, fault, idle, left_alone, part_written, torn}
use Rattle.iconx_top.specs.Words.{AsksToWrite, WordsReading, words_reading}
use Rattle.iconx_top.proofs.CallOutcomes.{Asked}

-- What the words were read as

pub run_read : (command : CommandAsked) (asked : RunAsked) (read : WordsReading) → reading_of (Ok command) ≡ read → command ≡ Run asked
    → read ≡ run_reading asked
run_read command asked read e is = sym e ∙ ap (λ (c : CommandAsked). reading_of (Ok c)) is

pub migration_read : (command : CommandAsked) (asked : MigrationAsked) (read : WordsReading) → reading_of (Ok command) ≡ read → command ≡ Migration asked
    → read ≡ migration_reading asked
migration_read command asked read e is = sym e ∙ ap (λ (c : CommandAsked). reading_of (Ok c)) is

-- only words that ask for a new image are answered as having it written
pub asks_to_write : {words : List (List ℕ)} {files : FileMap} (answer : Answer) → IsAnswered words files answer → answer ≡ Wrote
    → AsksToWrite (words_reading words)
asks_to_write _ (answered_fault answer f) e = absurd (wrote_no_fault (rw e at f))
asks_to_write _ (wrong_words kind w) e = cc
asks_to_write _ (missing name w n) e = cc
asks_to_write _ (bad name bytes rule w h j) e = cc
asks_to_write _ (ran bounds name bytes arguments tables ending w h j) e = cc
asks_to_write _ (answered_writes new tables asked short) e = rw asked.asks tt
asks_to_write _ (answered_grows new tables asked over) e = cc

pub run_writes_none : (read : WordsReading) (asked : RunAsked) → read ≡ run_reading asked → AsksToWrite read → ⊥
run_writes_none read asked e w = rw e at w

pub migration_writes : (read : WordsReading) (asked : MigrationAsked) → read ≡ migration_reading asked → AsksToWrite read
migration_writes read asked e = rw e tt

-- Answers of refusals

pub refused_unwritten : {usage name : List ℕ} {before after : SinkState} (answer given : Answer) → (answer ≡ Wrote → ⊥)
    → PutsItsLine usage name answer before after given → given ≡ Wrote → ⊥
refused_unwritten answer _ n (put f whole) e = n e
refused_unwritten answer _ n (own f puts) e = n e
refused_unwritten answer _ n (write_fault f stops) e = cc
refused_unwritten answer _ n (want f between leads puts) e = cc

pub load_unwritten : (answer : Answer) → IsOfLoading answer → answer ≡ Wrote → ⊥
load_unwritten answer is e = rw e at is

pub of_image_loading : (answer : Answer) → IsOfImage answer → IsOfLoading answer
of_image_loading (BadImage rule) is = tt
of_image_loading NoMemory is = tt
of_image_loading _ is = absurd is

pub of_image_no_file : (answer : Answer) → IsOfImage answer → answer ≡ FileFault → ⊥
of_image_no_file answer is e = rw e at is

pub of_image_no_absence : (answer : Answer) → IsOfImage answer → IsAbsence answer → ⊥
of_image_no_absence (BadImage rule) is a = a
of_image_no_absence NoMemory is a = a
of_image_no_absence _ is a = is

-- What is told

-- Files that were read alone, where only a new image is written behind that: what the call comes to is said of what they held before.
module _ (words : List (List ℕ)) (files : FileMap) (left : List ℕ) (was now : StoreState) (read : OnlyRead was now) (answer : Answer)
    (told : Option (List ℕ)) (input : SourceCounts) (out errors : SinkState) (after : CallStreams) where
  abbrev Was : CallStreams
  Was = call_streams was told input out errors

  abbrev Now : CallStreams
  Now = call_streams now told input out errors

  completes_since : (job : Job) → Completes job answer Now after → Completes job answer Was after
  completes_since job ends = record {
    answered = ends.answered;
    files = subst (λ (held : Option FileMap). Follows held after.files.held (λ old new. (name : List ℕ) → new name ≡ job.files name)) read.held ends.files;
    left = ends.left;
    calls = ends.calls;
    output = ends.output;
    errors = ends.errors;
  }

  idle_since : EndsIdle words files left answer Now after → EndsIdle words files left answer Was after
  idle_since ends = record {
    between = ends.between;
    files_stay = ends.files_stay ∙ read.held;
    input_stays = ends.input_stays;
    counts_stay = ends.counts_stay;
    output_stays = ends.output_stays;
    cause = ends.cause;
    line = ends.line;
  }

  part_since : EndsTorn words files left answer Now after → EndsTorn words files left answer Was after
  part_since ends = record {
    new = ends.new;
    tables = ends.tables;
    cause = torn_since was now after.files answer read ends.cause;
    asked = ends.asked;
    short = ends.short;
    part = subst (λ (held : Option FileMap). SetsPart held after.files.held ends.new (image_of ends.tables)) read.held ends.part;
    input_stays = ends.input_stays;
    counts_stay = ends.counts_stay;
    output_stays = ends.output_stays;
    line = ends.line;
  }

  -- what broke a run off is said of what each name held, which stays
  broken_by : (tables : Tables) (launch : Launch) (wrong : RunFault) (between : CallStreams) → IsBrokenOff tables launch wrong Now between
      → IsBrokenOff tables launch wrong Was between
  broken_by tables launch wrong between off = (off.0, (off.1.0, by_fault wrong off.1.1))
    where
      by_fault : (wrong : RunFault) → LeavesBy wrong launch.outside off.0 Now between → LeavesBy wrong launch.outside off.0 Was between
      by_fault RunFaults.ReadFault leaves =
          subst (λ (held : Option FileMap). BreaksReading launch.outside off.0.outside (record (streams_of Now) { files = held }) (streams_of between))
          read.held leaves
      by_fault RunFaults.WriteFault leaves =
          subst (λ (held : Option FileMap). BreaksBetween launch.outside off.0.outside (record (streams_of Now) { files = held }) (streams_of between))
          read.held leaves
      by_fault RunFaults.FileFault leaves =
          subst (λ (held : Option FileMap). BreaksFiles launch.outside off.0.outside (record (streams_of Now) { files = held }) (streams_of between))
          read.held leaves
      by_fault RunFaults.NoMemory leaves =
          subst (λ (held : Option FileMap). Breaks launch.outside off.0.outside (record (streams_of Now) { files = held }) (streams_of between))
          read.held leaves

  broken_since : EndsBroken words files left answer Now after → EndsBroken words files left answer Was after
  broken_since ends = record {
    stopped = ends.stopped;
    between = ends.between;
    tables = ends.tables;
    launch = ends.launch;
    answered = ends.answered;
    asked = ends.asked;
    first = first_behind_files told input out errors ends.between answer (read_kept read) ends.first;
    broken = broken_by ends.tables ends.launch ends.stopped ends.between ends.broken;
    line = ends.line;
  }

  fault_since : EndsByFault words files left answer Now after → EndsByFault words files left answer Was after
  fault_since (idle ends) = idle (idle_since ends)
  fault_since (torn ends) = torn (part_since ends)
  fault_since (broke ends) = broke (broken_since ends)

  outcome_since : AnswersCommand words files left answer Now after → AnswersCommand words files left answer Was after
  outcome_since (done job is ends) = done job is (completes_since job ends)
  outcome_since (fault is ends) = fault is (fault_since ends)

-- the files that were told before they were read
pub held_before : {words : List (List ℕ)} {files : FileMap} {left : List ℕ} {answer : Answer} {told : Option (List ℕ)} {input : SourceCounts}
    {out errors : SinkState} {after : CallStreams} (was now : StoreState) → OnlyRead was now
    → AnswersCommand words files left answer (call_streams now told input out errors) after
    → AnswersCommand words files left answer (call_streams was told input out errors) after
held_before {answer = answer} {told} {input} {out} {errors} {after} was now read outcome =
    outcome_since _ _ _ was now read answer told input out errors after outcome

pub leaves_before : {words : List (List ℕ)} {files : FileMap} {answer : Answer} {after : StoreState} (was now : StoreState) → OnlyRead was now
    → LeavesFiles words files answer now after → LeavesFiles words files answer was after
leaves_before was now read (left_alone none same) = left_alone none (same ∙ read.held)
leaves_before was now read (all_written wrote holds) = all_written wrote holds
leaves_before was now read (by_run left tables launch is asked) = by_run left tables launch is asked
leaves_before {answer = answer} {after} was now read (part_written new tables tears asked short part) =
    part_written new tables (torn_since was now after answer read tears) asked short
    (subst (λ (held : Option FileMap). SetsPart held after.held new (image_of tables)) read.held part)

-- of all that may become of the files, that the new image was written
pub written_of : {words : List (List ℕ)} {files : FileMap} {answer : Answer} {before after : StoreState}
    → LeavesFiles words files answer before after → answer ≡ Wrote → HoldsMigration words files after.held
written_of (left_alone none same) e = absurd (none e)
written_of (all_written wrote holds) e = holds
written_of (by_run left tables launch is asked) e = absurd (subst IsOfRun e is)
written_of (part_written new tables broken asked short part) e = absurd (rw e at broken)

-- an input that tells what it has left, and stays as it is
pub told_input : {words : List (List ℕ)} {files : FileMap} {left : List ℕ} {answer : Answer} {held held' : StoreState} {input : SourceCounts}
    {out before after : SinkState} (told : Option (List ℕ)) → told ≡ Some left
    → AnswersCommand words files left answer (call_streams held (Some left) input out before)
    (call_streams held' (Some left) input out after)
    → AnswersCommand words files left answer (call_streams held told input out before) (call_streams held' told input out after)
told_input told e outcome = rw e outcome

-- New images

-- the code of the image that the words name was loaded
pub asked_migration : {words : List (List ℕ)} {files : FileMap} (asked : MigrationAsked) (verified : Verified)
    → words_reading words ≡ migration_reading asked → IsLoaded (files asked.image.now) asked.image.now (Ok verified)
    → IsMigration words files asked.new_name.now (tables_of verified.code)
asked_migration asked verified e is = record { name = asked.image.now; bytes = is.0; asks = e; there = is.1.0; judged = is.1.1 }

-- a name was set to the image of a code
pub sets_image : (files : FileMap) (held held' : Option FileMap) (name bytes image : List ℕ) → held ≡ Some files → bytes ≡ image
    → SetsFile held held' name bytes → SetsFile (Some files) held' name image
sets_image files held held' name bytes image e b sets =
    subst (λ h. SetsFile h held' name image) e (subst (λ (list : List ℕ). SetsFile held held' name list) b sets)

-- a part of the image of a code was set
pub sets_part : (held held' : Option FileMap) (name bytes image : List ℕ) → bytes ≡ image → SetsPart held held' name bytes
    → SetsPart held held' name image
sets_part held held' name bytes image b sets = subst (λ (list : List ℕ). SetsPart held held' name list) b sets

written_files : (files : FileMap) (held held' : Option FileMap) (name image : List ℕ) → held ≡ Some files → SetsFile (Some files) held' name image
    → Follows held held' (λ old new. (q : List ℕ) → new q ≡ update bytes_eq files name (Some image) q)
written_files files held held' name image e sets = rw e sets.follows

pub image_done : {words : List (List ℕ)} {files : FileMap} {left : List ℕ} (new : List ℕ) (tables : Tables) (held held' : StoreState)
    (input : SourceCounts) (out errors : SinkState) → IsMigration words files new tables → IsShort tables → held.held ≡ Some files
    → SetsFile (Some files) held'.held new (image_of tables)
    → AnswersCommand words files left Wrote (call_streams held (Some left) input out errors)
    (call_streams held' (Some left) input out errors)
image_done {files = files} {left} new tables held held' input out errors asked short e sets =
    done (migration_job files left new tables) (writes new tables asked short) (record {
      answered = refl;
      files = written_files files held.held held'.held new (image_of tables) e sets;
      left = refl;
      calls = refl;
      output = gains_nothing out.held;
      errors = gains_nothing errors.held;
    })

pub image_torn : {A : Type 0} {words : List (List ℕ)} {files : FileMap} {left : List ℕ} (new : List ℕ) (tables : Tables) (stopped : Fault)
    (answer : Answer) (held held' : StoreState) (input : SourceCounts) (out before after : SinkState) → IsMigration words files new tables
    → IsShort tables → SetsPart held.held held'.held new (image_of tables) → (answer ≡ FileFault) ↔ (stopped ≡ Faults.Failed)
    → (answer ≡ NoMemory) ↔ (stopped ≡ Faults.NoMemory) → (answer ≡ FileFault) ⊎ (answer ≡ NoMemory)
    → CountsOnce held.counts.faults held'.counts.faults (IsErrOf {T = A} (Err stopped) Faults.Failed)
    → CountsOnce held.counts.wants held'.counts.wants (IsErrOf {T = A} (Err stopped) Faults.NoMemory) → PutsOwn answer before after
    → AnswersCommand words files left answer (call_streams held (Some left) input out before)
    (call_streams held' (Some left) input out after)
image_torn new tables stopped answer held held' input out before after asked short part failed wanted is cause memory puts =
    fault (is_torn answer is) (torn (record {
      new = new;
      tables = tables;
      cause = torn_fault held held' stopped answer failed wanted is cause memory;
      asked = asked;
      short = short;
      part = part;
      input_stays = refl;
      counts_stay = refl;
      output_stays = refl;
      line = puts_own _ _ answer puts;
    }))

-- what that leaves of the files
pub part_leaves : {A : Type 0} {words : List (List ℕ)} {files : FileMap} (new : List ℕ) (tables : Tables) (stopped : Fault) (answer : Answer)
    (held held' : StoreState) → IsMigration words files new tables → IsShort tables → SetsPart held.held held'.held new (image_of tables)
    → (answer ≡ FileFault) ↔ (stopped ≡ Faults.Failed) → (answer ≡ NoMemory) ↔ (stopped ≡ Faults.NoMemory)
    → (answer ≡ FileFault) ⊎ (answer ≡ NoMemory) → CountsOnce held.counts.faults held'.counts.faults (IsErrOf {T = A} (Err stopped) Faults.Failed)
    → CountsOnce held.counts.wants held'.counts.wants (IsErrOf {T = A} (Err stopped) Faults.NoMemory) → LeavesFiles words files answer held held'
part_leaves new tables stopped answer held held' asked short part failed wanted is cause memory =
    part_written new tables (torn_fault held held' stopped answer failed wanted is cause memory) asked short part

-- the image would be too long, or memory was wanting
pub asked_too_long : {words : List (List ℕ)} {files : FileMap} {left : List ℕ} (new name : List ℕ) (tables : Tables) (answer : Answer)
    (asked : IsMigration words files new tables) → asked.name ≡ name → IsOfImage answer → IsNoSecondImage tables answer
    → Asked words files left name answer
asked_too_long {words} {files} {left} new name tables (BadImage rule) asked same of is =
    inr (subst (λ r. IsJob words files left (refusal files left name (BadImage r))) (sym is.0)
    (subst (λ n. IsJob words files left (refusal files left n (BadImage I7))) same (grows new tables asked is.1)))
asked_too_long new name tables NoMemory asked same of is = inl refl
asked_too_long new name tables _ asked same of is = absurd of

pub answered_too_long : {words : List (List ℕ)} {files : FileMap} (new : List ℕ) (tables : Tables) (answer : Answer)
    → IsMigration words files new tables → IsOfImage answer → IsNoSecondImage tables answer → IsAnswered words files answer
answered_too_long {words} {files} new tables (BadImage rule) asked of is =
    subst (λ r. IsAnswered words files (BadImage r)) (sym is.0) (answered_grows new tables asked is.1)
answered_too_long new tables NoMemory asked of is = answered_fault NoMemory refl
answered_too_long new tables _ asked of is = absurd of
