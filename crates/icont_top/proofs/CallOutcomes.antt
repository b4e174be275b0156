-- What the words, the files and the input ask for, and what became of it.
use Rattle.std.proofs.Common.{◌≡◌, ◌⊎◌, ◌↔◌, inl, inr, ℕ, List, [], ◌∷◌, Option, None, Some, Ok, Err, IsErrOf, Result, map, refl, sym, ap, ◌∙◌, subst, arith}
use Rattle.std.specs.Prelude.{All, true}
use Rattle.std.specs.Option.{option_map}
use Rattle.std.specs.Str.{bytes_eq}
use Rattle.std.proofs.lemmas.Bool.{cond-true}
use Rattle.std.proofs.lemmas.Slice.Eq.{bytes_eq-Decides}
use Rattle.icn_host.specs.Counts.{CountsOnce}
use Rattle.icn_host.specs.FileMaps.{Changes, FileMap, Follows, IsLeftBehind, SetsFile, SetsPart, StoreState}
use Rattle.icn_host.proofs.ToldPuts.{puts_nothing}
use Rattle.icn_host.proofs.SinkSteps.{gains_nothing}
use Rattle.icn_host.specs.Puts.{all, LeadsBy}
use Rattle.icn_host.specs.Sinks.{SinkState}
use Rattle.icn_host.specs.Sources.{SourceCounts}
use Rattle.icn_host.specs.declared.fault.Fault.{Fault}
use Rattle.icn_host.specs.declared.fault.Fault.TheVariants as Faults
use Rattle.icn_tree.specs.Trees.{Declaration}
use Rattle.icn_code.specs.Codes.{Tables}
use Rattle.icn_code.specs.Rules.{keeps_rules}
use Rattle.icn_code.specs.CodeTables.{tables_of}
use Rattle.icn_value.specs.Store.{Event, AReading, OutputByte, ErrorByte, FileReading, FileWriting, Outside, outside_of, with_file, writings_in}
use Rattle.icn_defs.specs.Interruptions.{Breaks, BreaksBetween, BreaksFiles, BreaksReading, HoldsMap, LeavesStore, TellsMap, breaks_between, breaks_files, breaks_reading, files_behind}
use Rattle.icn_defs.specs.Running.{Launch, Observation}
use Rattle.icn_defs.specs.declared.ending.Ending.{Ending}
use Rattle.icn_run.specs.FlatStep.{Runs}
use Rattle.law_outside.specs.Outsides.{ExtendsOutside}
use Rattle.icn_link.specs.LinkFaults.{first_fault}
use Rattle.icn_verify.specs.Faults.{IsVerified}
use Rattle.icn_image.specs.Reading.{image_read}
use Rattle.icn_image.specs.Spelling.{image_of}
use Rattle.law_simulation.specs.FirstLaw.{FilesMean, RunsFlat}
use Rattle.icn_streams.specs.Handed.{CallStreams, KeepsStoreCounts, TellsOutside, call_streams, streams_of}
use Rattle.icn_running.specs.declared.fault.RunFault.{RunFault}
use Rattle.icn_running.specs.declared.fault.RunFault.TheVariants as RunFaults
use Rattle.icn_running.specs.Reported.{ending_seen}
use Rattle.icn_running.specs.Runs.{EndsAtFirst as RunEnds, LeavesBy}
use Rattle.icn_answer.specs.declared.answer.Answer.{Answer}
use Rattle.icn_answer.specs.declared.answer.Answer.TheVariants.{Wrote, Ran, Refused, Command, Missing, BadUcode, BadImage, FileFault, ReadFault, WriteFault, NoMemory}
use Rattle.icn_answer.specs.Answers.{IsFault}
use Rattle.icn_run_answer.specs.FaultAnswers.{IsOfRun}
use Rattle.icn_answer.specs.Lines.{line_of}
use Rattle.icn_answer.specs.Refusing.{PutsOwn, PutsItsLine as PutsRefusal, put, own, write_fault, want}
use Rattle.icn_run_answer.specs.ToldObjects.{with_errors}
use Rattle.icn_run_answer.proofs.CountCauses.{fault_behind_files}
use Rattle.icn_answer.proofs.NoFaults.{no_fault}
use Rattle.icn_answer.proofs.TornAnswers.{is_torn, torn_fault}
use Rattle.icn_run_answer.proofs.Reports.{is_run_fault, puts_own}
use Rattle.icn_answer.proofs.ToldContent.{if_some_intro}
use Rattle.icont_words.specs.Asking.{run_seen}
use Rattle.icont_words.specs.Words.{Run, Translate, Asks, ComeTo}
use Rattle.icont_units.specs.Files.{files_named, sources_in}
use Rattle.icont_units.specs.Units.{FilesCome, Member, units_of}
use Rattle.icont_top.specs.declared.loading.LoadedProgram.{LoadedProgram}
use Rattle.icont_top.specs.declared.top.Plan.{Plan as PlanHeld}
use Rattle.icont_top.specs.Answered.{IsAnswered, fault as answered_fault, refused as answered_refused, translated as answered_translated, wrote as answered_wrote, ran as answered_ran}
use Rattle.icont_top.specs.Answering.{IsDone, RunsAsAsked}
use Rattle.icont_top.specs.Asking.{IsProgram, IsProgramOf, IsReadyProgram, plan_seen}
use Rattle.icont_top.specs.Job.{IsJob, Job, IsPlanned, AsksForUnits, Plan, Plans, RefusesCommand, WrittenFile, as_written, behind, image_file, image_name, run_launch, no_members, no_program, no_units, refusal, refuses, run_job, runs, translates, ucode_files, writes, files_job, with_image}
use Rattle.icont_top.specs.Outcomes.{AreWritten, HasWritten, HoldsNow, HoldsWritten, IsIdleFault, IsImage, IsReadBack, IsUnwritten, AnswersCommand, WritesAll, WritesPart, all_written, broke, broke_behind, by_run, done, fault, idle, left_alone, part_written, torn, written_over}
use Rattle.icont_top.specs.Programs.{Behaves, Links, RunsBy, files_of, is_program, linked_code, not_linked, unverified}
use Rattle.icont_top.specs.Running.{HasRun, IsOver, WasOver, has_ended, was_broken, was_broken_behind}
use Rattle.icont_top.specs.Usage.{usage}
use Rattle.icont_top.proofs.LinkingRules.{image_within}
use Rattle.icont_top.proofs.WrittenTexts.{writes_none}

-- Refusals

-- an answer is what refuses the words and the files, or a fault
abbrev pub Asked : List (List ℕ) → FileMap → Answer → Type 0
Asked words files answer = IsFault answer ⊎ RefusesCommand words files answer

-- a fault that is none of the input or an output was answered before a line was put
idle_of : (IsJobOf : Job → Type 0) (answer : Answer) (before : SinkState) → IsFault answer → (answer ≡ WriteFault → ⊥) → (answer ≡ ReadFault → ⊥)
    → IsIdleFault IsJobOf answer before before
idle_of IsJobOf Wrote before f no_write no_read = absurd (no_fault Wrote refl f)
idle_of IsJobOf (Ran ending) before f no_write no_read = absurd (no_fault (Ran ending) refl f)
idle_of IsJobOf (Refused file line rule) before f no_write no_read = absurd (no_fault (Refused file line rule) refl f)
idle_of IsJobOf (Command kind) before f no_write no_read = absurd (no_fault (Command kind) refl f)
idle_of IsJobOf (Missing name) before f no_write no_read = absurd (no_fault (Missing name) refl f)
idle_of IsJobOf (BadUcode name rule) before f no_write no_read = absurd (no_fault (BadUcode name rule) refl f)
idle_of IsJobOf (BadImage rule) before f no_write no_read = absurd (no_fault (BadImage rule) refl f)
idle_of IsJobOf FileFault before f no_write no_read = refl
idle_of IsJobOf ReadFault before f no_write no_read = absurd (no_read refl)
idle_of IsJobOf WriteFault before f no_write no_read = absurd (no_write refl)
idle_of IsJobOf NoMemory before f no_write no_read = inl refl

-- memory was wanting as a refusal's line was put
idle_short : {words : List (List ℕ)} {files : FileMap} {left : List ℕ} (answer : Answer) (before between : SinkState)
    → RefusesCommand words files answer → LeadsBy Faults.NoMemory before between (line_of usage [] answer)
    → IsIdleFault (IsJob words files left) NoMemory before between
idle_short answer before between is (inl same) = inl same
idle_short {left = left} answer before between is (inr short) = inr (refusal left answer, refuses answer is, refl, short)

-- nothing was done but to put a line
refused : {words : List (List ℕ)} {files : FileMap} {left : List ℕ} (answer given : Answer) (held held' : StoreState) (left' : Option (List ℕ))
    (input : SourceCounts) (out before after : SinkState) → Asked words files answer → (answer ≡ WriteFault → ⊥) → (answer ≡ ReadFault → ⊥)
    → held'.held ≡ held.held → left' ≡ Some left → PutsRefusal usage [] answer before after given
    → AnswersCommand words files left given (call_streams held left' input out before) (call_streams held' left' input out after)
refused answer given held held' left' input out before after (inl f) no_write no_read same d (put n h) = absurd (n f)
refused {left = left} answer given held held' left' input out before after (inr is) no_write no_read same d (put n h) =
    done (refusal left answer) (refuses answer is)
    (record { answered = refl; files = writes_none held.held held'.held same; left = d; calls = refl; output = gains_nothing out.held; errors = h.gains })
refused {words} {files} {left} answer given held held' left' input out before after asks no_write no_read same d (own f puts) =
    fault f (idle (record {
      between = before;
      files_stay = same;
      input_stays = refl;
      counts_stay = refl;
      output_stays = refl;
      cause = idle_of (IsJob words files left) answer before f no_write no_read;
      line = puts_own _ _ answer puts;
    }))
refused answer given held held' left' input out before after (inl f) no_write no_read same d (write_fault n stops) = absurd (n f)
refused {left = left} answer given held held' left' input out before after (inr is) no_write no_read same d (write_fault n stops) =
    fault refl (idle (record {
      between = after;
      files_stay = same;
      input_stays = refl;
      counts_stay = refl;
      output_stays = refl;
      cause = (refusal left answer, refuses answer is, refl, stops);
      line = all (puts_nothing after);
    }))
refused answer given held held' left' input out before after (inl f) no_write no_read same d (want n between leads puts) = absurd (n f)
refused answer given held held' left' input out before after (inr is) no_write no_read same d (want n between leads puts) =
    fault refl (idle (record {
      between = between;
      files_stay = same;
      input_stays = refl;
      counts_stay = refl;
      output_stays = refl;
      cause = idle_short answer before between is leads;
      line = puts;
    }))

asked_answer : {words : List (List ℕ)} {files : FileMap} (answer : Answer) → Asked words files answer → IsAnswered words files answer
asked_answer answer (inl f) = answered_fault answer f
asked_answer answer (inr is) = answered_refused answer is

answer_put : {words : List (List ℕ)} {files : FileMap} {before after : SinkState} (answer given : Answer) → IsAnswered words files answer
    → PutsRefusal usage [] answer before after given → IsAnswered words files given
answer_put answer _ is (put n h) = is
answer_put answer _ is (own f puts) = is
answer_put answer _ is (write_fault n leads) = answered_fault WriteFault refl
answer_put answer _ is (want n between leads puts) = answered_fault NoMemory refl

-- what holds neither of a refused answer nor of a fault of its put holds of none that is given
pub given_none : (Holds : Answer → Type 0) {before after : SinkState} (answer given : Answer) → (Holds answer → ⊥) → (Holds WriteFault → ⊥)
    → (Holds NoMemory → ⊥) → PutsRefusal usage [] answer before after given → Holds given → ⊥
given_none Holds answer _ a w m (put n h) is = a is
given_none Holds answer _ a w m (own f puts) is = a is
given_none Holds answer _ a w m (write_fault n leads) is = w is
given_none Holds answer _ a w m (want n between leads puts) is = m is

-- an answer that no file was written for, and that is no fault of the input
unwritten : (answer : Answer) → (HasWritten answer → ⊥) → (answer ≡ ReadFault → ⊥) → IsUnwritten answer
unwritten Wrote none no_read = none tt
unwritten (Ran ending) none no_read = none tt
unwritten (Refused file line rule) none no_read = tt
unwritten (Command kind) none no_read = tt
unwritten (Missing name) none no_read = tt
unwritten (BadUcode name rule) none no_read = tt
unwritten (BadImage rule) none no_read = tt
unwritten FileFault none no_read = tt
unwritten ReadFault none no_read = no_read refl
unwritten WriteFault none no_read = tt
unwritten NoMemory none no_read = tt

given_unwritten : {before after : SinkState} (answer given : Answer) → IsUnwritten answer → PutsRefusal usage [] answer before after given
    → IsUnwritten given
given_unwritten answer _ is (put n h) = is
given_unwritten answer _ is (own f puts) = is
given_unwritten answer _ is (write_fault n stops) = tt
given_unwritten answer _ is (want n between leads puts) = tt

-- an answer that no file was written for is of no run
runs_unless : (words : List (List ℕ)) (files : FileMap) (before after : CallStreams) (answer : Answer) → (HasWritten answer → ⊥)
    → RunsAsAsked words files answer before after
runs_unless words files before after (Ran ending) none = absurd (none tt)
runs_unless words files before after Wrote none = tt
runs_unless words files before after (Refused file line rule) none = tt
runs_unless words files before after (Command kind) none = tt
runs_unless words files before after (Missing name) none = tt
runs_unless words files before after (BadUcode name rule) none = tt
runs_unless words files before after (BadImage rule) none = tt
runs_unless words files before after FileFault none = tt
runs_unless words files before after ReadFault none = tt
runs_unless words files before after WriteFault none = tt
runs_unless words files before after NoMemory none = tt

pub refused_done : {words : List (List ℕ)} {files : FileMap} (answer given : Answer) (held held' : StoreState) (left : Option (List ℕ))
    (input : SourceCounts) (out before after : SinkState) → (HasWritten answer → ⊥) → (answer ≡ WriteFault → ⊥) → (answer ≡ ReadFault → ⊥)
    → Asked words files answer → held'.held ≡ held.held → PutsRefusal usage [] answer before after given
    → IsDone words files given (call_streams held left input out before) (call_streams held' left input out after)
refused_done answer given held held' left input out before after none no_write no_read asks same line = record {
  outcome = if_some_intro left _ (λ bytes d. refused answer given held held' left input out before after asks no_write no_read same d line);
  headline = λ w. absurd (given_none HasWritten answer given none (λ x. x) (λ x. x) line w);
  leaves = left_alone (given_unwritten answer given (unwritten answer none no_read) line) same;
  answered = answer_put answer given (asked_answer answer asks) line;
  ran = runs_unless _ _ _ _ given (given_none HasWritten answer given none (λ x. x) (λ x. x) line);
}

-- where a fault is answered, a fault is given
pub fault_given : {before after : SinkState} (answer given : Answer) → IsFault answer → PutsRefusal usage [] answer before after given → IsFault given
fault_given answer _ f (put n h) = absurd (n f)
fault_given answer _ f (own g puts) = g
fault_given answer _ f (write_fault n leads) = refl
fault_given answer _ f (want n between leads puts) = refl

-- Programs

-- what refuses a program refuses the words that ask for it
pub asked_program : {words : List (List ℕ)} {files : FileMap} {rose : Type 0} (Comes : Result (List Member) Answer → Type 0) (plan : Plan)
    (answer : Answer) → ((result : Result (List Member) Answer) → Comes result → Plans words files plan result)
    → let found : Result LoadedProgram Answer = Err answer in IsProgramOf Comes rose found → Asked words files answer
asked_program Comes plan answer plans (inl f) = inl f
asked_program Comes plan answer plans (inr (inl comes)) = inr (no_members plan answer (plans (Err answer) comes))
asked_program Comes plan answer plans (inr (inr some)) = inr (no_program plan some.0 answer (plans (Ok some.0) some.1.0) some.1.1.1)

by_files : (found : Option (List (List Declaration))) (tables : Tables) (launch : Launch) (seen : Observation)
    → ((files : List (List Declaration)) → found ≡ Some files → FilesMean files launch seen ↔ RunsFlat tables launch seen)
    → (RunsBy found tables launch seen → RunsFlat tables launch seen) × (RunsFlat tables launch seen → RunsBy found tables launch seen)
by_files None tables launch seen means = (λ x. x, λ x. x)
by_files (Some files) tables launch seen means = ((means files refl).0, (means files refl).1)

behaves_alike : (members : List Member) (program : LoadedProgram) → IsProgram members program → (launch : Launch) (seen : Observation)
    → (Behaves members launch seen → RunsFlat (linked_code members) launch seen) × (RunsFlat (linked_code members) launch seen → Behaves members launch seen)
behaves_alike members program is launch seen =
    by_files (files_of members) (linked_code members) launch seen (λ files e. is.made.means files e launch seen)

behaves : (members : List Member) (program : LoadedProgram) → IsProgram members program → (launch : Launch) (seen : Observation)
    → RunsFlat (tables_of program.made.code.code) launch seen → Behaves members launch seen
behaves members program is launch seen flat =
    (behaves_alike members program is launch seen).1 (subst (λ t. RunsFlat t launch seen) is.made.code flat)

-- the code of a program breaks no rule of linking
fits_by : {members : List Member} (result : Result Tables Answer) → Links members result → (tables : Tables) → result ≡ Ok tables
    → first_fault (units_of members) ≡ None
fits_by _ (not_linked answer e) tables same = absurd (let no_code = same in cc)
fits_by _ (unverified base rule number place fits e f) tables same = fits
fits_by _ (is_program fits verified) tables same = fits

abbrev pub ReadBack : Type 0
ReadBack = (tables : Tables) → keeps_rules tables ≡ true → image_read (image_of tables) ≡ Ok tables

-- a program's image is one that `iconx` takes
is_image : (members : List Member) (program : LoadedProgram) → ReadBack → IsProgram members program
    → IsImage members (image_of (linked_code members))
is_image members program back is = record {
  tables = linked_code members;
  within =
      let whole = image_within (units_of members) (fits_by (Ok (linked_code members)) is.made.links (linked_code members) refl) in
      let less = is.made.shorter in
      omega (arith, whole, less);
  read = back (linked_code members) (subst (λ t. keeps_rules t ≡ true) is.made.code program.made.code.code.rules);
  verified = subst IsVerified is.made.code program.made.code.verified;
  runs = behaves_alike members program is;
}

-- The image

planned : {words : List (List ℕ)} {files : FileMap} {members : List Member} {plan : PlanHeld} {program : LoadedProgram}
    → IsReadyProgram words files members plan program → IsPlanned words files (plan_seen plan) members (linked_code members)
planned ready = record { plans = ready.plans; links = ready.is.made.links }

-- the file that the image of a plan is
abbrev pub plan_file : PlanHeld → List Member → WrittenFile
plan_file plan members = image_file (plan_seen plan).image members (linked_code members)

pub writes_image : {held held' : Option FileMap} (name bytes : List ℕ) (plan : PlanHeld) (members : List Member)
    → name ≡ image_name (plan_seen plan).image members → bytes ≡ image_of (linked_code members) → SetsFile held held' name bytes
    → WritesAll held held' (plan_file plan members ∷ [])
writes_image name bytes plan members b e sets = let there = rw (b, e) at sets in record { follows = there.follows }

pub writes_part : {held held' : Option FileMap} (name bytes : List ℕ) (plan : PlanHeld) (members : List Member)
    → name ≡ image_name (plan_seen plan).image members → bytes ≡ image_of (linked_code members) → SetsPart held held' name bytes
    → WritesPart held held' (plan_file plan members ∷ [])
writes_part name bytes plan members b e sets =
    let there = rw (b, e) at sets in
    record { whole = []; torn = plan_file plan members; others = []; are = refl; follows = there.follows }

-- the file that was written holds what was written
written_there : {held held' : Option FileMap} (files : FileMap) (next : WrittenFile) → held ≡ Some files → WritesAll held held' (next ∷ [])
    → HoldsNow held' next
written_there files next e sets =
    let follows = rw e at sets.follows in
    (follows.0, follows.1, follows.2 next.name ∙ cond-true (bytes_eq next.name next.name) _ _ ((bytes_eq-Decides next.name next.name).1 refl))

holds_image : {words : List (List ℕ)} {files : FileMap} {after : Option FileMap} (answer : Answer) (members : List Member) (plan : PlanHeld)
    (program : LoadedProgram) → ReadBack → IsReadyProgram words files members plan program
    → (answer ≡ Wrote → HoldsNow after (plan_file plan members)) → HoldsWritten words files answer after
holds_image answer members plan program back ready stands =
    HoldsWritten.image (plan_seen plan) members (linked_code members) (planned ready) stands (is_image members program back ready.is)

-- Outcomes of a program

pub wrote_done : {words : List (List ℕ)} {files : FileMap} (held held' : StoreState) (members : List Member) (plan : PlanHeld) (program : LoadedProgram)
    (left : Option (List ℕ)) (input : SourceCounts) (out errors : SinkState) → ReadBack → IsReadyProgram words files members plan program
    → held.held ≡ Some files
    → WritesAll held.held held'.held (plan_file plan members ∷ []) → plan.run ≡ None
    → IsDone words files Wrote (call_streams held left input out errors) (call_streams held' left input out errors)
wrote_done {files = files} held held' members plan program left input out errors back ready e sets no_run =
    let none : (plan_seen plan).run ≡ None = ap (option_map run_seen) no_run in
    record {
      outcome = if_some_intro left _ (λ bytes d. done (files_job (plan_file plan members ∷ []) bytes)
          (writes (plan_seen plan) members (linked_code members) (planned ready) none)
          (record {
            answered = refl;
            files = sets;
            left = d;
            calls = refl;
            output = gains_nothing out.held;
            errors = gains_nothing errors.held;
          }));
      headline = λ w. holds_image Wrote members plan program back ready (λ _. written_there files (plan_file plan members) e sets);
      leaves = all_written _ (AreWritten.image (plan_seen plan) members (linked_code members) (planned ready)) refl sets;
      answered = answered_wrote (plan_seen plan) members (linked_code members) (planned ready) none;
      ran = tt;
    }

-- which answers a run can give
run_answered : {words : List (List ℕ)} {files : FileMap} {plan : Plan} {members : List Member} {tables : Tables} {run : Run} (answer : Answer)
    → IsPlanned words files plan members tables → plan.run ≡ Some run → IsOfRun answer → IsAnswered words files answer
run_answered {plan = plan} {members} {tables} {run} (Ran ending) is e o = answered_ran plan members tables run ending is e
run_answered FileFault is e o = answered_fault FileFault refl
run_answered ReadFault is e o = answered_fault ReadFault refl
run_answered WriteFault is e o = answered_fault WriteFault refl
run_answered NoMemory is e o = answered_fault NoMemory refl
run_answered Wrote is e o = absurd o
run_answered (Refused other line rule) is e o = absurd o
run_answered (Command kind) is e o = absurd o
run_answered (Missing other) is e o = absurd o
run_answered (BadUcode other rule) is e o = absurd o
run_answered (BadImage rule) is e o = absurd o

-- a run is none where nothing but a file was written
run_wrote : (answer : Answer) → IsOfRun answer → answer ≡ Wrote → ⊥
run_wrote answer o e = subst IsOfRun e o

-- What a program that is run finds

-- the files once one is written
tells_written : {held held' : Option FileMap} (files : FileMap) (next : WrittenFile) → held ≡ Some files → WritesAll held held' (next ∷ [])
    → TellsMap held' (with_image next files)
tells_written files next e sets =
    let follows = rw e at sets.follows in
    record { told = follows.0; is = follows.1; same = λ q. sym (follows.2 q) }

-- what a store that tells holds now is said of it whatever it told before
pub holds_since : {before between after : Option FileMap} {found files : FileMap} → TellsMap between found → HoldsMap between after files
    → HoldsMap before after files
holds_since {before} {between} {after} {files = files} told holds =
    let now : (new : FileMap) × (after ≡ Some new) × ((q : List ℕ) → new q ≡ files q) = rw told.is at holds.follows in
    record { follows = since_told before now }
  where
    since_told : (before : Option FileMap) → (new : FileMap) × (after ≡ Some new) × ((q : List ℕ) → new q ≡ files q)
        → Follows before after (λ old new. (q : List ℕ) → new q ≡ files q)
    since_told None now = tt
    since_told (Some old) now = now

follows_since : (before : Option FileMap) {between : Option FileMap} (after : Option FileMap) {found : FileMap} (Is : FileMap → Type 0)
    → TellsMap between found → Follows between after (λ old new. Is new) → Follows before after (λ old new. Is new)
follows_since None after Is told follows = tt
follows_since (Some old) after Is told follows = rw told.is at follows

-- so is what a call of the store that failed leaves
leaves_since : (before : Option FileMap) {between : Option FileMap} (after : Option FileMap) {found : FileMap} (call : Event) (files : FileMap)
    → TellsMap between found → LeavesStore call files between after → LeavesStore call files before after
leaves_since before after (AReading asked) files told leaves = absurd leaves
leaves_since before after (OutputByte byte) files told leaves = absurd leaves
leaves_since before after (ErrorByte byte) files told leaves = absurd leaves
leaves_since before after (FileReading name) files told leaves = holds_since told leaves
leaves_since before after (FileWriting name bytes) files told leaves = follows_since before after
    (λ new. (content : Option (List ℕ)) × IsLeftBehind (files name) bytes content × Changes files new name content) told leaves

module _ (held mid : StoreState) (left : Option (List ℕ)) (input : SourceCounts) (out errors : SinkState) {found : FileMap}
    (told : TellsMap mid.held found) (kept : KeepsStoreCounts held mid) where
  abbrev Was : CallStreams
  Was = call_streams held left input out errors

  abbrev Mid : CallStreams
  Mid = call_streams mid left input out errors

  -- what broke a run off that began behind the writing broke off the call
  between_since : {was end : Outside} (after : CallStreams) → BreaksBetween was end (streams_of Mid) (streams_of after)
      → BreaksBetween was end (streams_of Was) (streams_of after)
  between_since after off = record {
    done = off.done;
    due = off.due;
    are = off.are;
    stands = record {
      files = holds_since told off.stands.files;
      rest = off.stands.rest;
      calls = off.stands.calls;
      output = off.stands.output;
      errors = off.stands.errors;
    };
  }

  reading_since : {was end : Outside} (after : CallStreams) → BreaksReading was end (streams_of Mid) (streams_of after)
      → BreaksReading was end (streams_of Was) (streams_of after)
  reading_since after off = record {
    done = off.done;
    asked = off.asked;
    due = off.due;
    are = off.are;
    stands = record {
      files = holds_since told off.stands.files;
      rest = off.stands.rest;
      calls = off.stands.calls;
      output = off.stands.output;
      errors = off.stands.errors;
    };
  }

  files_since : {was end : Outside} (after : CallStreams) → BreaksFiles was end (streams_of Mid) (streams_of after)
      → BreaksFiles was end (streams_of Was) (streams_of after)
  files_since {was} after off = record {
    done = off.done;
    call = off.call;
    due = off.due;
    are = off.are;
    stands = record {
      files = leaves_since held.held after.files.held off.call (files_behind was.files off.done) told off.stands.files;
      rest = off.stands.rest;
      calls = off.stands.calls;
      output = off.stands.output;
      errors = off.stands.errors;
    };
  }

  any_since : {was end : Outside} (after : CallStreams) → Breaks was end (streams_of Mid) (streams_of after)
      → Breaks was end (streams_of Was) (streams_of after)
  any_since after (breaks_between off) = breaks_between (between_since after off)
  any_since after (breaks_reading off) = breaks_reading (reading_since after off)
  any_since after (breaks_files off) = breaks_files (files_since after off)

  pub broken_since : (wrong : RunFault) (was : Outside) (seen : Observation) (after : CallStreams) → LeavesBy wrong was seen Mid after
      → LeavesBy wrong was seen Was after
  broken_since RunFaults.ReadFault was seen after off = reading_since after off
  broken_since RunFaults.WriteFault was seen after off = between_since after off
  broken_since RunFaults.FileFault was seen after off = files_since after off
  broken_since RunFaults.NoMemory was seen after off = any_since after off

  -- and it is the first fault of the call
  pub first_since : (wrong : RunFault) (after : CallStreams) → RunEnds {A = Ending} (Err wrong) Mid after → RunEnds {A = Ending} (Err wrong) Was after
  first_since wrong after first = fault_behind_files left input out errors after wrong kept first

-- the files that a run wrote, as files behind others
written_by : (files : FileMap) (events : List Event) (q : List ℕ)
    → files_behind files events q ≡ written_over files (map as_written (writings_in events)) q
written_by files [] q = refl
written_by files (AReading asked ∷ later) q = written_by files later q
written_by files (OutputByte byte ∷ later) q = written_by files later q
written_by files (ErrorByte byte ∷ later) q = written_by files later q
written_by files (FileReading name ∷ later) q = written_by files later q
written_by files (FileWriting name bytes ∷ later) q = written_by (with_file name bytes files) later q

-- runs leave what their events leave
abbrev pub Leave : Type 0
Leave = (tables : Tables) (launch : Launch) (seen : Observation) → Runs tables launch seen → ExtendsOutside launch.outside seen.outside

all_by_run : {held held' : Option FileMap} (files : FileMap) (next : WrittenFile) (left : List ℕ) (seen : Observation) → held ≡ Some files
    → ExtendsOutside (outside_of left (with_image next files)) seen.outside → HoldsMap held held' seen.outside.files
    → WritesAll held held' (next ∷ map as_written (writings_in seen.outside.history))
all_by_run {held} {held'} files next left seen e extends holds =
    let now : (new : FileMap) × (held' ≡ Some new) × ((q : List ℕ) → new q ≡ seen.outside.files q) = rw e at holds.follows in
    let written = map as_written (writings_in seen.outside.history) in
    record {
      follows = subst (λ (h : Option FileMap). Follows h held' (λ old new. (q : List ℕ) → new q ≡ written_over old (next ∷ written) q)) (sym e) (
        now.0,
        now.1,
        λ q. now.2 q ∙ ap (λ (m : FileMap). m q) (extends.by.files ∙ ap (files_behind (with_image next files)) (sym extends.by.history))
            ∙ written_by (with_image next files) seen.outside.history q,
      );
    }

ran_outcome : {words : List (List ℕ)} {files : FileMap} (held mid : StoreState) (told : Option (List ℕ)) (input : SourceCounts) (out errors : SinkState)
    (left : List ℕ) (members : List Member) (plan : PlanHeld) (program : LoadedProgram) (run : Run) (answer : Answer) (after : CallStreams)
    → Leave → IsReadyProgram words files members plan program → held.held ≡ Some files
    → WritesAll held.held mid.held (plan_file plan members ∷ []) → KeepsStoreCounts held mid → (plan_seen plan).run ≡ Some run
    → HasRun (tables_of program.made.code.code) (run_launch run left (with_image (plan_file plan members) files)) (plan_seen plan).number answer
    (call_streams mid told input out errors) after
    → AnswersCommand words files left answer (call_streams held told input out errors) after
ran_outcome {files = files} held mid told input out errors left members plan program run answer after leave ready there sets kept e
    (has_ended seen flat same holds left' calls output err) =
    let found = with_image (plan_file plan members) files in
    done (run_job (plan_file plan members) seen (behind (plan_seen plan).number seen.ending))
    (runs (plan_seen plan) members (linked_code members) run seen (planned ready) e
    (behaves members program ready.is (run_launch run left found) seen flat))
    (record {
      answered = same;
      files = all_by_run files (plan_file plan members) left seen there
          (leave (tables_of program.made.code.code) (run_launch run left found) seen flat)
          (holds_since (tells_written files (plan_file plan members) there sets) holds);
      left = left';
      calls = calls;
      output = output;
      errors = err;
    })
ran_outcome {files = files} held mid told input out errors left members plan program run answer after leave ready there sets kept e
    (was_broken wrong between same first off behind) =
    let found = with_image (plan_file plan members) files in
    let tells = tells_written files (plan_file plan members) there sets in
    fault (rw same (is_run_fault wrong))
    (broke (record {
      plan = plan_seen plan;
      members = members;
      tables = linked_code members;
      run = run;
      stopped = wrong;
      between = between;
      asked = planned ready;
      runs = e;
      answered = same;
      first = first_since held mid told input out errors tells kept wrong between first;
      broken = record {
        seen = off.0;
        behaves = behaves members program ready.is (run_launch run left found) off.0 off.1.0;
        leaves = broken_since held mid told input out errors tells kept wrong (outside_of left found) off.0 between off.1.1;
      };
      line = behind;
    }))
ran_outcome {files = files} held mid told input out errors left members plan program run answer after leave ready there sets kept e
    (was_broken_behind n wrong between seen number stops same first flat leaves puts) =
    let found = with_image (plan_file plan members) files in
    let tells = tells_written files (plan_file plan members) there sets in
    fault (rw same (is_run_fault wrong))
    (broke_behind (record {
      plan = plan_seen plan;
      members = members;
      tables = linked_code members;
      run = run;
      number = n;
      stopped = wrong;
      between = between;
      asked = planned ready;
      runs = e;
      numbered = number;
      stops = stops;
      answered = same;
      first = first_since held mid told input out errors tells kept wrong (with_errors between after) first;
      broken = record {
        seen = seen;
        behaves = behaves members program ready.is (run_launch run left found) seen flat;
        leaves = record {
          done = leaves.done;
          files = holds_since tells leaves.files;
          input = leaves.input;
          calls = leaves.calls;
          count = leaves.count;
          output = leaves.output;
          errors = leaves.errors;
        };
      };
      line = puts;
    }))

-- a run of the program that words and files ask for
runs_asked : {words : List (List ℕ)} {files : FileMap} (members : List Member) (plan : PlanHeld) (program : LoadedProgram) (run : Run) (answer : Answer)
    (before after : CallStreams) → IsReadyProgram words files members plan program → (plan_seen plan).run ≡ Some run
    → IsOver (tables_of program.made.code.code) (run_launch run [] (with_image (plan_file plan members) files)) (plan_seen plan).number answer before after
    → RunsAsAsked words files answer before after
runs_asked {files = files} members plan program run (Ran ending) before after ready asks over = (
  plan_seen plan,
  (
    members,
    (
      linked_code members,
      (
        run,
        (
          planned ready,
          (
            asks,
            subst (λ t. WasOver t (run_launch run [] (with_image (plan_file plan members) files)) (plan_seen plan).number (ending_seen ending) before after)
                ready.is.made.code over,
          ),
        ),
      ),
    ),
  ),
)
runs_asked members plan program run Wrote before after ready asks over = tt
runs_asked members plan program run (Refused file line rule) before after ready asks over = tt
runs_asked members plan program run (Command kind) before after ready asks over = tt
runs_asked members plan program run (Missing name) before after ready asks over = tt
runs_asked members plan program run (BadUcode name rule) before after ready asks over = tt
runs_asked members plan program run (BadImage rule) before after ready asks over = tt
runs_asked members plan program run FileFault before after ready asks over = tt
runs_asked members plan program run ReadFault before after ready asks over = tt
runs_asked members plan program run WriteFault before after ready asks over = tt
runs_asked members plan program run NoMemory before after ready asks over = tt

-- how a run was over is said of both outputs and the calls of the input alone
pub over_since : (tables : Tables) (launch : Launch) (number : Option ℕ) (answer : Answer) (held mid : StoreState) (left : Option (List ℕ))
    (input : SourceCounts) (out errors : SinkState) (after : CallStreams)
    → IsOver tables launch number answer (call_streams mid left input out errors) after
    → IsOver tables launch number answer (call_streams held left input out errors) after
over_since tables launch number (Ran ending) held mid left input out errors after over =
    record { report = over.report; calls = over.calls; output = over.output }
over_since tables launch number Wrote held mid left input out errors after over = tt
over_since tables launch number (Refused file line rule) held mid left input out errors after over = tt
over_since tables launch number (Command kind) held mid left input out errors after over = tt
over_since tables launch number (Missing name) held mid left input out errors after over = tt
over_since tables launch number (BadUcode name rule) held mid left input out errors after over = tt
over_since tables launch number (BadImage rule) held mid left input out errors after over = tt
over_since tables launch number FileFault held mid left input out errors after over = tt
over_since tables launch number ReadFault held mid left input out errors after over = tt
over_since tables launch number WriteFault held mid left input out errors after over = tt
over_since tables launch number NoMemory held mid left input out errors after over = tt

pub ran_done : {words : List (List ℕ)} {files : FileMap} (held mid : StoreState) (left : Option (List ℕ)) (input : SourceCounts)
    (out errors : SinkState) (members : List Member) (plan : PlanHeld) (program : LoadedProgram) (run : Run) (answer : Answer) (after : CallStreams)
    → ReadBack → Leave → IsReadyProgram words files members plan program
    → held.held ≡ Some files → WritesAll held.held mid.held (plan_file plan members ∷ []) → KeepsStoreCounts held mid
    → (plan_seen plan).run ≡ Some run → IsOfRun answer
    → ((bytes : List ℕ) (found : FileMap) → TellsOutside (call_streams mid left input out errors) (outside_of bytes found)
    → HasRun (tables_of program.made.code.code) (run_launch run bytes found) (plan_seen plan).number answer (call_streams mid left input out errors) after)
    → ((found : FileMap) → IsOver (tables_of program.made.code.code) (run_launch run [] found) (plan_seen plan).number answer
    (call_streams mid left input out errors) after)
    → IsDone words files answer (call_streams held left input out errors) after
ran_done {words} {files} held mid left input out errors members plan program run answer after back leave ready e sets kept asks o has over =
    let found = with_image (plan_file plan members) files in
    record {
      outcome = if_some_intro left _ (λ bytes d. ran_outcome held mid left input out errors bytes members plan program run answer after leave ready e
          sets kept asks (has bytes found (record { left = d; files = tells_written files (plan_file plan members) e sets })));
      headline = λ w. holds_image answer members plan program back ready (λ wrote. absurd (run_wrote answer o wrote));
      leaves = by_run (plan_seen plan) members (linked_code members) run o (planned ready) asks;
      answered = run_answered answer (planned ready) asks o;
      ran = runs_asked members plan program run answer (call_streams held left input out errors) after ready asks
          (over_since (tables_of program.made.code.code) (run_launch run [] found) (plan_seen plan).number answer held mid left input out errors after
          (over found));
    }

-- A file that was not written whole

torn_no_image : (answer : Answer) → (answer ≡ FileFault) ⊎ (answer ≡ NoMemory) → HasWritten answer → ⊥
torn_no_image answer (inl e) w = rw e at w
torn_no_image answer (inr e) w = rw e at w

torn_done : {A : Type 0} {words : List (List ℕ)} {files : FileMap} (held held' : StoreState) (written : List WrittenFile) (stopped : Fault)
    (answer : Answer) (left : Option (List ℕ)) (input : SourceCounts) (out before after : SinkState) → AreWritten words files written
    → WritesPart held.held held'.held written → (answer ≡ FileFault) ↔ (stopped ≡ Faults.Failed) → (answer ≡ NoMemory) ↔ (stopped ≡ Faults.NoMemory)
    → (answer ≡ FileFault) ⊎ (answer ≡ NoMemory) → CountsOnce held.counts.faults held'.counts.faults (IsErrOf {T = A} (Err stopped) Faults.Failed)
    → CountsOnce held.counts.wants held'.counts.wants (IsErrOf {T = A} (Err stopped) Faults.NoMemory) → PutsOwn answer before after
    → IsDone words files answer (call_streams held left input out before) (call_streams held' left input out after)
torn_done held held' written stopped answer left input out before after are part failed wanted is cause memory puts = record {
  outcome = if_some_intro left _ (λ bytes d. fault (is_torn answer is) (torn (record {
    written = written;
    cause = torn_fault held held' stopped answer failed wanted is cause memory;
    asked = are;
    part = part;
    input_stays = refl;
    counts_stay = refl;
    output_stays = refl;
    line = puts_own _ _ answer puts;
  })));
  headline = λ w. absurd (torn_no_image answer is w);
  leaves = part_written written are (torn_fault held held' stopped answer failed wanted is cause memory) part;
  answered = answered_fault answer (is_torn answer is);
  ran = runs_unless _ _ _ _ answer (torn_no_image answer is);
}

pub image_torn : {A : Type 0} {words : List (List ℕ)} {files : FileMap} (held held' : StoreState) (members : List Member) (plan : PlanHeld)
    (program : LoadedProgram) (stopped : Fault) (answer : Answer) (left : Option (List ℕ)) (input : SourceCounts) (out before after : SinkState)
    → IsReadyProgram words files members plan program → WritesPart held.held held'.held (plan_file plan members ∷ [])
    → (answer ≡ FileFault) ↔ (stopped ≡ Faults.Failed) → (answer ≡ NoMemory) ↔ (stopped ≡ Faults.NoMemory)
    → (answer ≡ FileFault) ⊎ (answer ≡ NoMemory) → CountsOnce held.counts.faults held'.counts.faults (IsErrOf {T = A} (Err stopped) Faults.Failed)
    → CountsOnce held.counts.wants held'.counts.wants (IsErrOf {T = A} (Err stopped) Faults.NoMemory) → PutsOwn answer before after
    → IsDone words files answer (call_streams held left input out before) (call_streams held' left input out after)
image_torn held held' members plan program stopped answer left input out before after ready part failed wanted is cause memory puts =
    torn_done held held' (plan_file plan members ∷ []) stopped answer left input out before after
    (AreWritten.image (plan_seen plan) members (linked_code members) (planned ready)) part failed wanted is cause memory puts

-- Units

pub units_done : {words : List (List ℕ)} {files : FileMap} (held held' : StoreState) (members : List Member) (texts : List WrittenFile)
    (left : Option (List ℕ)) (input : SourceCounts) (out errors : SinkState) → AsksForUnits words files (Ok members) → texts ≡ ucode_files members
    → All IsReadBack members → held.held ≡ Some files → WritesAll held.held held'.held texts
    → IsDone words files Wrote (call_streams held left input out errors) (call_streams held' left input out errors)
units_done held held' members texts left input out errors is e read h sets =
    let there : WritesAll held.held held'.held (ucode_files members) = subst (WritesAll held.held held'.held) e sets in
    record {
      outcome = if_some_intro left _ (λ bytes d. done (files_job (ucode_files members) bytes) (translates members is)
          (record {
            answered = refl;
            files = there;
            left = d;
            calls = refl;
            output = gains_nothing out.held;
            errors = gains_nothing errors.held;
          }));
      headline = λ w. HoldsWritten.ucode members is (subst (λ (was : Option FileMap). WritesAll was held'.held (ucode_files members)) h there) read;
      leaves = all_written (ucode_files members) (AreWritten.ucode members is) refl there;
      answered = answered_translated members is;
      ran = tt;
    }

pub units_torn : {A : Type 0} {words : List (List ℕ)} {files : FileMap} (held held' : StoreState) (members : List Member) (texts : List WrittenFile)
    (stopped : Fault) (answer : Answer) (left : Option (List ℕ)) (input : SourceCounts) (out before after : SinkState)
    → AsksForUnits words files (Ok members) → texts ≡ ucode_files members → WritesPart held.held held'.held texts
    → (answer ≡ FileFault) ↔ (stopped ≡ Faults.Failed) → (answer ≡ NoMemory) ↔ (stopped ≡ Faults.NoMemory)
    → (answer ≡ FileFault) ⊎ (answer ≡ NoMemory) → CountsOnce held.counts.faults held'.counts.faults (IsErrOf {T = A} (Err stopped) Faults.Failed)
    → CountsOnce held.counts.wants held'.counts.wants (IsErrOf {T = A} (Err stopped) Faults.NoMemory) → PutsOwn answer before after
    → IsDone words files answer (call_streams held left input out before) (call_streams held' left input out after)
units_torn held held' members texts stopped answer left input out before after asks e part failed wanted is cause memory puts =
    torn_done held held' (ucode_files members) stopped answer left input out before after (AreWritten.ucode members asks)
    (subst (WritesPart held.held held'.held) e part) failed wanted is cause memory puts

-- what refuses the sources refuses the words that ask for their units
pub units_asked : {words : List (List ℕ)} {files : FileMap} (names : List (List ℕ)) (answer : Answer) → ComeTo words (Asks (Translate names))
    → IsFault answer ⊎ FilesCome files (sources_in (files_named names)) (Err answer) → Asked words files answer
units_asked names answer asks (inl f) = inl f
units_asked names answer asks (inr come) = inr (no_units answer (record { names = names; asks = asks; come = come }))
