-- What the words and the files ask for, and what became of it.
use Rattle.std.proofs.Common.{◌≡◌, ◌⊎◌, inl, inr, ℕ, List, [], Option, Some, Ok, Err, refl, sym, ap, ◌∙◌, subst}
use Rattle.icn_host.specs.FileMaps.{FileMap, Follows, StoreState}
use Rattle.icn_host.proofs.SinkSteps.{gains_nothing}
use Rattle.icn_host.specs.Sinks.{SinkState}
use Rattle.icn_host.specs.Sources.{SourceCounts}
use Rattle.icn_host.specs.declared.fault.Fault.TheVariants.{NoMemory as Wants}
use Rattle.icn_host.proofs.ToldPuts.{puts_nothing}
use Rattle.icn_host.specs.Puts.{all, LeadsBy}
use Rattle.icn_value.specs.Store.{outside_of}
use Rattle.icn_defs.specs.Interruptions.{TellsMap}
use Rattle.icn_defs.specs.Running.{Launch}
use Rattle.icn_streams.specs.Handed.{CallStreams, call_streams}
use Rattle.icn_code.specs.Codes.{Tables}
use Rattle.icn_code.specs.CodeTables.{tables_of}
use Rattle.icn_defs.specs.declared.ending.Ending.{Ending}
use Rattle.icn_verify.specs.declared.verified.Verified.{Verified}
use Rattle.icn_running.specs.declared.fault.RunFault.{RunFault}
use Rattle.icn_running.specs.Reported.{ending_seen}
use Rattle.icn_running.specs.Runs.{EndsAtFirst as RunEnds, IsBrokenOff, RunsTo}
use Rattle.icn_answer.specs.declared.answer.Answer.{Answer}
use Rattle.icn_answer.specs.declared.answer.Answer.TheVariants.{Wrote, Ran, Refused, Command, Missing, BadUcode, BadImage, FileFault, ReadFault, WriteFault, NoMemory}
use Rattle.icn_answer.specs.Answers.{IsFault, IsAbsence}
use Rattle.icn_run_answer.specs.CountCauses.{EndsAtFirst, EndsBehind}
use Rattle.icn_answer.specs.Endings.{ending_held}
use Rattle.icn_run_answer.specs.FaultAnswers.{of_run}
use Rattle.icn_answer.specs.Lines.{line_of}
use Rattle.icn_answer.specs.Refusing.{PutsItsLine, own, put, want, write_fault}
use Rattle.icn_answer.proofs.FaultCounts.{no_cause, unmoved, unwanted}
use Rattle.icn_run_answer.proofs.CountCauses.{absence_of, broken_first, refused_ends}
use Rattle.icn_run_answer.proofs.Endings.{held_seen}
use Rattle.icn_answer.proofs.NoFaults.{no_fault}
use Rattle.icn_run_answer.proofs.Reports.{is_run_fault, puts_own}
use Rattle.iconx_top.specs.Job.{IsJob, IsRun, bad, missing, observation, ran, refusal}
use Rattle.iconx_top.specs.Loading.{IsLoaded, IsOfLoading}
use Rattle.iconx_top.specs.Outcomes.{AsksForRefusal, IsIdleFault, AnswersCommand, broke, done, fault, idle}
use Rattle.iconx_top.specs.Usage.{usage}
use Rattle.iconx_top.specs.Words.{Asks, image_named, words_reading}

-- an answer is the job's refusal, or a fault
abbrev pub Asked : List (List ℕ) → FileMap → List ℕ → List ℕ → Answer → Type 0
Asked words files left name answer = IsFault answer ⊎ IsJob words files left (refusal files left name answer)

-- a fault that is none of the input or an output was answered before a line was put
idle_of : (Refuses : List ℕ → Answer → Type 0) (answer : Answer) (before : SinkState) → IsFault answer → (answer ≡ WriteFault → ⊥) → (answer ≡ ReadFault → ⊥)
    → IsIdleFault Refuses answer before before
idle_of Refuses Wrote before f no_write no_read = absurd (no_fault Wrote refl f)
idle_of Refuses (Ran ending) before f no_write no_read = absurd (no_fault (Ran ending) refl f)
idle_of Refuses (Refused file line rule) before f no_write no_read = absurd (no_fault (Refused file line rule) refl f)
idle_of Refuses (Command kind) before f no_write no_read = absurd (no_fault (Command kind) refl f)
idle_of Refuses (Missing name) before f no_write no_read = absurd (no_fault (Missing name) refl f)
idle_of Refuses (BadUcode name rule) before f no_write no_read = absurd (no_fault (BadUcode name rule) refl f)
idle_of Refuses (BadImage rule) before f no_write no_read = absurd (no_fault (BadImage rule) refl f)
idle_of Refuses FileFault before f no_write no_read = refl
idle_of Refuses ReadFault before f no_write no_read = absurd (no_read refl)
idle_of Refuses WriteFault before f no_write no_read = absurd (no_write refl)
idle_of Refuses NoMemory before f no_write no_read = inl refl

-- memory was wanting as a refusal's line was put
idle_short : {words : List (List ℕ)} {files : FileMap} {left : List ℕ} (name : List ℕ) (answer : Answer) (before between : SinkState)
    → IsJob words files left (refusal files left name answer) → LeadsBy Wants before between (line_of usage name answer)
    → IsIdleFault (AsksForRefusal words files left) NoMemory before between
idle_short name answer before between is (inl same) = inl same
idle_short name answer before between is (inr short) = inr (name, (answer, (is, short)))

-- files that stay as they were are those of the job
pub files_stay : {held held' : Option FileMap} (files : FileMap) → held ≡ Some files → held' ≡ Some files
    → Follows held held' (λ old new. (name : List ℕ) → new name ≡ files name)
files_stay files e e' = rw (e, e') (files, refl, λ name. refl)

-- nothing was done but to put a line
pub refused : {words : List (List ℕ)} {files : FileMap} {left : List ℕ} (name : List ℕ) (answer given : Answer)
    (held held' : StoreState) (left' : Option (List ℕ)) (input : SourceCounts) (out before after : SinkState)
    → Asked words files left name answer → (answer ≡ WriteFault → ⊥) → (answer ≡ ReadFault → ⊥) → held'.held ≡ held.held → held.held ≡ Some files
    → left' ≡ Some left → PutsItsLine usage name answer before after given
    → AnswersCommand words files left given (call_streams held left' input out before) (call_streams held' left' input out after)
refused name answer given held held' left' input out before after (inl f) no_write no_read same e d (put n h) = absurd (n f)
refused {files = files} {left} name answer given held held' left' input out before after (inr is) no_write no_read same e d (put n h) =
    done (refusal files left name answer) is (record {
      answered = refl;
      files = files_stay files e (same ∙ e);
      left = d;
      calls = refl;
      output = gains_nothing
          out.held;
      errors = h.gains;
    })
refused {words} {files} {left} name answer given held held' left' input out before after asks no_write no_read same e d (own f puts) =
    fault f (idle (record {
      between = before;
      files_stay = same;
      input_stays = refl;
      counts_stay = refl;
      output_stays = refl;
      cause = idle_of (AsksForRefusal words files left) answer before f no_write no_read;
      line = puts_own _ _ answer puts;
    }))
refused name answer given held held' left' input out before after (inl f) no_write no_read same e d (write_fault n stops) = absurd (n f)
refused {files = files} {left} name answer given held held' left' input out before after (inr is) no_write no_read same e d (write_fault n stops) =
    fault refl (idle (record {
      between = after;
      files_stay = same;
      input_stays = refl;
      counts_stay = refl;
      output_stays = refl;
      cause = (name, (answer, (is, stops)));
      line = all (puts_nothing after);
    }))
refused name answer given held held' left' input out before after (inl f) no_write no_read same e d (want n between leads puts) = absurd (n f)
refused name answer given held held' left' input out before after (inr is) no_write no_read same e d (want n between leads puts) =
    fault refl (idle (record {
      between = between;
      files_stay = same;
      input_stays = refl;
      counts_stay = refl;
      output_stays = refl;
      cause = idle_short name answer before between is leads;
      line = puts;
    }))

-- what was loaded

pub asked_load : {words : List (List ℕ)} {files : FileMap} {left : List ℕ} (name : List ℕ) (answer : Answer)
    → image_named (words_reading words) ≡ Some name
    → IsLoaded (files name) name (Err answer) → Asked words files left name answer
asked_load {words} {files} {left} name (Missing other) e is =
    let job : IsJob words files left (refusal files left name (Missing name)) = missing name e is.1 in
    inr (subst (λ n. IsJob words files left (refusal files left name (Missing n))) (sym is.0) job)
asked_load name (BadImage rule) e is = inr (bad name is.0 rule e is.1.0 is.1.1)
asked_load name FileFault e is = inl refl
asked_load name NoMemory e is = inl refl
asked_load name _ e is = absurd is

-- a store that tells tells what it holds
pub tells_all : {held : Option FileMap} {files : FileMap} → held ≡ Some files → TellsMap held files
tells_all {files = files} e = record { told = files; is = e; same = λ name. refl }

-- the run of what was loaded, over this input and these files
pub run_asked : {words : List (List ℕ)} {files : FileMap} (left : List ℕ) (launch : Launch) (name : List ℕ) (verified : Verified)
    → words_reading words ≡ Asks launch.bounds name launch.words
    → launch.outside ≡ outside_of left files → IsLoaded (files name) name (Ok verified) → IsRun words files left (tables_of verified.code) launch
run_asked left launch name verified e outside is = record { name = name; bytes = is.0; asks = e; there = is.1.0; judged = is.1.1; outside = outside }

pub ran_outcome : {words : List (List ℕ)} {files : FileMap} {left : List ℕ} {before after : CallStreams} (tables : Tables) (launch : Launch) (ending : Ending)
    → IsRun words files left tables launch → RunsTo tables launch (ending_seen ending) before after
    → AnswersCommand words files left (Ran ending) before after
ran_outcome tables launch ending is (seen, (ended, (runs, ends))) =
    done (observation seen) (ran tables launch seen is runs)
    (record {
      answered = ap (λ x. Ran x) (sym (held_seen ending) ∙ ap ending_held (sym ended));
      files = ends.files.follows;
      left = ends.left;
      calls = ends.calls;
      output = ends.output;
      errors = ends.errors;
    })

pub broke_outcome : {words : List (List ℕ)} {files : FileMap} {left : List ℕ} {before between after : CallStreams} (tables : Tables) (launch : Launch)
    (stopped : RunFault) → IsRun words files left tables launch
    → RunEnds {A = Ending} (Err stopped) before between → IsBrokenOff tables launch stopped before between → EndsBehind (of_run stopped) between after
    → AnswersCommand words files left (of_run stopped) before after
broke_outcome {before = before} {between} tables launch stopped is first broken behind =
    fault (is_run_fault stopped) (broke (record {
      stopped = stopped;
      between = between;
      tables = tables;
      launch = launch;
      answered = refl;
      asked = is;
      first = broken_first before between stopped first;
      broken = broken;
      line = behind;
    }))

-- which answers a loading can give

pub load_no_write : (answer : Answer) → IsOfLoading answer → answer ≡ WriteFault → ⊥
load_no_write answer is e = rw e at is

pub load_no_read : (answer : Answer) → IsOfLoading answer → answer ≡ ReadFault → ⊥
load_no_read answer is e = rw e at is

-- faulty words

pub command_no_write : (kind : ℕ) → Command kind ≡ WriteFault → ⊥
command_no_write kind e = cc

pub command_no_read : (kind : ℕ) → Command kind ≡ ReadFault → ⊥
command_no_read kind e = cc

command_no_file : (kind : ℕ) → Command kind ≡ FileFault → ⊥
command_no_file kind e = cc

pub command_ends : {held : StoreState} {input : SourceCounts} {left : Option (List ℕ)} {out before after : SinkState}
    (kind : ℕ) (given : Answer) → PutsItsLine usage [] (Command kind) before after given
    → EndsAtFirst given (IsAbsence given) (call_streams held left input out before) (call_streams held left input out after)
command_ends kind given refuses =
    refused_ends (Command kind) given (command_no_write kind) (command_no_read kind) (unmoved (command_no_file kind)) unwanted
    (no_cause (λ (a : IsAbsence (Command kind)). a)) (absence_of (Command kind) given refuses) refuses

pub command_unrun : (kind : ℕ) (ending : Ending) → Command kind ≡ Ran ending → ⊥
command_unrun kind ending e = cc

pub command_unwritten : (kind : ℕ) → Command kind ≡ Wrote → ⊥
command_unwritten kind e = cc
