-- The run that words and files ask for.
use Rattle.std.proofs.Common.{◌≡◌, ◌∙◌, ℕ, List, [], Option, Ok, refl, subst, sym}
use Rattle.icn_host.specs.FileMaps.{FileMap, StoreState}
use Rattle.icn_host.specs.Sinks.{SinkState}
use Rattle.icn_host.specs.Sources.{SourceCounts}
use Rattle.icn_value.specs.Store.{outside_of}
use Rattle.icn_code.specs.CodeTables.{tables_of}
use Rattle.icn_defs.specs.Running.{Launch}
use Rattle.icn_defs.specs.declared.ending.Ending.{Ending}
use Rattle.icn_verify.specs.declared.verified.Verified.{Verified}
use Rattle.icn_streams.specs.Handed.{CallStreams, call_streams}
use Rattle.icn_running.specs.Reported.{ending_seen}
use Rattle.icn_running.specs.Runs.{RunsOver}
use Rattle.icn_running.specs.declared.fault.RunFault.{RunFault}
use Rattle.icn_running.specs.declared.fault.RunFault.TheVariants as Runs
use Rattle.icn_answer.specs.declared.answer.Answer.{Answer}
use Rattle.icn_answer.specs.declared.answer.Answer.TheVariants.{Wrote, Ran, Refused, Command, Missing, BadUcode, BadImage, FileFault, ReadFault, WriteFault, NoMemory}
use Rattle.icn_answer.specs.Answers.{IsFault, IsRefusal}
use Rattle.icn_answer.specs.Refusing.{PutsItsLine, put, own, write_fault, want}
use Rattle.icn_answer.proofs.NoFaults.{ran_no_fault}
use Rattle.icn_run_answer.specs.FaultAnswers.{IsOfRun, of_run}
use Rattle.iconx_top.specs.Answered.{IsAnswered, fault, wrong_words, missing, bad, ran, writes, grows}
use Rattle.iconx_top.specs.Loading.{IsLoaded}
use Rattle.iconx_top.specs.Outcomes.{RunsAsAsked}
use Rattle.iconx_top.specs.Words.{Asks, Migrates, words_reading}
use Rattle.iconx_top.proofs.CallOutcomes.{run_asked}

-- a run that ended
pub run_asks : {words : List (List ℕ)} {files : FileMap} {before after : CallStreams} (launch : Launch) (name : List ℕ) (verified : Verified) (ending : Ending)
    → words_reading words ≡ Asks launch.bounds name launch.words → launch.outside ≡ outside_of [] files → IsLoaded (files name) name (Ok verified)
    → RunsOver (tables_of verified.code) launch (ending_seen ending) before after → RunsAsAsked words files (Ran ending) before after
run_asks launch name verified ending asks input loaded over =
    (tables_of verified.code, (launch, (run_asked [] launch name verified asks input loaded, over)))

-- one that was broken off
pub runs_broken : (words : List (List ℕ)) (files : FileMap) (before after : CallStreams) (stopped : RunFault)
    → RunsAsAsked words files (of_run stopped) before after
runs_broken words files before after Runs.ReadFault = tt
runs_broken words files before after Runs.WriteFault = tt
runs_broken words files before after Runs.FileFault = tt
runs_broken words files before after Runs.NoMemory = tt

-- a refusal is an answer of no run
pub refusal_unrun : (answer : Answer) → IsRefusal answer → IsOfRun answer → ⊥
refusal_unrun (Ran ending) is o = is
refusal_unrun FileFault is o = is
refusal_unrun ReadFault is o = is
refusal_unrun WriteFault is o = is
refusal_unrun NoMemory is o = is
refusal_unrun _ is o = o

-- how a run was over is said of both outputs and the calls of the input alone
pub ran_before : (words : List (List ℕ)) (files : FileMap) (was now : StoreState) (told : Option (List ℕ)) (input : SourceCounts)
    (out errors : SinkState) (after : CallStreams) (answer : Answer) → RunsAsAsked words files answer (call_streams now told input out errors) after
    → RunsAsAsked words files answer (call_streams was told input out errors) after
ran_before words files was now told input out errors after (Ran ending) (tables, (launch, (asked, over))) =
    (tables, (launch, (asked, record { report = over.report; calls = over.calls; output = over.output })))
ran_before words files was now told input out errors after Wrote asked = tt
ran_before words files was now told input out errors after (Refused file line rule) asked = tt
ran_before words files was now told input out errors after (Command kind) asked = tt
ran_before words files was now told input out errors after (Missing name) asked = tt
ran_before words files was now told input out errors after (BadUcode name rule) asked = tt
ran_before words files was now told input out errors after (BadImage rule) asked = tt
ran_before words files was now told input out errors after FileFault asked = tt
ran_before words files was now told input out errors after ReadFault asked = tt
ran_before words files was now told input out errors after WriteFault asked = tt
ran_before words files was now told input out errors after NoMemory asked = tt

-- no run
pub runs_unless : (words : List (List ℕ)) (files : FileMap) (before after : CallStreams) (answer : Answer) → ((ending : Ending) → answer ≡ Ran ending → ⊥)
    → RunsAsAsked words files answer before after
runs_unless words files before after Wrote none = tt
runs_unless words files before after (Ran ending) none = absurd (none ending refl)
runs_unless words files before after (Refused file line rule) none = tt
runs_unless words files before after (Command kind) none = tt
runs_unless words files before after (Missing name) none = tt
runs_unless words files before after (BadUcode name rule) none = tt
runs_unless words files before after (BadImage rule) none = tt
runs_unless words files before after FileFault none = tt
runs_unless words files before after ReadFault none = tt
runs_unless words files before after WriteFault none = tt
runs_unless words files before after NoMemory none = tt

pub runs_refused : {usage name : List ℕ} {before after : SinkState} (words : List (List ℕ)) (files : FileMap) (begun over : CallStreams)
    (answer given : Answer) → ((ending : Ending) → answer ≡ Ran ending → ⊥) → PutsItsLine usage name answer before after given
    → RunsAsAsked words files given begun over
runs_refused words files begun over answer _ none (put n whole) = runs_unless words files begun over answer none
runs_refused words files begun over answer _ none (own f puts) = runs_unless words files begun over answer none
runs_refused words files begun over answer _ none (write_fault n stops) = tt
runs_refused words files begun over answer _ none (want n between leads puts) = tt

-- words that ask for a new image are answered by no run
pub migration_unrun : {words : List (List ℕ)} {files : FileMap} {answer : Answer} (new name : List ℕ) → words_reading words ≡ Migrates new name
    → IsAnswered words files answer → (ending : Ending) → answer ≡ Ran ending → ⊥
migration_unrun new name asks (fault answer is) ending same = ran_no_fault ending (subst IsFault same is)
migration_unrun new name asks (wrong_words kind wrong) ending same = cc
migration_unrun new name asks (missing other named none) ending same = cc
migration_unrun new name asks (bad other bytes rule named there judged) ending same = cc
migration_unrun new name asks (ran bounds other bytes arguments tables ended runs there judged) ending same =
    let clash : Asks bounds other arguments ≡ Migrates new name = sym runs ∙ asks in cc
migration_unrun new name asks (writes other tables migrates short) ending same = cc
migration_unrun new name asks (grows other tables migrates long) ending same = cc
