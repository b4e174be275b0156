-- What the call comes to, of what its parts come to.
use Rattle.std.proofs.Common.{◌≡◌, ◌⊎◌, inl, inr, ℕ, true, false, List, [], Option, None, Some, IfSome, Result, Ok, Err, Bor, refl, sym, ap, ◌∙◌, subst, true≢false}
use Rattle.std.specs.Str.{is_utf8}
use Rattle.icn_host.specs.FileMaps.{FileMap, StoreState}
use Rattle.icn_host.specs.Sinks.{SinkState}
use Rattle.icn_host.specs.Sources.{SourceCounts}
use Rattle.icn_answer.specs.declared.answer.Answer.{Answer}
use Rattle.icn_answer.specs.declared.answer.Answer.TheVariants.{NoMemory}
use Rattle.icn_answer.specs.Answers.{IsFault, IsAbsence}
use Rattle.icn_run_answer.specs.CountCauses.{EndsAtFirst}
use Rattle.icn_answer.specs.Refusing.{PutsItsLine as PutsRefusal}
use Rattle.icn_run_answer.specs.Reporting.{Reports}
use Rattle.icn_answer.proofs.FaultCounts.{no_cause, unmoved, unwanted}
use Rattle.icn_answer.proofs.ToldContent.{if_some_intro}
use Rattle.icn_run_answer.proofs.CountCauses.{refused_ends, absence_of}
use Rattle.icn_run_answer.proofs.Reports.{reports_of}
use Rattle.icn_streams.specs.Handed.{CallStreams, call_streams}
use Rattle.icn_verify.specs.ShapeLaws.{HaveOneFault, HaveNoFault}
use Rattle.icont_words.specs.declared.words.Task.{Task as TaskHeld}
use Rattle.icont_words.specs.declared.words.WordsFault.{WordsFault}
use Rattle.icont_words.specs.declared.words.WordsFault.TheVariants as WordsFaults
use Rattle.icont_words.specs.Asking.{IsReading, task_seen}
use Rattle.icont_words.specs.Words.{Asks, ComeTo, Generate, Link, WordsReading, Run, Task, Translate, Faulty}
use Rattle.icont_units.specs.Files.{files_named}
use Rattle.icn_text.specs.WordTexts.{texts}
use Rattle.icont_units.specs.Units.{Load, Member}
use Rattle.icont_top.specs.Answered.{IsAnswered, IsCommanded, MissesText, TellsLink}
use Rattle.icont_top.specs.Answering.{IsDone, RunsAsAsked}
use Rattle.icont_top.specs.Asking.{IsTold, words_answer}
use Rattle.icont_top.specs.Outcomes.{HasWritten, HoldsWritten, IsComplete, LeavesFiles, AnswersCommand}
use Rattle.icont_top.specs.Usage.{usage}
use Rattle.icont_top.proofs.AnswersGiven.{OneReading, given_link, words_asked, words_commanded, words_no_absence, words_no_file, words_no_image, words_no_read, words_no_run, words_no_write, words_unlinked}
use Rattle.icont_top.proofs.RefusedJobs.{complete_of}
use Rattle.icont_top.proofs.CallOutcomes.{fault_given, refused_done}

-- Words

-- the words ask for the task that was read
pub task_asked : (words : List (List ℕ)) (held task : TaskHeld) → held ≡ task
    → let found : Result TaskHeld WordsFault = Ok held in IsReading words found → ComeTo words (Asks (task_seen task))
task_asked words held task e is = subst (λ (t : TaskHeld). ComeTo words (Asks (task_seen t))) e is

-- names that are handed on as a slice
pub names_asked : (words : List (List ℕ)) (task : List (List ℕ) → Task) (given items : List (Bor (List ℕ))) → given ≡ items
    → ComeTo words (Asks (task (texts items))) → ComeTo words (Asks (task (texts given)))
names_asked words task given items e is = subst (λ (names : List (Bor (List ℕ))). ComeTo words (Asks (task (texts names)))) (sym e) is

-- What was done

module _ (words : List (List ℕ)) (answer : Answer) (before after : CallStreams) where
  -- where the files tell what they hold
  abbrev DoneBy : Option FileMap → Type 0
  DoneBy held = IfSome held (λ files. IsDone words files answer before after)

  pub outcome_of : (held : Option FileMap) → DoneBy held
      → IfSome held (λ files. IfSome before.left (λ left. AnswersCommand words files left answer before after))
  outcome_of None is = tt
  outcome_of (Some files) is = is.outcome

  pub headline_of : (held : Option FileMap) → DoneBy held → HasWritten answer → IfSome held (λ files. HoldsWritten words files answer after.files.held)
  headline_of None is written = tt
  headline_of (Some files) is written = is.headline written

  pub answered_of : (held : Option FileMap) → DoneBy held → IfSome held (λ files. IsAnswered words files answer)
  answered_of None is = tt
  answered_of (Some files) is = is.answered

  pub written_of : (held : Option FileMap) → DoneBy held → IfSome held (λ files. LeavesFiles words files answer before.files after.files)
  written_of None is = tt
  written_of (Some files) is = is.leaves

  pub ran_of : (held : Option FileMap) → DoneBy held → IfSome held (λ files. RunsAsAsked words files answer before after)
  ran_of None is = tt
  ran_of (Some files) is = is.ran

  pub complete_by : OneReading → HaveOneFault → HaveNoFault → (held : Option FileMap) → DoneBy held → IfSome held (λ files. IsComplete words files answer)
  complete_by one fault sound None is = tt
  complete_by one fault sound (Some files) is = complete_of one words files fault sound answer is.answered

-- Linked files that are not there

other_task : {T : Type 0} (a b : WordsReading) → a ≡ b → (a ≡ b → ⊥) → T
other_task a b e none = absurd (none e)

-- words that ask for units, or for the program of a number, miss no linked file
pub units_miss : {T : Type 0} (one : OneReading) (words names : List (List ℕ)) (files : FileMap) → ComeTo words (Asks (Translate names))
    → MissesText words files → T
units_miss one words names files asks misses =
    other_task (Asks (Translate names)) (Asks (Link misses.names misses.image misses.run)) (one words _ _ asks misses.asks) (λ e. cc)

pub number_misses : {T : Type 0} (one : OneReading) (words : List (List ℕ)) (number turns : ℕ) (files : FileMap)
    → ComeTo words (Asks (Generate number turns)) → MissesText words files → T
number_misses one words number turns files asks misses =
    other_task (Asks (Generate number turns)) (Asks (Link misses.names misses.image misses.run)) (one words _ _ asks misses.asks) (λ e. cc)

abbrev linked_names : WordsReading → List (List ℕ) → List (List ℕ)
linked_names (Asks (Link names image run)) other = names
linked_names (Asks (Translate names)) other = other
linked_names (Asks (Generate number turns)) other = other
linked_names (Faulty kind) other = other

told_text : {T : Type 0} (name : List ℕ) → T ⊎ (is_utf8 name ≡ false) → is_utf8 name ≡ true → T
told_text name (inl t) text = t
told_text name (inr none) text = absurd (true≢false (sym text ∙ none))

told_rose : {T rose : Type 0} {words : List (List ℕ)} {files : FileMap} (misses : MissesText words files) → T ⊎ IsTold rose misses.members → T ⊎ rose
told_rose misses (inl t) = inl t
told_rose misses (inr told) = inr (told_text misses.name (told misses.unit misses.name misses.absent) misses.text)

pub link_misses : {T rose : Type 0} (one : OneReading) (words names : List (List ℕ)) (image : Option (List ℕ)) (run : Option Run) (files : FileMap)
    → ComeTo words (Asks (Link names image run))
    → ((members : List Member) → Load files (files_named names) (Ok members) → T ⊎ IsTold rose members) → MissesText words files → T ⊎ rose
link_misses one words names image run files asks told misses =
    let same : misses.names ≡ names = ap (λ reading. linked_names reading names) (one words _ _ misses.asks asks) in
    told_rose misses (told misses.members (subst (λ list. Load files (files_named list) (Ok misses.members)) same misses.load))

-- Words that ask for nothing

by_fault : {T : Type 0} {before after : SinkState} → OneReading → (words : List (List ℕ)) (fault : WordsFault) (given : Answer) (files : FileMap)
    → (let found : Result TaskHeld WordsFault = Err fault in IsReading words found) → MissesText words files
    → PutsRefusal usage [] (words_answer fault) before after given → IsFault given ⊎ T
by_fault one words (WordsFaults.Faulty kind) given files is misses line =
    other_task (Faulty kind) (Asks (Link misses.names misses.image misses.run)) (one words _ _ is misses.asks) (λ e. cc)
by_fault one words WordsFaults.NoMemory given files is misses line = inl (fault_given NoMemory given refl line)

module _ (words : List (List ℕ)) (fault : WordsFault) (answer given : Answer) (same : answer ≡ words_answer fault) {before after : SinkState}
    (line : PutsRefusal usage [] answer before after given) where
  line_again : PutsRefusal usage [] (words_answer fault) before after given
  line_again = subst (λ (a : Answer). PutsRefusal usage [] a before after given) same line

  pub words_done : (held : StoreState) (left : Option (List ℕ)) (input : SourceCounts) (out : SinkState)
      → (let found : Result TaskHeld WordsFault = Err fault in IsReading words found)
      → IfSome held.held (λ files. IsDone words files given (call_streams held left input out before)
      (call_streams held left input out after))
  words_done held left input out is =
      if_some_intro held.held _ (λ files told. refused_done (words_answer fault) given held held left input out before after
      (words_no_image fault) (words_no_write fault) (words_no_read fault) (words_asked fault is) refl line_again)

  pub words_end : (held : StoreState) (input : SourceCounts) (left : Option (List ℕ)) (out : SinkState)
      → EndsAtFirst given (IsAbsence given) (call_streams held left input out before) (call_streams held left input out after)
  words_end held input left out =
      refused_ends (words_answer fault) given (words_no_write fault) (words_no_read fault) (unmoved (words_no_file fault)) unwanted
      (no_cause (words_no_absence fault)) (absence_of (words_answer fault) given line_again) line_again

  pub words_reported : Reports usage [] before after given
  words_reported = reports_of (words_no_run fault) line_again

  pub words_called : OneReading → (let found : Result TaskHeld WordsFault = Err fault in IsReading words found) → IsCommanded words given
  words_called one is = words_commanded one words fault given is line_again

  pub words_miss : {T : Type 0} → OneReading → (files : FileMap) → (let found : Result TaskHeld WordsFault = Err fault in IsReading words found)
      → MissesText words files → IsFault given ⊎ T
  words_miss one files is misses = by_fault one words fault given files is misses line_again

  pub words_tell : {was now : ℕ} → TellsLink given was now
  words_tell = given_link (words_answer fault) given line_again (words_unlinked fault)
