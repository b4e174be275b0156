-- Which answers the parts of the call give.
use Rattle.std.proofs.Common.{◌≡◌, ◌⊎◌, ◌≤◌, inl, inr, ℕ, List, [], Option, None, Some, Result, Ok, Err, Bor, refl, sym, ap, ◌∙◌, subst, arith}
use Rattle.std.specs.Prelude.{unwrap_or}
use Rattle.std.specs.Option.{option_map}
use Rattle.icn_host.specs.Counts.{Rose}
use Rattle.icn_host.specs.FileMaps.{FileMap}
use Rattle.icn_host.specs.Sinks.{SinkState}
use Rattle.icn_tree.specs.declared.rule.Rule.TheVariants as Rules
use Rattle.icn_answer.specs.declared.answer.Answer.{Answer}
use Rattle.icn_answer.specs.declared.answer.Answer.TheVariants.{Wrote, Ran, Refused, Command, Missing, BadUcode, FileFault, ReadFault, WriteFault, NoMemory}
use Rattle.icn_answer.specs.Answers.{IsFault, IsRefusal, IsAbsence, IsCommand}
use Rattle.icn_answer.specs.Refusing.{PutsItsLine as PutsRefusal, put, own, write_fault, want}
use Rattle.icn_defs.specs.declared.ending.Ending.{Ending}
use Rattle.icont_words.specs.declared.words.WordsFault.{WordsFault}
use Rattle.icont_words.specs.declared.words.WordsFault.TheVariants as WordsFaults
use Rattle.icont_words.specs.declared.words.Task.{Task as TaskHeld}
use Rattle.icont_words.specs.Asking.{IsReading}
use Rattle.icont_words.specs.Words.{Faulty, WordsReading, ComeTo, Asks, Task}
use Rattle.icont_units.specs.FetchedFiles.{IsOfLoading}
use Rattle.icont_units.specs.Files.{CommandFile}
use Rattle.icont_units.specs.Units.{Load, Member}
use Rattle.icont_units.proofs.EqualResults.{ok_injective, ok_is_not_err}
use Rattle.icont_units.proofs.OneLoading.{one_load}
use Rattle.icont_top.specs.declared.loading.LoadedProgram.{LoadedProgram}
use Rattle.icont_top.specs.Answered.{IsCommanded, TellsLink}
use Rattle.icont_top.specs.Asking.{IsProgramOf, IsTold, words_answer}
use Rattle.icont_top.specs.Job.{first_base, wrong_words}
use Rattle.icont_top.specs.MadeUnits.{IsOfProgram}
use Rattle.icont_top.specs.Outcomes.{HasWritten}
use Rattle.icont_top.specs.Usage.{usage}
use Rattle.icont_top.proofs.CallOutcomes.{Asked, fault_given, given_none}

-- Files and units

-- what refuses a source or a unit is no program
pub of_loading : (answer : Answer) → IsOfLoading answer → IsOfProgram answer
of_loading (Refused file line rule) is = tt
of_loading (Missing name) is = tt
of_loading (BadUcode name rule) is = tt
of_loading FileFault is = tt
of_loading NoMemory is = tt
of_loading _ is = absurd is

pub loading_no_image : (answer : Answer) → IsOfProgram answer → HasWritten answer → ⊥
loading_no_image Wrote is w = is
loading_no_image (Ran ending) is w = is
loading_no_image _ is w = w

pub loading_no_command : (answer : Answer) → IsOfProgram answer → IsCommand answer → ⊥
loading_no_command (Command kind) is w = is
loading_no_command _ is w = w

pub loading_no_run : (answer : Answer) → IsOfProgram answer → (ending : Ending) → answer ≡ Ran ending → ⊥
loading_no_run answer is ending e = rw e at is

pub loading_no_read : (answer : Answer) → IsOfProgram answer → answer ≡ ReadFault → ⊥
loading_no_read answer is e = rw e at is

pub loading_no_write : (answer : Answer) → IsOfProgram answer → answer ≡ WriteFault → ⊥
loading_no_write answer is e = rw e at is

-- what is given in place of an answer

pub no_command : {before after : SinkState} (answer given : Answer) → IsOfProgram answer → PutsRefusal usage [] answer before after given
    → IsCommand given → ⊥
no_command answer given is line = given_none IsCommand answer given (loading_no_command answer is) (λ x. x) (λ x. x) line

pub command_refuses : (answer : Answer) → (IsRefusal answer → ⊥) → IsCommand answer → ⊥
command_refuses (Command kind) n is = n tt
command_refuses _ n is = is

-- Words

pub words_asked : {words : List (List ℕ)} {files : FileMap} (fault : WordsFault) → let found : Result TaskHeld WordsFault = Err fault in IsReading words found
    → Asked words files (words_answer fault)
words_asked (WordsFaults.Faulty kind) is = inr (wrong_words kind is)
words_asked WordsFaults.NoMemory is = inl refl

pub words_no_image : (fault : WordsFault) → HasWritten (words_answer fault) → ⊥
words_no_image (WordsFaults.Faulty kind) w = w
words_no_image WordsFaults.NoMemory w = w

pub words_no_run : (fault : WordsFault) (ending : Ending) → words_answer fault ≡ Ran ending → ⊥
words_no_run (WordsFaults.Faulty kind) ending e = cc
words_no_run WordsFaults.NoMemory ending e = cc

pub words_no_file : (fault : WordsFault) → words_answer fault ≡ FileFault → ⊥
words_no_file (WordsFaults.Faulty kind) e = cc
words_no_file WordsFaults.NoMemory e = cc

pub words_no_read : (fault : WordsFault) → words_answer fault ≡ ReadFault → ⊥
words_no_read (WordsFaults.Faulty kind) e = cc
words_no_read WordsFaults.NoMemory e = cc

pub words_no_write : (fault : WordsFault) → words_answer fault ≡ WriteFault → ⊥
words_no_write (WordsFaults.Faulty kind) e = cc
words_no_write WordsFaults.NoMemory e = cc

pub words_no_absence : (fault : WordsFault) → IsAbsence (words_answer fault) → ⊥
words_no_absence (WordsFaults.Faulty kind) a = a
words_no_absence WordsFaults.NoMemory a = a

abbrev pub OneReading : Type 0
OneReading = (words : List (List ℕ)) (a b : WordsReading) → ComeTo words a → ComeTo words b → a ≡ b

abbrev faulty_kind : WordsReading → ℕ → ℕ
faulty_kind (Faulty kind) other = kind
faulty_kind (Asks task) other = other

faulty_asks : {T : Type 0} (kind : ℕ) (task : Task) → ◌≡◌ {A = WordsReading} (Faulty kind) (Asks task) → T
faulty_asks kind task e = absurd cc

-- the answer to faulty words
given_kind : {before after : SinkState} (kind : ℕ) (given : Answer) → PutsRefusal usage [] (Command kind) before after given
    → IsFault given ⊎ (given ≡ Command kind)
given_kind kind _ (put n h) = inr refl
given_kind kind _ (own f puts) = inl f
given_kind kind _ (write_fault n leads) = inl refl
given_kind kind _ (want n between leads puts) = inl refl

pub words_commanded : {before after : SinkState} (one : OneReading) (words : List (List ℕ)) (fault : WordsFault) (given : Answer)
    → let found : Result TaskHeld WordsFault = Err fault in IsReading words found → PutsRefusal usage [] (words_answer fault) before after given
    → IsCommanded words given
words_commanded one words (WordsFaults.Faulty kind) given is line = record {
  faulty = λ other come. subst (λ k. IsFault given ⊎ (given ≡ Command k)) (ap (λ reading. faulty_kind reading kind) (one words _ _ is come))
      (given_kind kind given line);
  taken = λ task come. faulty_asks kind task (one words _ _ is come);
}
words_commanded one words WordsFaults.NoMemory given is line = record {
  faulty = λ other come. inl (fault_given NoMemory given refl line);
  taken = λ task come c. given_none IsCommand NoMemory given (λ x. x) (λ x. x) (λ x. x) line c;
}

-- words that ask for a task are called faulty by no answer that is no command
pub task_commanded : (one : OneReading) (words : List (List ℕ)) (task : Task) (given : Answer) → ComeTo words (Asks task) → (IsCommand given → ⊥)
    → IsCommanded words given
task_commanded one words task given is n = record {
  faulty = λ kind come. faulty_asks kind task (one words _ _ come is);
  taken = λ other come c. n c;
}

-- The name of the image

pub said_name : (image : Option (Bor (List ℕ))) (base name : Bor (List ℕ)) (members : List Member) → name ≡ unwrap_or image base
    → base.now ≡ first_base members → name.now ≡ unwrap_or (option_map (λ name. name.now) image) (first_base members)
said_name None base name members e b = ap (λ (n : Bor (List ℕ)). n.now) e ∙ b
said_name (Some said) base name members e b = ap (λ (n : Bor (List ℕ)). n.now) e

-- Files that are linked

rose_later : (before now later : ℕ) → Rose before now → now ≤ later → Rose before later
rose_later before now later r l = omega (arith, r, l)

told_by : {T : Type 0} (before now later : ℕ) → now ≤ later → Rose before now ⊎ T → Rose before later ⊎ T
told_by before now later l (inl r) = inl (rose_later before now later r l)
told_by before now later l (inr t) = inr t

-- what is told of the members that the files come to is told of each list that they come to
pub told_again : (before now later : ℕ) (files : FileMap) (named : List CommandFile) (members other : List Member) → Load files named (Ok members)
    → IsTold (Rose before now) members → now ≤ later → Load files named (Ok other) → IsTold (Rose before later) other
told_again before now later files named members other load told l again =
    subst (IsTold (Rose before later)) (ok_injective members other (one_load files named (Ok members) (Ok other) load again))
    (λ unit name e. told_by before now later l (told unit name e))

pub told_refused : (before now : ℕ) (files : FileMap) (named : List CommandFile) (answer : Answer) (other : List Member)
    → let found : Result LoadedProgram Answer = Err answer in IsProgramOf (Load files named) (Rose before now) found → Load files named (Ok other)
    → IsFault answer ⊎ IsTold (Rose before now) other
told_refused before now files named answer other (inl f) again = inl f
told_refused before now files named answer other (inr (inl load)) again =
    absurd (ok_is_not_err other answer (one_load files named (Ok other) (Err answer) again load))
told_refused before now files named answer other (inr (inr some)) again =
    inr (told_again before now now files named some.0 other some.1.0 some.1.1.0 (omega arith) again)

-- where a fault was answered, a fault is given
pub given_or_told : {T : Type 0} {before after : SinkState} (answer given : Answer) → PutsRefusal usage [] answer before after given
    → IsFault answer ⊎ T → IsFault given ⊎ T
given_or_told answer given line (inl f) = inl (fault_given answer given f line)
given_or_told answer given line (inr t) = inr t

-- an answer that is no refusal tells of no linked file
pub refusal_unlinked : {before now : ℕ} (answer : Answer) → (IsRefusal answer → ⊥) → TellsLink answer before now
refusal_unlinked answer none = λ file line is. absurd (none (subst IsRefusal (sym is) tt))

-- where a line is put, what the answer tells is told, or a fault
pub given_link : {before now : ℕ} {was is : SinkState} (answer given : Answer) → PutsRefusal usage [] answer was is given → TellsLink answer before now
    → TellsLink given before now
given_link answer _ (put n h) told = told
given_link answer _ (own f puts) told = told
given_link answer _ (write_fault n stops) told = refusal_unlinked WriteFault (λ refused. refused)
given_link answer _ (want n between leads puts) told = refusal_unlinked NoMemory (λ refused. refused)

pub words_unlinked : {before now : ℕ} (fault : WordsFault) → TellsLink (words_answer fault) before now
words_unlinked (WordsFaults.Faulty kind) = λ file line same. absurd (let clash : Command kind ≡ Refused file line Rules.K2 = same in cc)
words_unlinked WordsFaults.NoMemory = refusal_unlinked NoMemory (λ refused. refused)
