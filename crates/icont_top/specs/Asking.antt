-- How the code tells which program is asked for, and what it made of the files that are named.
use Rattle.std.specs.Prelude.{◌≡◌, ◌⊎◌, ℕ, All, false, List, Some, Result, Ok, Err, Vec}
use Rattle.std.specs.Option.{option_map}
use Rattle.std.specs.Str.{is_utf8}
use Rattle.icn_host.specs.FileMaps.{FileMap}
use Rattle.icn_link.specs.declared.fault.LinkFault.TheVariants.{K2}
use Rattle.icn_link.specs.LinkFaults.{missing_unit}
use Rattle.icn_answer.specs.declared.answer.Answer.{Answer}
use Rattle.icn_answer.specs.declared.answer.Answer.TheVariants.{Command, NoMemory}
use Rattle.icn_answer.specs.Answers.{IsFault}
use Rattle.icont_words.specs.Asking.{run_seen}
use Rattle.icont_words.specs.declared.words.WordsFault.{WordsFault}
use Rattle.icont_words.specs.declared.words.WordsFault.TheVariants as WordsFaults
use Rattle.icont_units.specs.Files.{files_named, sources_in}
use Rattle.icont_units.specs.Units.{FilesCome, Member, units_of}
use Rattle.icont_top.specs.declared.loading.LoadedProgram.{LoadedProgram}
use Rattle.icont_top.specs.declared.top.Plan.{Plan as PlanHeld}
use Rattle.icont_top.specs.declared.writing.FileToWrite.{FileToWrite}
use Rattle.icont_top.specs.Job.{Plan, Plans, first_base, ucode_files}
use Rattle.icont_top.specs.MadeUnits.{IsMadeProgram}
use Rattle.icont_top.specs.Outcomes.{IsReadBack}
use Rattle.icont_top.specs.Programs.{Links}
use Rattle.icont_top.specs.Writing.{texts_seen}

-- the answer to words that ask for nothing
abbrev pub words_answer : WordsFault → Answer
words_answer (WordsFaults.Faulty kind) = Command kind
words_answer WordsFaults.NoMemory = NoMemory

-- Units

-- these are the texts of the units of these names' sources, or what refuses one is answered, or a fault
abbrev pub AreTranslated : {Z : Type 0} → FileMap → List (List ℕ) → Result (Vec FileToWrite Z) Answer → Type 0
AreTranslated files names (Ok texts) =
    (members : List Member) × (FilesCome files (sources_in (files_named names)) (Ok members)
    × ((texts_seen texts.items ≡ ucode_files members) × All IsReadBack members))
AreTranslated files names (Err answer) =
    IsFault answer ⊎ FilesCome files (sources_in (files_named names)) (Err answer)

-- Programs

-- a plan, as definitions see it
abbrev pub plan_seen : PlanHeld → Plan
plan_seen plan = record {
  image = option_map (λ name. name.now) plan.image;
  run = option_map run_seen plan.run;
  number = plan.number;
}

-- the program of these units, and the name of its image where none is said
pub record IsProgram (members : List Member) (program : LoadedProgram) : Type 0 where
  pub made : IsMadeProgram members program.made
  pub base : program.base.now ≡ first_base members

-- where the first linked file is not there, a count tells so, or its name is no text
abbrev pub IsTold : Type 0 → List Member → Type 0
IsTold rose members = (unit : ℕ) (name : List ℕ) → missing_unit (units_of members) ≡ Some (K2 unit name)
    → rose ⊎ (is_utf8 name ≡ false)

-- What comes to these units is this program; or what refuses it is answered, or a fault.
abbrev pub IsProgramOf : (Result (List Member) Answer → Type 0) → Type 0 → Result LoadedProgram Answer
    → Type 0
IsProgramOf Comes rose (Ok program) =
    (members : List Member) × (Comes (Ok members) × (IsTold rose members × IsProgram members program))
IsProgramOf Comes rose (Err answer) = IsFault answer ⊎ (Comes (Err answer)
    ⊎ ((members : List Member) × (Comes (Ok members) × (IsTold rose members × Links members (Err answer)))))

-- the words ask for this program, and the code has it
pub record IsReadyProgram (words : List (List ℕ)) (files : FileMap) (members : List Member) (plan : PlanHeld)
    (program : LoadedProgram) : Type 0 where
  pub plans : Plans words files (plan_seen plan) (Ok members)
  pub is : IsProgram members program
