-- Which answer the words and the files ask for.
use Rattle.std.specs.Prelude.{◌≡◌, ◌⊎◌, ℕ, true, List, Option, None, Some, Ok}
use Rattle.std.specs.Str.{is_utf8}
use Rattle.icn_host.specs.FileMaps.{FileMap}
use Rattle.icn_code.specs.Codes.{Tables}
use Rattle.icn_tree.specs.declared.rule.Rule.TheVariants as Rules
use Rattle.icn_link.specs.declared.fault.LinkFault.TheVariants.{K2}
use Rattle.icn_link.specs.LinkFaults.{missing_unit}
use Rattle.icn_defs.specs.declared.ending.Ending.{Ending}
use Rattle.icn_answer.specs.declared.answer.Answer.{Answer}
use Rattle.icn_answer.specs.declared.answer.Answer.TheVariants.{Wrote, Ran, Refused, Command}
use Rattle.icn_answer.specs.Answers.{IsCommand, IsFault}
use Rattle.icont_words.specs.Words.{Run, Task, Link, Generate, Asks, Faulty, ComeTo}
use Rattle.icont_units.specs.Files.{files_named}
use Rattle.icont_units.specs.Loading.{AreSought}
use Rattle.icont_units.specs.Units.{Load, Member, units_of}
use Rattle.icont_top.specs.Job.{IsPlanned, AsksForUnits, Plan, RefusesCommand}
use Rattle.icont_top.specs.Programs.{link_refusal}

-- A fault; or what the words and the files ask for, where a run may have any ending.
pub data IsAnswered (words : List (List ℕ)) (files : FileMap) : Answer → Type 0 where
  fault : (answer : Answer) → IsFault answer → IsAnswered words files answer
  refused : (answer : Answer) → RefusesCommand words files answer → IsAnswered words files answer
  translated : (members : List Member) → AsksForUnits words files (Ok members) → IsAnswered words files Wrote
  wrote : (plan : Plan) (members : List Member) (tables : Tables) → IsPlanned words files plan members tables
      → plan.run ≡ None
      → IsAnswered words files Wrote
  ran : (plan : Plan) (members : List Member) (tables : Tables) (run : Run) (ending : Ending)
      → IsPlanned words files plan members tables → plan.run ≡ Some run → IsAnswered words files (Ran ending)

-- faulty words are answered so, and no others are called faulty
pub record IsCommanded (words : List (List ℕ)) (answer : Answer) : Type 0 where
  pub faulty : (kind : ℕ) → ComeTo words (Faulty kind) → IsFault answer ⊎ (answer ≡ Command kind)
  pub taken : (task : Task) → ComeTo words (Asks task) → IsCommand answer → ⊥

-- the words ask for a program, and the first file that is linked and not there has a name that is a text
pub record MissesText (words : List (List ℕ)) (files : FileMap) : Type 0 where
  pub names : List (List ℕ)
  pub image : Option (List ℕ)
  pub run : Option Run
  pub members : List Member
  pub unit : ℕ
  pub name : List ℕ
  pub asks : ComeTo words (Asks (Link names image run))
  pub load : Load files (files_named names) (Ok members)
  pub absent : missing_unit (units_of members) ≡ Some (K2 unit name)
  pub text : is_utf8 name ≡ true

-- the words ask for the program of a number
abbrev pub AsksForNumber : List (List ℕ) → Type 0
AsksForNumber words = (number : ℕ) × ((turns : ℕ) × ComeTo words (Asks (Generate number turns)))

-- These members are refused so by a rule of linking. The first file that they link and that none of them is was looked for, and the count of
-- absences rose; or its name is no text.
pub record MissesLink (answer : Answer) (before now : ℕ) : Type 0 where
  pub members : List Member
  pub refused : link_refusal members ≡ Some answer
  pub sought : AreSought before now (units_of members)

-- where it is told that a linked file is not there, there are members of which that is so
abbrev pub TellsLink : Answer → ℕ → ℕ → Type 0
TellsLink answer before now =
    (file : List ℕ) (line : ℕ) → answer ≡ Refused file line Rules.K2 → MissesLink answer before now
