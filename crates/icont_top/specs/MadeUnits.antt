-- How the code tells what it made of units.
use Rattle.std.specs.Prelude.{◌≡◌, ◌≢◌, ◌≤◌, ◌⊎◌, ◌↔◌, ℕ, List, length, Option, Some, Result, Ok, Err}
use Rattle.std.specs.Option.{option_and_then}
use Rattle.icn_tree.specs.declared.rule.Rule.{Rule}
use Rattle.icn_tree.specs.declared.rule.Rule.TheVariants.{P6}
use Rattle.icn_tree.specs.Trees.{Declaration}
use Rattle.icn_code.specs.Codes.{Tables}
use Rattle.icn_code.specs.CodeTables.{tables_of}
use Rattle.icn_image.specs.Spelling.{image_of}
use Rattle.icn_unit.specs.PlainUnits.{UnitRead}
use Rattle.icn_link.specs.LinkFaults.{first_fault}
use Rattle.icn_verify.specs.Faults.{IsFirstFault}
use Rattle.icn_defs.specs.Running.{Launch, Observation}
use Rattle.law_simulation.specs.FirstLaw.{FilesMean, RunsFlat}
use Rattle.icn_answer.specs.declared.answer.Answer.{Answer}
use Rattle.icn_answer.specs.declared.answer.Answer.TheVariants.{Refused, Missing, BadUcode, FileFault, NoMemory}
use Rattle.icont_units.specs.Files.{first_name}
use Rattle.icont_units.specs.Units.{Member, link_answer, unit_named}
use Rattle.icont_top.specs.declared.programs.MadeProgram.{MadeProgram}
use Rattle.icont_top.specs.Programs.{Links, files_of, linked_code, whole_code}

-- the code and the image of a program
pub record IsMadeProgram (members : List Member) (made : MadeProgram) : Type 0 where
  pub code : tables_of made.code.code ≡ linked_code members
  pub bytes : made.image.items ≡ image_of (linked_code members)
  pub links : Links members (Ok (linked_code members))
  pub means : (files : List (List Declaration)) → files_of members ≡ Some files
      → (launch : Launch) (seen : Observation)
      → FilesMean files launch seen ↔ RunsFlat (linked_code members) launch seen
  pub shorter : length (image_of (linked_code members)) ≤ length (image_of (whole_code members))

-- a program was made, or what refuses it is answered, or that memory was wanting
abbrev pub Makes : List Member → Result MadeProgram Answer → Type 0
Makes members (Ok made) = IsMadeProgram members made
Makes members (Err answer) = (answer ≡ NoMemory) ⊎ Links members (Err answer)

-- the answer where units are not linked: the first rule that they break, or that memory was wanting
abbrev pub RefusesLink : List UnitRead → Answer → Type 0
RefusesLink units answer =
    (answer ≡ NoMemory) ⊎ (option_and_then (link_answer units) (first_fault units) ≡ Some answer)

-- the answer where code breaks a rule of verified code: told of the unit at this place, or that memory was wanting
pub data RefusesCode (units : List UnitRead) (place : Option ℕ) (tables : Tables)
    (answer : Answer) : Type 0 where
  wants : answer ≡ NoMemory → RefusesCode units place tables answer
  breaks : (first : ℕ) (rule : Rule) (number at : ℕ) → place ≡ Some first
      → IsFirstFault tables.procs rule number at
      → answer ≡ BadUcode (first_name (unit_named units first)) rule → RefusesCode units place tables answer

-- an answer to units that were there: no file is told not to be there
abbrev pub IsOfLink : Answer → Type 0
IsOfLink (Refused file line rule) = rule ≢ P6
IsOfLink (BadUcode name rule) = Unit {0}
IsOfLink NoMemory = Unit {0}
IsOfLink _ = ⊥

-- what refuses the files of a program, or what they come to, or a fault
abbrev pub IsOfProgram : Answer → Type 0
IsOfProgram (Refused file line rule) = Unit {0}
IsOfProgram (Missing name) = Unit {0}
IsOfProgram (BadUcode name rule) = Unit {0}
IsOfProgram FileFault = Unit {0}
IsOfProgram NoMemory = Unit {0}
IsOfProgram _ = ⊥
