-- What the words, the files and the input ask for.
use Rattle.std.specs.Prelude.{◌≡◌, ℕ, List, [], ◌∷◌, ◌++◌, map, Option, None, Some, Result, Ok, Err, unwrap_or}
use Rattle.std.specs.List.{flat_map}
use Rattle.icn_host.specs.FileMaps.{FileMap}
use Rattle.icn_value.specs.Limited.{Bounds, default_limits}
use Rattle.icn_value.specs.Store.{errors_in, output_in, readings_in, with_file, writings_in}
use Rattle.icn_code.specs.Codes.{Tables}
use Rattle.icn_image.specs.Spelling.{image_of}
use Rattle.icn_defs.specs.Running.{Ending, Done, Exit, Errored, AtBound, Launch, Observation, launch_of}
use Rattle.icn_answer.specs.declared.answer.Answer.{Answer}
use Rattle.icn_answer.specs.declared.answer.Answer.TheVariants.{Wrote, Ran, Command}
use Rattle.icn_answer.specs.Lines.{line_of}
use Rattle.icn_answer.specs.Endings.{ending_held}
use Rattle.icont_words.specs.Words.{Run, Translate, Link, Generate, Asks, Faulty, ComeTo as WordsComeTo}
use Rattle.icont_units.specs.Generated.{GeneratedComes, sizes_line}
use Rattle.icont_units.specs.Files.{files_named, sources_in}
use Rattle.icont_units.specs.Units.{Member, FilesCome, Load, unit_texts, unit_of, units_of}
use Rattle.icont_top.specs.Programs.{Behaves, Links}
use Rattle.icont_top.specs.Usage.{usage}

-- a file that is written: its name, and what it holds then
pub record WrittenFile : Type 0 where
  pub name : List ℕ
  pub bytes : List ℕ

-- a name and what it holds, as a file that is written
abbrev pub as_written : List ℕ × List ℕ → WrittenFile
as_written text = record { name = text.0; bytes = text.1 }

-- the answer, the files that are written, in their order, the input left after it, and what is added to the output and to the error
-- output
pub record Job : Type 0 where
  pub answer : Answer
  pub written : List WrittenFile
  pub left : List ℕ
  pub readings : ℕ
  pub output : List ℕ
  pub errors : List ℕ

-- nothing is done but to put the answer's own line
abbrev pub refusal : List ℕ → Answer → Job
refusal left answer = record {
  answer = answer;
  written = [];
  left = left;
  readings = 0;
  output = [];
  errors = line_of usage [] answer;
}

-- files were written, and nothing else was done
abbrev pub files_job : List WrittenFile → List ℕ → Job
files_job written left =
    record { answer = Wrote; written = written; left = left; readings = 0; output = []; errors = [] }

-- the image was written, and then the program ran, which wrote files of its own, behind which this was put on the output
abbrev pub run_job : WrittenFile → Observation → List ℕ → Job
run_job image seen behind = record {
  answer = Ran (ending_held seen.ending);
  written = image ∷ map as_written (writings_in seen.outside.history);
  left = seen.outside.left;
  readings = readings_in seen.outside.history;
  output = output_in seen.outside.history ++ behind;
  errors = errors_in seen.outside.history;
}

-- Files that are written

-- the two texts of each unit, in the order of the units
abbrev pub ucode_files : List Member → List WrittenFile
ucode_files members = map as_written (flat_map unit_texts (units_of members))

-- the name of the first unit
abbrev pub first_base : List Member → List ℕ
first_base [] = []
first_base (member ∷ members) = (unit_of member).name

-- the image has the name that is said, or else the first base
abbrev pub image_name : Option (List ℕ) → List Member → List ℕ
image_name name members = unwrap_or name (first_base members)

-- the image of a program, as a file that is written
abbrev pub image_file : Option (List ℕ) → List Member → Tables → WrittenFile
image_file name members tables = record { name = image_name name members; bytes = image_of tables }

-- Runs

-- the limits that stand where none are said, but for the bound of turns
abbrev pub bounds_with : ℕ → Bounds
bounds_with turns = record default_limits { turns = turns }

-- with these arguments, this input and these files, under this bound of turns and the other limits that stand where none are said
abbrev pub run_launch : Run → List ℕ → FileMap → Launch
run_launch run left files = launch_of run.arguments (bounds_with run.turns) left files

-- the files once the image is written, which the program finds as it begins
abbrev pub with_image : WrittenFile → FileMap → FileMap
with_image image files = with_file image.name image.bytes files

-- The program of a number

-- its sizes follow where it is done
abbrev pub sizes_behind : ℕ → Ending → List ℕ
sizes_behind number Done = sizes_line number
sizes_behind number (Exit status) = []
sizes_behind number (Errored error) = []
sizes_behind number AtBound = []

-- What the words ask for

-- a program that is to be linked: its units, its image, and how it is run
pub record Plan : Type 0 where
  pub image : Option (List ℕ)
  pub run : Option Run
  pub number : Option ℕ

-- what was put behind a run's own output
abbrev pub behind : Option ℕ → Ending → List ℕ
behind None ending = []
behind (Some number) ending = sizes_behind number ending

-- The words ask for a program, and these are its units; or what refuses them.
pub data Plans (words : List (List ℕ)) (files : FileMap) : Plan → Result (List Member) Answer → Type 0 where
  of_files : (names : List (List ℕ)) (image : Option (List ℕ)) (run : Option Run)
      (result : Result (List Member) Answer)
      → WordsComeTo words (Asks (Link names image run)) → Load files (files_named names) result
      → Plans words files (record { image = image; run = run; number = None }) result
  of_number : (number turns : ℕ) (result : Result (List Member) Answer)
      → WordsComeTo words (Asks (Generate number turns))
      → GeneratedComes number result
      → Plans words files
      (record { image = None; run = Some (record { arguments = []; turns = turns }); number = Some number })
      result

-- the words ask for a program, and it is one: its units, its code and its image
pub record IsPlanned (words : List (List ℕ)) (files : FileMap) (plan : Plan) (members : List Member)
    (tables : Tables) : Type 0 where
  pub plans : Plans words files plan (Ok members)
  pub links : Links members (Ok tables)

-- the words ask for units, and these are they
pub record AsksForUnits (words : List (List ℕ)) (files : FileMap)
    (result : Result (List Member) Answer) : Type 0 where
  pub names : List (List ℕ)
  pub asks : WordsComeTo words (Asks (Translate names))
  pub come : FilesCome files (sources_in (files_named names)) result

-- what the words and the files are refused for
pub data RefusesCommand (words : List (List ℕ)) (files : FileMap) : Answer → Type 0 where
  wrong_words : (kind : ℕ) → WordsComeTo words (Faulty kind) → RefusesCommand words files (Command kind)
  no_units : (answer : Answer) → AsksForUnits words files (Err answer) → RefusesCommand words files answer
  no_members : (plan : Plan) (answer : Answer) → Plans words files plan (Err answer)
      → RefusesCommand words files answer
  no_program : (plan : Plan) (members : List Member) (answer : Answer) → Plans words files plan (Ok members)
      → Links members (Err answer) → RefusesCommand words files answer

-- what the words, the files and the input ask for
pub data IsJob (words : List (List ℕ)) (files : FileMap) (left : List ℕ) : Job → Type 0 where
  refuses : (answer : Answer) → RefusesCommand words files answer
      → IsJob words files left (refusal left answer)
  translates : (members : List Member) → AsksForUnits words files (Ok members)
      → IsJob words files left (files_job (ucode_files members) left)
  writes : (plan : Plan) (members : List Member) (tables : Tables) → IsPlanned words files plan members tables
      → plan.run ≡ None
      → IsJob words files left (files_job (image_file plan.image members tables ∷ []) left)
  runs : (plan : Plan) (members : List Member) (tables : Tables) (run : Run) (seen : Observation)
      → IsPlanned words files plan members tables → plan.run ≡ Some run
      → Behaves members (run_launch run left (with_image (image_file plan.image members tables) files)) seen
      → IsJob words files left
      (run_job (image_file plan.image members tables) seen (behind plan.number seen.ending))
