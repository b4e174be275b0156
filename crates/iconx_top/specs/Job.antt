-- What the words, the files and the input ask for.
use Rattle.std.specs.Prelude.{◌≡◌, ◌≤◌, ◌<◌, ℕ, List, [], length, None, Some, Ok, Err}
use Rattle.std.specs.Map.{update}
use Rattle.std.specs.Str.{bytes_eq}
use Rattle.icn_profile.specs.Numbers.{most_bytes_of_image}
use Rattle.icn_host.specs.FileMaps.{FileMap}
use Rattle.icn_tree.specs.declared.rule.Rule.{Rule}
use Rattle.icn_tree.specs.declared.rule.Rule.TheVariants.{I7}
use Rattle.icn_value.specs.Store.{errors_in, output_in, outside_of, readings_in}
use Rattle.icn_defs.specs.Running.{Launch, Observation}
use Rattle.icn_code.specs.Codes.{Tables}
use Rattle.icn_image.specs.Spelling.{image_of}
use Rattle.icn_run.specs.FlatStep.{Runs}
use Rattle.icn_answer.specs.declared.answer.Answer.{Answer}
use Rattle.icn_answer.specs.declared.answer.Answer.TheVariants.{Wrote, Ran, Command, Missing, BadImage}
use Rattle.icn_answer.specs.Endings.{ending_held}
use Rattle.icn_answer.specs.Lines.{line_of}
use Rattle.iconx_top.specs.LoadedImages.{IsJudged}
use Rattle.iconx_top.specs.Usage.{usage}
use Rattle.iconx_top.specs.Words.{Asks, Migrates, Faulty, image_named, words_reading}

-- the answer, the files and the input left after it, and what is added to the output and to the error output
pub record Job : Type 0 where
  pub answer : Answer
  pub files : FileMap
  pub left : List ℕ
  pub readings : ℕ
  pub output : List ℕ
  pub errors : List ℕ

-- nothing is done but to put the answer's own line
abbrev pub refusal : FileMap → List ℕ → List ℕ → Answer → Job
refusal files left name answer = record {
  answer = answer;
  files = files;
  left = left;
  readings = 0;
  output = [];
  errors = line_of usage name answer;
}

-- a run was observed
abbrev pub observation : Observation → Job
observation observed = record {
  answer = Ran (ending_held observed.ending);
  files = observed.outside.files;
  left = observed.outside.left;
  readings = readings_in observed.outside.history;
  output = output_in observed.outside.history;
  errors = errors_in observed.outside.history;
}

-- the code of the image that the words name, and what its run is begun with
pub record IsRun (words : List (List ℕ)) (files : FileMap) (left : List ℕ) (tables : Tables)
    (launch : Launch) : Type 0 where
  pub name : List ℕ
  pub bytes : List ℕ
  pub asks : words_reading words ≡ Asks launch.bounds name launch.words
  pub there : files name ≡ Some bytes
  pub judged : IsJudged bytes (Ok tables)
  pub outside : launch.outside ≡ outside_of left files

-- the code of the image that the words name, which is to be written in the second version under this name
pub record IsMigration (words : List (List ℕ)) (files : FileMap) (new : List ℕ)
    (tables : Tables) : Type 0 where
  pub name : List ℕ
  pub bytes : List ℕ
  pub asks : words_reading words ≡ Migrates new name
  pub there : files name ≡ Some bytes
  pub judged : IsJudged bytes (Ok tables)

-- an image has at most 1073741824 bytes
abbrev pub IsShort : Tables → Type 0
IsShort tables = length (image_of tables) ≤ most_bytes_of_image

-- the second version of this code is written under this name, and every other file stays
abbrev pub migration_job : FileMap → List ℕ → List ℕ → Tables → Job
migration_job files left new tables = record {
  answer = Wrote;
  files = update bytes_eq files new (Some (image_of tables));
  left = left;
  readings = 0;
  output = [];
  errors = [];
}

-- what the words, the files and the input ask for
pub data IsJob (words : List (List ℕ)) (files : FileMap) (left : List ℕ) : Job → Type 0 where
  wrong_words : (kind : ℕ) → words_reading words ≡ Faulty kind
      → IsJob words files left (refusal files left [] (Command kind))
  missing : (name : List ℕ) → image_named (words_reading words) ≡ Some name → files name ≡ None
      → IsJob words files left (refusal files left name (Missing name))
  bad : (name bytes : List ℕ) (rule : Rule) → image_named (words_reading words) ≡ Some name
      → files name ≡ Some bytes → IsJudged bytes (Err rule)
      → IsJob words files left (refusal files left name (BadImage rule))
  ran : (tables : Tables) (launch : Launch) (observed : Observation) → IsRun words files left tables launch
      → Runs tables launch observed
      → IsJob words files left (observation observed)
  writes : (new : List ℕ) (tables : Tables) → IsMigration words files new tables → IsShort tables
      → IsJob words files left (migration_job files left new tables)
  grows : (new : List ℕ) (tables : Tables) (asked : IsMigration words files new tables)
      → most_bytes_of_image < length (image_of tables)
      → IsJob words files left (refusal files left asked.name (BadImage I7))
