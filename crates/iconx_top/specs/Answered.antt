-- Which answer the words and the files ask for.
use Rattle.std.specs.Prelude.{◌≡◌, ◌<◌, ℕ, List, length, None, Some, Ok, Err}
use Rattle.icn_profile.specs.Numbers.{most_bytes_of_image}
use Rattle.icn_host.specs.FileMaps.{FileMap}
use Rattle.icn_tree.specs.declared.rule.Rule.{Rule}
use Rattle.icn_tree.specs.declared.rule.Rule.TheVariants.{I7}
use Rattle.icn_value.specs.Limited.{Bounds}
use Rattle.icn_code.specs.Codes.{Tables}
use Rattle.icn_defs.specs.declared.ending.Ending.{Ending}
use Rattle.icn_answer.specs.declared.answer.Answer.{Answer}
use Rattle.icn_answer.specs.declared.answer.Answer.TheVariants.{Wrote, Ran, Command, Missing, BadImage}
use Rattle.icn_answer.specs.Answers.{IsFault}
use Rattle.icn_image.specs.Spelling.{image_of}
use Rattle.iconx_top.specs.Job.{IsMigration, IsShort}
use Rattle.iconx_top.specs.LoadedImages.{IsJudged}
use Rattle.iconx_top.specs.Words.{Asks, Faulty, image_named, words_reading}

-- A fault; or what the words and the files ask for, where a run may have any ending.
pub data IsAnswered (words : List (List ℕ)) (files : FileMap) : Answer → Type 0 where
  fault : (answer : Answer) → IsFault answer → IsAnswered words files answer
  wrong_words : (kind : ℕ) → words_reading words ≡ Faulty kind → IsAnswered words files (Command kind)
  missing : (name : List ℕ) → image_named (words_reading words) ≡ Some name → files name ≡ None
      → IsAnswered words files (Missing name)
  bad : (name bytes : List ℕ) (rule : Rule) → image_named (words_reading words) ≡ Some name
      → files name ≡ Some bytes → IsJudged bytes (Err rule) → IsAnswered words files (BadImage rule)
  ran : (bounds : Bounds) (name bytes : List ℕ) (arguments : List (List ℕ)) (tables : Tables)
      (ending : Ending)
      → words_reading words ≡ Asks bounds name arguments → files name ≡ Some bytes
      → IsJudged bytes (Ok tables) → IsAnswered words files (Ran ending)
  writes : (new : List ℕ) (tables : Tables) → IsMigration words files new tables → IsShort tables
      → IsAnswered words files Wrote
  grows : (new : List ℕ) (tables : Tables) → IsMigration words files new tables
      → most_bytes_of_image < length (image_of tables) → IsAnswered words files (BadImage I7)
