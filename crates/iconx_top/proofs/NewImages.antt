-- A new image comes to the code that it was made of.
use Rattle.std.proofs.Common.{◌≡◌, ℕ, ◌<◌, All, List, true, Some, Ok, refl}
use Rattle.icn_host.specs.FileMaps.{FileMap, HoldBytes}
use Rattle.icn_defs.specs.Running.{Launch, launch_of}
use Rattle.icn_code.specs.Codes.{Tables}
use Rattle.icn_code.specs.Rules.{keeps_rules}
use Rattle.icn_image.specs.Reading.{image_read}
use Rattle.icn_image.specs.Spelling.{image_of}
use Rattle.iconx_top.specs.Job.{IsMigration, IsRun, IsShort}
use Rattle.iconx_top.specs.LoadedImages.{IsJudged, runs}
use Rattle.iconx_top.specs.Words.{Asks, words_reading}

abbrev pub Kept : Type 0
Kept = (bytes : List ℕ) (tables : Tables) → All (λ byte. byte < 256) bytes → image_read bytes ≡ Ok tables → keeps_rules tables ≡ true

abbrev pub ReadBack : Type 0
ReadBack = (tables : Tables) → keeps_rules tables ≡ true → image_read (image_of tables) ≡ Ok tables

judged_again : Kept → ReadBack → (bytes : List ℕ) (tables : Tables) → All (λ byte. byte < 256) bytes → IsJudged bytes (Ok tables) → IsShort tables
    → IsJudged (image_of tables) (Ok tables)
judged_again kept back bytes tables all (runs _ few read sound) short = runs tables short (back tables (kept bytes tables all read)) sound

pub new_judged : Kept → ReadBack → (words : List (List ℕ)) (files : FileMap) (new : List ℕ) (tables : Tables) → HoldBytes files
    → IsMigration words files new tables → IsShort tables → IsJudged (image_of tables) (Ok tables)
new_judged kept back words files new tables hold asked short =
    judged_again kept back asked.bytes tables (hold asked.name asked.bytes asked.there) asked.judged short

pub runs_alike : Kept → ReadBack → (migration : List (List ℕ)) (files after : FileMap) (new : List ℕ) (tables : Tables) → HoldBytes files
    → (asked : IsMigration migration files new tables) → IsShort tables → after new ≡ Some (image_of tables)
    → (first second : List (List ℕ)) (left : List ℕ) (launch : Launch) → words_reading first ≡ Asks launch.bounds asked.name launch.words
    → words_reading second ≡ Asks launch.bounds new launch.words → IsRun first files left tables launch
    → IsRun second after left tables (launch_of launch.words launch.bounds left after)
runs_alike kept back migration files after new tables hold asked short there first second left launch of_first of_second is = record {
  name = new;
  bytes = image_of tables;
  asks = of_second;
  there = there;
  judged = new_judged kept back migration files new tables hold asked short;
  outside = refl;
}
