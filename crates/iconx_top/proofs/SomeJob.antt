-- Words, files and input ask for a job: bytes are read or break a rule, code is sound or broken, and each run of sound code ends.
use Rattle.std.proofs.Common.{◌≡◌, ℕ, ◌≤◌, ◌<◌, ◌⊎◌, inl, inr, All, List, [], length, true, Option, None, Some, Result, Ok, Err, refl, ap}
use Rattle.std.proofs.lemmas.Bool.{cases_lt}
use Rattle.icn_host.specs.FileMaps.{FileMap, HoldBytes}
use Rattle.icn_tree.specs.declared.rule.Rule.{Rule}
use Rattle.icn_tree.specs.declared.rule.Rule.TheVariants.{I6, I7}
use Rattle.icn_value.specs.Limited.{Bounds}
use Rattle.icn_code.specs.Codes.{Tables}
use Rattle.icn_code.specs.Rules.{keeps_rules}
use Rattle.icn_image.specs.Reading.{image_read}
use Rattle.icn_image.specs.Spelling.{image_of}
use Rattle.icn_verify.specs.Faults.{IsVerified}
use Rattle.icn_verify.specs.ShapeLaws.{IsSoundOrBroken, AreSoundOrBroken}
use Rattle.icn_value.specs.Store.{outside_of}
use Rattle.icn_defs.specs.Running.{Launch, Observation}
use Rattle.icn_run.specs.FlatStep.{Runs}
use Rattle.law_safe.specs.Ended.{AreOver}
use Rattle.icn_answer.specs.declared.answer.Answer.TheVariants.{Command, Missing, BadImage}
use Rattle.iconx_top.specs.LoadedImages.{IsJudged, too_long, broken, unverified, runs}
use Rattle.iconx_top.specs.Job.{Job, IsJob, IsMigration, IsRun, wrong_words, missing, bad, ran, writes, grows, migration_job, refusal, observation}
use Rattle.iconx_top.specs.Words.{WordsReading, Asks, Migrates, Faulty, image_named, words_reading}

-- what the laws of the crates below say
record Laws : Type 0 where
  kept : (bytes : List ℕ) (tables : Tables) → All (λ byte. byte < 256) bytes → image_read bytes ≡ Ok tables → keeps_rules tables ≡ true
  judged : AreSoundOrBroken
  ends : (tables : Tables) → keeps_rules tables ≡ true → IsVerified tables → AreOver tables

-- what bytes come to, with what the run of a code needs
data Judges (bytes : List ℕ) : Type 0 where
  refuses : (rule : Rule) → IsJudged bytes (Err rule) → Judges bytes
  runs_as : (tables : Tables) → IsJudged bytes (Ok tables) → keeps_rules tables ≡ true → IsVerified tables → Judges bytes

module _ (laws : Laws) where
  sound_or_not : (bytes : List ℕ) (tables : Tables) → length bytes ≤ 1073741824 → image_read bytes ≡ Ok tables → keeps_rules tables ≡ true
      → IsSoundOrBroken tables.procs → Judges bytes
  sound_or_not bytes tables few read kept (inl sound) = runs_as tables (runs tables few read sound) kept sound
  sound_or_not bytes tables few read kept (inr fault) = refuses fault.0 (unverified tables fault.0 fault.1 fault.2 few read fault.3)

  read_or_not : (bytes : List ℕ) → All (λ byte. byte < 256) bytes → length bytes ≤ 1073741824 → (found : Result Tables Rule) → image_read bytes ≡ found
      → Judges bytes
  read_or_not bytes all few (Err rule) read = refuses rule (broken rule few read)
  read_or_not bytes all few (Ok tables) read =
      let kept : keeps_rules tables ≡ true = laws.kept bytes tables all read in
      sound_or_not bytes tables few read kept (laws.judged tables kept)

  short_or_not : (bytes : List ℕ) → All (λ byte. byte < 256) bytes → (1073741824 < length bytes) ⊎ (length bytes ≤ 1073741824) → Judges bytes
  short_or_not bytes all (inl long) = refuses I6 (too_long long)
  short_or_not bytes all (inr few) = read_or_not bytes all few (image_read bytes) refl

  judges : (bytes : List ℕ) → All (λ byte. byte < 256) bytes → Judges bytes
  judges bytes all = short_or_not bytes all (cases_lt 1073741824 (length bytes))

  module _ (words : List (List ℕ)) (files : FileMap) (left : List ℕ) (hold : HoldBytes files) where
    observed_job : (tables : Tables) (launch : Launch) → IsRun words files left tables launch → (seen : Observation) × Runs tables launch seen
        → (job : Job) × IsJob words files left job
    observed_job tables launch is seen = (observation seen.0, ran tables launch seen.0 is seen.1)

    refused_job : (name bytes : List ℕ) (rule : Rule) → image_named (words_reading words) ≡ Some name → files name ≡ Some bytes
        → IsJudged bytes (Err rule) → (job : Job) × IsJob words files left job
    refused_job name bytes rule named there is = (refusal files left name (BadImage rule), bad name bytes rule named there is)

    judged_run : (bounds : Bounds) (name bytes : List ℕ) (arguments : List (List ℕ)) → words_reading words ≡ Asks bounds name arguments
        → files name ≡ Some bytes
        → Judges bytes → (job : Job) × IsJob words files left job
    judged_run bounds name bytes arguments asks there (refuses rule is) = refused_job name bytes rule (ap image_named asks) there is
    judged_run bounds name bytes arguments asks there (runs_as tables is kept sound) =
        let launch : Launch = record { words = arguments; bounds = bounds; outside = outside_of left files } in
        let named : IsRun words files left tables launch = record { name = name; bytes = bytes; asks = asks; there = there; judged = is; outside = refl } in
        observed_job tables launch named ((laws.ends tables kept sound).flat [] launch)

    written_job : (new : List ℕ) (tables : Tables) → IsMigration words files new tables
        → (1073741824 < length (image_of tables)) ⊎ (length (image_of tables) ≤ 1073741824) → (job : Job) × IsJob words files left job
    written_job new tables asked (inl long) = (refusal files left asked.name (BadImage I7), grows new tables asked long)
    written_job new tables asked (inr short) = (migration_job files left new tables, writes new tables asked short)

    judged_new : (new name bytes : List ℕ) → words_reading words ≡ Migrates new name → files name ≡ Some bytes
        → Judges bytes → (job : Job) × IsJob words files left job
    judged_new new name bytes asks there (refuses rule is) = refused_job name bytes rule (ap image_named asks) there is
    judged_new new name bytes asks there (runs_as tables is kept sound) =
        let asked : IsMigration words files new tables = record { name = name; bytes = bytes; asks = asks; there = there; judged = is } in
        written_job new tables asked (cases_lt 1073741824 (length (image_of tables)))

    named_run : (bounds : Bounds) (name : List ℕ) (arguments : List (List ℕ)) → words_reading words ≡ Asks bounds name arguments → (found : Option (List ℕ))
        → files name ≡ found → (job : Job) × IsJob words files left job
    named_run bounds name arguments asks None there = (refusal files left name (Missing name), missing name (ap image_named asks) there)
    named_run bounds name arguments asks (Some bytes) there = judged_run bounds name bytes arguments asks there (judges bytes (hold name bytes there))

    named_new : (new name : List ℕ) → words_reading words ≡ Migrates new name → (found : Option (List ℕ))
        → files name ≡ found → (job : Job) × IsJob words files left job
    named_new new name asks None there = (refusal files left name (Missing name), missing name (ap image_named asks) there)
    named_new new name asks (Some bytes) there = judged_new new name bytes asks there (judges bytes (hold name bytes there))

    asked_job : (reading : WordsReading) → words_reading words ≡ reading → (job : Job) × IsJob words files left job
    asked_job (Faulty kind) asks = (refusal files left [] (Command kind), wrong_words kind asks)
    asked_job (Asks bounds name arguments) asks = named_run bounds name arguments asks (files name) refl
    asked_job (Migrates new name) asks = named_new new name asks (files name) refl

    some_job : (job : Job) × IsJob words files left job
    some_job = asked_job (words_reading words) refl

pub a_job : ((bytes : List ℕ) (tables : Tables) → All (λ byte. byte < 256) bytes → image_read bytes ≡ Ok tables → keeps_rules tables ≡ true)
    → AreSoundOrBroken → ((tables : Tables) → keeps_rules tables ≡ true → IsVerified tables → AreOver tables)
    → (words : List (List ℕ)) (files : FileMap) (left : List ℕ) → HoldBytes files → (job : Job) × IsJob words files left job
a_job kept judged ends words files left hold = some_job (record { kept = kept; judged = judged; ends = ends }) words files left hold
