-- What `iconx` does with the image of source files.
use Rattle.std.proofs.Common.{◌≡◌, ℕ, List, Some, None, Result, Ok, Err, sym, ap, subst, ◌∙◌}
use Rattle.std.proofs.lemmas.Option.{none-some, same_Some}
use Rattle.icn_host.specs.FileMaps.{FileMap}
use Rattle.icn_tree.specs.declared.rule.Rule.{Rule}
use Rattle.icn_tree.specs.Trees.{Declaration}
use Rattle.icn_value.specs.Limited.{Bounds}
use Rattle.icn_code.specs.Codes.{Tables}
use Rattle.icn_verify.specs.ShapeLaws.{HaveOneFault, HaveNoFault}
use Rattle.icn_defs.specs.Running.{Launch, Observation, launch_of}
use Rattle.icn_run.specs.FlatStep.{Runs}
use Rattle.icn_running.specs.Runs.{LeavesBy}
use Rattle.law_simulation.specs.FirstLaw.{FilesMean}
use Rattle.icn_answer.specs.declared.answer.Answer.{Answer}
use Rattle.icn_answer.specs.Answers.{IsFault}
use Rattle.icn_streams.specs.Handed.{CallStreams}
use Rattle.iconx_top.specs.Job.{IsJob, IsMigration, IsRun, Job, bad, grows, missing, ran, writes, wrong_words}
use Rattle.iconx_top.specs.LoadedImages.{IsJudged}
use Rattle.iconx_top.specs.Outcomes.{AnswersCommand, Completes, EndsByFault, broke, done, fault, idle, torn}
use Rattle.iconx_top.specs.Words.{WordsReading, Asks, Migrates, Faulty, image_named, words_reading}
use Rattle.iconx_top.proofs.OneJob.{judged_once}
use Rattle.law_programs.specs.SourceImages.{DoesAsSources, broke_off, did, did_nothing}
use Rattle.law_programs.proofs.WrittenImages.{HoldsSources, same_ok}

-- What words ask for

abbrev bounds_asked : Bounds → WordsReading → Bounds
bounds_asked other (Asks bounds name arguments) = bounds
bounds_asked other (Migrates new name) = other
bounds_asked other (Faulty kind) = other

abbrev arguments_asked : List (List ℕ) → WordsReading → List (List ℕ)
arguments_asked other (Asks bounds name arguments) = arguments
arguments_asked other (Migrates new name) = other
arguments_asked other (Faulty kind) = other

same_launch : (s t : Launch) → s.words ≡ t.words → s.bounds ≡ t.bounds → s.outside ≡ t.outside → s ≡ t
same_launch s t e f g =
    ap (λ x. record s { words = x }) e ∙ (ap (λ x. record s { words = t.words; bounds = x }) f ∙ ap (λ x. record t { outside = x }) g)

ok_err : (tables : Tables) (rule : Rule) → ◌≡◌ {A = Result Tables Rule} (Err rule) (Ok tables) → ⊥
ok_err tables rule e = cc

module _ (one : HaveOneFault) (none : HaveNoFault) (asked arguments : List (List ℕ)) (written : FileMap) (left name : List ℕ) (bounds : Bounds)
    (sources : List (List Declaration)) (reading : words_reading asked ≡ Asks bounds name arguments) (holds : HoldsSources written name sources) where
  -- what the words name is that image
  same_name : (other : List ℕ) → image_named (words_reading asked) ≡ Some other → other ≡ name
  same_name other named = same_Some other name (sym named ∙ ap image_named reading)

  same_bytes : (other bytes : List ℕ) → other ≡ name → written other ≡ Some bytes → bytes ≡ holds.bytes
  same_bytes other bytes same there = same_Some bytes holds.bytes (sym there ∙ (ap written same ∙ holds.there))

  -- it is a code and no other
  same_code : (bytes : List ℕ) (tables : Tables) → bytes ≡ holds.bytes → IsJudged bytes (Ok tables) → tables ≡ holds.tables
  same_code bytes tables same judged =
      same_ok tables holds.tables (judged_once one none holds.bytes (Ok tables) (Ok holds.tables)
      (subst (λ b. IsJudged b (Ok tables)) same judged) holds.judged)

  not_refused : (bytes : List ℕ) (rule : Rule) → bytes ≡ holds.bytes → IsJudged bytes (Err rule) → ⊥
  not_refused bytes rule same judged =
      ok_err holds.tables rule (judged_once one none holds.bytes (Err rule) (Ok holds.tables) (subst (λ b. IsJudged b (Err rule)) same judged) holds.judged)

  not_missing : (other : List ℕ) → other ≡ name → written other ≡ None → ⊥
  not_missing other same gone = none-some holds.bytes (sym gone ∙ (ap written same ∙ holds.there))

  not_faulty : (kind : ℕ) → words_reading asked ≡ Faulty kind → ⊥
  not_faulty kind e = let both : Asks bounds name arguments ≡ Faulty kind = sym reading ∙ e in cc

  not_new : (new : List ℕ) (tables : Tables) → IsMigration asked written new tables → ⊥
  not_new new tables is = let both : Asks bounds name arguments ≡ Migrates new is.name = sym reading ∙ is.asks in cc

  -- a run that the words ask for is that of the sources
  same_begin : (tables : Tables) (launch : Launch) → IsRun asked written left tables launch → launch ≡ launch_of arguments bounds left written
  same_begin tables launch is = same_launch launch (launch_of arguments bounds left written) (sym (ap (arguments_asked arguments) (sym reading ∙ is.asks)))
      (sym (ap (bounds_asked bounds) (sym reading ∙ is.asks))) is.outside

  run_code : (tables : Tables) (launch : Launch) → IsRun asked written left tables launch → tables ≡ holds.tables
  run_code tables launch is = same_code is.bytes tables (same_bytes is.name is.bytes (same_name is.name (ap image_named is.asks)) is.there) is.judged

  sources_mean : (tables : Tables) (launch : Launch) (seen : Observation) → IsRun asked written left tables launch → Runs tables launch seen
      → FilesMean sources (launch_of arguments bounds left written) seen
  sources_mean tables launch seen is runs = holds.means (launch_of arguments bounds left written) seen
      (subst (λ l. Runs holds.tables l seen) (same_begin tables launch is) (subst (λ t. Runs t launch seen) (run_code tables launch is) runs))

  -- the job that the words ask for
  job_done : (answer : Answer) (before after : CallStreams) (job : Job) → IsJob asked written left job → Completes job answer before after
      → DoesAsSources sources (launch_of arguments bounds left written) asked written answer before after
  job_done answer before after _ (wrong_words kind e) completes = absurd (not_faulty kind e)
  job_done answer before after _ (missing other named gone) completes = absurd (not_missing other (same_name other named) gone)
  job_done answer before after _ (bad other bytes rule named there judged) completes =
      absurd (not_refused bytes rule (same_bytes other bytes (same_name other named) there) judged)
  job_done answer before after _ (ran tables launch seen is runs) completes = did seen (sources_mean tables launch seen is runs) completes
  job_done answer before after _ (writes new tables is short) completes = absurd (not_new new tables is)
  job_done answer before after _ (grows new tables is long) completes = absurd (not_new new tables is)

  job_broken : (answer : Answer) (before after : CallStreams) → IsFault answer → EndsByFault asked written left answer before after
      → DoesAsSources sources (launch_of arguments bounds left written) asked written answer before after
  job_broken answer before after is (idle ends) = did_nothing is ends
  job_broken answer before after is (torn ends) = absurd (not_new ends.new ends.tables ends.asked)
  job_broken answer before after is (broke ends) = broke_off is (record {
    stopped = ends.stopped;
    between = ends.between;
    seen = ends.broken.0;
    answered = ends.answered;
    means = sources_mean ends.tables ends.launch ends.broken.0 ends.asked ends.broken.1.0;
    leaves = subst (λ (l : Launch). LeavesBy ends.stopped l.outside ends.broken.0 before ends.between)
        (same_begin ends.tables ends.launch ends.asked) ends.broken.1.1;
    line = ends.line;
  })

  pub does_as_sources : (answer : Answer) (before after : CallStreams) → AnswersCommand asked written left answer before after
      → DoesAsSources sources (launch_of arguments bounds left written) asked written answer before after
  does_as_sources answer before after (done job is completes) = job_done answer before after job is completes
  does_as_sources answer before after (fault is ends) = job_broken answer before after is ends
