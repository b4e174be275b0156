-- The image that was written of source files is one that `iconx` takes, and its runs are what they mean.
use Rattle.std.proofs.Common.{◌≡◌, ℕ, List, Some, Result, Ok, Err, refl, sym, ap, subst, ◌∙◌}
use Rattle.std.proofs.lemmas.Option.{same_Some}
use Rattle.icn_host.specs.FileMaps.{FileMap}
use Rattle.icn_tree.specs.Trees.{Declaration}
use Rattle.icn_code.specs.Codes.{Tables}
use Rattle.icn_defs.specs.Running.{Launch, Observation}
use Rattle.law_simulation.specs.FirstLaw.{FilesMean, RunsFlat}
use Rattle.icont_words.specs.Words.{Translate, Asks, ComeTo}
use Rattle.icn_answer.specs.declared.answer.Answer.{Answer}
use Rattle.icn_answer.specs.declared.answer.Answer.TheVariants.{Wrote}
use Rattle.icont_units.specs.Units.{Member}
use Rattle.icont_top.specs.Job.{Plan, Plans, WrittenFile, image_file, image_name}
use Rattle.icont_top.specs.Outcomes.{HasWritten, HoldsNow, HoldsWritten}
use Rattle.icont_top.specs.Programs.{Links, RunsBy, files_of, is_program, linked_code, not_linked, unverified}
use Rattle.icont_top.proofs.OneJob.{OneReading, PlannedBy, one_plans, planned}
use Rattle.iconx_top.specs.LoadedImages.{IsJudged, runs}
use Rattle.law_programs.specs.SourceImages.{AsksForSources, ImageStands, image_asked, left_there, not_run}

-- Under this name stand bytes that `iconx` judges to be a code, and what this runs is what the sources mean.
pub record HoldsSources (written : FileMap) (name : List ℕ) (sources : List (List Declaration)) : Type 0 where
  pub bytes : List ℕ
  pub tables : Tables
  pub there : written name ≡ Some bytes
  pub judged : IsJudged bytes (Ok tables)
  pub means : (launch : Launch) (seen : Observation) → RunsFlat tables launch seen → FilesMean sources launch seen

-- equal successes have equal values
pub same_ok : {A E : Type 0} (a b : A) → ◌≡◌ {A = Result A E} (Ok a) (Ok b) → a ≡ b
same_ok a b e = ap (λ r. elim r [ Ok x ↦ x | Err f ↦ a ]) e

-- words that ask for a program do not ask for units
no_program : OneReading → (words : List (List ℕ)) (files : FileMap) (plan : Plan) (result : Result (List Member) Answer) (names : List (List ℕ))
    → Plans words files plan result → ComeTo words (Asks (Translate names)) → ⊥
no_program one words files plan result names plans asks =
    let is = planned plan result plans in
    subst (λ reading. PlannedBy files reading plan result) (one words is.reading (Asks (Translate names)) is.comes asks) is.by

-- the code of a program is the linked code of its members
linked_as : {members : List Member} (result : Result Tables Answer) → Links members result → (tables : Tables) → result ≡ Ok tables
    → tables ≡ linked_code members
linked_as _ (not_linked answer e) tables same = absurd (let no_code = same in cc)
linked_as _ (unverified base rule number place fits e f) tables same = absurd (let no_code = same in cc)
linked_as {members} _ (is_program fits verified) tables same = sym (same_ok (linked_code members) tables same)

same_code : (members others : List Member) (tables codes : Tables) → members ≡ others → Links members (Ok tables) → Links others (Ok codes) → tables ≡ codes
same_code members others tables codes are links link =
    linked_as (Ok tables) links tables refl ∙ (ap linked_code are ∙ sym (linked_as (Ok codes) link codes refl))

-- the image that was written stands under its name, which is the one that the words ask for
stands_there : {words : List (List ℕ)} {files written : FileMap} {name : List ℕ} {sources : List (List Declaration)}
    (asked : AsksForSources words files name sources) (first : Answer) (plan : Plan) (members : List Member) (tables : Tables)
    → image_name plan.image members ≡ image_name asked.plan.image asked.members → tables ≡ asked.tables
    → (first ≡ Wrote → HoldsNow (Some written) (image_file plan.image members tables)) → ImageStands first written (image_asked asked)
    → written (image_name plan.image members) ≡ Some (image_file plan.image members tables).bytes
stands_there {written = written} asked first plan members tables names codes stands (not_run e) =
    let there = stands e in
    ap (λ (f : FileMap). f (image_name plan.image members)) (same_Some written there.0 there.1) ∙ there.2
stands_there {written = written} asked first plan members tables names codes stands (left_there has same) =
    ap written names ∙ (same ∙ ap (λ (t : Tables). Some (image_file plan.image members t).bytes) (sym codes))

-- the image that words ask for stands under the name that they ask for
pub image_there : OneReading → (words : List (List ℕ)) (files written : FileMap) (name : List ℕ) (sources : List (List Declaration))
    (asked : AsksForSources words files name sources) (first : Answer) → ImageStands first written (image_asked asked)
    → HoldsWritten words files first (Some written) → HoldsSources written name sources
image_there one words files written name sources asked first image (HoldsWritten.ucode members is sets read) =
    absurd (no_program one words files asked.plan (Ok asked.members) is.names asked.planned.plans is.asks)
image_there one words files written name sources asked first image (HoldsWritten.image plan members tables is stands holds) =
    let same = one_plans one words files plan asked.plan (Ok members) (Ok asked.members) is.plans asked.planned.plans in
    let are : members ≡ asked.members = same_ok members asked.members same.results in
    let names : image_name plan.image members ≡ image_name asked.plan.image asked.members
    = ap (λ (p : Plan). image_name p.image members) same.plans ∙ ap (λ (m : List Member). image_name asked.plan.image m) are in
    let codes : tables ≡ asked.tables = same_code members asked.members tables asked.tables are is.links asked.planned.links in
    let alone : files_of members ≡ Some sources = ap files_of are ∙ asked.alone in
    record {
      bytes = (image_file plan.image members tables).bytes;
      tables = holds.tables;
      there = ap written (sym (names ∙ asked.named)) ∙ stands_there asked first plan members tables names codes stands image;
      judged = runs holds.tables holds.within holds.read holds.verified;
      means = λ launch seen flat. subst (λ found. RunsBy found (linked_code members) launch seen) alone ((holds.runs launch seen).1 flat);
    }

-- what was written where the image stands
pub has_written : (answer : Answer) (written : FileMap) (image : WrittenFile) → ImageStands answer written image → HasWritten answer
has_written answer written image (not_run e) = subst HasWritten (sym e) tt
has_written answer written image (left_there has same) = has
