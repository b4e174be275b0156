-- What is refused asks for no file to be written, and no job is a fault.
use Rattle.std.proofs.Common.{◌≡◌, inl, inr, ℕ, List, [], Option, None, Some, Result, Ok, Err, refl, sym, ap, subst}
use Rattle.std.specs.Option.{option_and_then}
use Rattle.std.proofs.lemmas.Option.{none-some, same_Some}
use Rattle.icn_host.specs.FileMaps.{FileMap}
use Rattle.icn_unit.specs.PlainUnits.{UnitRead}
use Rattle.icn_tree.specs.declared.rule.Rule.TheVariants as Rules
use Rattle.icn_code.specs.Codes.{Tables}
use Rattle.icn_link.specs.declared.fault.LinkFault.{LinkFault}
use Rattle.icn_link.specs.declared.fault.LinkFault.TheVariants.{K1, K2, K3, K4, NoMemory}
use Rattle.icn_link.specs.LinkFaults.{first_fault}
use Rattle.icn_verify.specs.ShapeLaws.{HaveOneFault, HaveNoFault}
use Rattle.icn_answer.specs.declared.answer.Answer.{Answer}
use Rattle.icn_answer.specs.declared.answer.Answer.TheVariants.{BadUcode, Command, Refused}
use Rattle.icn_answer.specs.Answers.{IsFault}
use Rattle.icn_answer.specs.Endings.{ending_held}
use Rattle.icn_answer.proofs.NoFaults.{no_fault, ran_no_fault, wrote_no_fault}
use Rattle.icont_words.specs.Words.{WordsReading, Task, Translate, Link, Generate, Asks, Faulty, ComeTo}
use Rattle.icont_units.specs.Files.{files_named, first_name, sources_in}
use Rattle.icont_units.specs.Units.{Member, FilesCome, link_answer, unit_named, units_of}
use Rattle.icont_units.proofs.EqualResults.{ok_injective, ok_is_not_err}
use Rattle.icont_units.proofs.NoFaults.{come_no_fault, generated_no_fault, load_no_fault}
use Rattle.icont_units.proofs.OneLoading.{one_come}
use Rattle.icont_top.specs.Answered.{IsAnswered}
use Rattle.icont_top.specs.Job.{Job, Plan, Plans, IsPlanned, AsksForUnits, RefusesCommand, IsJob}
use Rattle.icont_top.specs.Outcomes.{AreWritten, IsComplete}
use Rattle.icont_top.specs.Programs.{Links}
use Rattle.icont_top.proofs.OneJob.{OneReading, PlannedBy, one_links, one_plans, planned}

-- What is refused is not written

abbrev translated_names : WordsReading → List (List ℕ)
translated_names (Asks (Translate names)) = names
translated_names (Asks (Link names image run)) = []
translated_names (Asks (Generate number turns)) = []
translated_names (Faulty kind) = []

faulty_asks : {T : Type 0} (kind : ℕ) (task : Task) → ◌≡◌ {A = WordsReading} (Faulty kind) (Asks task) → T
faulty_asks kind task e = absurd cc

module _ (one : OneReading) (words : List (List ℕ)) (files : FileMap) where
  -- no program is planned where the words come to this
  not_planned : {T : Type 0} (plan : Plan) (result : Result (List Member) Answer) (reading : WordsReading) → ComeTo words reading
      → (PlannedBy files reading plan result → ⊥) → Plans words files plan result → T
  not_planned plan result reading e none x =
      let is = planned plan result x in
      absurd (none (subst (λ r. PlannedBy files r plan result) (one words is.reading reading is.comes e) is.by))

  same_units : (a b : Result (List Member) Answer) → AsksForUnits words files a → AsksForUnits words files b → a ≡ b
  same_units a b x y =
      let names : x.names ≡ y.names = ap translated_names (one words (Asks (Translate x.names)) (Asks (Translate y.names)) x.asks y.asks) in
      one_come files (sources_in (files_named y.names)) a b (subst (λ list. FilesCome files (sources_in (files_named list)) a) names x.come) y.come

  units_refused : {T : Type 0} (members : List Member) (answer : Answer) → AsksForUnits words files (Ok members) → RefusesCommand words files answer → T
  units_refused members _ x (RefusesCommand.wrong_words kind e) = faulty_asks kind _ (one words (Faulty kind) (Asks (Translate x.names)) e x.asks)
  units_refused members _ x (RefusesCommand.no_units answer y) = absurd (ok_is_not_err members answer (same_units (Ok members) (Err answer) x y))
  units_refused members _ x (RefusesCommand.no_members plan answer y) = not_planned plan (Err answer) (Asks (Translate x.names)) x.asks (λ by. by) y
  units_refused members _ x (RefusesCommand.no_program plan others answer y z) = not_planned plan (Ok others) (Asks (Translate x.names)) x.asks (λ by. by) y

  module _ (fault : HaveOneFault) (sound : HaveNoFault) where
    program_refused : {T : Type 0} (plan : Plan) (members : List Member) (tables : Tables) (answer : Answer) → IsPlanned words files plan members tables
        → RefusesCommand words files answer → T
    program_refused plan members tables _ x (RefusesCommand.wrong_words kind e) = not_planned plan (Ok members) (Faulty kind) e (λ by. by) x.plans
    program_refused plan members tables _ x (RefusesCommand.no_units answer y) =
        not_planned plan (Ok members) (Asks (Translate y.names)) y.asks (λ by. by) x.plans
    program_refused plan members tables _ x (RefusesCommand.no_members other answer y) =
        absurd (ok_is_not_err members answer ((one_plans one words files plan other (Ok members) (Err answer) x.plans y).results))
    program_refused plan members tables _ x (RefusesCommand.no_program other others answer y z) =
        let same : members ≡ others = ok_injective members others ((one_plans one words files plan other (Ok members) (Ok others) x.plans y).results) in
        absurd (ok_is_not_err tables answer (one_links fault sound others (Ok tables) (Err answer) (subst (λ list. Links list (Ok tables)) same x.links) z))

    pub complete_of : (answer : Answer) → IsAnswered words files answer → IsComplete words files answer
    complete_of _ (IsAnswered.fault answer f) written w = inl f
    complete_of _ (IsAnswered.refused answer x) _ (AreWritten.ucode members y) = units_refused members answer y x
    complete_of _ (IsAnswered.refused answer x) _ (AreWritten.image plan members tables y) = program_refused plan members tables answer y x
    complete_of _ (IsAnswered.translated members x) written w = inr tt
    complete_of _ (IsAnswered.wrote plan members tables x e) written w = inr tt
    complete_of _ (IsAnswered.ran plan members tables run ending x e) written w = inr tt

-- No job is a fault

told_none : (units : List UnitRead) (fault : Option LinkFault) (answer : Answer) → option_and_then (link_answer units) fault ≡ Some answer → IsFault answer → ⊥
told_none units None answer e f = none-some answer e
told_none units (Some (K1 unit name first second)) answer e f =
    no_fault (Refused (unit_named units unit) 0 Rules.K1) refl (subst IsFault (sym (same_Some (Refused (unit_named units unit) 0 Rules.K1) answer e)) f)
told_none units (Some (K2 unit name)) answer e f =
    no_fault (Refused (unit_named units unit) 0 Rules.K2) refl (subst IsFault (sym (same_Some (Refused (unit_named units unit) 0 Rules.K2) answer e)) f)
told_none units (Some (K3 count)) answer e f =
    no_fault (Refused (unit_named units 0) 0 Rules.K3) refl (subst IsFault (sym (same_Some (Refused (unit_named units 0) 0 Rules.K3) answer e)) f)
told_none units (Some (K4 unit name)) answer e f =
    no_fault (Refused (unit_named units unit) 0 Rules.K4) refl (subst IsFault (sym (same_Some (Refused (unit_named units unit) 0 Rules.K4) answer e)) f)
told_none units (Some NoMemory) answer e f = none-some answer e

-- what refuses members is no fault
abbrev NoFault : Result Tables Answer → Type 0
NoFault (Ok tables) = Unit {0}
NoFault (Err answer) = IsFault answer → ⊥

links_none : {members : List Member} (result : Result Tables Answer) → Links members result → NoFault result
links_none {members} _ (Links.not_linked answer e) = told_none (units_of members) (first_fault (units_of members)) answer e
links_none _ (Links.unverified base rule number place n e x) = no_fault (BadUcode (first_name base) rule) refl
links_none _ (Links.is_program n v) = tt

plans_none : {words : List (List ℕ)} {files : FileMap} (plan : Plan) (answer : Answer) → Plans words files plan (Err answer) → IsFault answer → ⊥
plans_none _ answer (Plans.of_files names image run _ e x) = load_no_fault x
plans_none _ answer (Plans.of_number number turns _ e x) = generated_no_fault x

refuses_none : {words : List (List ℕ)} {files : FileMap} (answer : Answer) → RefusesCommand words files answer → IsFault answer → ⊥
refuses_none _ (RefusesCommand.wrong_words kind e) = no_fault (Command kind) refl
refuses_none _ (RefusesCommand.no_units answer x) = come_no_fault x.come
refuses_none _ (RefusesCommand.no_members plan answer x) = plans_none plan answer x
refuses_none _ (RefusesCommand.no_program plan members answer x y) = links_none (Err answer) y

pub no_fault_asked : (words : List (List ℕ)) (files : FileMap) (left : List ℕ) (job : Job) → IsJob words files left job → IsFault job.answer → ⊥
no_fault_asked words files left _ (IsJob.refuses answer x) f = refuses_none answer x f
no_fault_asked words files left _ (IsJob.translates members x) f = wrote_no_fault f
no_fault_asked words files left _ (IsJob.writes plan members tables x e) f = wrote_no_fault f
no_fault_asked words files left _ (IsJob.runs plan members tables run seen x e b) f = ran_no_fault (ending_held seen.ending) f
