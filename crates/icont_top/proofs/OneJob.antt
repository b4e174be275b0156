-- Words, files and input ask for one job alone.
use Rattle.std.proofs.Common.{◌≡◌, ℕ, List, [], ◌∷◌, Option, None, Some, Result, Ok, Err, refl, sym, ap, subst, ◌∙◌}
use Rattle.std.specs.Option.{option_and_then}
use Rattle.std.proofs.lemmas.Option.{none-some, same_Some}
use Rattle.icn_host.specs.FileMaps.{FileMap}
use Rattle.icn_tree.specs.declared.rule.Rule.{Rule}
use Rattle.icn_tree.specs.Trees.{Declaration}
use Rattle.icn_code.specs.Codes.{Tables}
use Rattle.icn_defs.specs.Running.{Launch, Observation}
use Rattle.icn_link.specs.LinkFaults.{first_fault}
use Rattle.icn_meaning.specs.Meaning.{Means}
use Rattle.icn_meaning.specs.Program.{Program, program}
use Rattle.icn_run.proofs.OneObservation.{flat_once}
use Rattle.icn_verify.specs.Faults.{IsFirstFault, IsVerified}
use Rattle.icn_verify.specs.ShapeLaws.{HaveOneFault, HaveNoFault}
use Rattle.icn_answer.specs.declared.answer.Answer.{Answer}
use Rattle.icn_answer.specs.declared.answer.Answer.TheVariants.{BadUcode, Command}
use Rattle.icont_words.specs.Words.{WordsReading, Run, Translate, Link, Generate, Asks, Faulty, ComeTo}
use Rattle.icont_units.specs.Files.{files_named, first_name, sources_in}
use Rattle.icont_units.specs.Generated.{GeneratedComes}
use Rattle.icont_units.specs.Units.{Member, FilesCome, Load, units_of, link_answer}
use Rattle.icont_units.proofs.OneLoading.{one_come, one_generated, one_load}
use Rattle.icont_top.specs.Job.{Job, Plan, Plans, IsPlanned, RefusesCommand, IsJob, refusal, files_job, run_job, image_file, ucode_files, run_launch, behind, with_image}
use Rattle.icont_top.specs.Programs.{Links, linked_code, link_refusal, first_ucode, files_of, RunsBy, Behaves}

-- What units come to

abbrev pub HasOne : Type 0
HasOne = (program : Program) (launch : Launch) (a b : Observation) → Means program launch a → Means program launch b → a ≡ b

-- no rule of linking is broken where the linker finds no fault
none_refused : {T : Type 0} (members : List Member) (answer : Answer) → first_fault (units_of members) ≡ None → link_refusal members ≡ Some answer → T
none_refused members answer n e = absurd (none-some answer (sym (ap (option_and_then (link_answer (units_of members))) n) ∙ e))

module _ (one : HaveOneFault) (none : HaveNoFault) (members : List Member) where
  same_unverified : (base other : List ℕ) (rule rule' : Rule) (number place number' place' : ℕ) → first_ucode members ≡ Some base
      → first_ucode members ≡ Some other → IsFirstFault (linked_code members).procs rule number place
      → IsFirstFault (linked_code members).procs rule' number' place'
      → ◌≡◌ {A = Result Tables Answer} (Err (BadUcode (first_name base) rule)) (Err (BadUcode (first_name other) rule'))
  same_unverified base other rule rule' number place number' place' e f x y =
      let bases : base ≡ other = same_Some base other (sym e ∙ f) in
      let rules : rule ≡ rule' = (one (linked_code members).procs rule number place rule' number' place' x y).rules in
      ap (λ name. Err (BadUcode (first_name name) rule)) bases ∙ ap (λ broken. Err (BadUcode (first_name other) broken)) rules

  sound_fault : {T : Type 0} (rule : Rule) (number place : ℕ) → IsFirstFault (linked_code members).procs rule number place → IsVerified (linked_code members)
      → T
  sound_fault rule number place x y = absurd (none (linked_code members).procs rule number place y x)

  pub one_links : (a b : Result Tables Answer) → Links members a → Links members b → a ≡ b
  one_links _ _ (Links.not_linked a e) (Links.not_linked b f) = ap (λ answer. Err answer) (same_Some a b (sym e ∙ f))
  one_links _ _ (Links.not_linked a e) (Links.unverified base rule number place n f x) = none_refused members a n e
  one_links _ _ (Links.not_linked a e) (Links.is_program n x) = none_refused members a n e
  one_links _ _ (Links.unverified base rule number place n f x) (Links.not_linked a e) = none_refused members a n e
  one_links _ _ (Links.unverified base rule number place n e x) (Links.unverified other rule' number' place' m f y) =
      same_unverified base other rule rule' number place number' place' e f x y
  one_links _ _ (Links.unverified base rule number place n e x) (Links.is_program m y) = sound_fault rule number place x y
  one_links _ _ (Links.is_program n x) (Links.not_linked a e) = none_refused members a n e
  one_links _ _ (Links.is_program n x) (Links.unverified other rule number place m f y) = sound_fault rule number place y x
  one_links _ _ (Links.is_program n x) (Links.is_program m y) = refl

one_run : HasOne → (files : Option (List (List Declaration))) (tables : Tables) (launch : Launch) (a b : Observation) → RunsBy files tables launch a
    → RunsBy files tables launch b → a ≡ b
one_run one (Some files) tables launch a b x y = one (program files) launch a b x y
one_run one None tables launch a b x y = flat_once tables launch a b x y

pub one_behaves : HasOne → (members : List Member) (launch : Launch) (a b : Observation) → Behaves members launch a → Behaves members launch b → a ≡ b
one_behaves one members launch a b x y = one_run one (files_of members) (linked_code members) launch a b x y

-- What words ask for

abbrev pub OneReading : Type 0
OneReading = (words : List (List ℕ)) (a b : WordsReading) → ComeTo words a → ComeTo words b → a ≡ b

abbrev pub plan_of_files : Option (List ℕ) → Option Run → Plan
plan_of_files image run = record { image = image; run = run; number = None }

abbrev pub plan_of_number : ℕ → ℕ → Plan
plan_of_number number turns = record { image = None; run = Some (record { arguments = []; turns = turns }); number = Some number }

-- what is planned where the words come to this
abbrev pub PlannedBy : FileMap → WordsReading → Plan → Result (List Member) Answer → Type 0
PlannedBy files (Asks (Link names image run)) plan result = (plan ≡ plan_of_files image run) × Load files (files_named names) result
PlannedBy files (Asks (Generate number turns)) plan result = (plan ≡ plan_of_number number turns) × GeneratedComes number result
PlannedBy files (Asks (Translate names)) plan result = ⊥
PlannedBy files (Faulty kind) plan result = ⊥

pub record Planned (words : List (List ℕ)) (files : FileMap) (plan : Plan) (result : Result (List Member) Answer) : Type 0 where
  pub reading : WordsReading
  pub comes : ComeTo words reading
  pub by : PlannedBy files reading plan result

pub planned : {words : List (List ℕ)} {files : FileMap} (plan : Plan) (result : Result (List Member) Answer) → Plans words files plan result
    → Planned words files plan result
planned _ _ (Plans.of_files names image run result e x) = record { reading = Asks (Link names image run); comes = e; by = (refl, x) }
planned _ _ (Plans.of_number number turns result e x) = record { reading = Asks (Generate number turns); comes = e; by = (refl, x) }

-- the same plan with the same result
pub record SamePlan (plan other : Plan) (a b : Result (List Member) Answer) : Type 0 where
  pub plans : plan ≡ other
  pub results : a ≡ b

same_plan : (files : FileMap) (reading : WordsReading) (plan other : Plan) (a b : Result (List Member) Answer) → PlannedBy files reading plan a
    → PlannedBy files reading other b → SamePlan plan other a b
same_plan files (Asks (Link names image run)) plan other a b x y =
    record { plans = x.0 ∙ sym y.0; results = one_load files (files_named names) a b x.1 y.1 }
same_plan files (Asks (Generate number turns)) plan other a b x y = record { plans = x.0 ∙ sym y.0; results = one_generated number a b x.1 y.1 }
same_plan files (Asks (Translate names)) plan other a b x y = absurd x
same_plan files (Faulty kind) plan other a b x y = absurd x

pub one_plans : OneReading → (words : List (List ℕ)) (files : FileMap) (plan other : Plan) (a b : Result (List Member) Answer) → Plans words files plan a
    → Plans words files other b → SamePlan plan other a b
one_plans one words files plan other a b x y =
    let p = planned plan a x in
    let q = planned other b y in
    same_plan files q.reading plan other a b (subst (λ reading. PlannedBy files reading plan a) (one words p.reading q.reading p.comes q.comes) p.by) q.by

-- Jobs

-- what the job is where units came to this
abbrev of_units : List ℕ → Result (List Member) Answer → Job
of_units left (Err answer) = refusal left answer
of_units left (Ok members) = files_job (ucode_files members) left

-- where the code came to this, and a run was asked for so
abbrev OfRun : FileMap → List ℕ → Plan → Option Run → List Member → Tables → Job → Type 0
OfRun files left plan None members tables job = job ≡ files_job (image_file plan.image members tables ∷ []) left
OfRun files left plan (Some run) members tables job = (seen : Observation)
    × (Behaves members (run_launch run left (with_image (image_file plan.image members tables) files)) seen)
    × (job ≡ run_job (image_file plan.image members tables) seen (behind plan.number seen.ending))

abbrev OfCode : FileMap → List ℕ → Plan → List Member → Result Tables Answer → Job → Type 0
OfCode files left plan members (Err answer) job = job ≡ refusal left answer
OfCode files left plan members (Ok tables) job = OfRun files left plan plan.run members tables job

abbrev OfMembers : FileMap → List ℕ → Plan → Result (List Member) Answer → Job → Type 0
OfMembers files left plan (Err answer) job = job ≡ refusal left answer
OfMembers files left plan (Ok members) job = (code : Result Tables Answer) × (Links members code) × OfCode files left plan members code job

-- with the members that are there so
abbrev OfPlan : FileMap → List ℕ → Plan → (Result (List Member) Answer → Type 0) → Job → Type 0
OfPlan files left plan AreThere job = (result : Result (List Member) Answer) × (AreThere result) × OfMembers files left plan result job

abbrev pub JobBy : FileMap → List ℕ → WordsReading → Job → Type 0
JobBy files left (Faulty kind) job = job ≡ refusal left (Command kind)
JobBy files left (Asks (Translate names)) job =
    (result : Result (List Member) Answer) × (FilesCome files (sources_in (files_named names)) result) × (job ≡ of_units left result)
JobBy files left (Asks (Link names image run)) job = OfPlan files left (plan_of_files image run) (Load files (files_named names)) job
JobBy files left (Asks (Generate number turns)) job = OfPlan files left (plan_of_number number turns) (GeneratedComes number) job

record AsksJob (words : List (List ℕ)) (files : FileMap) (left : List ℕ) (job : Job) : Type 0 where
  pub reading : WordsReading
  pub comes : ComeTo words reading
  pub by : JobBy files left reading job

module _ (words : List (List ℕ)) (files : FileMap) (left : List ℕ) where
  of_plan : (plan : Plan) (result : Result (List Member) Answer) (job : Job) → Plans words files plan result → OfMembers files left plan result job
      → AsksJob words files left job
  of_plan _ _ job (Plans.of_files names image run result e x) by = record { reading = Asks (Link names image run); comes = e; by = (result, x, by) }
  of_plan _ _ job (Plans.of_number number turns result e x) by = record { reading = Asks (Generate number turns); comes = e; by = (result, x, by) }

  of_refusal : (answer : Answer) → RefusesCommand words files answer → AsksJob words files left (refusal left answer)
  of_refusal _ (RefusesCommand.wrong_words kind e) = record { reading = Faulty kind; comes = e; by = refl }
  of_refusal _ (RefusesCommand.no_units answer x) = record { reading = Asks (Translate x.names); comes = x.asks; by = (Err answer, x.come, refl) }
  of_refusal _ (RefusesCommand.no_members plan answer x) = of_plan plan (Err answer) (refusal left answer) x refl
  of_refusal _ (RefusesCommand.no_program plan members answer x y) = of_plan plan (Ok members) (refusal left answer) x (Err answer, y, refl)

  with_run : (plan : Plan) (members : List Member) (tables : Tables) (job : Job) (run : Option Run) → IsPlanned words files plan members tables
      → plan.run ≡ run → OfRun files left plan run members tables job → AsksJob words files left job
  with_run plan members tables job run x e by =
      of_plan plan (Ok members) job x.plans (Ok tables, x.links, subst (λ r. OfRun files left plan r members tables job) (sym e) by)

  asks_job : (job : Job) → IsJob words files left job → AsksJob words files left job
  asks_job _ (IsJob.refuses answer x) = of_refusal answer x
  asks_job _ (IsJob.translates members x) = record { reading = Asks (Translate x.names); comes = x.asks; by = (Ok members, x.come, refl) }
  asks_job _ (IsJob.writes plan members tables x e) = with_run plan members tables _ None x e refl
  asks_job _ (IsJob.runs plan members tables run seen x e b) = with_run plan members tables _ (Some run) x e (seen, b, refl)

module _ (observed : HasOne) (fault : HaveOneFault) (sound : HaveNoFault) (files : FileMap) (left : List ℕ) where
  same_run : (plan : Plan) (run : Option Run) (members : List Member) (tables : Tables) (a b : Job) → OfRun files left plan run members tables a
      → OfRun files left plan run members tables b → a ≡ b
  same_run plan None members tables a b x y = x ∙ sym y
  same_run plan (Some run) members tables a b x y =
      x.2 ∙ (ap (λ (seen : Observation). run_job (image_file plan.image members tables) seen (behind plan.number seen.ending))
      (one_behaves observed members (run_launch run left (with_image (image_file plan.image members tables) files)) x.0 y.0 x.1 y.1) ∙ sym y.2)

  same_code : (plan : Plan) (members : List Member) (code : Result Tables Answer) (a b : Job) → OfCode files left plan members code a
      → OfCode files left plan members code b → a ≡ b
  same_code plan members (Err answer) a b x y = x ∙ sym y
  same_code plan members (Ok tables) a b x y = same_run plan plan.run members tables a b x y

  same_members : (plan : Plan) (result : Result (List Member) Answer) (a b : Job) → OfMembers files left plan result a → OfMembers files left plan result b
      → a ≡ b
  same_members plan (Err answer) a b x y = x ∙ sym y
  same_members plan (Ok members) a b x y =
      same_code plan members y.0 a b (subst (λ code. OfCode files left plan members code a) (one_links fault sound members x.0 y.0 x.1 y.1) x.2) y.2

  same_planned : (plan : Plan) (AreThere : Result (List Member) Answer → Type 0)
      → ((p q : Result (List Member) Answer) → AreThere p → AreThere q → p ≡ q) → (a b : Job) → OfPlan files left plan AreThere a
      → OfPlan files left plan AreThere b → a ≡ b
  same_planned plan AreThere one a b x y =
      same_members plan y.0 a b (subst (λ result. OfMembers files left plan result a) (one x.0 y.0 x.1 y.1) x.2) y.2

  same_job : (reading : WordsReading) (a b : Job) → JobBy files left reading a → JobBy files left reading b → a ≡ b
  same_job (Faulty kind) a b x y = x ∙ sym y
  same_job (Asks (Translate names)) a b x y =
      x.2 ∙ (ap (of_units left) (one_come files (sources_in (files_named names)) x.0 y.0 x.1 y.1) ∙ sym y.2)
  same_job (Asks (Link names image run)) a b x y =
      same_planned (plan_of_files image run) (Load files (files_named names)) (one_load files (files_named names)) a b x y
  same_job (Asks (Generate number turns)) a b x y = same_planned (plan_of_number number turns) (GeneratedComes number) (one_generated number) a b x y

pub one_job : OneReading → HasOne → HaveOneFault → HaveNoFault → (words : List (List ℕ)) (files : FileMap) (left : List ℕ) (a b : Job)
    → IsJob words files left a → IsJob words files left b → a ≡ b
one_job one observed fault sound words files left a b x y =
    let p = asks_job words files left a x in
    let q = asks_job words files left b y in
    same_job observed fault sound files left q.reading a b
    (subst (λ reading. JobBy files left reading a) (one words p.reading q.reading p.comes q.comes) p.by) q.by
