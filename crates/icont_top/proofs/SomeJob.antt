-- Words, files and input ask for a job: what is named and what is linked comes to members, these are linked or break a rule, and what is
-- linked runs to an end.
use Rattle.std.proofs.Common.{◌≡◌, inl, inr, ℕ, zero, suc, ◌<◌, Bool, true, List, [], ◌∷◌, length, Option, None, Some, Result, Ok, Err, refl, sym, ap, subst, arith}
use Rattle.std.specs.Prelude.{All}
use Rattle.std.specs.List.{list_all}
use Rattle.std.specs.Option.{option_and_then}
use Rattle.std.proofs.lemmas.Option.{none-some}
use Rattle.icn_host.specs.FileMaps.{FileMap}
use Rattle.icn_tree.specs.Trees.{Declaration}
use Rattle.icn_unit.specs.PlainUnits.{UnitRead}
use Rattle.icn_translate.specs.FileUnits.{translated_unit}
use Rattle.icn_code.specs.Codes.{Tables}
use Rattle.icn_code.specs.Rules.{keeps_rules}
use Rattle.icn_defs.specs.Running.{Launch, Observation}
use Rattle.icn_link.specs.declared.fault.LinkFault.{LinkFault}
use Rattle.icn_link.specs.declared.fault.LinkFault.TheVariants.{K1, K2, K3, K4, NoMemory}
use Rattle.icn_link.specs.Joined.{joined_code, named_procs, names_all}
use Rattle.icn_link.specs.LinkFaults.{first_fault}
use Rattle.icn_prune.specs.KeptCode.{MayBeKept, kept_of}
use Rattle.icn_prune.specs.PrunedCode.{pruned_tables}
use Rattle.icn_verify.specs.Faults.{IsVerified}
use Rattle.icn_verify.specs.ShapeLaws.{IsSoundOrBroken, AreSoundOrBroken, HaveNoFault}
use Rattle.law_safe.specs.Ended.{AreOver}
use Rattle.law_simulation.specs.Faultless.{IsFaultless}
use Rattle.law_simulation.specs.JoinedFiles.{IsJoined}
use Rattle.law_simulation.specs.FirstLaw.{IsLinked, FilesMean}
use Rattle.law_link.specs.TranslatedUnits.{translated_units}
use Rattle.law_link.proofs.PrunedFiles.{named_below}
use Rattle.icn_answer.specs.declared.answer.Answer.{Answer}
use Rattle.icont_words.specs.Words.{WordsReading, Run, Translate, Link, Generate, Asks, Faulty, ComeTo}
use Rattle.icont_units.specs.Files.{files_named, sources_in}
use Rattle.icont_units.specs.Generated.{GeneratedComes}
use Rattle.icont_units.specs.Units.{Member, FromSource, FromUcode, FilesCome, Load, units_of, link_answer}
use Rattle.icont_units.proofs.ShortTexts.{and_intro}
use Rattle.icont_units.proofs.SomeLoading.{AreSpelled, KeepRules, some_come, some_generated, some_load}
use Rattle.icont_units.proofs.SoundMembers.{Each, OfAll}
use Rattle.icont_top.specs.Job.{Job, Plan, Plans, IsPlanned, RefusesCommand, IsJob, run_launch, image_file, with_image}
use Rattle.icont_top.specs.Programs.{Links, kept_flags, linked_code, whole_code, first_ucode, files_of, with_file, RunsBy, Behaves}
use Rattle.icont_top.proofs.LinkingRules.{faults_are_rules}

-- Members that are sources alone

-- the units are the translations of these files, which break no rule
record OfSources (members : List Member) (files : List (List Declaration)) : Type 0 where
  pub names : List (List ℕ)
  pub few : length names ≡ length files
  pub units : units_of members ≡ translated_units names files
  pub faultless : All IsFaultless files

abbrev OfSourcesBy : List Member → Option (List (List Declaration)) → Type 0
OfSourcesBy members (Some files) = OfSources members files
OfSourcesBy members None = Unit {0}

none_faultless : All IsFaultless []
none_faultless i d l = absurd (omega (arith, l))

one_faultless : (file : List Declaration) (files : List (List Declaration)) → IsFaultless file → All IsFaultless files → All IsFaultless (file ∷ files)
one_faultless file files h k zero d l = h
one_faultless file files h k (suc i) d l = k i d (omega (arith, l))

-- a unit that the linker can join, and a source that breaks no rule
abbrev pub IsSound : (UnitRead → Bool) → Member → Type 0
IsSound is_joinable (FromSource base file) = IsFaultless file × (is_joinable (translated_unit base file) ≡ true)
IsSound is_joinable (FromUcode unit) = is_joinable unit ≡ true

-- what the laws of the crates below say
pub record Laws (is_joinable : UnitRead → Bool) : Type 0 where
  pub rules : KeepRules
  pub spelled : AreSpelled
  pub kept : (units : List UnitRead) → list_all is_joinable units ≡ true → first_fault units ≡ None → keeps_rules (joined_code units) ≡ true
  pub translations : (names : List (List ℕ)) (files : List (List Declaration)) → length names ≡ length files → All IsFaultless files
      → IsJoined files (joined_code (translated_units names files))
  pub verified : (files : List (List Declaration)) (tables : Tables) → IsLinked files tables → IsVerified tables
  pub least : (tables : Tables) (named : List ℕ) (all : Bool) → keeps_rules tables ≡ true → All (λ number. number < length tables.procs) named
      → MayBeKept tables (kept_of tables named all)
  pub pruned_rules : (tables : Tables) (keep : List Bool) → keeps_rules tables ≡ true → MayBeKept tables keep → keeps_rules (pruned_tables keep tables) ≡ true
  pub pruned_verified : (tables : Tables) (keep : List Bool) → MayBeKept tables keep → IsVerified tables → IsVerified (pruned_tables keep tables)
  pub no_fault : HaveNoFault
  pub judged : AreSoundOrBroken
  pub means : (files : List (List Declaration)) (tables : Tables) (launch : Launch) → IsLinked files tables → keeps_rules tables ≡ true
      → (seen : Observation) × FilesMean files launch seen
  pub ends : (tables : Tables) → keeps_rules tables ≡ true → IsVerified tables → AreOver tables

module _ (is_joinable : UnitRead → Bool) (laws : Laws is_joinable) where
  with_source : (base : List ℕ) (file : List Declaration) (members : List Member) → IsFaultless file → (found : Option (List (List Declaration)))
      → OfSourcesBy members found → OfSourcesBy (FromSource base file ∷ members) (with_file file found)
  with_source base file members h None x = tt
  with_source base file members h (Some files) x = record {
    names = base ∷ x.names;
    few = ap suc x.few;
    units = ap (λ units. translated_unit base file ∷ units) x.units;
    faultless = one_faultless file files h x.faultless;
  }

  of_sources : (members : List Member) → Each (IsSound is_joinable) members → OfSourcesBy members (files_of members)
  of_sources [] h = record { names = []; few = refl; units = refl; faultless = none_faultless }
  of_sources (FromSource base file ∷ members) h = with_source base file members h.0.0 (files_of members) (of_sources members h.1)
  of_sources (FromUcode unit ∷ members) h = tt

  -- where all members are sources their code with all procedures is that of their files
  sources_linked : (members : List Member) (files : List (List Declaration)) → Each (IsSound is_joinable) members → files_of members ≡ Some files
      → IsLinked files (whole_code members)
  sources_linked members files h e =
      let sources : OfSources members files = subst (OfSourcesBy members) e (of_sources members h) in
      record {
        faultless = sources.faultless;
        code = subst (λ units. IsJoined files (joined_code units)) (sym sources.units) (laws.translations sources.names files sources.few sources.faultless);
      }

  all_sources : (members : List Member) → first_ucode members ≡ None → (files : List (List Declaration)) × (files_of members ≡ Some files)
  all_sources [] e = ([], refl)
  all_sources (FromSource base file ∷ members) e = let rest = all_sources members e in (file ∷ rest.0, ap (with_file file) rest.1)
  all_sources (FromUcode unit ∷ members) e = absurd (none-some unit.name (sym e))

  all_joinable : (members : List Member) → Each (IsSound is_joinable) members → list_all is_joinable (units_of members) ≡ true
  all_joinable [] h = refl
  all_joinable (FromSource base file ∷ members) h =
      and_intro (is_joinable (translated_unit base file)) (list_all is_joinable (units_of members)) h.0.1 (all_joinable members h.1)
  all_joinable (FromUcode unit ∷ members) h = and_intro (is_joinable unit) (list_all is_joinable (units_of members)) h.0 (all_joinable members h.1)

  -- What members are linked to

  pub data Linking (members : List Member) : Type 0 where
    breaks : (answer : Answer) → Links members (Err answer) → Linking members
    runs_as : first_fault (units_of members) ≡ None → keeps_rules (whole_code members) ≡ true → IsVerified (linked_code members) → Linking members

  by_fault : (members : List Member) (fault : LinkFault) → first_fault (units_of members) ≡ Some fault → Linking members
  by_fault members (K1 unit name first second) e = breaks _ (Links.not_linked _ (ap (option_and_then (link_answer (units_of members))) e))
  by_fault members (K2 unit name) e = breaks _ (Links.not_linked _ (ap (option_and_then (link_answer (units_of members))) e))
  by_fault members (K3 count) e = breaks _ (Links.not_linked _ (ap (option_and_then (link_answer (units_of members))) e))
  by_fault members (K4 unit name) e = breaks _ (Links.not_linked _ (ap (option_and_then (link_answer (units_of members))) e))
  by_fault members NoMemory e = absurd (faults_are_rules (units_of members) e)

  may_be_kept : (members : List Member) → keeps_rules (whole_code members) ≡ true → MayBeKept (whole_code members) (kept_flags members)
  may_be_kept members rules =
      laws.least (whole_code members) (named_procs (units_of members)) (names_all (units_of members)) rules (named_below (units_of members))

  -- what is pruned keeps the rules too
  linked_keeps : (members : List Member) → keeps_rules (whole_code members) ≡ true → keeps_rules (linked_code members) ≡ true
  linked_keeps members rules = laws.pruned_rules (whole_code members) (kept_flags members) rules (may_be_kept members rules)

  module _ (members : List Member) (sound : Each (IsSound is_joinable) members) (fits : first_fault (units_of members) ≡ None) where
    keeps : keeps_rules (whole_code members) ≡ true
    keeps = laws.kept (units_of members) (all_joinable members sound) fits

    by_sources : first_ucode members ≡ None → Linking members
    by_sources e =
        let sources = all_sources members e in
        let whole = laws.verified sources.0 (whole_code members) (sources_linked members sources.0 sound sources.1) in
        runs_as fits keeps (laws.pruned_verified (whole_code members) (kept_flags members) (may_be_kept members keeps) whole)

    by_ucode : (first : Option (List ℕ)) → first_ucode members ≡ first → IsSoundOrBroken (linked_code members).procs → Linking members
    by_ucode first e (inl verified) = runs_as fits keeps verified
    by_ucode None e (inr broken) = by_sources e
    by_ucode (Some base) e (inr broken) = breaks _ (Links.unverified base broken.0 broken.1 broken.2 fits e broken.3)

  by_first : (members : List Member) → Each (IsSound is_joinable) members → (fault : Option LinkFault) → first_fault (units_of members) ≡ fault
      → Linking members
  by_first members sound (Some fault) e = by_fault members fault e
  by_first members sound None e = by_ucode members sound e (first_ucode members) refl (laws.judged (linked_code members) (linked_keeps members (keeps members sound e)))

  some_links : (members : List Member) → Each (IsSound is_joinable) members → Linking members
  some_links members sound = by_first members sound (first_fault (units_of members)) refl

  -- Runs

  by_files : (members : List Member) (launch : Launch) → Each (IsSound is_joinable) members → keeps_rules (whole_code members) ≡ true
      → IsVerified (linked_code members)
      → (files : Option (List (List Declaration))) → files_of members ≡ files → (seen : Observation) × RunsBy files (linked_code members) launch seen
  by_files members launch sound rules verified (Some files) e = laws.means files (whole_code members) launch (sources_linked members files sound e) rules
  by_files members launch sound rules verified None e = (laws.ends (linked_code members) (linked_keeps members rules) verified).flat [] launch

  some_behaves : (members : List Member) (launch : Launch) → Each (IsSound is_joinable) members → keeps_rules (whole_code members) ≡ true
      → IsVerified (linked_code members) → (seen : Observation) × Behaves members launch seen
  some_behaves members launch sound rules verified = by_files members launch sound rules verified (files_of members) refl

  -- Jobs

  module _ (words : List (List ℕ)) (files : FileMap) (left : List ℕ) where
    with_run : (plan : Plan) (members : List Member) → Each (IsSound is_joinable) members → keeps_rules (whole_code members) ≡ true
        → IsVerified (linked_code members)
        → IsPlanned words files plan members (linked_code members) → (run : Option Run) → plan.run ≡ run → (job : Job) × IsJob words files left job
    with_run plan members sound rules verified is None e = (_, IsJob.writes plan members (linked_code members) is e)
    with_run plan members sound rules verified is (Some run) e =
        let found = with_image (image_file plan.image members (linked_code members)) files in
        let seen = some_behaves members (run_launch run left found) sound rules verified in
        (_, IsJob.runs plan members (linked_code members) run seen.0 is e seen.1)

    with_linking : (plan : Plan) (members : List Member) → Each (IsSound is_joinable) members → Plans words files plan (Ok members) → Linking members
        → (job : Job) × IsJob words files left job
    with_linking plan members sound x (breaks answer y) = (_, IsJob.refuses answer (RefusesCommand.no_program plan members answer x y))
    with_linking plan members sound x (runs_as fits rules verified) =
        with_run plan members sound rules verified (record { plans = x; links = Links.is_program fits verified }) plan.run refl

    with_members : (plan : Plan) (result : Result (List Member) Answer) → Plans words files plan result → OfAll (IsSound is_joinable) result
        → (job : Job) × IsJob words files left job
    with_members plan (Err answer) x sound = (_, IsJob.refuses answer (RefusesCommand.no_members plan answer x))
    with_members plan (Ok members) x sound = with_linking plan members sound x (some_links members sound)

    with_units : (names : List (List ℕ)) (result : Result (List Member) Answer) → ComeTo words (Asks (Translate names))
        → FilesCome files (sources_in (files_named names)) result → (job : Job) × IsJob words files left job
    with_units names (Err answer) e x = (_, IsJob.refuses answer (RefusesCommand.no_units answer (record { names = names; asks = e; come = x })))
    with_units names (Ok members) e x = (_, IsJob.translates members (record { names = names; asks = e; come = x }))

    -- what is loaded, and the lines of a number, are sound
    module _ (loads : (names : List (List ℕ)) (result : Result (List Member) Answer) → Load files (files_named names) result
        → OfAll (IsSound is_joinable) result)
        (makes : (number turns : ℕ) (result : Result (List Member) Answer) → ComeTo words (Asks (Generate number turns)) → GeneratedComes number result
        → OfAll (IsSound is_joinable) result) where
      pub by_reading : (reading : WordsReading) → ComeTo words reading → (job : Job) × IsJob words files left job
      by_reading (Faulty kind) e = (_, IsJob.refuses _ (RefusesCommand.wrong_words kind e))
      by_reading (Asks (Translate names)) e = let some = some_come files (sources_in (files_named names)) in with_units names some.0 e some.1
      by_reading (Asks (Link names image run)) e =
          let some = some_load laws.rules laws.spelled files (files_named names) in
          with_members _ some.0 (Plans.of_files names image run some.0 e some.1) (loads names some.0 some.1)
      by_reading (Asks (Generate number turns)) e =
          let some = some_generated number in
          with_members _ some.0 (Plans.of_number number turns some.0 e some.1) (makes number turns some.0 e some.1)
