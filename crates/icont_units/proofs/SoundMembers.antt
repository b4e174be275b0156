-- What holds of each member of files that are loaded, whatever they are made of.
use Rattle.std.proofs.Common.{◌≡◌, ℕ, true, List, [], ◌∷◌, ◌++◌, Result, Ok, Err}
use Rattle.icn_host.specs.FileMaps.{FileMap}
use Rattle.icn_tree.specs.Tokens.{Scanned, tokens_of}
use Rattle.icn_tree.specs.declared.token.Token.{Token}
use Rattle.icn_tree.specs.Trees.{Declaration}
use Rattle.icn_unit.specs.PlainUnits.{UnitRead}
use Rattle.icn_unit.specs.UnitRules.{keeps_rules}
use Rattle.icn_answer.specs.declared.answer.Answer.{Answer}
use Rattle.icont_units.specs.Files.{CommandFile, source_name}
use Rattle.icont_units.specs.Generated.{GeneratedComes, generated_base, generated_lines}
use Rattle.icont_units.specs.Sources.{ScannedSource, source_read}
use Rattle.icont_units.specs.Translating.{TokensGive}
use Rattle.icont_units.specs.Units.{Member, FromSource, FromUcode, AreJudged, FileComes, FilesCome, Gather, Load}
use Rattle.icont_units.proofs.SomeLoading.{KeepRules, judged_read}

-- it holds of each
abbrev pub Each : (Member → Type 0) → List Member → Type 0
Each Holds [] = Unit {0}
Each Holds (member ∷ members) = Holds member × Each Holds members

abbrev OfOne : (Member → Type 0) → Result Member Answer → Type 0
OfOne Holds (Ok member) = Holds member
OfOne Holds (Err answer) = Unit {0}

abbrev pub OfAll : (Member → Type 0) → Result (List Member) Answer → Type 0
OfAll Holds (Ok members) = Each Holds members
OfAll Holds (Err answer) = Unit {0}

each_more : (Holds : Member → Type 0) (members : List Member) (member : Member) → Each Holds members → Holds member → Each Holds (members ++ member ∷ [])
each_more Holds [] member h k = (k, tt)
each_more Holds (first ∷ members) member h k = (h.0, each_more Holds members member h.1 k)

module _ (Holds : Member → Type 0) (files : FileMap)
    (source : (base : List ℕ) (scan : ScannedSource) (file : List Declaration) → source_read files (source_name base) ≡ Ok scan
    → TokensGive scan.tokens (Ok file) → Holds (FromSource base file))
    (ucode : (unit : UnitRead) → keeps_rules unit.procs unit.decls ≡ true → Holds (FromUcode unit)) (rules : KeepRules) where
  judged_holds : {base first second : List ℕ} {unit : UnitRead} → AreJudged base first second (Ok unit) → Holds (FromUcode unit)
  judged_holds {base} {first} {second} {unit} j = ucode unit (rules base first second unit (judged_read j))

  comes_hold : {file : CommandFile} (found : Result Member Answer) → FileComes files file found → OfOne Holds found
  comes_hold _ (FileComes.no_tokens base answer e) = tt
  comes_hold _ (FileComes.broken base scan rule place e x) = tt
  comes_hold _ (FileComes.translated base scan file e x) = source base scan file e x
  comes_hold _ (FileComes.not_there base name e) = tt
  comes_hold _ (FileComes.not_read base first second answer e j) = tt
  comes_hold _ (FileComes.read base first second unit e j) = judged_holds j

  come_hold : {named : List CommandFile} (found : Result (List Member) Answer) → FilesCome files named found → OfAll Holds found
  come_hold _ FilesCome.none = tt
  come_hold _ (FilesCome.one_more file others member members x y) = (comes_hold (Ok member) x, come_hold (Ok members) y)
  come_hold _ (FilesCome.first_refused file others answer x) = tt
  come_hold _ (FilesCome.later_refused file others member answer x y) = tt

  gather_holds : {members : List Member} {mentioned : List (List ℕ)} {found : Result (List Member) Answer} → Gather files members mentioned found
      → Each Holds members → OfAll Holds found
  gather_holds (Gather.all members) h = h
  gather_holds (Gather.known members base mentioned result k x) h = gather_holds x h
  gather_holds (Gather.absent members base mentioned result k a x) h = gather_holds x h
  gather_holds (Gather.refused members base mentioned first second answer k t j) h = tt
  gather_holds (Gather.read members base mentioned first second unit result k t j x) h =
      gather_holds x (each_more Holds members (FromUcode unit) h (judged_holds j))

  pub load_holds : {named : List CommandFile} (found : Result (List Member) Answer) → Load files named found → OfAll Holds found
  load_holds _ (Load.refused answer x) = tt
  load_holds _ (Load.gathered members result x y) = gather_holds y (come_hold (Ok members) x)

pub generated_holds : (Holds : Member → Type 0) (number : ℕ)
    → ((tokens : List Token) (file : List Declaration) → tokens_of (generated_lines number) ≡ Scanned tokens → TokensGive tokens (Ok file)
    → Holds (FromSource generated_base file))
    → (found : Result (List Member) Answer) → GeneratedComes number found → OfAll Holds found
generated_holds Holds number source _ (GeneratedComes.not_scanned rule file line e) = tt
generated_holds Holds number source _ (GeneratedComes.broken tokens rule place e x) = tt
generated_holds Holds number source _ (GeneratedComes.made tokens file e x) = (source tokens file e x, tt)
