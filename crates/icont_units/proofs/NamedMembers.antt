-- The members of named files, one more at a time.
use Rattle.std.proofs.Common.{◌≡◌, ◌<◌, ◌⊎◌, inl, inr, ℕ, ◌+◌, suc, List, [], ◌∷◌, ◌++◌, length, drop, get_or, Option, None, Some, Result, Ok, Err, OnOk, IfErr, refl, sym, ap, subst, ◌∙◌, append_assoc, append-nil}
use Rattle.std.specs.Prelude.{unwrap_or, IsErrAnd}
use Rattle.std.specs.Option.{option_map}
use Rattle.std.proofs.lemmas.List.{drop_more}
use Rattle.std.proofs.lemmas.List.Elements.{All-push}
use Rattle.icn_host.specs.FileMaps.{FileMap}
use Rattle.icn_tree.specs.Trees.{Declaration}
use Rattle.icn_tree.specs.TreeOf.{declarations_of}
use Rattle.icn_decls.specs.declared.checked.Checked.{Checked}
use Rattle.icn_unit.specs.PlainUnits.{UnitRead}
use Rattle.icn_translate.specs.FileUnits.{translated_unit}
use Rattle.icn_link.specs.Units.{units_seen}
use Rattle.law_simulation.specs.Faultless.{IsFaultless}
use Rattle.icn_answer.specs.declared.answer.Answer.{Answer}
use Rattle.icn_answer.specs.declared.answer.Answer.TheVariants.{Refused, Missing, FileFault, NoMemory}
use Rattle.icn_answer.specs.Answers.{IsFault}
use Rattle.icont_units.specs.declared.members.Members.{Members}
use Rattle.icont_units.specs.FetchedFiles.{file_seen, files_seen, IsOfLoading}
use Rattle.icont_units.specs.declared.files.CommandFile.{CommandFile as HeldFile}
use Rattle.icont_units.specs.Files.{CommandFile, source, ucode}
use Rattle.icont_units.specs.Loading.{ComesBehind, IsCome, IsLoaded, IsFaultlessMember, IsRead, AreSoundMembers, HoldsMembers, kept_units, ucode_index, with_source, with_ucode}
use Rattle.icont_units.specs.Sources.{IsOfRead}
use Rattle.icont_units.specs.Units.{FilesCome, none, one_more, first_refused, later_refused, FileComes, Gather, Load, refused as load_first, gathered as load_then, FromSource, FromUcode, Member, links_in, unit_of, units_of}

-- One member more

ucode_behind : (members : List Member) (unit : UnitRead)
    → ucode_index (members ++ FromUcode unit ∷ []) ≡ Some
    (unwrap_or (ucode_index members) (length (units_of members)))
ucode_behind [] unit = refl
ucode_behind (FromSource base file ∷ members) unit = ap (option_map (λ place. suc place))
    (ucode_behind members unit) ∙ later (ucode_index members) where
      later : (place : Option ℕ) → Some (suc (unwrap_or place (length (units_of members)))) ≡ Some
          (unwrap_or (option_map (λ place. suc place) place) (length (units_of (FromSource base file ∷ members))))
      later None = refl
      later (Some place) = refl
ucode_behind (FromUcode first ∷ members) unit = refl

source_behind : (members : List Member) (base : List ℕ) (file : List Declaration)
    → ucode_index (members ++ FromSource base file ∷ []) ≡ ucode_index members
source_behind [] base file = refl
source_behind (FromSource other first ∷ members) base file = ap (option_map (λ place. suc place))
    (source_behind members base file)
source_behind (FromUcode first ∷ members) base file = refl

units_behind : (members : List Member) (member : Member)
    → units_of (members ++ member ∷ []) ≡ units_of members ++ unit_of member ∷ []
units_behind [] member = refl
units_behind (first ∷ members) member = ap (λ units. unit_of first ∷ units) (units_behind members member)

pub source_added : (old new : Members) (members : List Member) (base : List ℕ) (file : List Declaration) → HoldsMembers old members
    → kept_units new ≡ with_source (kept_units old) (translated_unit base file) → IsFaultless file
    → HoldsMembers new (members ++ FromSource base file ∷ [])
source_added old new members base file stands added faultless = record {
  units = ap (λ kept. kept.units) added ∙ (ap (λ units. units ++ translated_unit base file ∷ []) stands.units
      ∙ sym (units_behind members (FromSource base file)));
  place = ap (λ kept. kept.first_ucode) added ∙ (stands.place ∙ sym (source_behind members base file));
  faultless = All-push IsFaultlessMember members (FromSource base file) stands.faultless faultless;
}

pub ucode_added : (old new : Members) (members : List Member) (unit : UnitRead) → HoldsMembers old members
    → kept_units new ≡ with_ucode (kept_units old) unit → HoldsMembers new (members ++ FromUcode unit ∷ [])
ucode_added old new members unit stands added = record {
  units = ap (λ kept. kept.units) added ∙ (ap (λ units. units ++ unit ∷ []) stands.units
      ∙ sym (units_behind members (FromUcode unit)));
  place =
      ap (λ kept. kept.first_ucode) added
      ∙ (ap (λ place. Some (unwrap_or place (length (units_seen old.units.items)))) stands.place
      ∙ (ap (λ units. Some (unwrap_or (ucode_index members) (length units))) stands.units ∙ sym (ucode_behind members unit)));
  faultless = All-push IsFaultlessMember members (FromUcode unit) stands.faultless tt;
}

-- What a file comes to

faultless_of : (checked : Checked) → IsFaultless (declarations_of checked.text)
faultless_of checked = record { spelled = checked.spelled; context = checked.context }

-- what the unit of a checked file is
unit_so : (base given : List ℕ) (file : List Declaration) (unit : UnitRead) (old new : Members)
    → unit ≡ translated_unit given file → given ≡ base
    → kept_units new ≡ with_source (kept_units old) unit → kept_units new ≡ with_source (kept_units old) (translated_unit base file)
unit_so base given file unit old new is same added = added
    ∙ ap (with_source (kept_units old)) (is ∙ ap (λ name. translated_unit name file) same)

pub source_pushed : {A : Type 0} (files : FileMap) (base given : List ℕ) (checked : Checked) (unit : UnitRead)
    (old new : Members) (before : List Member) (result : Result A Answer)
    → FileComes files (source base) (Ok (FromSource base (declarations_of checked.text))) → HoldsMembers old before
    → unit ≡ translated_unit given (declarations_of checked.text) → given ≡ base
    → OnOk result (kept_units new ≡ with_source (kept_units old) unit) → IfErr result (λ answer. answer ≡ NoMemory)
    → IsRead files (source base) before new result
source_pushed files base given checked unit old new before (Ok done) comes stands is same added want = record {
  member = FromSource base (declarations_of checked.text);
  comes = comes;
  stands = source_added old new before base (declarations_of checked.text) stands
      (unit_so base given (declarations_of checked.text) unit old new is same added) (faultless_of checked);
}
source_pushed files base given checked unit old new before (Err answer) comes stands is same added want = inl
    (subst IsFault (sym want) refl)

pub ucode_pushed : {A : Type 0} (files : FileMap) (base : List ℕ) (unit : UnitRead) (old new : Members)
    (before : List Member) (result : Result A Answer)
    → FileComes files (ucode base) (Ok (FromUcode unit)) → HoldsMembers old before
    → OnOk result (kept_units new ≡ with_ucode (kept_units old) unit) → IfErr result (λ answer. answer ≡ NoMemory)
    → IsRead files (ucode base) before new result
ucode_pushed files base unit old new before (Ok done) comes stands added want =
    record { member = FromUcode unit; comes = comes; stands = ucode_added old new before unit stands added }
ucode_pushed files base unit old new before (Err answer) comes stands added want = inl (subst IsFault (sym want) refl)

pub source_sound : {A : Type 0} (given : List ℕ) (checked : Checked) (unit : UnitRead) (old new : Members)
    (result : Result A Answer) → AreSoundMembers old
    → unit ≡ translated_unit given (declarations_of checked.text)
    → OnOk result (kept_units new ≡ with_source (kept_units old) unit) → OnOk result (AreSoundMembers new)
source_sound given checked unit old new (Ok done) sound is added = record {
  members = sound.members ++ FromSource given (declarations_of checked.text) ∷ [];
  stands = source_added old new sound.members given (declarations_of checked.text) sound.stands
      (unit_so given given (declarations_of checked.text) unit old new is refl added) (faultless_of checked);
}
source_sound given checked unit old new (Err answer) sound is added = tt

pub ucode_sound : {A : Type 0} (unit : UnitRead) (old new : Members) (result : Result A Answer) → AreSoundMembers old
    → OnOk result (kept_units new ≡ with_ucode (kept_units old) unit) → OnOk result (AreSoundMembers new)
ucode_sound unit old new (Ok done) sound added = record {
  members = sound.members ++ FromUcode unit ∷ [];
  stands = ucode_added old new sound.members unit sound.stands
      added;
}
ucode_sound unit old new (Err answer) sound added = tt

-- Several files, one after the other

abbrev behind : List Member → Result (List Member) Answer → Result (List Member) Answer
behind members (Ok more) = Ok (members ++ more)
behind members (Err answer) = Err answer

-- these members stand for the units, and what comes of the files that are left comes of all
pub record CameSo (files : FileMap) (named rest : List CommandFile) (held : Members) : Type 0 where
  pub members : List Member
  pub stands : HoldsMembers held members
  pub comes : (more : Result (List Member) Answer) → FilesCome files rest more → FilesCome files named (behind members more)

pub came_more : (files : FileMap) (named left rest : List CommandFile) (file : CommandFile) (old new : Members)
    (so : CameSo files named left old) → left ≡ file ∷ rest
    → ComesBehind files file so.members new → CameSo files named rest new
came_more files named left rest file old new so is next = record
    { members = so.members ++ next.member ∷ []; stands = next.stands; comes = all } where
      all : (more : Result (List Member) Answer) → FilesCome files rest more
          → FilesCome files named (behind (so.members ++ next.member ∷ []) more)
      all (Ok more) come =
          subst (λ members. FilesCome files named (Ok members)) (sym (append_assoc so.members (next.member ∷ []) more))
          (so.comes (Ok (next.member ∷ more)) (subst (λ list. FilesCome files list (Ok (next.member ∷ more))) (sym is)
          (one_more file rest next.member more next.comes come)))
      all (Err answer) come = so.comes (Err answer) (subst (λ list. FilesCome files list (Err answer)) (sym is)
          (later_refused file rest next.member answer next.comes come))

pub came_refused : (files : FileMap) (named left rest : List CommandFile) (file : CommandFile) (held : Members) (answer : Answer)
    → CameSo files named left held → left ≡ file ∷ rest
    → IsFault answer ⊎ FileComes files file (Err answer) → IsFault answer ⊎ FilesCome files named (Err answer)
came_refused files named left rest file held answer so is (inl fault) = inl fault
came_refused files named left rest file held answer so is (inr comes) =
    inr (so.comes (Err answer) (subst (λ list. FilesCome files list (Err answer)) (sym is) (first_refused file rest answer comes)))

pub came_all : (files : FileMap) (named left : List CommandFile) (held : Members) → CameSo files named left held → left ≡ []
    → (members : List Member) × (FilesCome files named (Ok members) × HoldsMembers held members)
came_all files named left held so is = (
  so.members,
  (
    subst (λ members. FilesCome files named (Ok members)) (append-nil so.members)
        (so.comes (Ok []) (subst (λ list. FilesCome files list (Ok [])) (sym is) none)),
    so.stands,
  ),
)

-- a refusal that is passed on
pub come_passed : (files : FileMap) (named : List CommandFile) (answer : Answer) (result : Result Members Answer)
    → IsErrAnd result (λ passed. passed ≡ answer)
    → IsFault answer ⊎ FilesCome files named (Err answer) → IsCome files named result
come_passed files named answer (Ok held) is h = absurd is
come_passed files named answer (Err passed) is h = rw is h

pub load_passed : (files : FileMap) (named : List CommandFile) (answer : Answer) (result : Result Members Answer)
    → IsErrAnd result (λ passed. passed ≡ answer)
    → IsFault answer ⊎ Load files named (Err answer) → IsLoaded files named result
load_passed files named answer (Ok held) is h = absurd is
load_passed files named answer (Err passed) is h = rw is h

pub load_refused : (files : FileMap) (named : List CommandFile) (answer : Answer)
    → IsFault answer ⊎ FilesCome files named (Err answer) → IsFault answer ⊎ Load files named (Err answer)
load_refused files named answer (inl fault) = inl fault
load_refused files named answer (inr come) = inr (load_first answer come)

pub load_gathered : (files : FileMap) (named : List CommandFile) (members : List Member) (answer : Answer)
    → FilesCome files named (Ok members)
    → IsFault answer ⊎ Gather files members (links_in members) (Err answer) → IsFault answer ⊎ Load files named (Err answer)
load_gathered files named members answer come (inl fault) = inl fault
load_gathered files named members answer come (inr gather) = inr (load_then members (Err answer) come gather)

pub load_all : (files : FileMap) (named : List CommandFile) (before : List Member) (held : Members) → FilesCome files named (Ok before)
    → (members : List Member) × (Gather files before (links_in before) (Ok members) × HoldsMembers held members)
    → (members : List Member) × (Load files named (Ok members) × HoldsMembers held members)
load_all files named before held come gathered = (gathered.0, (load_then before (Ok gathered.0) come gathered.1.0, gathered.1.1))

-- the file at a place of those that are named
pub files_from : (named : List HeldFile) (i : ℕ) (other : HeldFile) → i < length named
    → files_seen (drop i named) ≡ file_seen (get_or named i other) ∷ files_seen (drop (i + 1) named)
files_from named i other l = ap files_seen (drop_more named i other l)

-- Which answers there are

pub of_read : (answer : Answer) → IsOfRead answer → IsOfLoading answer
of_read (Refused file line rule) h = h
of_read (Missing name) h = tt
of_read FileFault h = tt
of_read NoMemory h = tt
of_read _ h = absurd h
