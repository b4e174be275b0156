-- The base names of files and of the units that they come to, in the same order.
use Rattle.std.proofs.Common.{◌≡◌, ℕ, List, [], ◌∷◌, ◌++◌, Ok, Result, refl, sym, ap, ◌∙◌, append_assoc, append-nil}
use Rattle.icn_host.specs.FileMaps.{FileMap}
use Rattle.icn_unit.specs.PlainUnits.{UnitRead}
use Rattle.icn_unit.specs.UnitTexts.{decls_text, procs_text}
use Rattle.icn_ucode.specs.UnitReading.{UnitOutcome, Whole, Faulty, unit_read}
use Rattle.icn_link.specs.LinkFaults.{unit_names}
use Rattle.icn_answer.specs.declared.answer.Answer.{Answer}
use Rattle.icont_units.specs.Files.{CommandFile}
use Rattle.icont_units.specs.Units.{AreJudged, FilesCome, FileComes, FromSource, FromUcode, Gather, Load, Member, links_in, unit_found, unit_of, units_of}
use Rattle.icont_units.specs.Units.{first_too_long, second_too_long, read as texts_read, no_tokens, broken, translated, not_there, not_read, none, one_more, first_refused, later_refused, all, known, absent, gathered}
use Rattle.icont_units.specs.Units as Units
use Rattle.icont_units.proofs.EqualResults.{ok_injective, ok_is_not_err}
use Rattle.icont_top.specs.BaseNames.{first_named}
use Rattle.icont_top.specs.Job.{first_base}
use Rattle.icont_top.specs.Writing.{bases}

-- what is read as a unit is its spelling, under its base name
abbrev pub AreSpelled : Type 0
AreSpelled = (name u1 u2 : List ℕ) (unit : UnitRead) → unit_read name u1 u2 ≡ Whole unit
    → (procs_text unit.procs ≡ u1) × (decls_text unit.decls ≡ u2) × (unit.name ≡ name)

module _ (spelled : AreSpelled) (files : FileMap) where
  found_name : (base first second : List ℕ) (outcome : UnitOutcome) → unit_read base first second ≡ outcome → (unit : UnitRead)
      → unit_found base outcome ≡ Ok unit → unit.name ≡ base
  found_name base first second (Whole whole) e unit same =
      sym (ap (λ (u : UnitRead). u.name) (ok_injective whole unit same)) ∙ (spelled base first second whole e).2
  found_name base first second (Faulty rule in_second) e unit same = absurd (ok_is_not_err unit _ (sym same))

  judged_name : {base first second : List ℕ} (result : Result UnitRead Answer) → AreJudged base first second result → (unit : UnitRead)
      → result ≡ Ok unit → unit.name ≡ base
  judged_name _ (first_too_long l) unit same = absurd (ok_is_not_err unit _ (sym same))
  judged_name _ (second_too_long l m) unit same = absurd (ok_is_not_err unit _ (sym same))
  judged_name {base} {first} {second} _ (texts_read l m) unit same = found_name base first second (unit_read base first second) refl unit same

  named_as : (one other : Member) (base : List ℕ) → one ≡ other → (unit_of one).name ≡ base → (unit_of other).name ≡ base
  named_as one other base same e = sym (ap (λ m. (unit_of m).name) same) ∙ e

  comes_name : {file : CommandFile} (result : Result Member Answer) → FileComes files file result → (member : Member) → result ≡ Ok member
      → (unit_of member).name ≡ file.base
  comes_name _ (no_tokens base answer e) member same = absurd (ok_is_not_err member _ (sym same))
  comes_name _ (broken base scan rule place e x) member same = absurd (ok_is_not_err member _ (sym same))
  comes_name _ (translated base scan file e x) member same = named_as (FromSource base file) member base (ok_injective _ member same) refl
  comes_name _ (not_there base name e) member same = absurd (ok_is_not_err member _ (sym same))
  comes_name _ (not_read base first second answer e j) member same = absurd (ok_is_not_err member _ (sym same))
  comes_name _ (Units.FileComes.read base first second unit e j) member same =
      named_as (FromUcode unit) member base (ok_injective _ member same) (judged_name (Ok unit) j unit refl)

  names_as : (one other : List Member) (names : List (List ℕ)) → one ≡ other → names ≡ unit_names (units_of one) → names ≡ unit_names (units_of other)
  names_as one other names same e = e ∙ ap (λ members. unit_names (units_of members)) same

  come_names_by : {named : List CommandFile} (result : Result (List Member) Answer) → FilesCome files named result → (members : List Member)
      → result ≡ Ok members → bases named ≡ unit_names (units_of members)
  come_names_by _ none members same = names_as [] members [] (ok_injective [] members same) refl
  come_names_by _ (one_more file others member more first rest) members same =
      names_as (member ∷ more) members (file.base ∷ bases others) (ok_injective (member ∷ more) members same)
      (ap (λ name. name ∷ bases others) (sym (comes_name (Ok member) first member refl))
      ∙ ap (λ names. (unit_of member).name ∷ names) (come_names_by (Ok more) rest more refl))
  come_names_by _ (first_refused file others answer x) members same = absurd (ok_is_not_err members _ (sym same))
  come_names_by _ (later_refused file others member answer x y) members same = absurd (ok_is_not_err members _ (sym same))

  -- files come to units of their bases
  pub come_names : (named : List CommandFile) (members : List Member) → FilesCome files named (Ok members) → bases named ≡ unit_names (units_of members)
  come_names named members come = come_names_by (Ok members) come members refl

  -- What is gathered comes behind what was there

  gather_begins : {before : List Member} {mentioned : List (List ℕ)} (result : Result (List Member) Answer) → Gather files before mentioned result
      → (after : List Member) → result ≡ Ok after → (more : List Member) × (after ≡ before ++ more)
  gather_begins _ (all members) after same = ([], sym (ok_injective members after same) ∙ sym (append-nil members))
  gather_begins _ (known members base mentioned result k rest) after same = gather_begins result rest after same
  gather_begins _ (absent members base mentioned result k a rest) after same = gather_begins result rest after same
  gather_begins _ (Units.Gather.refused members base mentioned first second answer k h j) after same = absurd (ok_is_not_err after _ (sym same))
  gather_begins _ (Units.Gather.read members base mentioned first second unit result k h j rest) after same =
      let more = gather_begins result rest after same in
      (FromUcode unit ∷ more.0, more.1 ∙ append_assoc members (FromUcode unit ∷ []) more.0)

  no_mention : {T : Type 0} (base : List ℕ) (mentioned : List (List ℕ)) → base ∷ mentioned ≡ [] → T
  no_mention base mentioned e = absurd (let no = e in cc)

  gather_nothing : {before : List Member} {mentioned : List (List ℕ)} (result : Result (List Member) Answer) → Gather files before mentioned result
      → mentioned ≡ [] → (after : List Member) → result ≡ Ok after → after ≡ before
  gather_nothing _ (all members) e after same = sym (ok_injective members after same)
  gather_nothing _ (known members base mentioned result k rest) e after same = no_mention base mentioned e
  gather_nothing _ (absent members base mentioned result k a rest) e after same = no_mention base mentioned e
  gather_nothing _ (Units.Gather.refused members base mentioned first second answer k h j) e after same = no_mention base mentioned e
  gather_nothing _ (Units.Gather.read members base mentioned first second unit result k h j rest) e after same = no_mention base mentioned e

  by_first : (named : List CommandFile) (members after : List Member) → bases named ≡ unit_names (units_of members) → (members ≡ [] → after ≡ [])
      → (more : List Member) → after ≡ members ++ more → first_base after ≡ first_named named
  by_first [] [] after e nothing more begins = ap first_base (nothing refl)
  by_first [] (member ∷ members) after e nothing more begins = absurd (let no = e in cc)
  by_first (file ∷ named) [] after e nothing more begins = absurd (let no = e in cc)
  by_first (file ∷ named) (member ∷ members) after e nothing more begins =
      ap first_base begins ∙ sym (ap (λ names. elim names [ [] ↦ file.base | x ∷ xs ↦ x ]) e)

  load_base_by : {named : List CommandFile} (result : Result (List Member) Answer) → Load files named result → (after : List Member) → result ≡ Ok after
      → first_base after ≡ first_named named
  load_base_by _ (Units.Load.refused answer come) after same = absurd (ok_is_not_err after _ (sym same))
  load_base_by {named} _ (gathered members result come gather) after same =
      let begins = gather_begins result gather after same in
      by_first named members after (come_names named members come)
      (λ none. gather_nothing result gather (ap links_in none) after same ∙ none) begins.0 begins.1

  -- the first unit has the base of the first file
  pub load_base : (named : List CommandFile) (members : List Member) → Load files named (Ok members) → first_base members ≡ first_named named
  load_base named members load = load_base_by (Ok members) load members refl
