-- Units that were written as ucode and have no text that is too long are read as the same units, and linked to the same code.
use Rattle.std.proofs.Common.{◌≡◌, ℕ, zero, suc, Bool, true, false, List, [], ◌∷◌, ◌++◌, Option, Result, Ok, Err, refl, sym, ap, ap₂, subst, ◌∙◌, true≢false, arith}
use Rattle.std.specs.Prelude.{All, unwrap_or}
use Rattle.std.specs.List.{flat_map, list_any}
use Rattle.std.specs.Str.{bytes_eq}
use Rattle.icn_host.specs.FileMaps.{FileMap}
use Rattle.icn_unit.specs.PlainUnits.{UnitRead}
use Rattle.icn_unit.specs.UnitTexts.{decls_text, procs_text}
use Rattle.icn_ucode.specs.UnitReading.{Whole, unit_read}
use Rattle.icn_code.specs.Codes.{Tables}
use Rattle.icn_image.specs.Spelling.{image_of}
use Rattle.law_link.specs.PrunedUnits.{pruned_code}
use Rattle.icn_link.specs.LinkFaults.{first_fault, unit_names}
use Rattle.icn_verify.specs.Faults.{IsVerified}
use Rattle.icn_answer.specs.declared.answer.Answer.{Answer}
use Rattle.icont_units.specs.Files.{CommandFile, ucode}
use Rattle.icont_units.specs.Units.{Member, FromUcode, unit_of, units_of, both_texts, unit_found, texts_held, is_there, links_of, links_in, AreJudged, FileComes, FilesCome, IsAbsent, IsHeld, Gather, Load}
use Rattle.icont_units.proofs.EqualResults.{ok_injective, ok_is_not_err}
use Rattle.icont_units.proofs.OneLoading.{one_come}
use Rattle.icont_units.proofs.SomeLoading.{kept_there}
use Rattle.icont_top.specs.Job.{WrittenFile, first_base, image_file}
use Rattle.icont_top.specs.Outcomes.{IsReadBack}
use Rattle.icont_top.specs.Programs.{Links, linked_code}
use Rattle.icont_top.specs.Relinking.{AreHeld, GathersAlike, HoldTheOthers, HoldsUnit, LinksAlike, ucode_members, ucode_named}

-- Named units

judged_again : (unit : UnitRead) (files : FileMap) → HoldsUnit files unit → unit_read unit.name (procs_text unit.procs) (decls_text unit.decls) ≡ Whole unit
    → AreJudged unit.name (procs_text unit.procs) (decls_text unit.decls) (Ok unit)
judged_again unit files h e = subst (λ result. AreJudged unit.name (procs_text unit.procs) (decls_text unit.decls) result) (ap (unit_found unit.name) e)
    (AreJudged.read h.fits.first h.fits.second)

comes_again : (unit : UnitRead) (files : FileMap) → HoldsUnit files unit → unit_read unit.name (procs_text unit.procs) (decls_text unit.decls) ≡ Whole unit
    → FileComes files (ucode unit.name) (Ok (FromUcode unit))
comes_again unit files h e =
    FileComes.read unit.name (procs_text unit.procs) (decls_text unit.decls) unit (ap₂ (both_texts unit.name) h.first h.second) (judged_again unit files h e)

abbrev IsHeldIn : FileMap → Member → Type 0
IsHeldIn files member = HoldsUnit files (unit_of member)

first_of : (P : Member → Type 0) (member : Member) (members : List Member) → All P (member ∷ members) → P member
first_of P member members h = h zero member (omega arith)

others_of : (P : Member → Type 0) (member : Member) (members : List Member) → All P (member ∷ members) → All P members
others_of P member members h i d l = h (suc i) d (omega (arith, l))

pub come_again : (members : List Member) (files : FileMap) → All IsReadBack members → AreHeld files members
    → FilesCome files (ucode_named members) (Ok (ucode_members members))
come_again [] files h k = FilesCome.none
come_again (member ∷ members) files h k =
    FilesCome.one_more (ucode (unit_of member).name) (ucode_named members) (FromUcode (unit_of member)) (ucode_members members)
    (comes_again (unit_of member) files (first_of (IsHeldIn files) member members k) (first_of IsReadBack member members h))
    (come_again members files (others_of IsReadBack member members h) (others_of (IsHeldIn files) member members k))

pub same_units : (members : List Member) → units_of (ucode_members members) ≡ units_of members
same_units [] = refl
same_units (member ∷ members) = ap (λ units. unit_of member ∷ units) (same_units members)

-- Linked units

same_there : (a b : List Member) (base : List ℕ) → units_of a ≡ units_of b → is_there a base ≡ is_there b base
same_there a b base e = ap (λ units. list_any (bytes_eq base) (unit_names units)) e

more_units : (members : List Member) (unit : UnitRead) → units_of (members ++ FromUcode unit ∷ []) ≡ units_of members ++ unit ∷ []
more_units [] unit = refl
more_units (member ∷ members) unit = ap (λ units. unit_of member ∷ units) (more_units members unit)

same_more : (a b : List Member) (unit : UnitRead) → units_of a ≡ units_of b → units_of (a ++ FromUcode unit ∷ []) ≡ units_of (b ++ FromUcode unit ∷ [])
same_more a b unit e = more_units a unit ∙ (ap (λ units. units ++ unit ∷ []) e ∙ sym (more_units b unit))

-- members of the same units are gathered
abbrev Alike : FileMap → List Member → List (List ℕ) → Result (List Member) Answer → Type 0
Alike files members mentioned (Ok more) = (other : List Member) × (Gather files members mentioned (Ok other)) × (units_of other ≡ units_of more)
Alike files members mentioned (Err answer) = Gather files members mentioned (Err answer)

module _ (before after : FileMap) where
  lifted : {a b : List Member} {mentioned wanted : List (List ℕ)}
      → ((result : Result (List Member) Answer) → Gather after a mentioned result → Gather after b wanted result)
      → (found : Result (List Member) Answer) → Alike after a mentioned found → Alike after b wanted found
  lifted f (Ok more) x = (x.0, f (Ok x.0) x.1, x.2)
  lifted f (Err answer) x = f (Err answer) x

  absent_again : {base : List ℕ} → texts_held after base ≡ texts_held before base → IsAbsent before base → IsAbsent after base
  absent_again e (IsAbsent.no_text u) = IsAbsent.no_text u
  absent_again e (IsAbsent.not_held name n) = IsAbsent.not_held name (e ∙ n)

  held_again : {base first second : List ℕ} → texts_held after base ≡ texts_held before base → IsHeld before base first second → IsHeld after base first second
  held_again e h = record { text = h.text; held = e ∙ h.held }

  not_there : (members : List Member) (member : Member) (base : List ℕ) (there : Bool) → is_there members base ≡ there
      → is_there (members ++ member ∷ []) base ≡ false → is_there members base ≡ false
  not_there members member base true e f = absurd (true≢false (sym (kept_there members member base e) ∙ f))
  not_there members member base false e f = e

  others_more : (members : List Member) (member : Member) → HoldTheOthers members before after → HoldTheOthers (members ++ member ∷ []) before after
  others_more members member others base f = others base (not_there members member base (is_there members base) refl f)

  again : {a : List Member} {mentioned : List (List ℕ)} {found : Result (List Member) Answer} → Gather before a mentioned found → (b : List Member)
      → units_of b ≡ units_of a → HoldTheOthers a before after → Alike after b mentioned found
  again (Gather.all members) b e others = (b, Gather.all b, e)
  again (Gather.known members base mentioned result k x) b e others =
      lifted (λ found y. Gather.known b base mentioned found (same_there b members base e ∙ k) y) result (again x b e others)
  again (Gather.absent members base mentioned result k a x) b e others =
      lifted (λ found y. Gather.absent b base mentioned found (same_there b members base e ∙ k) (absent_again (others base k) a) y) result (again x b e others)
  again (Gather.refused members base mentioned first second answer k h j) b e others =
      Gather.refused b base mentioned first second answer (same_there b members base e ∙ k) (held_again (others base k) h) j
  again (Gather.read members base mentioned first second unit result k h j x) b e others =
      lifted (λ found y. Gather.read b base mentioned first second unit found (same_there b members base e ∙ k) (held_again (others base k) h) j y) result
      (again x (b ++ FromUcode unit ∷ []) (same_more b members unit e) (others_more members (FromUcode unit) others))

pub gather_again : (before after : FileMap) (a b : List Member) (mentioned : List (List ℕ)) (more : List Member) → units_of b ≡ units_of a
    → HoldTheOthers a before after → Gather before a mentioned (Ok more) → GathersAlike after b mentioned more
gather_again before after a b mentioned more e others x =
    let found = again before after x b e others in record { others = found.0; gathers = found.1; units = found.2 }

-- Code

pub same_linked : (a b : List Member) → units_of a ≡ units_of b → linked_code a ≡ linked_code b
same_linked a b e = ap pruned_code e

program_again : (members other : List Member) (result : Result Tables Answer) (tables : Tables) → units_of other ≡ units_of members → Links members result
    → result ≡ Ok tables → Links other (Ok tables)
program_again members other _ tables e (Links.not_linked answer n) same = absurd (ok_is_not_err tables answer (sym same))
program_again members other _ tables e (Links.unverified base rule number place n f x) same = absurd (ok_is_not_err tables _ (sym same))
program_again members other _ tables e (Links.is_program n v) same =
    let code : linked_code other ≡ linked_code members = same_linked other members e in
    subst (λ t. Links other (Ok t)) (code ∙ ok_injective (linked_code members) tables same)
    (Links.is_program (ap first_fault e ∙ n) (subst IsVerified (sym code) v))

first_name_of : List UnitRead → List ℕ
first_name_of [] = []
first_name_of (unit ∷ units) = unit.name

names_first : (members : List Member) → first_base members ≡ first_name_of (units_of members)
unfolding first_name_of
names_first [] = refl
names_first (member ∷ members) = refl

same_image : (a b : List Member) (name : Option (List ℕ)) (tables : Tables) → units_of a ≡ units_of b → image_file name a tables ≡ image_file name b tables
same_image a b name tables e =
    ap (λ base. image_named (unwrap_or name base) tables) (names_first a ∙ (ap first_name_of e ∙ sym (names_first b))) where
      image_named : List ℕ → Tables → WrittenFile
      image_named base code = record { name = base; bytes = image_of code }

-- Programs

gathered_again : (before after : FileMap) (members more : List Member) (found : Result (List Member) Answer) (tables : Tables) → All IsReadBack members
    → AreHeld after members → HoldTheOthers members before after → Gather before members (links_in members) found → found ≡ Ok more → Links more (Ok tables)
    → LinksAlike after (ucode_named members) more tables
gathered_again before after members more found tables back held others x e links =
    let found_again = subst (Alike after (ucode_members members) (links_in members)) e
    (again before after x (ucode_members members) (same_units members) others) in
    let mentioned : links_in (ucode_members members) ≡ links_in members = ap (λ units. flat_map links_of units) (same_units members) in
    record {
      others = found_again.0;
      loads = Load.gathered (ucode_members members) (Ok found_again.0) (come_again members after back held)
          (subst (λ bases. Gather after (ucode_members members) bases (Ok found_again.0)) (sym mentioned) found_again.1);
      links = program_again more found_again.0 (Ok tables) tables found_again.2 links refl;
      image = λ name. same_image found_again.0 more name tables found_again.2;
    }

loaded_again : (before after : FileMap) (named : List CommandFile) (members more : List Member) (found : Result (List Member) Answer) (tables : Tables)
    → FilesCome before named (Ok members) → All IsReadBack members → AreHeld after members → HoldTheOthers members before after → Load before named found
    → found ≡ Ok more → Links more (Ok tables) → LinksAlike after (ucode_named members) more tables
loaded_again before after named members more _ tables come back held others (Load.refused answer x) e links = absurd (ok_is_not_err more answer (sym e))
loaded_again before after named members more found tables come back held others (Load.gathered found_members _ x y) e links =
    let same : found_members ≡ members = ok_injective found_members members (one_come before named (Ok found_members) (Ok members) x come) in
    gathered_again before after members more found tables back held others (subst (λ list. Gather before list (links_in list) found) same y) e links

pub program_alike : (before after : FileMap) (named : List CommandFile) (members more : List Member) (tables : Tables) → FilesCome before named (Ok members)
    → All IsReadBack members → AreHeld after members → HoldTheOthers members before after → Load before named (Ok more) → Links more (Ok tables)
    → LinksAlike after (ucode_named members) more tables
program_alike before after named members more tables come back held others load links =
    loaded_again before after named members more (Ok more) tables come back held others load refl links
