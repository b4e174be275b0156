-- Members that are sources alone, and the unit at a place.
use Rattle.std.proofs.Common.{◌≡◌, ℕ, zero, suc, ◌<◌, List, [], ◌∷◌, length, Option, None, Some, true, refl, sym, ap, subst, arith}
use Rattle.std.specs.Prelude.{All, ◌↔◌, slice_index_or}
use Rattle.std.specs.Option.{option_map}
use Rattle.std.proofs.lemmas.Option.{none-some, same_Some}
use Rattle.icn_tree.specs.Trees.{Declaration}
use Rattle.icn_unit.specs.PlainUnits.{UnitRead}
use Rattle.icn_unit.specs.declared.unit.Unit.{Unit as HeldUnit}
use Rattle.icn_translate.specs.FileUnits.{translated_unit}
use Rattle.icn_code.specs.Rules.{keeps_rules}
use Rattle.icn_defs.specs.Running.{Launch, Observation}
use Rattle.icn_link.specs.Joined.{joined_code}
use Rattle.icn_link.specs.Units.{units_seen}
use Rattle.law_simulation.specs.Faultless.{IsFaultless}
use Rattle.law_simulation.specs.JoinedFiles.{IsJoined}
use Rattle.law_simulation.specs.FirstLaw.{FilesMean, IsLinked, RunsFlat}
use Rattle.law_link.specs.PrunedUnits.{pruned_code}
use Rattle.law_link.specs.TranslatedUnits.{translated_units}
use Rattle.icont_units.specs.Loading.{IsFaultlessMember, ucode_index}
use Rattle.icont_units.specs.Units.{Member, FromSource, FromUcode, unit_named, units_of}
use Rattle.icont_top.specs.Programs.{files_of, first_ucode, linked_code, whole_code, with_file}

-- Sources

-- the members are the units of these files, which break no rule
record OfFiles (members : List Member) (files : List (List Declaration)) : Type 0 where
  pub names : List (List ℕ)
  pub few : length names ≡ length files
  pub units : units_of members ≡ translated_units names files
  pub faultless : All IsFaultless files

abbrev OfFilesBy : List Member → Option (List (List Declaration)) → Type 0
OfFilesBy members (Some files) = OfFiles members files
OfFilesBy members None = Unit {0}

none_faultless : All IsFaultless []
none_faultless i d l = absurd (omega (arith, l))

one_faultless : (file : List Declaration) (files : List (List Declaration)) → IsFaultless file → All IsFaultless files → All IsFaultless (file ∷ files)
one_faultless file files h k zero d l = h
one_faultless file files h k (suc i) d l = k i d (omega (arith, l))

first_holds : (member : Member) (members : List Member) → All IsFaultlessMember (member ∷ members) → IsFaultlessMember member
first_holds member members h = h 0 member (omega arith)

others_hold : (member : Member) (members : List Member) → All IsFaultlessMember (member ∷ members) → All IsFaultlessMember members
others_hold member members h i d l = h (suc i) d (omega (arith, l))

with_source : (base : List ℕ) (file : List Declaration) (members : List Member) → IsFaultless file → (found : Option (List (List Declaration)))
    → OfFilesBy members found → OfFilesBy (FromSource base file ∷ members) (with_file file found)
with_source base file members h None x = tt
with_source base file members h (Some files) x = record {
  names = base ∷ x.names;
  few = ap suc x.few;
  units = ap (λ units. translated_unit base file ∷ units) x.units;
  faultless = one_faultless file files h x.faultless;
}

of_files : (members : List Member) → All IsFaultlessMember members → OfFilesBy members (files_of members)
of_files [] h = record { names = []; few = refl; units = refl; faultless = none_faultless }
of_files (FromSource base file ∷ members) h =
    with_source base file members (first_holds (FromSource base file) members h) (files_of members)
    (of_files members (others_hold (FromSource base file) members h))
of_files (FromUcode unit ∷ members) h = tt

abbrev pub AllJoin : Type 0
AllJoin = (names : List (List ℕ)) (files : List (List Declaration)) → length names ≡ length files → All IsFaultless files
    → IsJoined files (joined_code (translated_units names files))

-- where all members are sources their code with all procedures is that of their files
pub sources_join : AllJoin → (members : List Member) → All IsFaultlessMember members → (files : List (List Declaration)) → files_of members ≡ Some files
    → IsLinked files (whole_code members)
sources_join joins members h files e =
    let sources : OfFiles members files = subst (OfFilesBy members) e (of_files members h) in
    record {
      faultless = sources.faultless;
      code = subst (λ units. IsJoined files (joined_code units)) (sym sources.units) (joins sources.names files sources.few sources.faultless);
    }

abbrev pub AllRun : Type 0
AllRun = (names : List (List ℕ)) (files : List (List Declaration)) (launch : Launch) (seen : Observation) → length names ≡ length files
    → All IsFaultless files → keeps_rules (joined_code (translated_units names files)) ≡ true
    → FilesMean files launch seen ↔ RunsFlat (pruned_code (translated_units names files)) launch seen

-- and their files mean what their code comes to without the procedures that are not kept
pub sources_mean : AllRun → (members : List Member) → All IsFaultlessMember members → keeps_rules (whole_code members) ≡ true
    → (files : List (List Declaration)) → files_of members ≡ Some files → (launch : Launch) (seen : Observation)
    → FilesMean files launch seen ↔ RunsFlat (linked_code members) launch seen
sources_mean run members h rules files e launch seen =
    let sources : OfFiles members files = subst (OfFilesBy members) e (of_files members h) in
    subst (λ units. FilesMean files launch seen ↔ RunsFlat (pruned_code units) launch seen) (sym sources.units)
    (run sources.names files launch seen sources.few sources.faultless (subst (λ units. keeps_rules (joined_code units) ≡ true) sources.units rules))

no_place : {T : Type 0} (place : Option ℕ) → (place ≡ None → T) → option_map suc place ≡ None → T
no_place None f e = f refl
no_place (Some place) f e = absurd (none-some (suc place) (sym e))

-- where no unit was read as ucode, all are sources
pub all_files : (members : List Member) → ucode_index members ≡ None → (files : List (List Declaration)) × (files_of members ≡ Some files)
all_files [] e = ([], refl)
all_files (FromSource base file ∷ members) e =
    no_place (ucode_index members) (λ none. let rest = all_files members none in (file ∷ rest.0, ap (with_file file) rest.1)) e
all_files (FromUcode unit ∷ members) e = absurd (none-some 0 (sym e))

-- The unit at a place

pub named_at : (units : List HeldUnit) (place : ℕ) (unit : HeldUnit) → place < length units → unit ≡ slice_index_or units place unit
    → unit.name ≡ unit_named (units_seen units) place
named_at [] place unit l e = absurd (omega (arith, l))
named_at (next ∷ units) zero unit l e = ap (λ (u : HeldUnit). u.name) e
named_at (next ∷ units) (suc place) unit l e = named_at units place unit (omega (arith, l)) e

-- the first unit that was read as ucode has the name at its place
by_place : (unit : UnitRead) (units : List UnitRead) (found : Option ℕ) (first : Option (List ℕ)) (place : ℕ)
    → ((p : ℕ) → found ≡ Some p → first ≡ Some (unit_named units p)) → option_map suc found ≡ Some place
    → first ≡ Some (unit_named (unit ∷ units) place)
by_place unit units None first place f e = absurd (none-some place e)
by_place unit units (Some p) first place f e = subst (λ n. first ≡ Some (unit_named (unit ∷ units) n)) (same_Some (suc p) place e) (f p refl)

pub first_named : (members : List Member) (place : ℕ) → ucode_index members ≡ Some place → first_ucode members ≡ Some (unit_named (units_of members) place)
first_named [] place e = absurd (none-some place e)
first_named (FromSource base file ∷ members) place e =
    by_place (translated_unit base file) (units_of members) (ucode_index members) (first_ucode members) place (first_named members) e
first_named (FromUcode unit ∷ members) place e =
    subst (λ n. Some unit.name ≡ Some (unit_named (unit ∷ units_of members) n)) (same_Some 0 place e) refl
