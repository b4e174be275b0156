-- What is made of units.
use Rattle.std.proofs.Common.{◌≡◌, ◌<◌, ◌≤◌, ◌⊎◌, inl, inr, ℕ, Bool, true, List, length, Option, None, Some, Err, sym, ap, ◌∙◌, subst}
use Rattle.std.specs.List.{All}
use Rattle.std.specs.Option.{option_and_then}
use Rattle.icn_tree.specs.declared.rule.Rule.{Rule}
use Rattle.icn_tree.specs.Trees.{Declaration}
use Rattle.icn_code.specs.Codes.{Tables}
use Rattle.icn_code.specs.CodeTables.{tables_of}
use Rattle.icn_code.specs.Rules.{keeps_rules}
use Rattle.icn_image.specs.Spelling.{image_of}
use Rattle.icn_unit.specs.declared.unit.Unit.{Unit as HeldUnit}
use Rattle.icn_link.specs.Joined.{joined_code, named_procs, names_all}
use Rattle.icn_link.specs.LinkFaults.{first_fault}
use Rattle.icn_link.specs.Units.{units_seen}
use Rattle.icn_prune.specs.KeptCode.{MayBeKept, kept_of}
use Rattle.icn_prune.specs.PrunedCode.{pruned_tables}
use Rattle.icn_unit.specs.PlainUnits.{UnitRead}
use Rattle.icn_verify.specs.declared.fault.VerifyFault.{VerifyFault}
use Rattle.icn_verify.specs.declared.fault.VerifyFault.TheVariants.{V}
use Rattle.icn_verify.specs.Faults.{IsVerified}
use Rattle.icn_verify.specs.Refusals.{Refuses}
use Rattle.law_simulation.specs.FirstLaw.{IsLinked}
use Rattle.law_link.specs.PrunedUnits.{pruned_code}
use Rattle.law_link.proofs.PrunedFiles.{named_below}
use Rattle.icn_answer.specs.declared.answer.Answer.{Answer}
use Rattle.icn_answer.specs.declared.answer.Answer.TheVariants.{BadUcode, NoMemory}
use Rattle.icont_units.specs.declared.members.Members.{Members}
use Rattle.icont_units.specs.Files.{first_name}
use Rattle.icont_units.specs.Loading.{AreSoundMembers, HoldsMembers}
use Rattle.icont_units.specs.Units.{Member, link_answer, unit_named, units_of}
use Rattle.icont_top.specs.declared.programs.MadeProgram.{MadeProgram}
use Rattle.icont_top.specs.MadeUnits.{IsMadeProgram, RefusesCode, RefusesLink, wants, breaks}
use Rattle.icont_top.specs.Programs.{Links, is_program, kept_flags, linked_code, not_linked, unverified, whole_code}
use Rattle.icont_top.proofs.SourceUnits.{AllJoin, AllRun, all_files, first_named, sources_join, sources_mean}

-- Pruning

-- what is pruned of a code that was linked is the code of its units
pub linked_pruned : (units : List UnitRead) (tables code : Tables) (named : List ℕ) (all : Bool) → tables ≡ joined_code units → named ≡ named_procs units
    → all ≡ names_all units → code ≡ pruned_tables (kept_of tables named all) tables → code ≡ pruned_code units
linked_pruned units tables code named all e n a p = p ∙ (λ i. pruned_tables (kept_of (e i) (n i) (a i)) (e i))

-- what the laws of pruning say
pub record PruneLaws : Type 0 where
  pub least : (tables : Tables) (named : List ℕ) (all : Bool) → keeps_rules tables ≡ true → All (λ number. number < length tables.procs) named
      → MayBeKept tables (kept_of tables named all)
  pub verified : (tables : Tables) (keep : List Bool) → MayBeKept tables keep → IsVerified tables → IsVerified (pruned_tables keep tables)
  pub shorter : (tables : Tables) (keep : List Bool) → keeps_rules tables ≡ true → MayBeKept tables keep
      → length (image_of (pruned_tables keep tables)) ≤ length (image_of tables)

-- the numbers that are named are of procedures
pub named_there : (units : List UnitRead) (tables : Tables) (named : List ℕ) → tables ≡ joined_code units → named ≡ named_procs units
    → All (λ number. number < length tables.procs) named
named_there units tables named e n = subst (λ t. All (λ number. number < length t.procs) named) (sym e)
    (subst (All (λ number. number < length (joined_code units).procs)) (sym n) (named_below units))

kept_there : PruneLaws → (members : List Member) → keeps_rules (whole_code members) ≡ true → MayBeKept (whole_code members) (kept_flags members)
kept_there laws members rules =
    laws.least (whole_code members) (named_procs (units_of members)) (names_all (units_of members)) rules (named_below (units_of members))

-- Linking

abbrev pub AllVerified : Type 0
AllVerified = (files : List (List Declaration)) (tables : Tables) → IsLinked files tables → IsVerified tables

whole_rules : (held : Members) (members : List Member) → HoldsMembers held members → keeps_rules (joined_code (units_seen held.units.items)) ≡ true
    → keeps_rules (whole_code members) ≡ true
whole_rules held members stands rules = subst (λ units. keeps_rules (joined_code units) ≡ true) stands.units rules

-- where no unit was read as ucode, the code breaks no rule of verified code
pub sources_verified : AllJoin → AllVerified → PruneLaws → (held : Members) (tables : Tables) → AreSoundMembers held
    → tables ≡ pruned_code (units_seen held.units.items) → keeps_rules (joined_code (units_seen held.units.items)) ≡ true
    → held.first_ucode ≡ None → IsVerified tables
sources_verified joins verifies laws held tables sound e rules none =
    let stands = sound.stands in
    let all = all_files sound.members (sym stands.place ∙ none) in
    let same : linked_code sound.members ≡ tables = sym (e ∙ ap pruned_code stands.units) in
    let whole = verifies all.0 (whole_code sound.members) (sources_join joins sound.members stands.faultless all.0 all.1) in
    let keeps = whole_rules held sound.members stands rules in
    subst IsVerified same (laws.verified (whole_code sound.members) (kept_flags sound.members) (kept_there laws sound.members keeps) whole)

-- What the units stand for

pub link_refused : (held : Members) (members : List Member) (answer : Answer) → HoldsMembers held members → RefusesLink (units_seen held.units.items) answer
    → (answer ≡ NoMemory) ⊎ Links members (Err answer)
link_refused held members answer stands (inl e) = inl e
link_refused held members answer stands (inr e) =
    inr (not_linked answer (subst (λ units. option_and_then (link_answer units) (first_fault units) ≡ Some answer) stands.units e))

pub code_refused : (held : Members) (members : List Member) (tables : Tables) (answer : Answer) → HoldsMembers held members
    → tables ≡ pruned_code (units_seen held.units.items) → first_fault (units_seen held.units.items) ≡ None
    → RefusesCode (units_seen held.units.items) held.first_ucode tables answer → (answer ≡ NoMemory) ⊎ Links members (Err answer)
code_refused held members tables answer stands e fits (wants same) = inl same
code_refused held members tables answer stands e fits (breaks first rule number place at fault same) =
    let base = unit_named (units_of members) first in
    let fits_all : first_fault (units_of members) ≡ None = subst (λ units. first_fault units ≡ None) stands.units fits in
    let code : tables ≡ linked_code members = e ∙ ap pruned_code stands.units in
    let told : answer ≡ BadUcode (first_name base) rule =
    subst (λ units. answer ≡ BadUcode (first_name (unit_named units first)) rule) stands.units same in
    inr (subst (λ (a : Answer). Links members (Err a)) (sym told) (unverified base rule number place fits_all
    (first_named members first (sym stands.place ∙ at)) (rw code at fault)))

pub made_of : AllRun → PruneLaws → (held : Members) (members : List Member) (made : MadeProgram) (tables : Tables) → HoldsMembers held members
    → tables ≡ pruned_code (units_seen held.units.items) → keeps_rules (joined_code (units_seen held.units.items)) ≡ true
    → first_fault (units_seen held.units.items) ≡ None → IsVerified tables
    → tables_of made.code.code ≡ tables → made.image.items ≡ image_of tables → IsMadeProgram members made
made_of run laws held members made tables stands e rules fits verified code bytes =
    let same : tables ≡ linked_code members = e ∙ ap pruned_code stands.units in
    let keeps = whole_rules held members stands rules in
    record {
      code = code ∙ same;
      bytes = bytes ∙ ap image_of same;
      links = is_program (subst (λ units. first_fault units ≡ None) stands.units fits) (subst IsVerified same verified);
      means = sources_mean run members stands.faultless keeps;
      shorter = laws.shorter (whole_code members) (kept_flags members) keeps (kept_there laws members keeps);
    }

-- the code breaks a rule, which is told of the unit at a place
pub code_breaks : (units given : List HeldUnit) (first : Option ℕ) (tables : Tables) (place : ℕ) (fault : VerifyFault) (rule told_rule : Rule)
    (number at : ℕ) (answer : Answer) → told_rule ≡ rule → given ≡ units → first ≡ Some place → fault ≡ V rule number at → Refuses tables.procs fault
    → (answer ≡ NoMemory) ⊎ (answer ≡ BadUcode (first_name (unit_named (units_seen given) place)) told_rule)
    → RefusesCode (units_seen units) first tables answer
code_breaks units given first tables place fault rule told_rule number at answer r same e is refuses (inl want) = wants want
code_breaks units given first tables place fault rule told_rule number at answer r same e is refuses (inr told) =
    breaks place rule number at e (subst (Refuses tables.procs) is refuses)
    (subst (λ us. answer ≡ BadUcode (first_name (unit_named (units_seen us) place)) rule) same
    (told ∙ ap (λ broken. BadUcode (first_name (unit_named (units_seen given) place)) broken) r))
