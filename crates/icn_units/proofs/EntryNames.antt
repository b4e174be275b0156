-- The names of the code of a procedure are those of its draft, no two of them are the same, and they stand in order.
use Rattle.std.proofs.Common.{◌≡◌, ◌≤◌, ◌<◌, ◌⊎◌, inl, inr, ℕ, Bool, true, false, ◌&&◌, List, [], ◌∷◌, ◌++◌, length, map, drop, refl, sym, ap, ◌∙◌, subst, append_assoc, nat_le, nat_lt, suc, if◌then◌else◌, arith}
use Rattle.std.specs.List.{flat_map, list_all, list_any}
use Rattle.std.specs.Str.{bytes_eq}
use Rattle.std.proofs.Math.Seq.{drop-append_seam}
use Rattle.std.proofs.lemmas.List.{map-append}
use Rattle.std.proofs.lemmas.Bool.Decides.{leb_tells}
use Rattle.std.proofs.lemmas.Slice.Eq.{bytes_eq-Decides}
use Rattle.icn_tree.specs.declared.rule.Rule.{Rule}
use Rattle.icn_tree.specs.declared.rule.Rule.TheVariants.{C1, C8}
use Rattle.icn_tree.specs.declared.tree.Name.{Name}
use Rattle.icn_tree.specs.declared.tree.LocalKind.{LocalKind}
use Rattle.icn_tree.specs.declared.tree.LocalKind.TheVariants as Kept
use Rattle.icn_tree.specs.Trees.{LocalDecl, Procedure}
use Rattle.icn_decls.specs.Contexts.{fault, outermost}
use Rattle.icn_decls.specs.Faults.{fault_if_met, all_repeated, too_many, declared_names, initial_faults, all_faults, procedure_faults}
use Rattle.icn_tree.specs.NameSets.{NameTest, none_met, with_name}
use Rattle.icn_unit.specs.declared.unit.NameKind.{NameKind}
use Rattle.icn_unit.specs.declared.unit.NameKind.TheVariants.{Parameter, Undeclared}
use Rattle.icn_unit.specs.declared.unit.UnitInstr.{UnitInstr}
use Rattle.icn_unit.specs.declared.unit.UnitInstr.TheVariants as I
use Rattle.icn_unit.specs.declared.unit.UnitName.{UnitName}
use Rattle.icn_unit.specs.PlainUnits.{entry_names}
use Rattle.icn_unit.specs.UnitRules.{names_differ, in_order, rank}
use Rattle.icn_translate.specs.ProcCodes.{entry_of, texts_of, kind_of, local_entries, local_texts, declared_entries, declared_texts, first_draft, draft_of, undeclared_in, proc_code}
use Rattle.icn_units.proofs.KeptByForms.{none_before, none_behind}
use Rattle.icn_units.proofs.DraftNames.{once_each, nor_of, is_not, Names, naming, naming_asks, are_named}
use Rattle.icn_units.proofs.ProcedureLabels.{procedure_leads}
use Rattle.icn_units.proofs.DraftChains.{variable_in}
use Rattle.icn_units.proofs.DraftVariables.{Below, AllBelow, Vars, variables, variables_asks, have_vars}
use Rattle.icn_units.specs.CodeNames.{variable_is_named, variables_are_named}

-- Names that none of which is declared twice

pub same_text : (text : List ℕ) → bytes_eq text text ≡ true
same_text text = (bytes_eq-Decides text text).1 refl

pub met_again : (met : NameTest) (name x : List ℕ) → met x ≡ true → with_name met name x ≡ true
met_again met name x h = by (bytes_eq name x)
  where
    by : (b : Bool) → (if b then true else met x) ≡ true
    by true = refl
    by false = h

pub met_now : (met : NameTest) (name : List ℕ) → with_name met name name ≡ true
met_now met name = ap (λ b. if b then true else met name) (same_text name)

not_met : (rule : Rule) (met : NameTest) (name : Name) → fault_if_met rule met name ≡ [] → met name.text ≡ false
not_met rule met name h = by (met name.text) h
  where
    by : (b : Bool) → (if b then fault rule name.place else []) ≡ [] → b ≡ false
    by true h = absurd (cc)
    by false h = refl

pub differs : (met : NameTest) (x y : List ℕ) → met x ≡ true → met y ≡ false → bytes_eq x y ≡ false
differs met x y h g = by (bytes_eq x y) refl
  where
    by : (b : Bool) → bytes_eq x y ≡ b → b ≡ false
    by false e = refl
    by true e = absurd (let same = ap met ((bytes_eq-Decides x y).0 e) in cc)

none_again : (rule : Rule) (met : NameTest) (names : List Name) (x : List ℕ) → met x ≡ true → all_repeated rule met names
    ≡ []
    → list_any (λ y. bytes_eq x y) (texts_of names) ≡ false
none_again rule met [] x h g = refl
none_again rule met (name ∷ names) x h g =
    let here = none_before (fault_if_met rule met name) (all_repeated rule (with_name met name.text) names) g in
    let later = none_behind (fault_if_met rule met name) (all_repeated rule (with_name met name.text) names) g in
    nor_of (bytes_eq x name.text) (list_any (λ y. bytes_eq x y) (texts_of names))
    (differs met x name.text h (not_met rule met name here))
    (none_again rule (with_name met name.text) names x (met_again met name.text x h) later)

pub texts_differ : (rule : Rule) (met : NameTest) (names : List Name) → all_repeated rule met names ≡ []
    → names_differ (texts_of names)
    ≡ true
texts_differ rule met [] h = refl
texts_differ rule met (name ∷ names) h =
    let later = none_behind (fault_if_met rule met name) (all_repeated rule (with_name met name.text) names) h in
    is_not (list_any (λ y. bytes_eq name.text y) (texts_of names)) (names_differ (texts_of names))
    (none_again rule (with_name met name.text) names name.text (met_now met name.text) later)
    (texts_differ rule (with_name met name.text) names later)

-- The texts of names that are declared

local_names : (locals : List LocalDecl) → texts_of (flat_map (λ (l : LocalDecl). l.names) locals)
    ≡ flat_map local_texts locals
local_names [] = refl
local_names (l ∷ locals) = map-append (λ (name : Name). name.text) l.names
    (flat_map (λ (l : LocalDecl). l.names) locals) ∙ ap (λ texts. local_texts l ++ texts) (local_names locals)

pub names_declared : (procedure : Procedure) → texts_of (declared_names procedure) ≡ declared_texts procedure
names_declared procedure =
    map-append (λ (name : Name). name.text) procedure.parameters
    (flat_map (λ (l : LocalDecl). l.names) procedure.locals)
    ∙ ap (λ texts. texts_of procedure.parameters ++ texts) (local_names procedure.locals)

entries_named : (kind : NameKind) (names : List Name)
    → entry_names (map (λ (name : Name). entry_of kind name.text) names) ≡ texts_of names
entries_named kind [] = refl
entries_named kind (name ∷ names) = ap (λ texts. name.text ∷ texts) (entries_named kind names)

locals_named : (locals : List LocalDecl) → entry_names (flat_map local_entries locals) ≡ flat_map local_texts locals
locals_named [] = refl
locals_named (l ∷ locals) =
    map-append (λ (entry : UnitName). entry.name) (local_entries l) (flat_map local_entries locals)
    ∙ ap (λ texts. texts ++ entry_names (flat_map local_entries locals)) (entries_named (kind_of l.kind) l.names)
    ∙ ap (λ texts. local_texts l ++ texts) (locals_named locals)

pub declared_named : (procedure : Procedure) → entry_names (declared_entries procedure) ≡ declared_texts procedure
declared_named procedure =
    map-append (λ (entry : UnitName). entry.name)
    (map (λ (name : Name). entry_of Parameter name.text) procedure.parameters)
    (flat_map local_entries procedure.locals)
    ∙ ap (λ texts. texts ++ entry_names (flat_map local_entries procedure.locals))
    (entries_named Parameter procedure.parameters)
    ∙ ap (λ texts. texts_of procedure.parameters ++ texts) (locals_named procedure.locals)

others_named : (texts : List (List ℕ)) → entry_names (map (entry_of Undeclared) texts) ≡ texts
others_named [] = refl
others_named (text ∷ texts) = ap (λ rest. text ∷ rest) (others_named texts)

-- Order

-- each entry is of the kind before it or a later one, from this on
abbrev From : ℕ → List UnitName → Type 0
From r [] = Unit {0}
From r (entry ∷ entries) = (r ≤ rank entry.kind) × From (rank entry.kind) entries

from_lower : {r s : ℕ} (entries : List UnitName) → r ≤ s → From s entries → From r entries
from_lower [] h f = tt
from_lower {r = r} {s = s} (entry ∷ entries) h f = let k = f.0 in (omega arith, f.1)

le_test : (a b : ℕ) → a ≤ b → nat_le a b ≡ true
le_test a b h = by (leb_tells a b)
  where
    by : ((nat_le a b ≡ true) × (a ≤ b)) ⊎ ((nat_le a b ≡ false) × (b < a)) → nat_le a b ≡ true
    by (inl t) = t.0
    by (inr t) = let k = t.1 in absurd (omega arith)

and_both : (a b : Bool) → a ≡ true → b ≡ true → (a && b) ≡ true
and_both true b h g = g
and_both false b h g = absurd (cc)

in_order_from : (r : ℕ) (entries : List UnitName) → From r entries → in_order entries ≡ true
in_order_from r [] f = refl
in_order_from r (a ∷ []) f = refl
in_order_from r (a ∷ b ∷ rest) f = and_both (nat_le (rank a.kind) (rank b.kind)) (in_order (b ∷ rest))
    (le_test (rank a.kind) (rank b.kind) f.1.0) (in_order_from (rank a.kind) (b ∷ rest) f.1)

-- names of one kind, in front of others that are no earlier
kind_from : (kind : NameKind) (names : List Name) (others : List UnitName) → From (rank kind) others
    → From (rank kind) (map (λ (name : Name). entry_of kind name.text) names ++ others)
kind_from kind [] others f = f
kind_from kind (name ∷ names) others f = (omega arith, kind_from kind names others f)

local_rank : (kind : LocalKind) → rank (kind_of kind) ≡ 1
local_rank Kept.Local = refl
local_rank Kept.Static = refl

locals_from : (locals : List LocalDecl) (others : List UnitName) → From 1 others
    → From 1 (flat_map local_entries locals ++ others)
locals_from [] others f = f
locals_from (l ∷ locals) others f =
    let behind = flat_map local_entries locals ++ others in
    let first = kind_from (kind_of l.kind) l.names behind
    (subst (λ r. From r behind) (sym (local_rank l.kind)) (locals_from locals others f)) in
    subst (λ (entries : List UnitName). From 1 entries)
    (sym (append_assoc (local_entries l) (flat_map local_entries locals) others))
    (subst (λ r. From r (local_entries l ++ behind)) (local_rank l.kind) first)

others_from : (texts : List (List ℕ)) → From 2 (map (entry_of Undeclared) texts)
others_from [] = tt
others_from (text ∷ texts) = (omega arith, others_from texts)

procedure_order : (procedure : Procedure) (texts : List (List ℕ))
    → in_order (declared_entries procedure ++ map (entry_of Undeclared) texts) ≡ true
procedure_order procedure texts =
    let parameters = map (λ (name : Name). entry_of Parameter name.text) procedure.parameters in
    let locals = flat_map local_entries procedure.locals in
    let others = map (entry_of Undeclared) texts in
    let behind : From 1 (locals ++ others) =
    locals_from procedure.locals others (from_lower others (omega arith) (others_from texts)) in
    let all : From 0 (parameters ++ (locals ++ others)) =
    kind_from Parameter procedure.parameters (locals ++ others)
    (from_lower (locals ++ others) (omega arith) behind) in
    ap in_order (append_assoc parameters locals others) ∙ in_order_from 0 (parameters ++ (locals ++ others)) all

-- Variables

pub names_length : (entries : List UnitName) → length (entry_names entries) ≡ length entries
names_length [] = refl
names_length (entry ∷ entries) = ap suc (names_length entries)

lt_test : (a b : ℕ) → a < b → nat_lt a b ≡ true
lt_test a b h = le_test (suc a) b h

one_named : (n : ℕ) (i : UnitInstr) → Below n (variable_in i) → variable_is_named n i ≡ true
one_named n (I.Var k) h = lt_test k n h
one_named n i h = refl

all_named : (n : ℕ) (is : List UnitInstr) → AllBelow n is → list_all (variable_is_named n) is ≡ true
all_named n [] h = refl
all_named n (i ∷ is) h = and_both (variable_is_named n i) (list_all (variable_is_named n) is) (one_named n i h.0)
    (all_named n is h.1)

-- A whole procedure

module _ (met : NameTest) (procedure : Procedure) (faultless : procedure_faults met procedure ≡ []) where
  declared_once : names_differ (declared_texts procedure) ≡ true
  declared_once =
      let many = too_many (length (declared_names procedure)) procedure.name in
      let owned = fault_if_met C8 met procedure.name in
      let twice = all_repeated C1 none_met (declared_names procedure) in
      let trees = initial_faults procedure.initial ++ all_faults outermost procedure.body in
      let once = none_before twice trees (none_behind owned (twice ++ trees)
      (none_behind many (owned ++ (twice ++ trees)) faultless)) in
      subst (λ (texts : List (List ℕ)). names_differ texts ≡ true) (names_declared procedure)
      (texts_differ C1 none_met (declared_names procedure) once)

  pub begun_names : (first_draft procedure).names ≡ declared_texts procedure
  begun_names = once_each [] (declared_texts procedure) declared_once

  whole_names : Names (first_draft procedure) (draft_of procedure) []
  whole_names = are_named (first_draft procedure) (draft_of procedure) []
      (procedure_leads naming naming_asks met procedure faultless)

  -- the names of the code are those of the draft
  pub code_names : entry_names (proc_code procedure).names ≡ (draft_of procedure).names
  code_names =
      let names = whole_names in
      let others : undeclared_in procedure ≡ names.rest = ap (drop (length (first_draft procedure).names)) names.first
      ∙ drop-append_seam (first_draft procedure).names names.rest in
      map-append (λ (entry : UnitName). entry.name) (declared_entries procedure)
      (map (entry_of Undeclared) (undeclared_in procedure))
      ∙ ap (λ texts. texts ++ entry_names (map (entry_of Undeclared) (undeclared_in procedure)))
      (declared_named procedure ∙ sym begun_names)
      ∙ ap (λ texts. (first_draft procedure).names ++ texts) (others_named (undeclared_in procedure) ∙ others)
      ∙ sym names.first

  pub code_names_differ : names_differ (entry_names (proc_code procedure).names) ≡ true
  code_names_differ = subst (λ (texts : List (List ℕ)). names_differ texts ≡ true) (sym code_names)
      (whole_names.differ (subst (λ (texts : List (List ℕ)). names_differ texts ≡ true)
      (sym begun_names) declared_once))

  pub code_names_in_order : in_order (proc_code procedure).names ≡ true
  code_names_in_order = procedure_order procedure (undeclared_in procedure)

  whole_vars : Vars (first_draft procedure) (draft_of procedure) []
  whole_vars = have_vars (first_draft procedure) (draft_of procedure) []
      (procedure_leads variables variables_asks met procedure faultless)

  pub code_variables_named : variables_are_named (proc_code procedure) ≡ true
  code_variables_named =
      let long : length (proc_code procedure).names ≡ length (draft_of procedure).names =
      sym (names_length (proc_code procedure).names) ∙ ap length code_names in
      all_named (length (proc_code procedure).names) (draft_of procedure).instrs
      (subst (λ n. AllBelow n (draft_of procedure).instrs) (sym long) (whole_vars.below tt))
