-- The names of the procedures and the records of a file: no two are the same, and each procedure has its code and its declaration.
use Rattle.std.proofs.Common.{◌≡◌, Bool, true, false, not, ◌&&◌, ℕ, List, [], ◌∷◌, ◌++◌, map, refl, sym, ap, ◌∙◌, subst, if◌then◌else◌, length}
use Rattle.std.specs.List.{flat_map, list_all, list_any}
use Rattle.std.specs.Str.{bytes_eq}
use Rattle.std.proofs.lemmas.Grind.{flat_map-append}
use Rattle.icn_tree.specs.declared.rule.Rule.TheVariants.{C6, C8}
use Rattle.icn_tree.specs.declared.tree.DeclItem.{DeclItem}
use Rattle.icn_tree.specs.declared.tree.Name.{Name}
use Rattle.icn_tree.specs.Trees.{Declaration, Global, Link, Invocable, Record, ProcedureOf}
use Rattle.icn_decls.specs.Contexts.{BrokenRule, fault}
use Rattle.icn_decls.specs.Faults.{fault_if_met, names_after, declaration_faults, declarations_faults, all_repeated, too_many}
use Rattle.icn_tree.specs.NameSets.{NameTest, with_name, none_met}
use Rattle.icn_unit.specs.PlainUnits.{PlainDecl, proc_names, owned_name, owned_names, declared_name, declared_names}
use Rattle.icn_unit.specs.PlainUnits.{Global as GlobalLine, Link as LinkLine, Invocable as InvocableLine}
use Rattle.icn_unit.specs.UnitRules.{names_differ, same_texts, same_names}
use Rattle.icn_translate.specs.FileUnits.{proc_codes, item_text, lines_in, unit_decls}
use Rattle.icn_translate.specs.ProcCodes.{texts_of}
use Rattle.icn_units.specs.CodeNames.{fields_differ}
use Rattle.icn_units.proofs.KeptByForms.{none_before, none_behind}
use Rattle.icn_units.proofs.DraftNames.{both_of, neither_of, nor_of, is_not, was_not}
use Rattle.icn_units.proofs.EntryNames.{texts_differ, same_text, met_again, met_now, differs}

-- procedures and records, and procedures alone, by their names
abbrev owners : List Declaration → List (List ℕ)
owners [] = []
owners (Global place names ∷ others) = owners others
owners (Link place items ∷ others) = owners others
owners (Invocable place items ∷ others) = owners others
owners (Record place name fields ∷ others) = name.text ∷ owners others
owners (ProcedureOf procedure ∷ others) = procedure.name.text ∷ owners others

abbrev procedures : List Declaration → List (List ℕ)
procedures [] = []
procedures (Global place names ∷ others) = procedures others
procedures (Link place items ∷ others) = procedures others
procedures (Invocable place items ∷ others) = procedures others
procedures (Record place name fields ∷ others) = procedures others
procedures (ProcedureOf procedure ∷ others) = procedure.name.text ∷ procedures others

-- They are those of the unit

no_names : {A : Type 0} (line : A → PlainDecl) (given : PlainDecl → List (List ℕ)) → ((x : A) → given (line x) ≡ [])
    → (xs : List A) → flat_map given (map line xs) ≡ []
no_names line given h [] = refl
no_names line given h (x ∷ xs) = ap (λ names. names ++ flat_map given (map line xs)) (h x)
    ∙ no_names line given h xs

-- what the lines of a declaration give, in front of those of others
in_front : (given : PlainDecl → List (List ℕ)) (declaration : Declaration) (others : List Declaration)
    (here rest : List (List ℕ))
    → flat_map given (lines_in declaration) ≡ here → flat_map given (unit_decls others) ≡ rest
    → flat_map given (unit_decls (declaration ∷ others)) ≡ here ++ rest
in_front given declaration others here rest h g =
    flat_map-append given (lines_in declaration) (unit_decls others)
    ∙ ap (λ names. names ++ flat_map given (unit_decls others)) h ∙ ap (λ names. here ++ names) g

unit_owners : (declarations : List Declaration) → owned_names (unit_decls declarations) ≡ owners declarations
unit_owners [] = refl
unit_owners (Global place names ∷ others) =
    in_front owned_name (Global place names) others [] (owners others)
    (no_names (λ (name : Name). GlobalLine name.text) owned_name (λ name. refl) names) (unit_owners others)
unit_owners (Link place items ∷ others) =
    in_front owned_name (Link place items) others [] (owners others)
    (no_names (λ (item : DeclItem). LinkLine (item_text item)) owned_name (λ item. refl) items) (unit_owners others)
unit_owners (Invocable place items ∷ others) =
    in_front owned_name (Invocable place items) others [] (owners others)
    (no_names (λ (item : DeclItem). InvocableLine (item_text item)) owned_name (λ item. refl) items) (unit_owners others)
unit_owners (Record place name fields ∷ others) =
    in_front owned_name (Record place name fields) others (name.text ∷ []) (owners others) refl (unit_owners others)
unit_owners (ProcedureOf procedure ∷ others) =
    in_front owned_name (ProcedureOf procedure) others (procedure.name.text ∷ []) (owners others) refl
    (unit_owners others)

unit_declared : (declarations : List Declaration) → declared_names (unit_decls declarations)
    ≡ procedures declarations
unit_declared [] = refl
unit_declared (Global place names ∷ others) =
    in_front declared_name (Global place names) others [] (procedures others)
    (no_names (λ (name : Name). GlobalLine name.text) declared_name (λ name. refl) names) (unit_declared others)
unit_declared (Link place items ∷ others) =
    in_front declared_name (Link place items) others [] (procedures others)
    (no_names (λ (item : DeclItem). LinkLine (item_text item)) declared_name (λ item. refl) items)
    (unit_declared others)
unit_declared (Invocable place items ∷ others) =
    in_front declared_name (Invocable place items) others [] (procedures others)
    (no_names (λ (item : DeclItem). InvocableLine (item_text item)) declared_name (λ item. refl) items)
    (unit_declared others)
unit_declared (Record place name fields ∷ others) =
    in_front declared_name (Record place name fields) others [] (procedures others) refl (unit_declared others)
unit_declared (ProcedureOf procedure ∷ others) =
    in_front declared_name (ProcedureOf procedure) others (procedure.name.text ∷ []) (procedures others) refl
    (unit_declared others)

unit_procedures : (declarations : List Declaration) → proc_names (proc_codes declarations) ≡ procedures declarations
unit_procedures [] = refl
unit_procedures (Global place names ∷ others) = unit_procedures others
unit_procedures (Link place items ∷ others) = unit_procedures others
unit_procedures (Invocable place items ∷ others) = unit_procedures others
unit_procedures (Record place name fields ∷ others) = unit_procedures others
unit_procedures (ProcedureOf procedure ∷ others) =
    ap (λ names. procedure.name.text ∷ names) (unit_procedures others)

-- The same procedures on both sides

texts_same : (texts : List (List ℕ)) → same_texts texts texts ≡ true
texts_same [] = refl
texts_same (text ∷ texts) = ap (λ b. b && same_texts texts texts) (same_text text) ∙ texts_same texts

pub names_are_same : (declarations : List Declaration)
    → same_names (proc_codes declarations) (unit_decls declarations) ≡ true
names_are_same declarations =
    ap (λ names. same_texts names (declared_names (unit_decls declarations))) (unit_procedures declarations)
    ∙ ap (λ names. same_texts (procedures declarations) names) (unit_declared declarations)
    ∙ texts_same (procedures declarations)

-- No name stands twice

not_owned : (met : NameTest) (name : Name) → fault_if_met C8 met name ≡ [] → met name.text ≡ false
not_owned met name h = by (met name.text) h
  where
    by : (b : Bool) → (if b then fault C8 name.place else []) ≡ [] → b ≡ false
    by true h = absurd (cc)
    by false h = refl

-- the name of a declaration was not met, where it breaks no rule
record_new : (met : NameTest) (name : Name) (many fields : List BrokenRule) → many ++ (fault_if_met C8 met name ++ fields) ≡ []
    → met name.text ≡ false
record_new met name many fields h = not_owned met name
    (none_before (fault_if_met C8 met name) fields (none_behind many (fault_if_met C8 met name ++ fields) h))

module _ (met : NameTest) (declaration : Declaration) (others : List Declaration)
    (h : declarations_faults met (declaration ∷ others) ≡ []) where
  pub first_faultless : declaration_faults met declaration ≡ []
  first_faultless = none_before (declaration_faults met declaration)
      (declarations_faults (names_after met declaration) others) h

  pub others_faultless : declarations_faults (names_after met declaration) others ≡ []
  others_faultless = none_behind (declaration_faults met declaration)
      (declarations_faults (names_after met declaration) others) h

none_owned : (met : NameTest) (declarations : List Declaration) (x : List ℕ) → met x ≡ true
    → declarations_faults met declarations ≡ [] → list_any (λ y. bytes_eq x y) (owners declarations) ≡ false
none_owned met [] x h g = refl
none_owned met (Global place names ∷ others) x h g =
    none_owned met others x h (others_faultless met (Global place names) others g)
none_owned met (Link place items ∷ others) x h g =
    none_owned met others x h (others_faultless met (Link place items) others g)
none_owned met (Invocable place items ∷ others) x h g =
    none_owned met others x h (others_faultless met (Invocable place items) others g)
none_owned met (Record place name fields ∷ others) x h g =
    nor_of (bytes_eq x name.text) (list_any (λ y. bytes_eq x y) (owners others))
    (differs met x name.text h (record_new met name _ _
    (first_faultless met (Record place name fields) others g)))
    (none_owned (with_name met name.text) others x (met_again met name.text x h)
    (others_faultless met (Record place name fields) others g))
none_owned met (ProcedureOf p ∷ others) x h g =
    nor_of (bytes_eq x p.name.text) (list_any (λ y. bytes_eq x y) (owners others))
    (differs met x p.name.text h (record_new met p.name _ _ (first_faultless met (ProcedureOf p) others g)))
    (none_owned (with_name met p.name.text) others x (met_again met p.name.text x h)
    (others_faultless met (ProcedureOf p) others g))

owners_differ : (met : NameTest) (declarations : List Declaration) → declarations_faults met declarations ≡ []
    → names_differ (owners declarations) ≡ true
owners_differ met [] g = refl
owners_differ met (Global place names ∷ others) g =
    owners_differ met others (others_faultless met (Global place names) others g)
owners_differ met (Link place items ∷ others) g =
    owners_differ met others (others_faultless met (Link place items) others g)
owners_differ met (Invocable place items ∷ others) g =
    owners_differ met others (others_faultless met (Invocable place items) others g)
owners_differ met (Record place name fields ∷ others) g =
    let later = others_faultless met (Record place name fields) others g in
    is_not (list_any (λ y. bytes_eq name.text y) (owners others)) (names_differ (owners others))
    (none_owned (with_name met name.text) others name.text (met_now met name.text) later)
    (owners_differ (with_name met name.text) others later)
owners_differ met (ProcedureOf p ∷ others) g =
    let later = others_faultless met (ProcedureOf p) others g in
    is_not (list_any (λ y. bytes_eq p.name.text y) (owners others)) (names_differ (owners others))
    (none_owned (with_name met p.name.text) others p.name.text (met_now met p.name.text) later)
    (owners_differ (with_name met p.name.text) others later)

pub unit_owners_differ : (met : NameTest) (declarations : List Declaration) → declarations_faults met declarations ≡ []
    → names_differ (owned_names (unit_decls declarations)) ≡ true
unit_owners_differ met declarations h = subst (λ (names : List (List ℕ)). names_differ names ≡ true)
    (sym (unit_owners declarations)) (owners_differ met declarations h)

-- and so of procedures alone
fewer_any : (x : List ℕ) (declarations : List Declaration) → list_any (λ y. bytes_eq x y) (owners declarations)
    ≡ false → list_any (λ y. bytes_eq x y) (procedures declarations) ≡ false
fewer_any x [] h = refl
fewer_any x (Global place names ∷ others) h = fewer_any x others h
fewer_any x (Link place items ∷ others) h = fewer_any x others h
fewer_any x (Invocable place items ∷ others) h = fewer_any x others h
fewer_any x (Record place name fields ∷ others) h =
    fewer_any x others (neither_of (bytes_eq x name.text) (list_any (λ y. bytes_eq x y) (owners others)) h).1
fewer_any x (ProcedureOf p ∷ others) h =
    let parts = neither_of (bytes_eq x p.name.text) (list_any (λ y. bytes_eq x y) (owners others)) h in
    nor_of (bytes_eq x p.name.text) (list_any (λ y. bytes_eq x y) (procedures others)) parts.0
    (fewer_any x others parts.1)

fewer_differ : (declarations : List Declaration) → names_differ (owners declarations) ≡ true
    → names_differ (procedures declarations) ≡ true
fewer_differ [] h = refl
fewer_differ (Global place names ∷ others) h = fewer_differ others h
fewer_differ (Link place items ∷ others) h = fewer_differ others h
fewer_differ (Invocable place items ∷ others) h = fewer_differ others h
fewer_differ (Record place name fields ∷ others) h =
    fewer_differ others (both_of (not (list_any (λ y. bytes_eq name.text y) (owners others)))
    (names_differ (owners others)) h).1
fewer_differ (ProcedureOf p ∷ others) h =
    let parts = both_of (not (list_any (λ y. bytes_eq p.name.text y) (owners others)))
    (names_differ (owners others)) h in
    is_not (list_any (λ y. bytes_eq p.name.text y) (procedures others)) (names_differ (procedures others))
    (fewer_any p.name.text others (was_not (list_any (λ y. bytes_eq p.name.text y) (owners others)) parts.0))
    (fewer_differ others parts.1)

pub unit_procedures_differ : (met : NameTest) (declarations : List Declaration) → declarations_faults met declarations
    ≡ [] → names_differ (proc_names (proc_codes declarations)) ≡ true
unit_procedures_differ met declarations h =
    subst (λ (names : List (List ℕ)). names_differ names ≡ true) (sym (unit_procedures declarations))
    (fewer_differ declarations (owners_differ met declarations h))

-- The fields of a record differ

all_joined : {A : Type 0} (test : A → Bool) (xs ys : List A) → list_all test xs ≡ true → list_all test ys ≡ true
    → list_all test (xs ++ ys) ≡ true
all_joined test [] ys h g = g
all_joined test (x ∷ xs) ys h g =
    let parts = both_of (test x) (list_all test xs) h in
    ap (λ b. b && list_all test (xs ++ ys)) parts.0 ∙ all_joined test xs ys parts.1 g

all_pass : {A B : Type 0} (test : B → Bool) (line : A → B) → ((x : A) → test (line x) ≡ true) → (xs : List A)
    → list_all test (map line xs) ≡ true
all_pass test line h [] = refl
all_pass test line h (x ∷ xs) = ap (λ b. b && list_all test (map line xs)) (h x) ∙ all_pass test line h xs

record_fields : (met : NameTest) (name : Name) (many : List BrokenRule) (fields : List Name)
    → many ++ (fault_if_met C8 met name ++ all_repeated C6 none_met fields) ≡ [] → names_differ (texts_of fields) ≡ true
record_fields met name many fields h =
    texts_differ C6 none_met fields (none_behind (fault_if_met C8 met name) (all_repeated C6 none_met fields)
    (none_behind many (fault_if_met C8 met name ++ all_repeated C6 none_met fields) h))

line_fields : (met : NameTest) (declaration : Declaration) → declaration_faults met declaration ≡ []
    → list_all fields_differ (lines_in declaration) ≡ true
line_fields met (Global place names) h =
    all_pass fields_differ (λ (name : Name). GlobalLine name.text) (λ name. refl) names
line_fields met (Link place items) h = all_pass fields_differ (λ (item : DeclItem). LinkLine (item_text item))
    (λ item. refl) items
line_fields met (Invocable place items) h = all_pass fields_differ (λ (item : DeclItem). InvocableLine (item_text item))
    (λ item. refl) items
line_fields met (Record place name fields) h =
    ap (λ b. b && true) (record_fields met name (too_many (length fields) name) fields h)
line_fields met (ProcedureOf p) h = refl

pub unit_fields_differ : (met : NameTest) (declarations : List Declaration) → declarations_faults met declarations ≡ []
    → list_all fields_differ (unit_decls declarations) ≡ true
unit_fields_differ met [] h = refl
unit_fields_differ met (declaration ∷ others) h =
    all_joined fields_differ (lines_in declaration) (unit_decls others)
    (line_fields met declaration (first_faultless met declaration others h))
    (unit_fields_differ (names_after met declaration) others (others_faultless met declaration others h))
