-- The names of a procedure's code, in their order, against those of the procedure by their kinds.
use Rattle.std.proofs.Common.{◌≡◌, ℕ, zero, suc, ◌+◌, Bool, true, false, not, ◌||◌, List, [], ◌∷◌, ◌++◌, length, map, drop, filter, cond, Option, None, Some, refl, sym, ap, ◌∙◌, append-nil, if◌then◌else◌, arith}
use Rattle.std.specs.List.{flat_map, list_any, position_or_len}
use Rattle.std.specs.Str.{bytes_eq}
use Rattle.std.proofs.Math.Seq.{drop-append_seam}
use Rattle.std.proofs.lemmas.List.{map-append}
use Rattle.std.proofs.lemmas.List.Elements.{filter-append}
use Rattle.std.proofs.lemmas.List.Folds.{list_any-append}
use Rattle.std.proofs.lemmas.List.Sums.{length-filter}
use Rattle.std.proofs.lemmas.Slice.Eq.{bytes_eq-Decides}
use Rattle.icn_tree.specs.declared.tree.Name.{Name}
use Rattle.icn_tree.specs.declared.tree.Place.{Place}
use Rattle.icn_tree.specs.declared.tree.LocalKind.{LocalKind}
use Rattle.icn_tree.specs.declared.tree.LocalKind.TheVariants as Kept
use Rattle.icn_tree.specs.Trees.{LocalDecl, Procedure}
use Rattle.icn_code.specs.declared.instr.Instr.{Instr}
use Rattle.icn_code.specs.declared.instr.Instr.TheVariants as Instrs
use Rattle.icn_decls.specs.Faults.{procedure_faults}
use Rattle.icn_tree.specs.NameSets.{NameTest}
use Rattle.icn_unit.specs.declared.unit.NameKind.{NameKind}
use Rattle.icn_unit.specs.declared.unit.NameKind.TheVariants as Kinds
use Rattle.icn_unit.specs.declared.unit.UnitName.{UnitName}
use Rattle.icn_unit.specs.PlainUnits.{entry_names, is_parameter, params_in}
use Rattle.icn_unit.specs.UnitRules.{names_differ}
use Rattle.icn_link.specs.declared.variable.VariableKind.{VariableKind}
use Rattle.icn_link.specs.declared.variable.VariableKind.TheVariants.{Local, Static, Global}
use Rattle.icn_link.specs.FirstMentions.{text_index}
use Rattle.icn_link.specs.Joined.{is_among, variable_by as variable_of_kind, variable_of, variable_instr, locals_behind, statics_behind, variables, variable_at, is_local, is_static, locals_in, statics_in}
use Rattle.icn_meaning.specs.Program.{index_of, later, texts, locals_among, statics_among, own_names, undeclared_names, without_names, names_in_initial, names_in_all}
use Rattle.law_simulation.specs.JoinedFiles.{variable_by}
use Rattle.law_simulation.specs.Mentions.{firsts}
use Rattle.law_simulation.proofs.TreeForms.{FormedInitial, FormedAll}
use Rattle.icn_translate.specs.ProcCodes.{entry_of, texts_of, kind_of, local_entries, local_texts, declared_texts, first_draft, draft_of, undeclared_in, proc_code}
use Rattle.icn_units.proofs.EntryNames.{begun_names, code_names, code_names_differ, names_length}
use Rattle.icn_units.proofs.DraftNames.{both_of, neither_of, was_not}
use Rattle.law_link.proofs.FirstsOnce.{filter_by, firsts_kept, names_all, added_firsts, without_kept}
use Rattle.law_link.proofs.Mentioning.{code_adds}

-- a name is a local, or a static, where these are the globals
abbrev pub is_local_in : List (List ℕ) → UnitName → Bool
is_local_in globals entry = is_local (variable_of globals entry)

abbrev pub is_static_in : List (List ℕ) → UnitName → Bool
is_static_in globals entry = is_static (variable_of globals entry)

-- The names that are locals, and those that are statics.
abbrev pub local_names : List (List ℕ) → List UnitName → List (List ℕ)
local_names globals entries = entry_names (filter (is_local_in globals) entries)

abbrev pub static_names : List (List ℕ) → List UnitName → List (List ℕ)
static_names globals entries = entry_names (filter (is_static_in globals) entries)

pub locals_counted : (globals : List (List ℕ)) (entries : List UnitName)
    → locals_in globals entries ≡ length (local_names globals entries)
locals_counted globals entries = sym (length-filter (is_local_in globals) entries)
    ∙ sym (names_length (filter (is_local_in globals) entries))

pub statics_counted : (globals : List (List ℕ)) (entries : List UnitName)
    → statics_in globals entries ≡ length (static_names globals entries)
statics_counted globals entries = sym (length-filter (is_static_in globals) entries)
    ∙ sym (names_length (filter (is_static_in globals) entries))

-- The instruction of each name

-- a number behind so many others
abbrev shifted : ℕ → Option ℕ → Option ℕ
shifted n None = None
shifted n (Some k) = Some (n + k)

unshifted : (o : Option ℕ) → shifted 0 o ≡ o
unshifted None = refl
unshifted (Some k) = ap (λ n. Some n) (omega arith)

shifted_later : (n : ℕ) (o : Option ℕ) → shifted n (later o) ≡ shifted (suc n) o
shifted_later n None = refl
shifted_later n (Some k) = ap (λ n. Some n) (omega arith)

shifted_first : (n : ℕ) → shifted n (Some zero) ≡ Some n
shifted_first n = ap (λ n. Some n) (omega arith)

place_first : (name x : List ℕ) (xs : List (List ℕ)) → bytes_eq name x ≡ true → index_of name (x ∷ xs) ≡ Some zero
place_first name x xs h = ap (λ b. if b then Some zero else later (index_of name xs)) h

place_later : (name x : List ℕ) (xs : List (List ℕ)) → bytes_eq name x ≡ false → index_of name (x ∷ xs) ≡ later (index_of name xs)
place_later name x xs h = ap (λ b. if b then Some zero else later (index_of name xs)) h

-- a name that none of the entries has
not_placed : (name : List ℕ) (test : UnitName → Bool) (entries : List UnitName)
    → list_any (bytes_eq name) (entry_names entries) ≡ false → index_of name (entry_names (filter test entries)) ≡ None
not_placed name test [] h = refl
not_placed name test (entry ∷ entries) h =
    let none = neither_of (bytes_eq name entry.name) (list_any (bytes_eq name) (entry_names entries)) h in
    kept (test entry) none.0 (not_placed name test entries none.1)
  where
    kept : (b : Bool) → bytes_eq name entry.name ≡ false → index_of name (entry_names (filter test entries)) ≡ None
        → index_of name (entry_names (cond b (entry ∷ filter test entries) (filter test entries))) ≡ None
    kept true e n = place_later name entry.name (entry_names (filter test entries)) e ∙ ap later n
    kept false e n = n

-- a name that is among some has its place there
placed_by : (name x : List ℕ) (xs : List (List ℕ)) (b : Bool) → bytes_eq name x ≡ b
    → (list_any (bytes_eq name) xs ≡ true → index_of name xs ≡ Some (text_index xs name))
    → list_any (bytes_eq name) (x ∷ xs) ≡ true → index_of name (x ∷ xs) ≡ Some (text_index (x ∷ xs) name)
placed_by name x xs true e h a = place_first name x xs e ∙ rw e (ap (λ n. Some n) (omega arith))
placed_by name x xs false e h a = place_later name x xs e
    ∙ ap later (h (ap (λ b. b || list_any (bytes_eq name) xs) (sym e) ∙ a)) ∙ rw e (ap (λ n. Some n) (omega arith))

placed : (name : List ℕ) (xs : List (List ℕ)) → list_any (bytes_eq name) xs ≡ true → index_of name xs ≡ Some (text_index xs name)
placed name [] h = absurd (cc)
placed name (x ∷ xs) h = placed_by name x xs (bytes_eq name x) refl (placed name xs) h

-- a name in front of others, where it is one of them
abbrev with_head : Bool → List ℕ → List (List ℕ) → List (List ℕ)
with_head true name names = name ∷ names
with_head false name names = names

headed : (test : UnitName → Bool) (entry : UnitName) (entries : List UnitName) (b : Bool)
    → entry_names (cond b (entry ∷ filter test entries) (filter test entries))
    ≡ with_head b entry.name (entry_names (filter test entries))
headed test entry entries true = refl
headed test entry entries false = refl

-- a global is among the globals
global_placed : (globals : List (List ℕ)) (kind : NameKind) (name : List ℕ) → variable_of_kind globals kind name ≡ Global
    → list_any (bytes_eq name) globals ≡ true
global_placed globals Kinds.Parameter name h = absurd (cc)
global_placed globals Kinds.Local name h = absurd (cc)
global_placed globals Kinds.Static name h = absurd (cc)
global_placed globals Kinds.Undeclared name h = by (is_among globals name) refl h
  where
    by : (b : Bool) → is_among globals name ≡ b → (if b then Global else Local) ≡ Global → is_among globals name ≡ true
    by true e h = e
    by false e h = absurd (cc)

-- what a name is among locals and statics, where so many of both were before
abbrev found_in : List (List ℕ) → List ℕ → ℕ → ℕ → List (List ℕ) → List (List ℕ) → Instr
found_in globals name locals statics ls ss =
    variable_by (shifted locals (index_of name ls)) (shifted statics (index_of name ss)) (index_of name globals)

-- the first entry has the name
first_variable : (globals : List (List ℕ)) (name : List ℕ) (locals statics : ℕ) (text : List ℕ) (ls ss : List (List ℕ))
    (v : VariableKind) → bytes_eq name text ≡ true → (v ≡ Global → list_any (bytes_eq text) globals ≡ true)
    → index_of name ls ≡ None → index_of name ss ≡ None
    → variable_instr v locals statics (text_index globals text)
    ≡ found_in globals name locals statics (with_head (is_local v) text ls) (with_head (is_static v) text ss)
first_variable globals name locals statics text ls ss Local e g l s =
    sym (ap (λ o. variable_by o (shifted statics (index_of name ss)) (index_of name globals))
    (ap (shifted locals) (place_first name text ls e) ∙ shifted_first locals))
first_variable globals name locals statics text ls ss Static e g l s =
    sym (ap (λ o. variable_by (shifted locals o) (shifted statics (index_of name (text ∷ ss))) (index_of name globals)) l
    ∙ ap (λ o. variable_by None o (index_of name globals))
    (ap (shifted statics) (place_first name text ss e) ∙ shifted_first statics))
first_variable globals name locals statics text ls ss Global e g l s =
    let same : text ≡ name = sym ((bytes_eq-Decides name text).0 e) in
    let there : list_any (bytes_eq name) globals ≡ true = ap (λ t. list_any (bytes_eq t) globals) (sym same) ∙ g refl in
    ap (λ t. Instrs.Global (text_index globals t)) same
    ∙ sym (ap (λ o. variable_by (shifted locals o) (shifted statics (index_of name ss)) (index_of name globals)) l
    ∙ ap (λ o. variable_by None (shifted statics o) (index_of name globals)) s
    ∙ ap (λ o. variable_by None None o) (placed name globals there))

-- a later entry has it
later_variable : (globals : List (List ℕ)) (name : List ℕ) (locals statics : ℕ) (text : List ℕ) (ls ss : List (List ℕ))
    (v : VariableKind) → bytes_eq name text ≡ false
    → found_in globals name (locals_behind v locals) (statics_behind v statics) ls ss
    ≡ found_in globals name locals statics (with_head (is_local v) text ls) (with_head (is_static v) text ss)
later_variable globals name locals statics text ls ss Local e =
    sym (ap (λ o. variable_by o (shifted statics (index_of name ss)) (index_of name globals))
    (ap (shifted locals) (place_later name text ls e) ∙ shifted_later locals (index_of name ls)))
later_variable globals name locals statics text ls ss Static e =
    sym (ap (λ o. variable_by (shifted locals (index_of name ls)) o (index_of name globals))
    (ap (shifted statics) (place_later name text ss e) ∙ shifted_later statics (index_of name ss)))
later_variable globals name locals statics text ls ss Global e = refl

both_headed : (globals : List (List ℕ)) (name : List ℕ) (locals statics : ℕ) (entry : UnitName) (entries : List UnitName)
    → found_in globals name locals statics (with_head (is_local_in globals entry) entry.name (local_names globals entries))
    (with_head (is_static_in globals entry) entry.name (static_names globals entries))
    ≡ found_in globals name locals statics (local_names globals (entry ∷ entries)) (static_names globals (entry ∷ entries))
both_headed globals name locals statics entry entries =
    let L = local_names globals entries in
    let first = headed (is_local_in globals) entry entries (is_local_in globals entry) in
    let second = headed (is_static_in globals) entry entries (is_static_in globals entry) in
    ap (λ l. found_in globals name locals statics (with_head (is_local_in globals entry) entry.name L) l) (sym second)
    ∙ ap (λ l. found_in globals name locals statics l (static_names globals (entry ∷ entries))) (sym first)

-- what the code has for a name, where so many locals and statics were before
abbrev Stands : List (List ℕ) → List ℕ → List UnitName → ℕ → ℕ → Type 0
Stands globals name entries locals statics =
    variable_at (variables globals locals statics entries) (position_or_len (bytes_eq name) (entry_names entries))
    ≡ found_in globals name locals statics (local_names globals entries) (static_names globals entries)

-- the name is one of these, which differ
abbrev IsOne : List ℕ → List UnitName → Type 0
IsOne name entries = (list_any (bytes_eq name) (entry_names entries) ≡ true) × (names_differ (entry_names entries) ≡ true)

at_first : (globals : List (List ℕ)) (name : List ℕ) (entry : UnitName) (entries : List UnitName) (locals statics : ℕ)
    (b : Bool) → bytes_eq name entry.name ≡ b → IsOne name (entry ∷ entries)
    → ((l s : ℕ) → IsOne name entries → Stands globals name entries l s) → Stands globals name (entry ∷ entries) locals statics
at_first globals name entry entries locals statics true e h next =
    let v = variable_of globals entry in
    let L = local_names globals entries in
    let S = static_names globals entries in
    let names = entry_names entries in
    let same : entry.name ≡ name = sym ((bytes_eq-Decides name entry.name).0 e) in
    let none : list_any (bytes_eq name) names ≡ false = ap (λ t. list_any (bytes_eq t) names) (sym same)
    ∙ was_not (list_any (bytes_eq entry.name) names)
    (both_of (not (list_any (bytes_eq entry.name) names)) (names_differ names) h.1).0 in
    let first : position_or_len (bytes_eq name) (entry_names (entry ∷ entries)) ≡ 0 = rw e refl in
    ap (variable_at (variables globals locals statics (entry ∷ entries))) first
    ∙ first_variable globals name locals statics entry.name L S v e (global_placed globals entry.kind entry.name)
    (not_placed name (is_local_in globals) entries none) (not_placed name (is_static_in globals) entries none)
    ∙ both_headed globals name locals statics entry entries
at_first globals name entry entries locals statics false e h next =
    let v = variable_of globals entry in
    let L = local_names globals entries in
    let S = static_names globals entries in
    let names = entry_names entries in
    let among : list_any (bytes_eq name) names ≡ true = ap (λ b. b || list_any (bytes_eq name) names) (sym e) ∙ h.0 in
    let differ = (both_of (not (list_any (bytes_eq entry.name) names)) (names_differ names) h.1).1 in
    let k = position_or_len (bytes_eq name) names in
    let behind : position_or_len (bytes_eq name) (entry_names (entry ∷ entries)) ≡ suc k = rw e (omega arith) in
    ap (variable_at (variables globals locals statics (entry ∷ entries))) behind
    ∙ next (locals_behind v locals) (statics_behind v statics) (among, differ)
    ∙ later_variable globals name locals statics entry.name L S v e ∙ both_headed globals name locals statics entry entries

stands : (globals : List (List ℕ)) (name : List ℕ) (entries : List UnitName) (locals statics : ℕ) → IsOne name entries
    → Stands globals name entries locals statics
stands globals name [] locals statics h = absurd (let none = h.0 in cc)
stands globals name (entry ∷ entries) locals statics h =
    at_first globals name entry entries locals statics (bytes_eq name entry.name) refl h
    (λ l s. stands globals name entries l s)

-- The names by their kinds

pub texts_same : (names : List Name) → texts_of names ≡ texts names
texts_same [] = refl
texts_same (name ∷ names) = ap (λ rest. name.text ∷ rest) (texts_same names)

-- names of one kind, all of which pass a test or none
all_pass : (test : UnitName → Bool) (kind : NameKind) (names : List Name) → ((text : List ℕ) → test (entry_of kind text) ≡ true)
    → entry_names (filter test (map (λ (name : Name). entry_of kind name.text) names)) ≡ texts names
all_pass test kind [] h = refl
all_pass test kind (name ∷ names) h =
    let rest = filter test (map (λ (name : Name). entry_of kind name.text) names) in
    ap (λ b. entry_names (cond b (entry_of kind name.text ∷ rest) rest)) (h name.text)
    ∙ ap (λ texts. name.text ∷ texts) (all_pass test kind names h)

none_pass : (test : UnitName → Bool) (kind : NameKind) (names : List Name) → ((text : List ℕ) → test (entry_of kind text) ≡ false)
    → entry_names (filter test (map (λ (name : Name). entry_of kind name.text) names)) ≡ []
none_pass test kind [] h = refl
none_pass test kind (name ∷ names) h =
    let rest = filter test (map (λ (name : Name). entry_of kind name.text) names) in
    ap (λ b. entry_names (cond b (entry_of kind name.text ∷ rest) rest)) (h name.text) ∙ none_pass test kind names h

others_pass : (test : UnitName → Bool) (of : List ℕ → Bool) (names : List (List ℕ))
    → ((text : List ℕ) → test (entry_of Kinds.Undeclared text) ≡ of text)
    → entry_names (filter test (map (entry_of Kinds.Undeclared) names)) ≡ filter of names
others_pass test of [] h = refl
others_pass test of (text ∷ names) h =
    by (test (entry_of Kinds.Undeclared text)) (others_pass test of names h) ∙ ap (λ b. cond b (text ∷ filter of names) (filter of names)) (h text)
  where
    by : (b : Bool) → entry_names (filter test (map (entry_of Kinds.Undeclared) names)) ≡ filter of names
        → entry_names (cond b (entry_of Kinds.Undeclared text ∷ filter test (map (entry_of Kinds.Undeclared) names))
        (filter test (map (entry_of Kinds.Undeclared) names))) ≡ cond b (text ∷ filter of names) (filter of names)
    by true e = ap (λ l. text ∷ l) e
    by false e = e

named_append : (test : UnitName → Bool) (xs ys : List UnitName)
    → entry_names (filter test (xs ++ ys)) ≡ entry_names (filter test xs) ++ entry_names (filter test ys)
named_append test xs ys = ap entry_names (filter-append test xs ys)
    ∙ map-append (λ (entry : UnitName). entry.name) (filter test xs) (filter test ys)

local_test : (globals : List (List ℕ)) (text : List ℕ)
    → is_local (variable_of globals (entry_of Kinds.Undeclared text)) ≡ not (list_any (bytes_eq text) globals)
local_test globals text = by (is_among globals text)
  where
    by : (b : Bool) → is_local (if b then Global else Local) ≡ not b
    by true = refl
    by false = refl

static_test : (globals : List (List ℕ)) (text : List ℕ) → is_static (variable_of globals (entry_of Kinds.Undeclared text)) ≡ false
static_test globals text = by (is_among globals text)
  where
    by : (b : Bool) → is_static (if b then Global else Local) ≡ false
    by true = refl
    by false = refl

none_of : (names : List (List ℕ)) → filter (λ x. false) names ≡ []
none_of [] = refl
none_of (name ∷ names) = none_of names

-- the locals and statics that are declared
locals_step : (globals : List (List ℕ)) (place : Place) (kind : LocalKind) (names : List Name) (others : List LocalDecl)
    → entry_names (filter (is_local_in globals) (flat_map local_entries others)) ≡ locals_among others
    → entry_names (filter (is_local_in globals) (flat_map local_entries (record { place = place; kind = kind; names = names } ∷ others)))
    ≡ locals_among (record { place = place; kind = kind; names = names } ∷ others)
locals_step globals place Kept.Local names others h =
    named_append (is_local_in globals) (map (λ (name : Name). entry_of Kinds.Local name.text) names) (flat_map local_entries others)
    ∙ ap (λ l. l ++ entry_names (filter (is_local_in globals) (flat_map local_entries others)))
    (all_pass (is_local_in globals) Kinds.Local names (λ text. refl)) ∙ ap (λ l. texts names ++ l) h
locals_step globals place Kept.Static names others h =
    named_append (is_local_in globals) (map (λ (name : Name). entry_of Kinds.Static name.text) names) (flat_map local_entries others)
    ∙ ap (λ l. l ++ entry_names (filter (is_local_in globals) (flat_map local_entries others)))
    (none_pass (is_local_in globals) Kinds.Static names (λ text. refl)) ∙ h

declared_locals : (globals : List (List ℕ)) (locals : List LocalDecl)
    → entry_names (filter (is_local_in globals) (flat_map local_entries locals)) ≡ locals_among locals
declared_locals globals [] = refl
declared_locals globals (l ∷ others) = locals_step globals l.place l.kind l.names others (declared_locals globals others)

statics_step : (globals : List (List ℕ)) (place : Place) (kind : LocalKind) (names : List Name) (others : List LocalDecl)
    → entry_names (filter (is_static_in globals) (flat_map local_entries others)) ≡ statics_among others
    → entry_names (filter (is_static_in globals) (flat_map local_entries (record { place = place; kind = kind; names = names } ∷ others)))
    ≡ statics_among (record { place = place; kind = kind; names = names } ∷ others)
statics_step globals place Kept.Local names others h =
    named_append (is_static_in globals) (map (λ (name : Name). entry_of Kinds.Local name.text) names) (flat_map local_entries others)
    ∙ ap (λ l. l ++ entry_names (filter (is_static_in globals) (flat_map local_entries others)))
    (none_pass (is_static_in globals) Kinds.Local names (λ text. refl)) ∙ h
statics_step globals place Kept.Static names others h =
    named_append (is_static_in globals) (map (λ (name : Name). entry_of Kinds.Static name.text) names) (flat_map local_entries others)
    ∙ ap (λ l. l ++ entry_names (filter (is_static_in globals) (flat_map local_entries others)))
    (all_pass (is_static_in globals) Kinds.Static names (λ text. refl)) ∙ ap (λ l. texts names ++ l) h

declared_statics : (globals : List (List ℕ)) (locals : List LocalDecl)
    → entry_names (filter (is_static_in globals) (flat_map local_entries locals)) ≡ statics_among locals
declared_statics globals [] = refl
declared_statics globals (l ∷ others) = statics_step globals l.place l.kind l.names others (declared_statics globals others)

-- what is declared, as one list or as two
or_first : (a b c : Bool) → (a || (b || c)) ≡ ((a || b) || c)
or_first true b c = refl
or_first false b c = refl

or_second : (a b c : Bool) → (a || (b || c)) ≡ (b || (a || c))
or_second true true c = refl
or_second true false c = refl
or_second false b c = refl

kinds_step : (test : List ℕ → Bool) (place : Place) (kind : LocalKind) (names : List Name) (others : List LocalDecl)
    → list_any test (flat_map local_texts others) ≡ (list_any test (locals_among others) || list_any test (statics_among others))
    → list_any test (flat_map local_texts (record { place = place; kind = kind; names = names } ∷ others))
    ≡ (list_any test (locals_among (record { place = place; kind = kind; names = names } ∷ others))
    || list_any test (statics_among (record { place = place; kind = kind; names = names } ∷ others)))
kinds_step test place Kept.Local names others h =
    list_any-append test (texts_of names) (flat_map local_texts others)
    ∙ ap (λ l. list_any test l || list_any test (flat_map local_texts others)) (texts_same names)
    ∙ ap (λ b. list_any test (texts names) || b) h
    ∙ or_first (list_any test (texts names)) (list_any test (locals_among others)) (list_any test (statics_among others))
    ∙ ap (λ b. b || list_any test (statics_among others)) (sym (list_any-append test (texts names) (locals_among others)))
kinds_step test place Kept.Static names others h =
    list_any-append test (texts_of names) (flat_map local_texts others)
    ∙ ap (λ l. list_any test l || list_any test (flat_map local_texts others)) (texts_same names)
    ∙ ap (λ b. list_any test (texts names) || b) h
    ∙ or_second (list_any test (texts names)) (list_any test (locals_among others)) (list_any test (statics_among others))
    ∙ ap (λ b. list_any test (locals_among others) || b) (sym (list_any-append test (texts names) (statics_among others)))

kinds_any : (test : List ℕ → Bool) (locals : List LocalDecl)
    → list_any test (flat_map local_texts locals) ≡ (list_any test (locals_among locals) || list_any test (statics_among locals))
kinds_any test [] = refl
kinds_any test (l ∷ others) = kinds_step test l.place l.kind l.names others (kinds_any test others)

pub declared_any : (procedure : Procedure) (test : List ℕ → Bool)
    → list_any test (declared_texts procedure) ≡ list_any test (own_names procedure ++ statics_among procedure.locals)
declared_any procedure test =
    list_any-append test (texts_of procedure.parameters) (flat_map local_texts procedure.locals)
    ∙ ap (λ l. list_any test l || list_any test (flat_map local_texts procedure.locals)) (texts_same procedure.parameters)
    ∙ ap (λ b. list_any test (texts procedure.parameters) || b) (kinds_any test procedure.locals)
    ∙ or_first (list_any test (texts procedure.parameters)) (list_any test (locals_among procedure.locals)) (list_any test (statics_among procedure.locals))
    ∙ ap (λ b. b || list_any test (statics_among procedure.locals))
    (sym (list_any-append test (texts procedure.parameters) (locals_among procedure.locals)))
    ∙ sym (list_any-append test (own_names procedure) (statics_among procedure.locals))

-- parameters
kind_counted : (kind : NameKind) (names : List Name) (b : Bool) → is_parameter kind ≡ b
    → filter (λ (x : UnitName). is_parameter x.kind) (map (λ (name : Name). entry_of kind name.text) names)
    ≡ cond b (map (λ (name : Name). entry_of kind name.text) names) []
kind_counted kind [] true e = refl
kind_counted kind [] false e = refl
kind_counted kind (name ∷ names) true e =
    let rest = filter (λ (x : UnitName). is_parameter x.kind) (map (λ (name : Name). entry_of kind name.text) names) in
    ap (λ b. cond b (entry_of kind name.text ∷ rest) rest) e
    ∙ ap (λ l. entry_of kind name.text ∷ l) (kind_counted kind names true e)
kind_counted kind (name ∷ names) false e =
    let rest = filter (λ (x : UnitName). is_parameter x.kind) (map (λ (name : Name). entry_of kind name.text) names) in
    ap (λ b. cond b (entry_of kind name.text ∷ rest) rest) e ∙ kind_counted kind names false e

kind_declared : (kind : LocalKind) → is_parameter (kind_of kind) ≡ false
kind_declared Kept.Local = refl
kind_declared Kept.Static = refl

no_parameter : (locals : List LocalDecl) → filter (λ (x : UnitName). is_parameter x.kind) (flat_map local_entries locals) ≡ []
no_parameter [] = refl
no_parameter (l ∷ locals) = filter-append (λ (x : UnitName). is_parameter x.kind) (local_entries l) (flat_map local_entries locals)
    ∙ ap (λ xs. xs ++ filter (λ (x : UnitName). is_parameter x.kind) (flat_map local_entries locals))
    (kind_counted (kind_of l.kind) l.names false (kind_declared l.kind)) ∙ no_parameter locals

none_undeclared : (names : List (List ℕ)) → filter (λ (x : UnitName). is_parameter x.kind) (map (entry_of Kinds.Undeclared) names) ≡ []
none_undeclared [] = refl
none_undeclared (text ∷ names) = none_undeclared names

map_length : (kind : NameKind) (names : List Name) → length (map (λ (name : Name). entry_of kind name.text) names) ≡ length names
map_length kind [] = refl
map_length kind (name ∷ names) = ap suc (map_length kind names)

pub parameters_counted : (procedure : Procedure) → params_in (proc_code procedure).names ≡ length procedure.parameters
parameters_counted procedure =
    let test : UnitName → Bool = λ x. is_parameter x.kind in
    let parameters = map (λ (name : Name). entry_of Kinds.Parameter name.text) procedure.parameters in
    let locals = flat_map local_entries procedure.locals in
    let others = map (entry_of Kinds.Undeclared) (undeclared_in procedure) in
    sym (length-filter test (proc_code procedure).names)
    ∙ ap length (filter-append test (parameters ++ locals) others
    ∙ ap (λ xs. xs ++ filter test others) (filter-append test parameters locals
    ∙ ap (λ xs. xs ++ filter test locals) (kind_counted Kinds.Parameter procedure.parameters true refl)
    ∙ ap (λ xs. parameters ++ xs) (no_parameter procedure.locals) ∙ append-nil parameters)
    ∙ ap (λ xs. parameters ++ xs) (none_undeclared (undeclared_in procedure)) ∙ append-nil parameters)
    ∙ map_length Kinds.Parameter procedure.parameters

-- A procedure

-- what the tree of a procedure has, that breaks no rule
pub record IsFit (procedure : Procedure) : Type 0 where
  pub met : NameTest
  pub faultless : procedure_faults met procedure ≡ []
  pub initial : FormedInitial procedure.initial
  pub body : FormedAll procedure.body

abbrev pub uses : Procedure → List (List ℕ)
uses procedure = names_in_initial procedure.initial ++ names_in_all procedure.body

-- the undeclared names are those that are used and not declared, each once
pub undeclared_same : (procedure : Procedure) → IsFit procedure → undeclared_in procedure ≡ undeclared_names procedure
undeclared_same procedure h =
    let B = (first_draft procedure).names in
    let K = own_names procedure ++ statics_among procedure.locals in
    let new : List (List ℕ) = filter (λ y. not (list_any (bytes_eq y) B)) (firsts bytes_eq (uses procedure)) in
    let all : (draft_of procedure).names ≡ B ++ new =
    (code_adds h.met procedure h.faultless h.initial h.body (first_draft procedure)).names ∙ names_all B (uses procedure) in
    let same : (y : List ℕ) → list_any (bytes_eq y) B ≡ list_any (bytes_eq y) K =
    λ y. ap (list_any (bytes_eq y)) (begun_names h.met procedure h.faultless) ∙ declared_any procedure (bytes_eq y) in
    ap (drop (length B)) all ∙ drop-append_seam B new
    ∙ filter_by (λ y. not (list_any (bytes_eq y) B)) (λ y. not (list_any (bytes_eq y) K)) (λ y. ap not (same y)) (firsts bytes_eq (uses procedure))
    ∙ sym (firsts_kept bytes_eq bytes_eq-Decides (λ y. not (list_any (bytes_eq y) K)) (uses procedure))
    ∙ ap (firsts bytes_eq) (sym (without_kept K (uses procedure)))
    ∙ sym (added_firsts (without_names K (uses procedure)))

pub locals_same : (globals : List (List ℕ)) (procedure : Procedure) → IsFit procedure
    → local_names globals (proc_code procedure).names ≡ own_names procedure ++ without_names globals (undeclared_names procedure)
locals_same globals procedure h =
    let test = is_local_in globals in
    let parameters = map (λ (name : Name). entry_of Kinds.Parameter name.text) procedure.parameters in
    let locals = flat_map local_entries procedure.locals in
    let others = map (entry_of Kinds.Undeclared) (undeclared_in procedure) in
    named_append test (parameters ++ locals) others
    ∙ ap (λ l. l ++ entry_names (filter test others)) (named_append test parameters locals
    ∙ ap (λ l. l ++ entry_names (filter test locals)) (all_pass test Kinds.Parameter procedure.parameters (λ text. refl))
    ∙ ap (λ l. texts procedure.parameters ++ l) (declared_locals globals procedure.locals))
    ∙ ap (λ l. own_names procedure ++ l) (others_pass test (λ y. not (list_any (bytes_eq y) globals)) (undeclared_in procedure) (local_test globals)
    ∙ sym (without_kept globals (undeclared_in procedure)) ∙ ap (without_names globals) (undeclared_same procedure h))

pub statics_same : (globals : List (List ℕ)) (procedure : Procedure)
    → static_names globals (proc_code procedure).names ≡ statics_among procedure.locals
statics_same globals procedure =
    let test = is_static_in globals in
    let parameters = map (λ (name : Name). entry_of Kinds.Parameter name.text) procedure.parameters in
    let locals = flat_map local_entries procedure.locals in
    let others = map (entry_of Kinds.Undeclared) (undeclared_in procedure) in
    named_append test (parameters ++ locals) others
    ∙ ap (λ l. l ++ entry_names (filter test others)) (named_append test parameters locals
    ∙ ap (λ l. l ++ entry_names (filter test locals)) (none_pass test Kinds.Parameter procedure.parameters (λ text. refl))
    ∙ declared_statics globals procedure.locals)
    ∙ ap (λ l. statics_among procedure.locals ++ l) (others_pass test (λ y. false) (undeclared_in procedure) (static_test globals)
    ∙ none_of (undeclared_in procedure)) ∙ append-nil (statics_among procedure.locals)

-- the instruction of a name of the code is that of the name's place among locals, statics and globals
pub variable_same : (globals : List (List ℕ)) (procedure : Procedure) (h : IsFit procedure) (name : List ℕ)
    → list_any (bytes_eq name) (draft_of procedure).names ≡ true
    → variable_at (variables globals 0 0 (proc_code procedure).names) (position_or_len (bytes_eq name) (draft_of procedure).names)
    ≡ variable_by (index_of name (own_names procedure ++ without_names globals (undeclared_names procedure)))
    (index_of name (statics_among procedure.locals)) (index_of name globals)
variable_same globals procedure h name among =
    let entries = (proc_code procedure).names in
    let same : entry_names entries ≡ (draft_of procedure).names = code_names h.met procedure h.faultless in
    let there : list_any (bytes_eq name) (entry_names entries) ≡ true = ap (list_any (bytes_eq name)) same ∙ among in
    ap (λ l. variable_at (variables globals 0 0 entries) (position_or_len (bytes_eq name) l)) (sym same)
    ∙ stands globals name entries 0 0 (there, code_names_differ h.met procedure h.faultless)
    ∙ ap (λ o. variable_by o (shifted 0 (index_of name (static_names globals entries))) (index_of name globals))
    (unshifted (index_of name (local_names globals entries)) ∙ ap (index_of name) (locals_same globals procedure h))
    ∙ ap (λ o. variable_by (index_of name (own_names procedure ++ without_names globals (undeclared_names procedure))) o (index_of name globals))
    (unshifted (index_of name (static_names globals entries)) ∙ ap (index_of name) (statics_same globals procedure))
