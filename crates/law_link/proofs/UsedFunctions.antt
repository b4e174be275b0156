-- The functions that a procedure uses and does not declare: by its instructions, by its names, and by its tree.
use Rattle.std.proofs.Common.{◌≡◌, ℕ, suc, Bool, true, false, not, ◌&&◌, ◌||◌, List, [], ◌∷◌, ◌++◌, map, filter, find, cond, Option, None, Some, refl, sym, ap, ◌∙◌, append-nil, if◌then◌else◌, arith}
use Rattle.std.specs.Prelude.{is_some}
use Rattle.std.specs.List.{flat_map, list_any}
use Rattle.std.specs.Option.{option_map_or}
use Rattle.std.specs.Str.{bytes_eq}
use Rattle.std.proofs.lemmas.Grind.{flat_map-append}
use Rattle.std.proofs.lemmas.Slice.Eq.{bytes_eq-Decides}
use Rattle.icn_text.specs.Funcs.{func_name}
use Rattle.icn_text.specs.declared.func.Func.{Func}
use Rattle.icn_text.specs.declared.func.TheConstants.Func.{ALL as functions}
use Rattle.icn_tree.specs.declared.tree.Name.{Name}
use Rattle.icn_tree.specs.declared.tree.LocalKind.{LocalKind}
use Rattle.icn_tree.specs.declared.tree.LocalKind.TheVariants as Kept
use Rattle.icn_tree.specs.Trees.{LocalDecl, Procedure}
use Rattle.icn_unit.specs.declared.unit.NameKind.{NameKind}
use Rattle.icn_unit.specs.declared.unit.NameKind.TheVariants as Kinds
use Rattle.icn_unit.specs.declared.unit.UnitInstr.{UnitInstr}
use Rattle.icn_unit.specs.declared.unit.UnitName.{UnitName}
use Rattle.icn_unit.specs.PlainUnits.{entry_names}
use Rattle.icn_link.specs.Mentions as Unit
use Rattle.icn_link.specs.Mentions.{name_used, function_at, function_used, functions_used, function_by, function_in, functions_in}
use Rattle.icn_meaning.specs.Program.{own_names, statics_among, without_names, function_among, function_named, is_there, names_function, undeclared_names}
use Rattle.law_simulation.specs.Mentions.{firsts}
use Rattle.icn_translate.specs.Drafts.{name_index}
use Rattle.icn_translate.specs.ProcCodes.{declared_entries, entry_of, kind_of, local_entries, first_draft, undeclared_in, proc_code}
use Rattle.icn_units.proofs.EntryNames.{code_names, declared_named}
use Rattle.law_link.proofs.FirstsOnce.{added_firsts, filter_twice, firsts_kept, itself, or_last, texts_any, texts_firsts, without_kept}
use Rattle.law_link.proofs.Mentioning.{code_adds, places_by, places_in}
use Rattle.law_link.proofs.NameEntries.{IsFit, declared_any, undeclared_same, uses}

-- Functions among names

found_among : (name : List ℕ) (funcs : List Func) → find (λ func. bytes_eq name (func_name func)) funcs ≡ function_among name funcs
found_among name [] = refl
found_among name (func ∷ funcs) = by (bytes_eq name (func_name func)) (found_among name funcs)
  where
    by : (b : Bool) → find (λ func. bytes_eq name (func_name func)) funcs ≡ function_among name funcs
        → cond b (Some func) (find (λ func. bytes_eq name (func_name func)) funcs)
        ≡ (if b then Some func else function_among name funcs)
    by true h = refl
    by false h = h

pub function_same : (name : List ℕ) → Unit.function_named name ≡ function_named name
function_same name = found_among name functions

there : (o : Option Func) → is_some o ≡ is_there o
there None = refl
there (Some func) = refl

functions_kept : (names : List (List ℕ)) → flat_map function_in (map (entry_of Kinds.Undeclared) names) ≡ filter names_function names
functions_kept [] = refl
functions_kept (name ∷ names) =
    ap (λ b. (if b then name ∷ [] else []) ++ flat_map function_in (map (entry_of Kinds.Undeclared) names))
    (ap is_some (function_same name) ∙ there (function_named name))
    ∙ by (names_function name) (functions_kept names)
  where
    by : (b : Bool) → flat_map function_in (map (entry_of Kinds.Undeclared) names) ≡ filter names_function names
        → (if b then name ∷ [] else []) ++ flat_map function_in (map (entry_of Kinds.Undeclared) names)
        ≡ cond b (name ∷ filter names_function names) (filter names_function names)
    by true h = ap (λ l. name ∷ l) h
    by false h = h

no_function : (kind : NameKind) (names : List Name) → ((text : List ℕ) → function_by kind text ≡ [])
    → flat_map function_in (map (λ (name : Name). entry_of kind name.text) names) ≡ []
no_function kind [] h = refl
no_function kind (name ∷ names) h =
    ap (λ l. l ++ flat_map function_in (map (λ (name : Name). entry_of kind name.text) names)) (h name.text) ∙ no_function kind names h

declared_function : (kind : LocalKind) (text : List ℕ) → function_by (kind_of kind) text ≡ []
declared_function Kept.Local text = refl
declared_function Kept.Static text = refl

no_local_function : (locals : List LocalDecl) → flat_map function_in (flat_map local_entries locals) ≡ []
no_local_function [] = refl
no_local_function (l ∷ locals) =
    flat_map-append function_in (local_entries l) (flat_map local_entries locals)
    ∙ ap (λ xs. xs ++ flat_map function_in (flat_map local_entries locals))
    (no_function (kind_of l.kind) l.names (declared_function l.kind))
    ∙ no_local_function locals

pub functions_same : (procedure : Procedure) → IsFit procedure
    → functions_in (proc_code procedure) ≡ filter names_function (undeclared_names procedure)
functions_same procedure h =
    let parameters = map (λ (name : Name). entry_of Kinds.Parameter name.text) procedure.parameters in
    let locals = flat_map local_entries procedure.locals in
    let others = map (entry_of Kinds.Undeclared) (undeclared_in procedure) in
    flat_map-append function_in (parameters ++ locals) others
    ∙ ap (λ l. l ++ flat_map function_in others) (flat_map-append function_in parameters locals
    ∙ ap (λ l. l ++ flat_map function_in locals) (no_function Kinds.Parameter procedure.parameters (λ text. refl))
    ∙ no_local_function procedure.locals)
    ∙ functions_kept (undeclared_in procedure) ∙ ap (filter names_function) (undeclared_same procedure h)

-- The functions that instructions use

used_places : (entries : List UnitName) (is : List UnitInstr)
    → flat_map (function_used entries) is ≡ flat_map (function_at entries) (places_in is)
used_places entries [] = refl
used_places entries (i ∷ is) =
    ap (λ l. l ++ flat_map (function_used entries) is) (sym (one (name_used i)))
    ∙ ap (λ l. flat_map (function_at entries) (places_by i) ++ l) (used_places entries is)
    ∙ sym (flat_map-append (function_at entries) (places_by i) (places_in is))
  where
    one : (o : Option ℕ) → flat_map (function_at entries) (option_map_or (λ place. place ∷ []) o [])
        ≡ option_map_or (function_at entries) o []
    one None = refl
    one (Some place) = append-nil (function_at entries place)

mapped : (f : ℕ → List (List ℕ)) (g : List ℕ → ℕ) (xs : List (List ℕ)) → flat_map f (map g xs) ≡ flat_map (λ x. f (g x)) xs
mapped f g [] = refl
mapped f g (x ∷ xs) = ap (λ l. f (g x) ++ l) (mapped f g xs)

-- the function that the first of some entries with a name may be
abbrev first_function : List UnitName → List ℕ → List (List ℕ)
first_function [] x = []
first_function (entry ∷ entries) x = if bytes_eq x entry.name then function_in entry else first_function entries x

function_placed : (entries : List UnitName) (x : List ℕ)
    → function_at entries (name_index (entry_names entries) x) ≡ first_function entries x
function_placed [] x = refl
function_placed (entry ∷ entries) x = by (bytes_eq x entry.name) refl (function_placed entries x)
  where
    by : (b : Bool) → bytes_eq x entry.name ≡ b
        → function_at entries (name_index (entry_names entries) x) ≡ first_function entries x
        → function_at (entry ∷ entries) (name_index (entry_names (entry ∷ entries)) x) ≡ first_function (entry ∷ entries) x
    by true e next =
        let first : name_index (entry_names (entry ∷ entries)) x ≡ 0 = rw e refl in
        ap (function_at (entry ∷ entries)) first
        ∙ ap (λ b. if b then function_in entry else first_function entries x) (sym e)
    by false e next =
        let behind : name_index (entry_names (entry ∷ entries)) x ≡ suc (name_index (entry_names entries) x) = rw e (omega arith) in
        ap (function_at (entry ∷ entries)) behind ∙ next
        ∙ ap (λ b. if b then function_in entry else first_function entries x) (sym e)

-- none of the entries may be a function
abbrev NoFunctions : List UnitName → Type 0
NoFunctions entries = flat_map function_in entries ≡ []

empty_first : (xs ys : List (List ℕ)) → xs ++ ys ≡ [] → xs ≡ []
empty_first [] ys h = refl
empty_first (x ∷ xs) ys h = absurd (cc)

empty_second : (xs ys : List (List ℕ)) → xs ++ ys ≡ [] → ys ≡ []
empty_second [] ys h = h
empty_second (x ∷ xs) ys h = absurd (cc)

behind_others : (others entries : List UnitName) → NoFunctions others → (x : List ℕ) → first_function (others ++ entries) x
    ≡ (if list_any (bytes_eq x) (entry_names others) then [] else first_function entries x)
behind_others [] entries none x = refl
behind_others (entry ∷ others) entries none x = by (bytes_eq x entry.name)
    (behind_others others entries (empty_second (function_in entry) (flat_map function_in others) none) x)
  where
    by : (b : Bool)
        → first_function (others ++ entries) x
        ≡ (if list_any (bytes_eq x) (entry_names others) then [] else first_function entries x)
        → (if b then function_in entry else first_function (others ++ entries) x)
        ≡ (if b || list_any (bytes_eq x) (entry_names others) then [] else first_function entries x)
    by true next = empty_first (function_in entry) (flat_map function_in others) none
    by false next = next

undeclared_first : (names : List (List ℕ)) (x : List ℕ) → list_any (bytes_eq x) names ≡ true
    → first_function (map (entry_of Kinds.Undeclared) names) x ≡ (if names_function x then x ∷ [] else [])
undeclared_first [] x h = absurd (cc)
undeclared_first (name ∷ names) x h = by (bytes_eq x name) refl (λ g. undeclared_first names x g)
  where
    by : (b : Bool) → bytes_eq x name ≡ b
        → (list_any (bytes_eq x) names ≡ true → first_function (map (entry_of Kinds.Undeclared) names) x ≡ (if names_function x then x ∷ [] else []))
        → first_function (map (entry_of Kinds.Undeclared) (name ∷ names)) x ≡ (if names_function x then x ∷ [] else [])
    by true e next =
        ap (λ b. if b then function_by Kinds.Undeclared name else first_function (map (entry_of Kinds.Undeclared) names) x) e
        ∙ ap (function_by Kinds.Undeclared) (sym ((bytes_eq-Decides x name).0 e))
        ∙ ap (λ b. if b then x ∷ [] else []) (ap is_some (function_same x) ∙ there (function_named x))
    by false e next =
        ap (λ b. if b then function_by Kinds.Undeclared name else first_function (map (entry_of Kinds.Undeclared) names) x) e
        ∙ next (ap (λ b. b || list_any (bytes_eq x) names) (sym e) ∙ h)

-- what gives each name that passes a test, and nothing else
passed : (f : List ℕ → List (List ℕ)) (q : List ℕ → Bool) (xs : List (List ℕ))
    → ((x : List ℕ) → list_any (bytes_eq x) xs ≡ true → f x ≡ (if q x then x ∷ [] else [])) → flat_map f xs ≡ filter q xs
passed f q [] h = refl
passed f q (x ∷ xs) h =
    ap (λ l. l ++ flat_map f xs) (h x (ap (λ b. b || list_any (bytes_eq x) xs) (itself x)))
    ∙ ap (λ l. (if q x then x ∷ [] else []) ++ l)
    (passed f q xs (λ y g. h y (or_last (bytes_eq y x) (list_any (bytes_eq y) xs) g)))
    ∙ by (q x)
  where
    by : (b : Bool) → (if b then x ∷ [] else []) ++ filter q xs ≡ cond b (x ∷ filter q xs) (filter q xs)
    by true = refl
    by false = refl

-- a name that is there and passes a test is among those that pass it
still_there : (q : List ℕ → Bool) (xs : List (List ℕ)) (y : List ℕ) → q y ≡ true → list_any (bytes_eq y) xs ≡ true
    → list_any (bytes_eq y) (filter q xs) ≡ true
still_there q [] y p h = absurd (cc)
still_there q (x ∷ xs) y p h = by (bytes_eq y x) (q x) refl refl
    (λ e. still_there q xs y p (ap (λ b. b || list_any (bytes_eq y) xs) (sym e) ∙ h))
  where
    by : (b c : Bool) → bytes_eq y x ≡ b → q x ≡ c
        → (bytes_eq y x ≡ false → list_any (bytes_eq y) (filter q xs) ≡ true)
        → list_any (bytes_eq y) (cond c (x ∷ filter q xs) (filter q xs)) ≡ true
    by true c e g rest =
        ap (λ c. list_any (bytes_eq y) (cond c (x ∷ filter q xs) (filter q xs))) (sym g ∙ ap q (sym ((bytes_eq-Decides y x).0 e)) ∙ p)
        ∙ ap (λ b. b || list_any (bytes_eq y) (filter q xs)) e
    by false true e g rest = or_last (bytes_eq y x) (list_any (bytes_eq y) (filter q xs)) (rest e)
    by false false e g rest = rest e

-- of those that are declared, or not
by_declared : (b : Bool) (x : List ℕ) (found : List (List ℕ)) → (b ≡ false → found ≡ (if names_function x then x ∷ [] else []))
    → (if b then [] else found) ≡ (if not b && names_function x then x ∷ [] else [])
by_declared true x found h = refl
by_declared false x found h = h refl

no_declared : (procedure : Procedure) → NoFunctions (declared_entries procedure)
no_declared procedure =
    flat_map-append function_in (map (λ (name : Name). entry_of Kinds.Parameter name.text) procedure.parameters)
    (flat_map local_entries procedure.locals)
    ∙ ap (λ l. l ++ flat_map function_in (flat_map local_entries procedure.locals))
    (no_function Kinds.Parameter procedure.parameters (λ text. refl))
    ∙ no_local_function procedure.locals

-- The functions among the names of a procedure are the first mentions of those that its instructions use.
pub functions_first : (procedure : Procedure) → IsFit procedure
    → functions_in (proc_code procedure) ≡ firsts bytes_eq (functions_used (proc_code procedure))
functions_first procedure h =
    let K = own_names procedure ++ statics_among procedure.locals in
    let new : List ℕ → Bool = λ x. not (list_any (bytes_eq x) K) in
    let A = declared_entries procedure in
    let U = map (entry_of Kinds.Undeclared) (undeclared_in procedure) in
    let E = (proc_code procedure).names in
    let names = uses procedure in
    let known : undeclared_names procedure ≡ firsts bytes_eq (filter new names) =
    added_firsts (without_names K names) ∙ ap (firsts bytes_eq) (without_kept K names) in
    let among : (x : List ℕ) → new x ≡ true → list_any (bytes_eq x) names ≡ true → list_any (bytes_eq x) (undeclared_in procedure) ≡ true =
    λ x p g. ap (list_any (bytes_eq x)) (undeclared_same procedure h ∙ known ∙ sym (texts_firsts (filter new names)))
    ∙ texts_any (filter new names) x ∙ still_there new names x p g in
    let declared : (x : List ℕ) → list_any (bytes_eq x) (entry_names A) ≡ list_any (bytes_eq x) K =
    λ x. ap (list_any (bytes_eq x)) (declared_named procedure) ∙ declared_any procedure (bytes_eq x) in
    let each : (x : List ℕ) → list_any (bytes_eq x) names ≡ true
    → function_at E (name_index (entry_names E) x) ≡ (if new x && names_function x then x ∷ [] else []) =
    λ x g. function_placed E x ∙ behind_others A U (no_declared procedure) x
    ∙ ap (λ b. if b then [] else first_function U x) (declared x)
    ∙ by_declared (list_any (bytes_eq x) K) x (first_function U x)
    (λ e. undeclared_first (undeclared_in procedure) x (among x (ap not e) g)) in
    let places : places_in (proc_code procedure).instrs ≡ map (name_index (entry_names E)) names =
    (code_adds h.met procedure h.faultless h.initial h.body (first_draft procedure)).used []
    ∙ ap (λ all. map (name_index all) names) (sym (code_names h.met procedure h.faultless)) in
    let used : functions_used (proc_code procedure) ≡ filter names_function (filter new names) =
    used_places E (proc_code procedure).instrs ∙ ap (flat_map (function_at E)) places
    ∙ mapped (function_at E) (name_index (entry_names E)) names
    ∙ passed (λ x. function_at E (name_index (entry_names E) x)) (λ x. new x && names_function x) names each
    ∙ sym (filter_twice names_function new names) in
    functions_same procedure h ∙ ap (filter names_function) known
    ∙ sym (firsts_kept bytes_eq bytes_eq-Decides names_function (filter new names)) ∙ ap (firsts bytes_eq) (sym used)
