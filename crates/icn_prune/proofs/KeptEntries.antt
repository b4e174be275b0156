-- The kept procedures, one by one, and what they take from the tables of their code.
use Rattle.std.proofs.Common.{◌≡◌, ℕ, zero, suc, ◌<◌, Bool, true, false, not, List, [], ◌∷◌, length, drop, map, Some, if◌then◌else◌, refl, ap, arith, get_or, ◌+◌, ◌++◌, sym, ◌∙◌, append_assoc, append-nil}
use Rattle.std.specs.Prelude.{slice_get}
use Rattle.std.specs.List.{flat_map, list_all}
use Rattle.std.proofs.lemmas.Bool.{and_from, and_parts, ltb-true}
use Rattle.std.specs.Option.{option_map}
use Rattle.std.proofs.lemmas.List.{length-map}
use Rattle.std.proofs.lemmas.Option.{slice_get-get_or, slice_get-map}
use Rattle.icn_code.specs.declared.instr.Instr.{Instr}
use Rattle.icn_code.specs.declared.instr.Instr.TheVariants.{Int, Str, Cset as CsetAt, Global as GlobalAt, Field}
use Rattle.icn_code.specs.declared.code.LinkedProcedure.{LinkedProcedure}
use Rattle.icn_code.specs.Codes.{Proc, Tables, proc_of, procs_of}
use Rattle.icn_code.specs.Rules.{is_head, is_instr, is_proc}
use Rattle.icn_prune.specs.KeptCode.{global_in}
use Rattle.icn_prune.specs.PrunedCode.{cset_in, field_in, integer_in, kept_procs, string_in, taken_by}
use Rattle.icn_prune.proofs.LeastSets.{Each, each_join}
use Rattle.icn_prune.proofs.StandingPlaces.{some_injective}

-- One by one

-- the next procedure is kept, or not
pub next_kept : (keep : List Bool) (ps : List Proc) (n : ℕ) (p : Proc) → n < length keep → slice_get ps n ≡ Some p
    → kept_procs (drop n keep) (drop n ps)
    ≡ (if get_or keep n false then p ∷ kept_procs (drop (suc n) keep) (drop (suc n) ps) else kept_procs (drop (suc n) keep) (drop (suc n) ps))
next_kept [] ps n p l g = absurd (omega (arith, l))
next_kept (b ∷ keep) [] n p l g = absurd (cc)
next_kept (true ∷ keep) (q ∷ ps) zero p l g = ap (λ x. x ∷ kept_procs keep ps) (some_injective q p g)
next_kept (false ∷ keep) (q ∷ ps) zero p l g = refl
next_kept (b ∷ keep) (q ∷ ps) (suc n) p l g = next_kept keep ps n p (omega (arith, l)) g

-- behind all procedures there is none
pub none_kept : (keep : List Bool) (ps : List Proc) → kept_procs (drop (length ps) keep) (drop (length ps) ps) ≡ []
none_kept [] [] = refl
none_kept (true ∷ keep) [] = refl
none_kept (false ∷ keep) [] = refl
none_kept [] (p ∷ ps) = refl
none_kept (b ∷ keep) (p ∷ ps) = none_kept keep ps

-- Rules that all keep

pub kept_ruled : (r : Proc → Bool) (keep : List Bool) (ps : List Proc) → list_all r ps ≡ true → list_all r (kept_procs keep ps) ≡ true
kept_ruled r [] ps h = refl
kept_ruled r (true ∷ keep) [] h = refl
kept_ruled r (false ∷ keep) [] h = refl
kept_ruled r (true ∷ keep) (p ∷ ps) h = let t = and_parts (r p) (list_all r ps) h in and_from _ _ t.0 (kept_ruled r keep ps t.1)
kept_ruled r (false ∷ keep) (p ∷ ps) h = let t = and_parts (r p) (list_all r ps) h in kept_ruled r keep ps t.1

-- What instructions take is there

string_there : (tables : Tables) (p : Proc) (i : Instr) → is_instr tables p i ≡ true → Each (λ n. n < length tables.strings) (string_in i)
string_there tables p (Str place) h = (ltb-true place (length tables.strings) h, tt)
string_there tables p i h = tt

cset_there : (tables : Tables) (p : Proc) (i : Instr) → is_instr tables p i ≡ true → Each (λ n. n < length tables.csets) (cset_in i)
cset_there tables p (CsetAt place) h = (ltb-true place (length tables.csets) h, tt)
cset_there tables p i h = tt

integer_there : (tables : Tables) (p : Proc) (i : Instr) → is_instr tables p i ≡ true → Each (λ n. n < length tables.integers) (integer_in i)
integer_there tables p (Int place) h = (ltb-true place (length tables.integers) h, tt)
integer_there tables p i h = tt

field_there : (tables : Tables) (p : Proc) (i : Instr) → is_instr tables p i ≡ true → Each (λ n. n < length tables.fields) (field_in i)
field_there tables p (Field place) h = (ltb-true place (length tables.fields) h, tt)
field_there tables p i h = tt

global_there : (tables : Tables) (p : Proc) (i : Instr) → is_instr tables p i ≡ true → Each (λ n. n < length tables.globals) (global_in i)
global_there tables p (GlobalAt place) h = (ltb-true place (length tables.globals) h, tt)
global_there tables p i h = tt

module _ (tables : Tables) (taken : Instr → List ℕ) (most : ℕ)
    (there : (p : Proc) (i : Instr) → is_instr tables p i ≡ true → Each (λ n. n < most) (taken i)) where
  instrs_there : (p : Proc) (is : List Instr) → list_all (is_instr tables p) is ≡ true → Each (λ n. n < most) (flat_map taken is)
  instrs_there p [] h = tt
  instrs_there p (i ∷ is) h = let t = and_parts (is_instr tables p i) (list_all (is_instr tables p) is) h in
      each_join (λ n. n < most) (taken i) (flat_map taken is) (there p i t.0) (instrs_there p is t.1)

  taken_there : (ps : List Proc) → list_all (is_proc tables) ps ≡ true → Each (λ n. n < most) (taken_by taken ps)
  taken_there [] h = tt
  taken_there (p ∷ ps) h =
      let t = and_parts (is_proc tables p) (list_all (is_proc tables) ps) h in
      let u = and_parts (is_head (length tables.strings) p) (list_all (is_instr tables p) p.instrs) t.0 in
      each_join (λ n. n < most) (flat_map taken p.instrs) (taken_by taken ps) (instrs_there p p.instrs u.1) (taken_there ps t.1)

module _ (tables : Tables) (ps : List Proc) (ruled : list_all (is_proc tables) ps ≡ true) where
  pub strings_there : Each (λ n. n < length tables.strings) (taken_by string_in ps)
  strings_there = taken_there tables string_in (length tables.strings) (string_there tables) ps ruled

  pub csets_there : Each (λ n. n < length tables.csets) (taken_by cset_in ps)
  csets_there = taken_there tables cset_in (length tables.csets) (cset_there tables) ps ruled

  pub integers_there : Each (λ n. n < length tables.integers) (taken_by integer_in ps)
  integers_there = taken_there tables integer_in (length tables.integers) (integer_there tables) ps ruled

  pub fields_there : Each (λ n. n < length tables.fields) (taken_by field_in ps)
  fields_there = taken_there tables field_in (length tables.fields) (field_there tables) ps ruled

  pub globals_there : Each (λ n. n < length tables.globals) (taken_by global_in ps)
  globals_there = taken_there tables global_in (length tables.globals) (global_there tables) ps ruled

-- the names of procedures that keep the rules are strings
pub names_there : (tables : Tables) (ps : List Proc) → list_all (is_proc tables) ps ≡ true
    → Each (λ n. n < length tables.strings) (map (λ (entry : Proc). entry.name) ps)
names_there tables [] h = tt
names_there tables (p ∷ ps) h =
    let t = and_parts (is_proc tables p) (list_all (is_proc tables) ps) h in
    let u = and_parts (is_head (length tables.strings) p) (list_all (is_instr tables p) p.instrs) t.0 in
    (ltb-true p.name (length tables.strings) (and_parts _ _ (and_parts _ _ (and_parts _ _ (and_parts _ _ u.0).0).0).0).0, names_there tables ps t.1)

-- An instruction that takes nothing from a table

pub no_string : (i : Instr) → ((place : ℕ) → i ≡ Str place → ⊥) → [] ≡ string_in i
no_string (Str place) h = absurd (h place refl)
no_string i h = refl

pub no_cset : (i : Instr) → ((place : ℕ) → i ≡ CsetAt place → ⊥) → [] ≡ cset_in i
no_cset (CsetAt place) h = absurd (h place refl)
no_cset i h = refl

pub no_integer : (i : Instr) → ((place : ℕ) → i ≡ Int place → ⊥) → [] ≡ integer_in i
no_integer (Int place) h = absurd (h place refl)
no_integer i h = refl

pub no_field : (i : Instr) → ((place : ℕ) → i ≡ Field place → ⊥) → [] ≡ field_in i
no_field (Field place) h = absurd (h place refl)
no_field i h = refl

pub no_global : (i : Instr) → ((place : ℕ) → i ≡ GlobalAt place → ⊥) → [] ≡ global_in i
no_global (GlobalAt place) h = absurd (h place refl)
no_global i h = refl

-- One by one in the code

pub keep_bound : (keep : List Bool) (items slice : List LinkedProcedure) (n : ℕ) → length keep ≡ length (procs_of items) → slice ≡ items
    → n < length slice → n < length keep
keep_bound keep items slice n k e l = let same = length-map items proc_of in let long = ap length e in omega (arith, k, same, long, l)

-- the next procedure, where it is added if it is kept
added_next : (b : Bool) (p : Proc) (done rest : List Proc) → (done ++ (if b then p ∷ [] else [])) ++ rest ≡ done ++ (if b then p ∷ rest else rest)
added_next true p done rest = append_assoc done (p ∷ []) rest
added_next false p done rest = ap (λ l. l ++ rest) (append-nil done)

pub keeps_next : (keep : List Bool) (items slice : List LinkedProcedure) (n : ℕ) (entry : LinkedProcedure) (b : Bool) (done later all : List Proc)
    → n < length slice → slice ≡ items → entry ≡ get_or slice n entry → length keep ≡ length (procs_of items) → b ≡ get_or keep n false
    → later ≡ done ++ (if b then proc_of entry ∷ [] else [])
    → done ++ kept_procs (drop n keep) (drop n (procs_of items)) ≡ all
    → later ++ kept_procs (drop (n + 1) keep) (drop (n + 1) (procs_of items)) ≡ all
keeps_next keep items slice n entry b done later all l e is many kept added so =
    let within = keep_bound keep items slice n many e l in
    let next : n + 1 ≡ suc n = omega arith in
    let there : slice_get (procs_of items) n ≡ Some (proc_of entry) =
    slice_get-map proc_of items n ∙ ap (option_map proc_of) (ap (λ s. slice_get s n) (sym e) ∙ slice_get-get_or slice n entry l ∙ ap Some (sym is)) in
    let rest = kept_procs (drop (suc n) keep) (drop (suc n) (procs_of items)) in
    ap (λ k. later ++ kept_procs (drop k keep) (drop k (procs_of items))) next
    ∙ ap (λ l. l ++ rest) added ∙ added_next b (proc_of entry) done rest
    ∙ ap (λ t. done ++ (if t then proc_of entry ∷ rest else rest)) kept
    ∙ ap (λ l. done ++ l) (sym (next_kept keep (procs_of items) n (proc_of entry) within there)) ∙ so
