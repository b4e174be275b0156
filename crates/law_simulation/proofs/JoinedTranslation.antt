-- The joined code of files that break no rule: each procedure's code is its translation, and its tables
-- begin as the program does.
use Rattle.std.proofs.Common.{◌≡◌, ℕ, zero, suc, ◌+◌, ◌-◌, ◌==◌, ◌||◌, Bool, true, false, not, List, [], ◌∷◌, ◌++◌, length, map, take, Option, Some, None, find, cond, refl, sym, ap, ◌∙◌, subst, arith}
use Rattle.icn_text.specs.Funcs.{func_number}
use Rattle.std.specs.Prelude.{pred, ℤ, pos, slice_get, slice_index_or, position, codes, if◌then◌else◌}
use Rattle.std.specs.List.{list_any, flat_map, sum_by}
use Rattle.std.specs.Option.{option_map, option_and_then, option_map_or}
use Rattle.std.specs.Ordering.{int_eq}
use Rattle.std.specs.Str.{bytes_eq}
use Rattle.std.proofs.lemmas.Bool.{false≢true, or_left, or_right}
use Rattle.std.proofs.lemmas.Bool.Decides.{Decides-int_eq}
use Rattle.std.proofs.lemmas.List.{length-map}
use Rattle.std.proofs.lemmas.List.Sums.{sum_by-cons}
use Rattle.std.proofs.lemmas.Option.{slice_get-map}
use Rattle.std.proofs.lemmas.Slice.Eq.{bytes_eq-Decides}
use Rattle.icn_text.specs.declared.func.Func.{Func}
use Rattle.icn_tree.specs.Trees.{Procedure as ProcedureTree, Declaration, Global, Link, Invocable, Record, ProcedureOf}
use Rattle.icn_value.specs.declared.cset.Cset.{Cset}
use Rattle.icn_value.specs.Store.{Names}
use Rattle.icn_value.specs.Values.{Procedure, Var, Whole}
use Rattle.icn_code.specs.declared.code.Global.{Global as GlobalEntry}
use Rattle.icn_code.specs.declared.code.Start.TheVariants as Starts
use Rattle.icn_code.specs.Codes.{RecordType, Proc, Tables}
use Rattle.icn_code.specs.Rules.{name_of}
use Rattle.icn_meaning.specs.Program as M
use Rattle.icn_meaning.specs.Program.{Routine, Constructor, program_of, index_of, later, has_name, with_more_names, with_name, function_named, globals_of, global_names, procedures_of, kinds_of, kind_names, routine_names, routines_of, routine_of, statics_among, statics_in, starts_of, meant_by, meaning_in, texts}
use Rattle.icn_meaning.specs.Calls.{fields_in}
use Rattle.icn_run.specs.Step as S
use Rattle.icn_run.specs.Step.{members_of}
use Rattle.law_simulation.specs.Translation.{procedure}
use Rattle.law_simulation.specs.Linkage.{Linkage, Loads, l_local, l_static, l_global}
use Rattle.law_simulation.specs.Mentions.{TableMention, AnInteger, AText, ASet, AField, integers_among, texts_among, sets_among, fields_among}
use Rattle.law_simulation.specs.JoinedFiles.{routines, routine_mentions, code_mentions, record_fields, fields_of, string_mentions, strings_of, sets_of, text_index, variable_by, names_in, record_entry, start_by, start, global_entry, procedure_entry, code_with}
use Rattle.law_simulation.specs.Translated.{linkage, TranslatedRoutine, Routines, u_none, u_more, Kinds, d_none, d_more, IsTranslated}
use Rattle.law_simulation.specs.Begins.{OfMain, no_main, a_main, Begins}
use Rattle.law_simulation.proofs.FirstMentions.{test_by, or_other, any_left, any_right, itself, at_first, among_firsts, text_at, AreAmong, among_head, among_tail, same_position}
use Rattle.law_simulation.proofs.FaultlessTreesFit.{AllKept, kept_before, kept_behind, IsKept, AreNamed, fit_routine}
use Rattle.law_simulation.proofs.CheckedProcedures.{IsSound, IsSoundProcedure, EachProcedure}
use Rattle.law_simulation.proofs.Routines.{routine_callee}

-- Lists beside one another

names_counted : (rs : List Routine) (f : Routine → Proc) → length (routine_names rs) ≡ length (map f rs)
names_counted [] f = refl
names_counted (r ∷ rs) f = ap suc (names_counted rs f)

kinds_counted : (ks : List Constructor) (f : Constructor → RecordType) → length (kind_names ks) ≡ length (map f ks)
kinds_counted [] f = refl
kinds_counted (k ∷ ks) f = ap suc (kinds_counted ks f)

-- the routine at a place, as its procedure is sound
sound_at : (globals : List (List ℕ)) (first : ℕ) (ps : List ProcedureTree) (n : ℕ) (r : Routine)
    → EachProcedure IsSoundProcedure ps → slice_get (routines_of globals first ps) n ≡ Some r
    → IsSound r.initial r.body
sound_at globals first [] n r h e = absurd (cc)
sound_at globals first (p ∷ ps) zero r h e = let f : routine_of globals first p ≡ r = cc in
    subst (λ (r : Routine). IsSound r.initial r.body) f h.0
sound_at globals first (p ∷ ps) (suc n) r h e =
    sound_at globals (first + length (statics_among p.locals)) ps n r h.1 e

-- Statics are numbered procedure by procedure, on both sides
static_at : (f : Routine → Proc) → ((r : Routine) → S.statics_of (f r) ≡ length r.statics)
    → (globals : List (List ℕ)) (first : ℕ) (ps : List ProcedureTree) (n : ℕ) (r : Routine)
    → slice_get (routines_of globals first ps) n ≡ Some r
    → r.first_static ≡ first + sum_by S.statics_of (take n (map f (routines_of globals first ps)))
static_at f h globals first [] n r e = absurd (cc)
static_at f h globals first (p ∷ ps) zero r e = let g : routine_of globals first p ≡ r = cc in
    ap (λ (r : Routine). r.first_static) (sym g) ∙ omega arith
static_at f h globals first (p ∷ ps) (suc n) r e =
    let next = first + length (statics_among p.locals) in
    static_at f h globals next ps n r e
    ∙ omega (
      arith,
      h (routine_of globals first p),
      sum_by-cons S.statics_of
          (f (routine_of globals first p)) (take n (map f (routines_of globals next ps))),
    )

static_sum : (f : Routine → Proc) → ((r : Routine) → S.statics_of (f r) ≡ length r.statics)
    → (rs : List Routine) → statics_in rs ≡ sum_by S.statics_of (map f rs)
static_sum f h [] = refl
static_sum f h (r ∷ rs) = omega (arith, h r, static_sum f h rs, sum_by-cons S.statics_of (f r) (map f rs))

-- Names

kind_among : (ks : List Constructor) (i : ℕ) (k : Constructor) → slice_get ks i ≡ Some k
    → AreAmong k.fields (record_fields ks)
kind_among [] i k e name h = absurd (cc)
kind_among (k' ∷ ks) zero k e name h = let f : k' ≡ k = cc in
    any_left (bytes_eq name) k'.fields (record_fields ks)
    (subst (λ (k : Constructor). list_any (bytes_eq name) k.fields ≡ true) (sym f) h)
kind_among (k' ∷ ks) (suc i) k e name h =
    any_right (bytes_eq name) k'.fields (record_fields ks) (kind_among ks i k e name h)

has_any : (name : List ℕ) (names : List (List ℕ)) → has_name name names ≡ list_any (bytes_eq name) names
has_any name [] = refl
has_any name (other ∷ names) = by (bytes_eq name other) (has_any name names)
  where
    by : (b : Bool) → has_name name names ≡ list_any (bytes_eq name) names
        → (if b then true else has_name name names) ≡ (b || list_any (bytes_eq name) names)
    by true h = refl
    by false h = h

added_keeps : (name : List ℕ) (known names : List (List ℕ)) → list_any (bytes_eq name) known ≡ true
    → list_any (bytes_eq name) (with_more_names known names) ≡ true
added_keeps name known [] h = h
added_keeps name known (other ∷ names) h =
    added_keeps name (known ++ with_name (not (has_name other known)) other []) names
    (any_left (bytes_eq name) known _ h)

with_it : (name : List ℕ) (known : List (List ℕ)) (b : Bool) → has_name name known ≡ b
    → list_any (bytes_eq name) (known ++ with_name (not b) name []) ≡ true
with_it name known true e = any_left (bytes_eq name) known [] (sym (has_any name known) ∙ e)
with_it name known false e = any_right (bytes_eq name) known (name ∷ [])
    (or_left (bytes_eq name name) false (itself bytes_eq bytes_eq-Decides name))

pub among_added : (known names : List (List ℕ)) → AreAmong names (with_more_names known names)
among_added known [] name h = absurd (false≢true h)
among_added known (other ∷ names) name h = test_by (bytes_eq name other)
    (λ e. subst (λ (name : List ℕ). list_any (bytes_eq name) (with_more_names known (other ∷ names)) ≡ true)
    (sym ((bytes_eq-Decides name other).0 e))
    (added_keeps other _ names (with_it other known (has_name other known) refl)))
    (λ e. among_added (known ++ with_name (not (has_name other known)) other []) names name
    (or_other (bytes_eq name other) (list_any (bytes_eq name) names) e h))

-- procedures are globals
pub procedures_among : (globals : List (List ℕ)) (first : ℕ) (D : List Declaration)
    → AreAmong (routine_names (routines_of globals first (procedures_of D))) (global_names D)
procedures_among globals first [] name h = absurd (false≢true h)
procedures_among globals first (Global place names ∷ D) name h =
    any_right (bytes_eq name) (texts names) (global_names D) (procedures_among globals first D name h)
procedures_among globals first (Link place items ∷ D) name h = procedures_among globals first D name h
procedures_among globals first (Invocable place items ∷ D) name h = procedures_among globals first D name h
procedures_among globals first (Record place other fields ∷ D) name h =
    or_right (bytes_eq name other.text) (list_any (bytes_eq name) (global_names D))
    (procedures_among globals first D name h)
procedures_among globals first (ProcedureOf p ∷ D) name h =
    test_by (bytes_eq name p.name.text)
    (λ e. or_left (bytes_eq name p.name.text) (list_any (bytes_eq name) (global_names D)) e)
    (λ e. or_right (bytes_eq name p.name.text) (list_any (bytes_eq name) (global_names D))
    (procedures_among globals (first + length (statics_among p.locals)) D name
    (or_other (bytes_eq name p.name.text) _ e h)))

-- where a name has a place, there is a procedure
routine_there : (name : List ℕ) (rs : List Routine) (n : ℕ) → index_of name (routine_names rs) ≡ Some n
    → (r : Routine) × (slice_get rs n ≡ Some r)
routine_there name [] n e = absurd (cc)
routine_there name (r ∷ rs) n e =
    by (bytes_eq name r.name) n (index_of name (routine_names rs)) e (routine_there name rs)
  where
    at_later : (n : ℕ) (o : Option ℕ) → later o ≡ Some n
        → ((k : ℕ) → o ≡ Some k → (s : Routine) × (slice_get rs k ≡ Some s)) → (s : Routine)
        × (slice_get (r ∷ rs) n ≡ Some s)
    at_later n None e h = absurd (cc)
    at_later zero (Some k) e h = absurd (cc)
    at_later (suc n) (Some k) e h = let f : k ≡ n = cc in let s = h k refl in
        (s.0, ap (λ n. slice_get rs n) (sym f) ∙ s.1)

    by : (b : Bool) (n : ℕ) (o : Option ℕ) → (if b then Some zero else later o) ≡ Some n
        → ((k : ℕ) → o ≡ Some k → (s : Routine) × (slice_get rs k ≡ Some s)) → (s : Routine)
        × (slice_get (r ∷ rs) n ≡ Some s)
    by true zero o e h = (r, refl)
    by true (suc n) o e h = absurd (cc)
    by false n o e h = at_later n o e h

-- a name that has a place stands there
pub placed_among : (name : List ℕ) (names : List (List ℕ)) (n : ℕ) → index_of name names ≡ Some n
    → list_any (bytes_eq name) names ≡ true
placed_among name [] n e = absurd (cc)
placed_among name (other ∷ names) n e =
    by (bytes_eq name other) n (index_of name names) e (placed_among name names)
  where
    at_later : (n : ℕ) (o : Option ℕ) → later o ≡ Some n
        → ((k : ℕ) → o ≡ Some k → list_any (bytes_eq name) names ≡ true)
        → list_any (bytes_eq name) names ≡ true
    at_later n None e h = absurd (cc)
    at_later n (Some k) e h = h k refl

    by : (b : Bool) (n : ℕ) (o : Option ℕ) → (if b then Some zero else later o) ≡ Some n
        → ((k : ℕ) → o ≡ Some k → list_any (bytes_eq name) names ≡ true)
        → (b || list_any (bytes_eq name) names) ≡ true
    by true n o e h = refl
    by false n o e h = at_later n o e h

-- `main`

pub procedure_of_start : (a b : Option ℕ) (c : Bool) (f : Option Func) → S.procedure_at (start_by a b c f) ≡ a
procedure_of_start (Some n) b c f = refl
procedure_of_start None (Some n) c f = refl
procedure_of_start None None true f = refl
procedure_of_start None None false (Some f) = refl
procedure_of_start None None false None = refl

-- The value that a global begins with

value_of_start : (procedures records : ℕ) (tables : Tables) → procedures ≡ length tables.procs
    → records ≡ length tables.records → (a b : Option ℕ) (c : Bool) (f : Option Func)
    → M.start_by procedures records a b c f ≡ S.start_value tables (start_by a b c f)
value_of_start procedures records tables e g (Some n) b c f = refl
value_of_start procedures records tables e g None (Some n) c f = ap (λ k. Procedure (k + n)) e
value_of_start procedures records tables e g None None true f = refl
value_of_start procedures records tables e g None None false (Some f) =
    ap (λ k. Procedure (k + records + pred (func_number f))) e
    ∙ ap (λ k. Procedure (length tables.procs + k + pred (func_number f))) g
value_of_start procedures records tables e g None None false None = refl

unmapped : (o : Option Cset) (members : List ℕ) → option_map members_of o ≡ Some members → (set : Cset)
    × (o ≡ Some set) × (members_of set ≡ members)
unmapped None members e = absurd (cc)
unmapped (Some set) members e = (set, refl, cc)

flat_kept : (Kept : TableMention → Type 0) (rs : List Routine) (n : ℕ) (r : Routine) → slice_get rs n ≡ Some r
    → AllKept Kept (flat_map routine_mentions rs) → AllKept Kept (routine_mentions r)
flat_kept Kept [] n r e h = absurd (cc)
flat_kept Kept (s ∷ rs) zero r e h = let f : s ≡ r = cc in
    subst (λ (r : Routine). AllKept Kept (routine_mentions r)) f
    (kept_before Kept (routine_mentions s) (flat_map routine_mentions rs) h)
flat_kept Kept (s ∷ rs) (suc n) r e h =
    flat_kept Kept rs n r e (kept_behind Kept (routine_mentions s) (flat_map routine_mentions rs) h)

same_test : (a b : List ℕ) → bytes_eq a b ≡ bytes_eq b a
same_test a b = by (bytes_eq a b) (bytes_eq b a) refl refl
  where
    by : (p q : Bool) → bytes_eq a b ≡ p → bytes_eq b a ≡ q → p ≡ q
    by true true e f = refl
    by false false e f = refl
    by true false e f = sym ((bytes_eq-Decides b a).1 (sym ((bytes_eq-Decides a b).0 e))) ∙ f
    by false true e f = sym e ∙ (bytes_eq-Decides a b).1 (sym ((bytes_eq-Decides b a).0 f))

turned : (name : List ℕ) (names : List (List ℕ)) → list_any (bytes_eq name) names ≡ true
    → list_any (λ other. bytes_eq other name) names ≡ true
turned name [] h = h
turned name (other ∷ names) h =
    test_by (bytes_eq name other) (λ e. or_left (bytes_eq other name) _ (same_test other name ∙ e))
    (λ e. or_right (bytes_eq other name) _
    (turned name names (or_other (bytes_eq name other) (list_any (bytes_eq name) names) e h)))

module _ (D : List Declaration) (csets : List Cset) (members : map members_of csets ≡ sets_of D)
    (sound : EachProcedure IsSoundProcedure (procedures_of D)) where
  abbrev code : Tables
  code = code_with D csets

  abbrev L : Linkage
  L = linkage (program_of D) code

  -- What the tables have

  abbrev all : List TableMention
  all = code_mentions D

  integer_kept : (r : Routine) (n : ℤ) → list_any (int_eq n) (integers_among all) ≡ true
      → IsKept L (names_in D r) (AnInteger n)
  integer_kept r n h = at_first int_eq Decides-int_eq n (integers_among all) h

  text_kept : (r : Routine) (bytes : List ℕ) → list_any (bytes_eq bytes) (texts_among all) ≡ true
      → IsKept L (names_in D r) (AText bytes)
  text_kept r bytes h = at_first bytes_eq bytes_eq-Decides bytes (string_mentions D)
      (any_right (bytes_eq bytes) (fields_of D) _
      (any_right (bytes_eq bytes) (kind_names (kinds_of D)) _
      (any_right (bytes_eq bytes) (globals_of D) _
      (any_right (bytes_eq bytes) (routine_names (routines D)) _ h))))

  set_kept : (r : Routine) (set : List ℕ) → list_any (bytes_eq set) (sets_among all) ≡ true
      → IsKept L (names_in D r) (ASet set)
  set_kept r set h =
      let place = text_index (sets_of D) set in
      unmapped (slice_get csets place) set
      (sym (slice_get-map members_of csets place) ∙ ap (λ sets. slice_get sets place) members
      ∙ at_first bytes_eq bytes_eq-Decides set (sets_among all) h)

  kept_all : (r : Routine) (M : List TableMention)
      → ((n : ℤ) → list_any (int_eq n) (integers_among M) ≡ true
      → list_any (int_eq n) (integers_among all) ≡ true)
      → AreAmong (texts_among M) (texts_among all) → AreAmong (sets_among M) (sets_among all)
      → AllKept (IsKept L (names_in D r)) M
  kept_all r [] a b c = tt
  kept_all r (AnInteger n ∷ M) a b c = (
    integer_kept r n (a n (or_left (int_eq n n) _ (itself int_eq Decides-int_eq n))),
    kept_all r M
        (λ k e. a k (or_right (int_eq k n) _ e)) b c,
  )
  kept_all r (AText text ∷ M) a b c = (
    text_kept r text (among_head text (texts_among M) (texts_among all) b),
    kept_all r M a
        (among_tail text (texts_among M) (texts_among all) b) c,
  )
  kept_all r (ASet set ∷ M) a b c = (
    set_kept r set (among_head set (sets_among M) (sets_among all) c),
    kept_all r M a b
        (among_tail set (sets_among M) (sets_among all) c),
  )
  kept_all r (AField name ∷ M) a b c = (tt, kept_all r M a b c)

  -- Names

  first_static_at : (n : ℕ) (r : Routine) → slice_get (routines D) n ≡ Some r
      → S.statics_before code n ≡ r.first_static
  first_static_at n r e = sym (static_at (procedure_entry D) (λ r. refl) (globals_of D) 0 (procedures_of D)
      n r e ∙ omega arith)

  loads_by : (n : ℕ) (r : Routine) (a b c : Option ℕ) → S.statics_before code n ≡ r.first_static
      → Loads L n (variable_by a b c) (Var (Whole (meant_by r.first_static a b c)))
  loads_by n r (Some k) b c e = l_local
  loads_by n r None (Some k) c e =
      subst (λ f. Loads L n (variable_by None (Some k) c) (Var (Whole (meant_by f None (Some k) c)))) e
      l_static
  loads_by n r None None (Some k) e = l_global
  loads_by n r None None None e = l_local

  field_by : (name : List ℕ) (kind : ℕ) (o : Option Constructor) → slice_get (kinds_of D) kind ≡ o
      → index_of name (fields_in o) ≡ option_and_then
      (λ (entry : RecordType). position (λ other. other == text_index (fields_of D) name) entry.fields)
      (option_map (record_entry D) o)
  field_by name kind None e = refl
  field_by name kind (Some k) e = same_position (fields_of D) name k.fields (λ other h.
      among_firsts bytes_eq bytes_eq-Decides other (record_fields (kinds_of D) ++ fields_among all)
      (any_left (bytes_eq other) (record_fields (kinds_of D)) (fields_among all)
      (kind_among (kinds_of D) kind k e other h)))

  named_at : (n : ℕ) (r : Routine) → slice_get (routines D) n ≡ Some r → AreNamed L (names_in D r) n
  named_at n r e = record {
    variables = λ name. subst (λ o.
        Loads L n ((names_in D r).variable name) (Var (Whole (meaning_in (globals_of D) name o)))) (sym e)
        (loads_by n r (index_of name r.locals) (index_of name r.statics) (index_of name (globals_of D))
        (first_static_at n r e));
    fields = λ name kind. field_by name kind (slice_get (kinds_of D) kind) refl
        ∙ ap (λ o. option_and_then (λ (entry : RecordType).
        position (λ other. other == text_index (fields_of D) name) entry.fields) o)
        (sym (slice_get-map (record_entry D) (kinds_of D) kind));
  }

  -- The procedures

  translated_at : (n : ℕ) (r : Routine) → slice_get (routines D) n ≡ Some r
      → TranslatedRoutine L n r (procedure_entry D r)
  translated_at n r e =
      let s = sound_at (globals_of D) 0 (procedures_of D) n r sound e in
      record {
        names = names_in D r;
        parameters = refl;
        collects = refl;
        locals = refl;
        is_translated = ap (λ o. option_map_or (λ (entry : Proc). entry.instrs) o [])
            (slice_get-map (procedure_entry D) (routines D) n ∙ ap (λ o. option_map (procedure_entry D) o) e);
        fits = fit_routine L (names_in D r) n (named_at n r e) r.initial r.body s.initial_formed
            s.body_formed (record {
              faultless = s.faultless;
              known = s.known;
              kept = flat_kept (IsKept L (names_in D r)) (routines D) n r e
                  (kept_all r all (λ n h. h) (λ name h. h) (λ name h. h));
            });
      }

  routines_from : (b : ℕ) (rs : List Routine)
      → ((k : ℕ) (r : Routine) → slice_get rs k ≡ Some r → slice_get (routines D) (b + k) ≡ Some r)
      → Routines L b rs (map (procedure_entry D) rs)
  routines_from b [] h = u_none
  routines_from b (r ∷ rs) h =
      let here : b + 0 ≡ b = omega arith in
      u_more (translated_at b r (subst (λ n. slice_get (routines D) n ≡ Some r) here (h 0 r refl)))
      (routines_from (suc b) rs (λ k s e. let there : b + suc k ≡ suc b + k = omega arith in
      subst (λ n. slice_get (routines D) n ≡ Some s) there (h (suc k) s e)))

  kinds_from : (ks : List Constructor) → Kinds ks (map (record_entry D) ks)
  kinds_from [] = d_none
  kinds_from (k ∷ ks) = d_more (sym (length-map k.fields (text_index (fields_of D)))) (kinds_from ks)

  pub is_translated : IsTranslated (program_of D) code
  is_translated = record {
    routines = routines_from 0 (routines D)
        (λ k r e. let here : k ≡ 0 + k = omega arith in
        subst (λ n. slice_get (routines D) n ≡ Some r) here e);
    kinds = kinds_from (kinds_of D);
  }

  -- The start

  string_at : (name : List ℕ) → list_any (bytes_eq name) (string_mentions D) ≡ true
      → slice_index_or code.strings (text_index (strings_of D) name) [] ≡ name
  string_at name h = text_at name (string_mentions D) h

  kinds_in_strings : AreAmong (kind_names (kinds_of D)) (string_mentions D)
  kinds_in_strings name h = any_right (bytes_eq name) (fields_of D) _
      (any_left (bytes_eq name) (kind_names (kinds_of D)) _ h)

  globals_in_strings : AreAmong (globals_of D) (string_mentions D)
  globals_in_strings name h = any_right (bytes_eq name) (fields_of D) _
      (any_right (bytes_eq name) (kind_names (kinds_of D)) _ (any_left (bytes_eq name) (globals_of D) _ h))

  routines_in_strings : AreAmong (routine_names (routines D)) (string_mentions D)
  routines_in_strings name h = any_right (bytes_eq name) (fields_of D) _
      (any_right (bytes_eq name) (kind_names (kinds_of D)) _
      (any_right (bytes_eq name) (globals_of D) _
      (any_left (bytes_eq name) (routine_names (routines D)) _ h)))

  starts_same : (names : List (List ℕ))
      → starts_of (routine_names (routines D)) (kind_names (kinds_of D)) (global_names D) names ≡ map
      (S.global_value code) (map (global_entry D) names)
  starts_same [] = refl
  starts_same (name ∷ names) =
      ap (λ v. v ∷ starts_of (routine_names (routines D)) (kind_names (kinds_of D)) (global_names D) names)
      (value_of_start (length (routine_names (routines D))) (length (kind_names (kinds_of D))) code
      (names_counted (routines D) (procedure_entry D)) (kinds_counted (kinds_of D) (record_entry D))
      (index_of name (routine_names (routines D))) (index_of name (kind_names (kinds_of D)))
      (has_name name (global_names D)) (function_named name))
      ∙ ap (λ vs. S.global_value code (global_entry D name) ∷ vs) (starts_same names)

  procedure_names : (rs : List Routine) → AreAmong (routine_names rs) (string_mentions D)
      → routine_names rs ≡ map (S.proc_name code) (map (procedure_entry D) rs)
  procedure_names [] h = refl
  procedure_names (r ∷ rs) h =
      ap (λ name. name ∷ routine_names rs)
      (sym (string_at r.name (among_head r.name (routine_names rs) (string_mentions D) h)))
      ∙ ap (λ names. S.proc_name code (procedure_entry D r) ∷ names)
      (procedure_names rs (among_tail r.name (routine_names rs) (string_mentions D) h))

  record_names : (ks : List Constructor) → AreAmong (kind_names ks) (string_mentions D)
      → kind_names ks ≡ map (S.record_name code) (map (record_entry D) ks)
  record_names [] h = refl
  record_names (k ∷ ks) h =
      ap (λ name. name ∷ kind_names ks)
      (sym (string_at k.name (among_head k.name (kind_names ks) (string_mentions D) h)))
      ∙ ap (λ names. S.record_name code (record_entry D k) ∷ names)
      (record_names ks (among_tail k.name (kind_names ks) (string_mentions D) h))

  -- how many arguments these take
  procedure_arguments : (rs : List Routine) → map M.routine_arguments rs ≡ map S.proc_arguments (map (procedure_entry D) rs)
  procedure_arguments [] = refl
  procedure_arguments (r ∷ rs) = ap (λ counts. M.routine_arguments r ∷ counts) (procedure_arguments rs)

  record_arguments : (ks : List Constructor) → map M.kind_arguments ks ≡ map S.record_arguments (map (record_entry D) ks)
  record_arguments [] = refl
  record_arguments (k ∷ ks) =
      ap (λ n. pos n ∷ map M.kind_arguments ks) (sym (length-map k.fields (text_index (fields_of D))))
      ∙ ap (λ counts. S.record_arguments (record_entry D k) ∷ counts) (record_arguments ks)

  abbrev names_with : List (List ℕ) → List (List ℕ) → List ℤ → List ℤ → Names
  names_with procedures records taken fields =
      record { procedures = procedures; records = records; arguments = taken ++ fields; hidden = (program_of D).hidden }

  -- `main` is the procedure of that name, if there is one
  abbrev main : List ℕ
  main = codes "main"

  abbrev main_among : List GlobalEntry → Option ℕ
  main_among entries = option_and_then (λ (global : GlobalEntry). S.procedure_at global.start)
      (find (λ global. bytes_eq (name_of code.strings global) main) entries)

  abbrev main_by : Bool → GlobalEntry → List GlobalEntry → Option ℕ
  main_by b entry entries = option_and_then (λ (global : GlobalEntry). S.procedure_at global.start)
      (cond b (Some entry) (find (λ global. bytes_eq (name_of code.strings global) main) entries))

  main_found : (names : List (List ℕ)) → AreAmong names (string_mentions D)
      → main_among (map (global_entry D) names) ≡ cond (list_any (λ name. bytes_eq name main) names)
      (index_of main (routine_names (routines D))) None
  main_found [] h = refl
  main_found (name ∷ names) h =
      let later : List GlobalEntry = map (global_entry D) names in
      let rest = list_any (λ name. bytes_eq name main) names in
      let procedure = index_of main (routine_names (routines D)) in
      let named = string_at name (among_head name names (string_mentions D) h) in
      ap (λ text. main_by (bytes_eq text main) (global_entry D name) later) named
      ∙ test_by (bytes_eq name main)
      (λ t. ap (λ b. main_by b (global_entry D name) later) t
      ∙ ap (λ x. S.procedure_at (start D x)) ((bytes_eq-Decides name main).0 t)
      ∙ procedure_of_start procedure (index_of main (kind_names (kinds_of D)))
      (has_name main (global_names D)) (function_named main)
      ∙ ap (λ b. cond (b || rest) procedure None) (sym t))
      (λ t. ap (λ b. main_by b (global_entry D name) later) t
      ∙ main_found names (among_tail name names (string_mentions D) h)
      ∙ ap (λ b. cond (b || rest) procedure None) (sym t))

  -- a procedure is a global
  main_global : (n : ℕ) → index_of main (routine_names (routines D)) ≡ Some n
      → list_any (λ name. bytes_eq name main) (globals_of D) ≡ true
  main_global n e =
      let declared : List (List ℕ) = with_more_names [] (global_names D) in
      turned main (globals_of D) (any_left (bytes_eq main) declared _
      (among_added [] (global_names D) main
      (procedures_among (globals_of D) 0 D main (placed_among main (routine_names (routines D)) n e))))

  main_by_place : (place : Option ℕ) (b : Bool) → list_any (λ name. bytes_eq name main) (globals_of D) ≡ b
      → index_of main (routine_names (routines D)) ≡ place → cond b place None ≡ place
  main_by_place place true t e = refl
  main_by_place None false t e = refl
  main_by_place (Some n) false t e = absurd (false≢true (sym t ∙ main_global n e))

  pub main_same : S.main_of code ≡ index_of main (routine_names (routines D))
  main_same = main_found (globals_of D) globals_in_strings
      ∙ main_by_place (index_of main (routine_names (routines D)))
      (list_any (λ name. bytes_eq name main) (globals_of D)) refl refl

  main_at : (place : Option ℕ) → index_of main (routine_names (routines D)) ≡ place → OfMain L place place
  main_at None e = no_main
  main_at (Some n) e = let r = routine_there main (routines D) n e in
      a_main r.1 (slice_get-map (procedure_entry D) (routines D) n
      ∙ ap (λ o. option_map (procedure_entry D) o) r.1)
      (routine_callee L (λ j p. refl) (translated_at n r.0 r.1))

  pub begins : Begins L
  begins = record {
    globals = starts_same (globals_of D);
    statics = static_sum (procedure_entry D) (λ r. refl) (routines D);
    procs = sym (length-map (routines D) (procedure_entry D));
    names = ap (λ names. names_with names (kind_names (kinds_of D)) (map M.routine_arguments (routines D)) (map M.kind_arguments (kinds_of D)))
        (procedure_names (routines D) routines_in_strings)
        ∙ ap (λ names. names_with (map (S.proc_name code) code.procs) names (map M.routine_arguments (routines D)) (map M.kind_arguments (kinds_of D)))
        (record_names (kinds_of D) kinds_in_strings)
        ∙ ap (λ counts. names_with (map (S.proc_name code) code.procs) (map (S.record_name code) code.records) counts (map M.kind_arguments (kinds_of D)))
        (procedure_arguments (routines D))
        ∙ ap (λ counts. names_with (map (S.proc_name code) code.procs) (map (S.record_name code) code.records) (map S.proc_arguments code.procs) counts)
        (record_arguments (kinds_of D));
    main = subst (λ place. OfMain L (index_of main (routine_names (routines D))) place) (sym main_same)
        (main_at (index_of main (routine_names (routines D))) refl);
  }
