-- The tables of a whole code and of the pruned one: what related numbers stand for.
use Rattle.std.proofs.Common.{◌≡◌, ◌⊎◌, inl, inr, ℕ, zero, suc, ◌+◌, ◌<◌, Bool, true, false, ◌||◌, not, List, [], ◌∷◌, length, map, Option, None, Some, cond, refl, sym, ap, ◌∙◌, subst, arith, if◌then◌else◌}
use Rattle.std.specs.Prelude.{◌==◌, codes, find, nat_lt, pos, position, pred, replicate, slice_get, slice_index_or}
use Rattle.std.specs.List.{prefix_len, flat_map, list_all, list_any, sum_by}
use Rattle.std.specs.Option.{option_and_then, option_map_or}
use Rattle.std.specs.Str.{bytes_eq}
use Rattle.std.proofs.lemmas.Bool.{and_parts, ltb-true}
use Rattle.std.proofs.lemmas.Bool.Decides.{eqb_tells}
use Rattle.std.proofs.lemmas.List.{length-map}
use Rattle.std.proofs.lemmas.List.Sums.{sum_by-cons}
use Rattle.std.proofs.lemmas.Slice.Eq.{bytes_eq-Decides}
use Rattle.std.proofs.lemmas.Option.{get_or_from_slice_get, slice_get-get_or}
use Rattle.icn_text.specs.declared.func.Func.{Func}
use Rattle.icn_text.specs.Funcs.{func_number}
use Rattle.icn_value.specs.Values.{Value, Null as NullValue}
use Rattle.icn_code.specs.declared.code.Global.{Global}
use Rattle.icn_code.specs.declared.code.Start.{Start}
use Rattle.icn_code.specs.declared.code.Start.TheVariants.{Null, Procedure, Record, Function}
use Rattle.icn_code.specs.declared.instr.Instr.{Instr}
use Rattle.icn_code.specs.declared.instr.Instr.TheVariants as I
use Rattle.icn_code.specs.Codes.{Proc, RecordType, Tables}
use Rattle.icn_code.specs.MainProcedure.{main_of, procedure_at}
use Rattle.icn_code.specs.Rules.{has_name, is_head, is_instr, is_proc, name_of, names_differ}
use Rattle.icn_defs.specs.KeptProcedures.{IsIn}
use Rattle.icn_defs.specs.Numbers.{func_of}
use Rattle.icn_prune.specs.KeptCode.{MayBeKept, global_in}
use Rattle.icn_prune.specs.PrunedCode.{Survivors, cset_in, field_in, global_at, global_left, globals_from, instr_left, integer_in, kept_procs, new_place, no_cset, proc_left, pruned_tables, record_left, start_left, start_stays, string_in, survivors, taken_by}
use Rattle.icn_prune.proofs.LeastSets.{Each, each_first, each_second}
use Rattle.icn_prune.proofs.PlacedEntries.{Finds, kept_found}
use Rattle.icn_prune.proofs.PrunedRules.{BeginsSo, csets_found, fields_found, found_behind_globals, global_names_found, globals_begin, integers_found, looked_up, looks, mentioned, mentions_found, procs_few, ruled, staying_within}
use Rattle.icn_prune.proofs.StandingPlaces.{some_injective}
use Rattle.icn_prune.proofs.StayingGlobals.{LooksUp}
use Rattle.icn_prune.proofs.TableRules.{AreRuled}
use Rattle.icn_run.specs.LinkedStep.{is_chfail_to, repeats_of}
use Rattle.icn_run.specs.Step as S
use Rattle.law_prune.proofs.RelatedValues.{ValueTo, null_to, procedure_to}
use Rattle.law_prune.proofs.RelatedLists.{OptionTo, PlacesTo, each_to, neither}
use Rattle.law_prune.proofs.RelatedSettings.{Renaming}
use Rattle.law_prune.proofs.RelatedNames.{renamed}
use Rattle.law_prune.proofs.RelatedPlaces.{PlaceTo, StaticAt, behind, behind_to, count_is, dropped_next, here, kept_count, kept_next, none_begun, place_kept, static_at, static_below}
use Rattle.law_prune.proofs.RelatedStates.{CalleeTo, CodeTo, EntryTo, InstrTo, cset_to, entry_to, field_at_to, global_at_to, int_to, is_func_to, is_nothing_to, is_proc_to, is_record_to, plain_to, static_at_to, str_to}

-- Lists of what stays

-- at the new place of what stays stands what stood at the old one
got_up : {A : Type 0} (f : ℕ → A) (left : List ℕ) (p : ℕ) → Finds left p → slice_get (map f left) (new_place left p) ≡ Some (f p)
got_up f left p h = by left (new_place left p) h.stands
  where
    by : (l : List ℕ) (k : ℕ) → slice_get l k ≡ Some p → slice_get (map f l) k ≡ Some (f p)
    by [] k e = absurd (cc)
    by (x ∷ l) zero e = ap (λ (y : ℕ). Some (f y)) (some_injective x p e)
    by (x ∷ l) (suc k) e = by l k e

get_mapped : {A B : Type 0} (f : A → B) (xs : List A) (j : ℕ) (x : A) → slice_get xs j ≡ Some x → slice_get (map f xs) j ≡ Some (f x)
get_mapped f [] j x e = absurd (cc)
get_mapped f (y ∷ xs) zero x e = ap (λ z. Some (f z)) (some_injective y x e)
get_mapped f (y ∷ xs) (suc j) x e = get_mapped f xs j x e

each_got : {A : Type 0} (P : A → Type 0) (xs : List A) (j : ℕ) (x : A) → Each P xs → slice_get xs j ≡ Some x → P x
each_got P [] j x h e = absurd (cc)
each_got P (y ∷ xs) zero x h e = subst P (some_injective y x e) h.0
each_got P (y ∷ xs) (suc j) x h e = each_got P xs j x h.1 e

got_replicated : {A : Type 0} (n x : ℕ) (v : A) → x < n → slice_get (replicate n v) x ≡ Some v
got_replicated zero x v l = absurd (omega (arith, l))
got_replicated (suc n) zero v l = refl
got_replicated (suc n) (suc x) v l = got_replicated n x v (omega (arith, l))

-- new places of what stays are equal where the old ones are
places_equal : (left : List ℕ) (f k : ℕ) → Finds left f → Finds left k → (f == k) ≡ (new_place left f == new_place left k)
places_equal left f k g h = by (eqb_tells f k) (eqb_tells (new_place left f) (new_place left k))
  where
    by : (((f == k) ≡ true) × (f ≡ k)) ⊎ (((f == k) ≡ false) × (f ≡ k → ⊥))
        → (((new_place left f == new_place left k) ≡ true) × (new_place left f ≡ new_place left k))
        ⊎ (((new_place left f == new_place left k) ≡ false) × (new_place left f ≡ new_place left k → ⊥))
        → (f == k) ≡ (new_place left f == new_place left k)
    by (inl a) (inl b) = a.0 ∙ sym b.0
    by (inl a) (inr b) = absurd (b.1 (ap (new_place left) a.1))
    by (inr a) (inl b) = absurd (a.1 (some_injective f k (sym g.stands ∙ ap (slice_get left) b.1 ∙ h.stands)))
    by (inr a) (inr b) = a.0 ∙ sym b.0

prefix_same : (left fs : List ℕ) (k : ℕ) → Each (Finds left) fs → Finds left k
    → prefix_len (λ other. not (other == k)) fs ≡ prefix_len (λ other. not (other == new_place left k)) (map (new_place left) fs)
prefix_same left [] k e h = refl
prefix_same left (f ∷ fs) k e h =
    ap (λ (b : Bool). cond (not b) (1 + prefix_len (λ other. not (other == k)) fs) 0) (places_equal left f k e.0 h)
    ∙ ap (λ (n : ℕ). cond (not (new_place left f == new_place left k)) (1 + n) 0) (prefix_same left fs k e.1 h)

position_same : (left fs : List ℕ) (k : ℕ) → Each (Finds left) fs → Finds left k
    → position (λ other. other == k) fs ≡ position (λ other. other == new_place left k) (map (new_place left) fs)
position_same left fs k e h =
    ap (λ (n : ℕ). cond (nat_lt n (length fs)) (Some n) None) (prefix_same left fs k e h)
    ∙ ap (λ (n : ℕ). cond (nat_lt (prefix_len (λ other. not (other == new_place left k)) (map (new_place left) fs)) n)
    (Some (prefix_len (λ other. not (other == new_place left k)) (map (new_place left) fs))) None) (sym (length-map fs (new_place left)))

module _ (T : Tables) (keep : List Bool) (r : AreRuled T) (k : MayBeKept T keep) where
  abbrev L : Survivors
  L = survivors T keep

  abbrev Q : Tables
  Q = pruned_tables keep T

  abbrev procs : List Proc
  procs = kept_procs keep T.procs

  abbrev R : Renaming
  R = renamed T keep r k

  -- Procedures, constructors and functions

  constructor_to : (i kind : ℕ) (ks : List RecordType) → CalleeTo R (S.record_among i kind ks) (S.record_among i kind (map (record_left L) ks))
  constructor_to i kind [] = by (func_of (suc i))
    where
      by : (o : Option Func) → CalleeTo R (S.func_callee o) (S.func_callee o)
      by None = is_nothing_to
      by (Some func) = is_func_to func
  constructor_to zero kind (entry ∷ entries) = is_record_to kind entry (record_left L entry) (sym (length-map entry.fields (new_place L.fields)))
  constructor_to (suc i) kind (entry ∷ entries) = constructor_to i (suc kind) entries

  callee_from : (ks : List Bool) (ps : List Proc) (i j : ℕ) → length ks ≡ length ps → PlaceTo ks i j
      → CalleeTo R (S.callee_among i ps T.records) (S.callee_among j (map (proc_left L) (kept_procs ks ps)) Q.records)
  callee_from ks [] i j e (behind a) = constructor_to a zero T.records
  callee_from ks (p ∷ ps) i j e (behind a) = absurd (omega (arith, e))
  callee_from ks [] i j e here = absurd (omega (arith, e))
  callee_from ks (p ∷ ps) i j e here = is_proc_to p (new_place L.strings p.name) (map (instr_left L) p.instrs)
  callee_from ks [] i j e (kept_next t) = absurd (omega (arith, e))
  callee_from ks (p ∷ ps) i j e (kept_next t) = callee_from _ ps _ _ (omega (arith, e)) t
  callee_from ks [] i j e (dropped_next t) = absurd (omega (arith, e))
  callee_from ks (p ∷ ps) i j e (dropped_next t) = callee_from _ ps _ _ (omega (arith, e)) t

  entry_from : (ks : List Bool) (ps : List Proc) (i j : ℕ) → length ks ≡ length ps → PlaceTo ks i j
      → OptionTo EntryTo (slice_get ps i) (slice_get (map (proc_left L) (kept_procs ks ps)) j)
  entry_from ks [] i j e (behind a) = neither
  entry_from ks (p ∷ ps) i j e (behind a) = absurd (omega (arith, e))
  entry_from ks [] i j e here = absurd (omega (arith, e))
  entry_from ks (p ∷ ps) i j e here = each_to (entry_to p (new_place L.strings p.name) (map (instr_left L) p.instrs))
  entry_from ks [] i j e (kept_next t) = absurd (omega (arith, e))
  entry_from ks (p ∷ ps) i j e (kept_next t) = entry_from _ ps _ _ (omega (arith, e)) t
  entry_from ks [] i j e (dropped_next t) = absurd (omega (arith, e))
  entry_from ks (p ∷ ps) i j e (dropped_next t) = entry_from _ ps _ _ (omega (arith, e)) t

  pub entries_to : (i j : ℕ) → PlaceTo keep i j → OptionTo EntryTo (slice_get T.procs i) (slice_get Q.procs j)
  entries_to i j t = entry_from keep T.procs i j k.as_many t

  -- Instructions

  -- all that a procedure takes from the tables stays
  record FoundIn (p : Proc) : Type 0 where
    ruled_so : list_all (is_instr T p) p.instrs ≡ true
    strings : Each (Finds L.strings) (flat_map string_in p.instrs)
    csets : Each (Finds L.csets) (flat_map cset_in p.instrs)
    integers : Each (Finds L.integers) (flat_map integer_in p.instrs)
    fields : Each (Finds L.fields) (flat_map field_in p.instrs)
    globals : Each (Finds L.globals) (flat_map global_in p.instrs)

  all_found_in : (ps : List Proc) → list_all (is_proc T) ps ≡ true → Each (Finds L.strings) (taken_by string_in ps) → Each (Finds L.csets) (taken_by cset_in ps)
      → Each (Finds L.integers) (taken_by integer_in ps) → Each (Finds L.fields) (taken_by field_in ps) → Each (Finds L.globals) (taken_by global_in ps)
      → Each FoundIn ps
  all_found_in [] h s c n f g = tt
  all_found_in (p ∷ ps) h s c n f g =
      let t = and_parts (is_proc T p) (list_all (is_proc T) ps) h in
      let u = and_parts (is_head (length T.strings) p) (list_all (is_instr T p) p.instrs) t.0 in (
        record {
          ruled_so = u.1;
          strings = each_first (Finds L.strings) (flat_map string_in p.instrs) (taken_by string_in ps) s;
          csets = each_first (Finds L.csets) (flat_map cset_in p.instrs) (taken_by cset_in ps) c;
          integers = each_first (Finds L.integers) (flat_map integer_in p.instrs) (taken_by integer_in ps) n;
          fields = each_first (Finds L.fields) (flat_map field_in p.instrs) (taken_by field_in ps) f;
          globals = each_first (Finds L.globals) (flat_map global_in p.instrs) (taken_by global_in ps) g;
        },
        all_found_in ps t.1 (each_second (Finds L.strings) (flat_map string_in p.instrs) (taken_by string_in ps) s)
            (each_second (Finds L.csets) (flat_map cset_in p.instrs) (taken_by cset_in ps) c)
            (each_second (Finds L.integers) (flat_map integer_in p.instrs) (taken_by integer_in ps) n)
            (each_second (Finds L.fields) (flat_map field_in p.instrs) (taken_by field_in ps) f)
            (each_second (Finds L.globals) (flat_map global_in p.instrs) (taken_by global_in ps) g),
      )

  procs_found : Each FoundIn procs
  procs_found = all_found_in procs (ruled T keep r k)
      (each_second (Finds L.strings) (map (λ (entry : Proc). entry.name) procs) (taken_by string_in procs) (found_behind_globals T keep r k))
      (csets_found T keep r k) (integers_found T keep r k)
      (each_second (Finds L.fields) (flat_map (λ (kind : RecordType). kind.fields) T.records) (taken_by field_in procs) (fields_found T keep r k))
      (mentions_found T keep r k)

  -- a field has one index in each record on both sides
  index_from : (ks : List RecordType) (f kind : ℕ) → Each (Finds L.fields) (flat_map (λ (kind : RecordType). kind.fields) ks) → Finds L.fields f
      → option_and_then (λ (entry : RecordType). position (λ other. other == f) entry.fields) (slice_get ks kind)
      ≡ option_and_then (λ (entry : RecordType). position (λ other. other == new_place L.fields f) entry.fields) (slice_get (map (record_left L) ks) kind)
  index_from [] f kind e h = refl
  index_from (entry ∷ ks) f zero e h = position_same L.fields entry.fields f
      (each_first (Finds L.fields) entry.fields (flat_map (λ (kind : RecordType). kind.fields) ks) e) h
  index_from (entry ∷ ks) f (suc kind) e h =
      index_from ks f kind (each_second (Finds L.fields) entry.fields (flat_map (λ (kind : RecordType). kind.fields) ks) e) h

  index_same : (f kind : ℕ) → Finds L.fields f → S.field_index T f kind ≡ S.field_index Q (new_place L.fields f) kind
  index_same f kind h = index_from T.records f kind
      (each_first (Finds L.fields) (flat_map (λ (kind : RecordType). kind.fields) T.records) (taken_by field_in procs) (fields_found T keep r k)) h

  module _ (p q : ℕ) (entry : Proc) (at : (n : ℕ) → n < entry.statics → R.StaticTo (S.statics_before T p + n) (S.statics_before Q q + n)) where
    instr_to : (i : Instr) → is_instr T entry i ≡ true → Each (Finds L.strings) (string_in i) → Each (Finds L.csets) (cset_in i)
        → Each (Finds L.integers) (integer_in i) → Each (Finds L.fields) (field_in i) → Each (Finds L.globals) (global_in i)
        → InstrTo R T Q p q i (instr_left L i)
    instr_to (I.Int n) h s c m f g = int_to n (new_place L.integers n)
        (slice_get-get_or T.integers n (pos 0) (ltb-true n (length T.integers) h)
        ∙ sym (got_up (λ place. slice_index_or T.integers place (pos 0)) L.integers n m.0))
    instr_to (I.Str n) h s c m f g = str_to n (new_place L.strings n)
        (slice_get-get_or T.strings n [] (ltb-true n (length T.strings) h) ∙ sym (got_up (λ place. slice_index_or T.strings place []) L.strings n s.0))
    instr_to (I.Cset n) h s c m f g = cset_to n (new_place L.csets n)
        (slice_get-get_or T.csets n no_cset (ltb-true n (length T.csets) h) ∙ sym (got_up (λ place. slice_index_or T.csets place no_cset) L.csets n c.0))
    instr_to (I.Global n) h s c m f g = global_at_to n (new_place L.globals n) g.0.stands
    instr_to (I.Static n) h s c m f g = static_at_to n (at n (ltb-true n entry.statics h))
    instr_to (I.Field n) h s c m f g = field_at_to n (new_place L.fields n) (λ kind. index_same n kind f.0)
    instr_to i h s c m f g = plain_to i tt

    instrs_to : (is : List Instr) (a : ℕ) → list_all (is_instr T entry) is ≡ true → Each (Finds L.strings) (flat_map string_in is)
        → Each (Finds L.csets) (flat_map cset_in is) → Each (Finds L.integers) (flat_map integer_in is) → Each (Finds L.fields) (flat_map field_in is)
        → Each (Finds L.globals) (flat_map global_in is) → OptionTo (InstrTo R T Q p q) (slice_get is a) (slice_get (map (instr_left L) is) a)
    instrs_to [] a h s c m f g = neither
    instrs_to (i ∷ is) zero h s c m f g =
        let t = and_parts (is_instr T entry i) (list_all (is_instr T entry) is) h in
        each_to (instr_to i t.0 (each_first (Finds L.strings) (string_in i) (flat_map string_in is) s)
        (each_first (Finds L.csets) (cset_in i) (flat_map cset_in is) c) (each_first (Finds L.integers) (integer_in i) (flat_map integer_in is) m)
        (each_first (Finds L.fields) (field_in i) (flat_map field_in is) f) (each_first (Finds L.globals) (global_in i) (flat_map global_in is) g))
    instrs_to (i ∷ is) (suc a) h s c m f g =
        let t = and_parts (is_instr T entry i) (list_all (is_instr T entry) is) h in
        instrs_to is a t.1 (each_second (Finds L.strings) (string_in i) (flat_map string_in is) s)
        (each_second (Finds L.csets) (cset_in i) (flat_map cset_in is) c) (each_second (Finds L.integers) (integer_in i) (flat_map integer_in is) m)
        (each_second (Finds L.fields) (field_in i) (flat_map field_in is) f) (each_second (Finds L.globals) (global_in i) (flat_map global_in is) g)

  -- a kept procedure, and what it is in the pruned code
  data LeftTo : Proc → Proc → Type 0 where
    left_to : (entry : Proc) → FoundIn entry → LeftTo entry (proc_left L entry)

  left_from : (ks : List Bool) (ps : List Proc) (i j : ℕ) → length ks ≡ length ps → Each FoundIn (kept_procs ks ps) → PlaceTo ks i j
      → OptionTo LeftTo (slice_get ps i) (slice_get (map (proc_left L) (kept_procs ks ps)) j)
  left_from ks [] i j e f (behind a) = neither
  left_from ks (p ∷ ps) i j e f (behind a) = absurd (omega (arith, e))
  left_from ks [] i j e f here = absurd (omega (arith, e))
  left_from ks (p ∷ ps) i j e f here = each_to (left_to p f.0)
  left_from ks [] i j e f (kept_next t) = absurd (omega (arith, e))
  left_from ks (p ∷ ps) i j e f (kept_next t) = left_from _ ps _ _ (omega (arith, e)) f.1 t
  left_from ks [] i j e f (dropped_next t) = absurd (omega (arith, e))
  left_from ks (p ∷ ps) i j e f (dropped_next t) = left_from _ ps _ _ (omega (arith, e)) f t

  code_at : (p q a : ℕ) → PlaceTo keep p q → OptionTo (InstrTo R T Q p q) (slice_get (S.instrs_of T p) a) (slice_get (S.instrs_of Q q) a)
  code_at p q a t = by (slice_get T.procs p) (slice_get Q.procs q) refl (left_from keep T.procs p q k.as_many procs_found t)
    where
      by : (o u : Option Proc) → slice_get T.procs p ≡ o → OptionTo LeftTo o u
          → OptionTo (InstrTo R T Q p q) (slice_get (option_map_or (λ (entry : Proc). entry.instrs) o []) a)
          (slice_get (option_map_or (λ (entry : Proc). entry.instrs) u []) a)
      by o u e neither = neither
      by o u e (each_to (left_to entry f)) = instrs_to p q entry
          (λ n l. static_at (proc_left L) (λ x. refl) keep T.procs p q n entry k.as_many t e l) entry.instrs a f.ruled_so f.strings f.csets f.integers f.fields
          f.globals

  pub code_to : CodeTo R T Q
  code_to = record { instrs = code_at; callee = λ n j t. callee_from keep T.procs n j k.as_many t }

  -- Marks whose labels may change stand at the same addresses

  chfail_same : (address : ℕ) (i : Instr) → is_chfail_to address i ≡ is_chfail_to address (instr_left L i)
  chfail_same address (I.Chfail label) = refl
  chfail_same address i = refl

  any_chfail : (address : ℕ) (is : List Instr) → list_any (is_chfail_to address) is ≡ list_any (is_chfail_to address) (map (instr_left L) is)
  any_chfail address [] = refl
  any_chfail address (i ∷ is) = ap (λ (b : Bool). b || list_any (is_chfail_to address) is) (chfail_same address i)
      ∙ ap (λ (b : Bool). is_chfail_to address (instr_left L i) || b) (any_chfail address is)

  pub repeats_to : (p q address : ℕ) → PlaceTo keep p q → repeats_of T p address ≡ repeats_of Q q address
  repeats_to p q address t = by (slice_get T.procs p) (slice_get Q.procs q) (left_from keep T.procs p q k.as_many procs_found t)
    where
      by : (o u : Option Proc) → OptionTo LeftTo o u
          → list_any (is_chfail_to address) (option_map_or (λ (entry : Proc). entry.instrs) o [])
          ≡ list_any (is_chfail_to address) (option_map_or (λ (entry : Proc). entry.instrs) u [])
      by o u neither = refl
      by o u (each_to (left_to entry f)) = any_chfail address entry.instrs

  -- What globals begin with

  kept_start : (number : ℕ) → slice_index_or keep number false ≡ true → PlaceTo keep number (new_place L.procs number)
  kept_start number s = place_kept keep (new_place L.procs number) number (kept_found keep number (procs_few T keep r k) s).stands

  procs_count : length T.procs ≡ length keep
  procs_count = sym k.as_many

  left_count : length Q.procs ≡ kept_count keep
  left_count = length-map procs (proc_left L) ∙ count_is keep T.procs k.as_many

  behind_both : (a b n : ℕ) → a ≡ length keep + n → b ≡ kept_count keep + n → PlaceTo keep a b
  behind_both a b n e f = subst (λ (x : ℕ). PlaceTo keep x b) (sym e) (subst (PlaceTo keep (length keep + n)) (sym f) (behind_to keep n))

  start_to : (b : Bool) (start : Start) → start_stays keep b start ≡ true → ValueTo R.To (S.start_value T start) (S.start_value Q (start_left L start))
  start_to b Null s = null_to
  start_to b (Procedure number) s = procedure_to number (new_place L.procs number) (kept_start number s)
  start_to b (Record number) s = procedure_to _ _ (behind_both _ _ number (let e = procs_count in omega (arith, e)) (let e = left_count in omega (arith, e)))
  start_to b (Function func) s = procedure_to _ _ (behind_both _ _ (length T.records + pred (func_number func)) (let e = procs_count in omega (arith, e))
      (let e = left_count in let f = length-map T.records (record_left L) in omega (arith, e, f)))

  pub globals_to : PlacesTo R.GlobalTo (ValueTo R.To) (S.first_globals T) (S.first_globals Q)
  globals_to = record { at = at }
    where
      at : (p j : ℕ) → slice_get L.globals j ≡ Some p → OptionTo (ValueTo R.To) (slice_get (S.first_globals T) p) (slice_get (S.first_globals Q) j)
      at p j e =
          let within = each_got (λ n. n < length T.globals) L.globals j p (staying_within T keep r k) e in
          let begins = each_got (BeginsSo T keep r k) L.globals j p (globals_begin T keep r k) e in
          let first = get_mapped (S.global_value T) T.globals p (global_at T p) (slice_get-get_or T.globals p (record { name = 0; start = Null }) within) in
          let second = get_mapped (S.global_value Q) Q.globals j (global_left L (global_at T p))
          (get_mapped (λ place. global_left L (global_at T place)) L.globals j p e) in
          subst (λ (o : Option Value). OptionTo (ValueTo R.To) o (slice_get (S.first_globals Q) j)) (sym first)
          (subst (OptionTo (ValueTo R.To) (Some (S.global_value T (global_at T p)))) (sym second)
          (each_to (start_to (list_any (λ other. other == p) (mentioned T keep r k)) (global_at T p).start begins)))

  -- Static variables

  statics_left : (ps : List Proc) → sum_by S.statics_of (map (proc_left L) ps) ≡ sum_by S.statics_of ps
  statics_left [] = refl
  statics_left (p ∷ ps) =
      let first = sum_by-cons S.statics_of (proc_left L p) (map (proc_left L) ps) in
      let second = sum_by-cons S.statics_of p ps in
      let rest = statics_left ps in
      omega (arith, first, second, rest)

  pub statics_to : PlacesTo R.StaticTo (ValueTo R.To) (replicate (S.static_count T) NullValue) (replicate (S.static_count Q) NullValue)
  statics_to = record { at = at }
    where
      at : (x y : ℕ) → StaticAt keep T.procs x y
          → OptionTo (ValueTo R.To) (slice_get (replicate (S.static_count T) NullValue) x) (slice_get (replicate (S.static_count Q) NullValue) y)
      at x y t =
          let below = static_below keep T.procs x y t in
          let m = below.1 in
          let same = statics_left procs in
          subst (λ (o : Option Value). OptionTo (ValueTo R.To) o (slice_get (replicate (S.static_count Q) NullValue) y))
          (sym (got_replicated (S.static_count T) x NullValue below.0))
          (subst (OptionTo (ValueTo R.To) (Some NullValue)) (sym (got_replicated (S.static_count Q) y NullValue (omega (arith, m, same)))) (each_to null_to))

  -- Notes of `initial`

  pub begun_to : PlacesTo R.To (λ (a b : Bool). a ≡ b) (replicate (length T.procs) false) (replicate (length Q.procs) false)
  begun_to = subst (λ (n : ℕ). PlacesTo (PlaceTo keep) (λ (a b : Bool). a ≡ b) (replicate n false) (replicate (length Q.procs) false)) k.as_many
      (subst (λ (n : ℕ). PlacesTo (PlaceTo keep) (λ (a b : Bool). a ≡ b) (replicate (length keep) false) (replicate n false)) (sym left_count)
      (none_begun keep))

  -- `main`

  abbrev named : Global → List ℕ
  named global = name_of T.strings global

  abbrev is_named : Global → Bool
  is_named global = bytes_eq (name_of T.strings global) (codes "main")

  abbrev is_named_left : Global → Bool
  is_named_left global = bytes_eq (name_of Q.strings global) (codes "main")

  abbrev starts : Option Global → Option ℕ
  starts o = option_and_then (λ (global : Global). procedure_at global.start) o

  abbrev staying : ℕ → List Global → List ℕ
  staying n gs = globals_from keep (mentioned T keep r k) n gs

  abbrev those_left : List ℕ → List Global
  those_left places = map (λ place. global_left L (global_at T place)) places

  same_named : (place : ℕ) → Finds L.strings (global_at T place).name → is_named_left (global_left L (global_at T place)) ≡ is_named (global_at T place)
  same_named place h = ap (λ (name : List ℕ). bytes_eq name (codes "main"))
      (looked_up (λ other. slice_index_or T.strings other []) L.strings [] (global_at T place).name h)

  next_looks : (n : ℕ) (g : Global) (gs : List Global) → LooksUp (global_at T) n (g ∷ gs) → LooksUp (global_at T) (suc n) gs
  next_looks n g gs h i l = ap (global_at T) (next n i) ∙ h (suc i) (omega (arith, l))
    where
      next : (a b : ℕ) → suc a + b ≡ a + suc b
      next a b = omega arith

  first_looks : (n : ℕ) (g : Global) (gs : List Global) → LooksUp (global_at T) n (g ∷ gs) → global_at T n ≡ g
  first_looks n g gs h = ap (global_at T) (same n) ∙ h 0 (omega arith)
    where
      same : (a : ℕ) → a ≡ a + 0
      same a = omega arith

  abbrev held : ℕ → Bool
  held n = list_any (λ other. other == n) (mentioned T keep r k)

  abbrev There : List ℕ → Type 0
  There places = Each (λ place. Finds L.strings (global_at T place).name) places

  -- where no global is called `main`, none that stays is
  none_next : (n : ℕ) (g : Global) (gs : List Global) → LooksUp (global_at T) n (g ∷ gs) → (has_name (map named gs) (codes "main") ≡ false
      → There (staying (suc n) gs) → find is_named_left (those_left (staying (suc n) gs)) ≡ None)
      → (b c : Bool) → is_named g ≡ c → There (if b then n ∷ staying (suc n) gs else staying (suc n) gs) → (c || has_name (map named gs) (codes "main")) ≡ false
      → find is_named_left (those_left (if b then n ∷ staying (suc n) gs else staying (suc n) gs)) ≡ None
  none_next n g gs h later b true as_well there e = absurd (cc)
  none_next n g gs h later false false as_well there e = later e there
  none_next n g gs h later true false as_well there e =
      ap (λ (s : Bool). cond s (Some (global_left L (global_at T n))) (find is_named_left (those_left (staying (suc n) gs))))
      (same_named n there.0 ∙ ap is_named (first_looks n g gs h) ∙ as_well) ∙ later e there.1

  none_named : (n : ℕ) (gs : List Global) → LooksUp (global_at T) n gs → has_name (map named gs) (codes "main") ≡ false → There (staying n gs)
      → find is_named_left (those_left (staying n gs)) ≡ None
  none_named n [] h e f = refl
  none_named n (g ∷ gs) h e f = none_next n g gs h (λ a b. none_named (suc n) gs (next_looks n g gs h) a b)
      (start_stays keep (held n) g.start) (is_named g) refl f e

  main_start : (b : Bool) (start : Start) → start_stays keep b start ≡ true → OptionTo (PlaceTo keep) (procedure_at start) (procedure_at (start_left L start))
  main_start b Null s = neither
  main_start b (Procedure number) s = each_to (kept_start number s)
  main_start b (Record number) s = neither
  main_start b (Function func) s = neither

  -- a global that does not stay begins with a function, or with a procedure that is not kept
  gone_start : (b : Bool) (start : Start) → start_stays keep b start ≡ false → ((number : ℕ) → procedure_at start ≡ Some number → IsIn keep number)
      → procedure_at start ≡ None
  gone_start b Null s m = refl
  gone_start b (Procedure number) s m = absurd (cc_of (get_or_from_slice_get keep number true false (m number refl)) s)
    where
      cc_of : {b : Bool} → b ≡ true → b ≡ false → ⊥
      cc_of {b} e f = cc
  gone_start b (Record number) s m = refl
  gone_start b (Function func) s m = refl

  -- the first global called `main` begins with related procedures, or there is none

  abbrev Mains : Option Global → Option Global → Type 0
  Mains o p = OptionTo (PlaceTo keep) (starts o) (starts p)

  stays_first : (n : ℕ) (o rest : Option Global) (t : Bool) → is_named_left (global_left L (global_at T n)) ≡ t
      → Mains o (cond t (Some (global_left L (global_at T n))) rest)
      → Mains o (cond (is_named_left (global_left L (global_at T n))) (Some (global_left L (global_at T n))) rest)
  stays_first n o rest t e x = subst (λ (b : Bool). Mains o (cond b (Some (global_left L (global_at T n))) rest)) (sym e) x

  turned : (b : Bool) → not b ≡ true → b ≡ false
  turned true e = absurd (cc)
  turned false e = refl

  main_next : (n : ℕ) (g : Global) (gs : List Global) → LooksUp (global_at T) n (g ∷ gs) → not (has_name (map named gs) (named g)) ≡ true
      → (b : Bool) → start_stays keep (held n) g.start ≡ b → (c : Bool) → is_named g ≡ c → There (if b then n ∷ staying (suc n) gs else staying (suc n) gs)
      → ((number : ℕ) → starts (cond c (Some g) (find is_named gs)) ≡ Some number → IsIn keep number)
      → (c ≡ false → There (staying (suc n) gs) → Mains (find is_named gs) (find is_named_left (those_left (staying (suc n) gs))))
      → Mains (cond c (Some g) (find is_named gs)) (find is_named_left (those_left (if b then n ∷ staying (suc n) gs else staying (suc n) gs)))
  main_next n g gs h d true is true as_well there m later =
      stays_first n (Some g) (find is_named_left (those_left (staying (suc n) gs))) true (same_named n there.0 ∙ ap is_named (first_looks n g gs h) ∙ as_well)
      (subst (λ (z : Global). OptionTo (PlaceTo keep) (procedure_at g.start) (procedure_at (start_left L z.start))) (sym (first_looks n g gs h))
      (main_start (held n) g.start is))
  main_next n g gs h d true is false as_well there m later =
      stays_first n (find is_named gs) (find is_named_left (those_left (staying (suc n) gs))) false
      (same_named n there.0 ∙ ap is_named (first_looks n g gs h) ∙ as_well) (later refl there.1)
  main_next n g gs h d false is true as_well there m later =
      let gone : procedure_at g.start ≡ None = gone_start (held n) g.start is m in
      let other : has_name (map named gs) (codes "main") ≡ false = subst (λ (text : List ℕ). has_name (map named gs) text ≡ false)
      ((bytes_eq-Decides (named g) (codes "main")).0 as_well) (turned (has_name (map named gs) (named g)) d) in
      subst (λ (o : Option ℕ). OptionTo (PlaceTo keep) o (starts (find is_named_left (those_left (staying (suc n) gs))))) (sym gone)
      (subst (λ (o : Option Global). OptionTo (PlaceTo keep) None (starts o)) (sym (none_named (suc n) gs (next_looks n g gs h) other there)) neither)
  main_next n g gs h d false is false as_well there m later = later refl there

  main_from : (n : ℕ) (gs : List Global) → LooksUp (global_at T) n gs → names_differ (map named gs) ≡ true → There (staying n gs)
      → ((number : ℕ) → starts (find is_named gs) ≡ Some number → IsIn keep number)
      → Mains (find is_named gs) (find is_named_left (those_left (staying n gs)))
  main_from n [] h d f m = neither
  main_from n (g ∷ gs) h d f m =
      let differ = and_parts (not (has_name (map named gs) (named g))) (names_differ (map named gs)) d in
      main_next n g gs h differ.0 (start_stays keep (held n) g.start) refl (is_named g) refl f m
      (λ off there. main_from (suc n) gs (next_looks n g gs h) differ.1 there
      (λ number e. m number (ap (λ (b : Bool). starts (cond b (Some g) (find is_named gs))) off ∙ e)))

  pub main_to : OptionTo R.To (main_of T) (main_of Q)
  main_to = main_from 0 T.globals (looks T keep r k) r.names (global_names_found T keep r k) k.main
