-- The pruned code keeps the rules of codes.
use Rattle.std.proofs.Common.{◌≡◌, ℕ, zero, suc, ◌+◌, ◌<◌, ◌≤◌, ◌^◌, Bool, true, false, List, [], ◌∷◌, ◌++◌, length, map, Option, None, Some, refl, sym, ap, ◌∙◌, subst, arith, get_or}
use Rattle.std.specs.Prelude.{◌==◌, pos, nat_le, nat_lt, slice_get, slice_index_or}
use Rattle.std.specs.List.{flat_map, list_all, list_any, sum_by}
use Rattle.std.specs.Option.{option_and_then}
use Rattle.std.proofs.lemmas.Bool.{and_from, and_parts, le-leb, leb-true, lt-ltb, ltb-true}
use Rattle.std.proofs.lemmas.List.{length-map}
use Rattle.std.proofs.lemmas.List.Sums.{sum_by-cons}
use Rattle.std.proofs.lemmas.Option.{get_or_from_slice_get}
use Rattle.icn_profile.specs.Numbers.{most_fields, most_procedures, most_statics, number_limit}
use Rattle.icn_code.specs.declared.code.Global.{Global}
use Rattle.icn_code.specs.declared.code.Start.{Start}
use Rattle.icn_code.specs.declared.code.Start.TheVariants.{Null, Procedure, Record, Function}
use Rattle.icn_code.specs.declared.instr.Instr.{Instr}
use Rattle.icn_code.specs.declared.instr.Instr.TheVariants as I
use Rattle.icn_code.specs.Codes.{Proc, RecordType, Tables}
use Rattle.icn_code.specs.MainProcedure.{procedure_at}
use Rattle.icn_code.specs.Rules.{are_counts, are_procs, is_cset, is_global, is_head, is_instr, is_integer, is_proc, is_record, is_start, is_string_below, keeps_rules, name_of, names_differ}
use Rattle.icn_defs.specs.KeptProcedures.{IsIn}
use Rattle.icn_prune.specs.KeptCode.{MayBeKept, global_in, globals_in, mentioned_in, number_in, procedure_of_global}
use Rattle.icn_prune.specs.PrunedCode.{Survivors, cset_in, field_in, global_at, global_left, instr_left, integer_in, kept_from_place, kept_procs, new_place, no_cset, proc_left, pruned_tables, record_left, start_left, start_stays, string_in, survivors, taken_by, with_places}
use Rattle.icn_prune.proofs.LeastSets.{Each, each_first, each_join, each_of, each_second, each_so}
use Rattle.icn_prune.proofs.StandingPlaces.{slice_get_none, some_injective}
use Rattle.icn_prune.proofs.PlacedEntries.{Finds, IsAmong, all_found, all_indexed, ascending_found, each_among, each_both, each_mapped, each_passing, each_unmapped, each_with, few_left, kept_found, passes_at}
use Rattle.icn_prune.proofs.AscendingPlaces.{globals_ascend, globals_within, with_ascending}
use Rattle.icn_prune.proofs.KeptEntries.{csets_there, fields_there, globals_there, integers_there, kept_ruled, names_there, strings_there}
use Rattle.icn_prune.proofs.StayingGlobals.{each_stays, stays_among, still_differ}
use Rattle.icn_prune.proofs.TableRules.{AreRuled, all_rules, each_rule}

-- Numbers below a limit

below_limit : (a b limit : ℕ) → a ≤ b → nat_lt b limit ≡ true → nat_lt a limit ≡ true
below_limit a b limit le h = let l = ltb-true b limit h in lt-ltb a limit (omega (arith, le, l))

within_most : (a b limit : ℕ) → a ≤ b → nat_le b limit ≡ true → nat_le a limit ≡ true
within_most a b limit le h = let l = leb-true b limit h in le-leb a limit (omega (arith, le, l))

pub mapped_few : {A B : Type 0} (f : A → B) (xs : List A) (n : ℕ) → length xs ≤ n → length (map f xs) ≤ n
mapped_few f xs n le = let same = length-map xs f in omega (arith, same, le)

-- Fewer procedures

pub fewer_kept : (keep : List Bool) (ps : List Proc) → length (kept_procs keep ps) ≤ length ps
fewer_kept [] ps = omega arith
fewer_kept (true ∷ keep) [] = omega arith
fewer_kept (false ∷ keep) [] = omega arith
fewer_kept (true ∷ keep) (p ∷ ps) = let le = fewer_kept keep ps in omega (arith, le)
fewer_kept (false ∷ keep) (p ∷ ps) = let le = fewer_kept keep ps in omega (arith, le)

as_many_kept : (n : ℕ) (keep : List Bool) (ps : List Proc) → length keep ≡ length ps → length (kept_procs keep ps) ≡ length (kept_from_place n keep)
as_many_kept n [] ps e = refl
as_many_kept n (true ∷ keep) [] e = absurd (omega (arith, e))
as_many_kept n (false ∷ keep) [] e = absurd (omega (arith, e))
as_many_kept n (true ∷ keep) (p ∷ ps) e = ap suc (as_many_kept (suc n) keep ps (omega (arith, e)))
as_many_kept n (false ∷ keep) (p ∷ ps) e = as_many_kept (suc n) keep ps (omega (arith, e))

fewer_statics : (S : Survivors) (keep : List Bool) (ps : List Proc)
    → sum_by (λ (p : Proc). p.statics) (map (proc_left S) (kept_procs keep ps)) ≤ sum_by (λ (p : Proc). p.statics) ps
fewer_statics S [] ps = omega arith
fewer_statics S (true ∷ keep) [] = omega arith
fewer_statics S (false ∷ keep) [] = omega arith
fewer_statics S (true ∷ keep) (p ∷ ps) =
    let le = fewer_statics S keep ps in
    let one = sum_by-cons (λ (q : Proc). q.statics) (proc_left S p) (map (proc_left S) (kept_procs keep ps)) in
    let all = sum_by-cons (λ (q : Proc). q.statics) p ps in
    omega (arith, le, one, all)
fewer_statics S (false ∷ keep) (p ∷ ps) =
    let le = fewer_statics S keep ps in let all = sum_by-cons (λ (q : Proc). q.statics) p ps in omega (arith, le, all)

-- What the tables say of their entries

pub fields_of : (strings fields : ℕ) (ks : List RecordType) → list_all (is_record strings fields) ks ≡ true
    → Each (λ n. n < fields) (flat_map (λ (kind : RecordType). kind.fields) ks)
fields_of strings fields [] h = tt
fields_of strings fields (k ∷ ks) h =
    let t = and_parts (is_record strings fields k) (list_all (is_record strings fields) ks) h in
    let u = and_parts _ _ t.0 in
    each_join (λ n. n < fields) k.fields (flat_map (λ (kind : RecordType). kind.fields) ks)
    (each_so (λ n. nat_lt n fields ≡ true) (λ n. n < fields) (λ n l. ltb-true n fields l) k.fields (each_passing (λ field. nat_lt field fields) k.fields u.1))
    (fields_of strings fields ks t.1)

pub names_of_records : (strings fields : ℕ) (ks : List RecordType) → list_all (is_record strings fields) ks ≡ true
    → Each (λ n. n < strings) (map (λ (kind : RecordType). kind.name) ks)
names_of_records strings fields [] h = tt
names_of_records strings fields (k ∷ ks) h =
    let t = and_parts (is_record strings fields k) (list_all (is_record strings fields) ks) h in
    (ltb-true k.name strings (and_parts _ _ (and_parts _ _ t.0).0).0, names_of_records strings fields ks t.1)

-- what is looked up where it stands among those that stay is what stood at its place
pub looked_up : {A : Type 0} (f : ℕ → A) (left : List ℕ) (d : A) (p : ℕ) → Finds left p → get_or (map f left) (new_place left p) d ≡ f p
looked_up f left d p h = by left (new_place left p) h.stands
  where
    by : (l : List ℕ) (k : ℕ) → slice_get l k ≡ Some p → get_or (map f l) k d ≡ f p
    by [] k e = absurd (cc)
    by (x ∷ l) zero e = ap f (some_injective x p e)
    by (x ∷ l) (suc k) e = by l k e

module _ (T : Tables) (keep : List Bool) (r : AreRuled T) (k : MayBeKept T keep) where
  abbrev pub procs : List Proc
  procs = kept_procs keep T.procs

  abbrev pub mentioned : List ℕ
  mentioned = flat_map globals_in procs

  abbrev pub S : Survivors
  S = survivors T keep

  -- Counts

  are_few : (nat_lt (length T.strings) number_limit ≡ true) × (nat_lt (length T.csets) number_limit ≡ true) × (nat_lt (length T.integers) number_limit ≡ true)
      × (nat_le (length T.fields) most_fields ≡ true) × (nat_le (length T.records) most_fields ≡ true) × (nat_lt (length T.globals) number_limit ≡ true)
      × (are_procs number_limit T.procs ≡ true)
  are_few =
      let a = and_parts _ _ r.counts in
      let b = and_parts _ _ a.0 in
      let c = and_parts _ _ b.0 in
      let d = and_parts _ _ c.0 in
      let e = and_parts _ _ d.0 in
      let f = and_parts _ _ e.0 in
      (f.0, f.1, e.1, d.1, c.1, b.1, a.1)

  pub strings_few : length T.strings < 2 ^ 32
  strings_few = ltb-true (length T.strings) number_limit are_few.0

  pub csets_few : length T.csets < 2 ^ 32
  csets_few = ltb-true (length T.csets) number_limit are_few.1

  pub integers_few : length T.integers < 2 ^ 32
  integers_few = ltb-true (length T.integers) number_limit are_few.2

  pub fields_few : length T.fields < 2 ^ 32
  fields_few = let l = leb-true (length T.fields) most_fields are_few.3 in omega (arith, l)

  pub globals_few : length T.globals < 2 ^ 32
  globals_few = ltb-true (length T.globals) number_limit are_few.5

  pub procs_few : length keep < 2 ^ 32
  procs_few =
      let t = and_parts _ _ are_few.6 in
      let l = ltb-true (length T.procs) number_limit (and_parts _ _ t.0).0 in
      let same = k.as_many in
      omega (arith, l, same)

  pub ruled : list_all (is_proc T) procs ≡ true
  ruled = kept_ruled (is_proc T) keep T.procs r.procs

  -- Fields

  abbrev pub field_mentions : List ℕ
  field_mentions = flat_map (λ (kind : RecordType). kind.fields) T.records ++ taken_by field_in procs

  pub field_mentions_there : Each (λ n. n < length T.fields) field_mentions
  field_mentions_there = each_join (λ n. n < length T.fields) (flat_map (λ (kind : RecordType). kind.fields) T.records) (taken_by field_in procs)
      (fields_of (length T.strings) (length T.fields) T.records r.records) (fields_there T procs ruled)

  pub fields_within : Each (λ n. n < length T.fields) S.fields
  fields_within = each_with (λ n. n < length T.fields) field_mentions [] tt field_mentions_there

  pub fields_found : Each (Finds S.fields) field_mentions
  fields_found = all_found (length T.fields) field_mentions fields_few field_mentions_there

  -- Globals

  pub staying_within : Each (λ n. n < length T.globals) S.globals
  staying_within = each_so (λ n. n < 0 + length T.globals) (λ n. n < length T.globals) (λ n l. omega (arith, l)) S.globals
      (globals_within keep mentioned 0 T.globals)

  pub globals_once : with_places [] S.globals ≡ S.globals
  globals_once = with_ascending [] S.globals 0 tt (globals_ascend keep mentioned 0 T.globals)

  pub global_found : (p : ℕ) → IsAmong S.globals p → Finds S.globals p
  global_found p h = ascending_found (length T.globals) S.globals globals_few staying_within globals_once p h

  pub looks : (i : ℕ) → i < length T.globals → global_at T (0 + i) ≡ get_or T.globals i (record { name = 0; start = Null })
  looks i l = ap (global_at T) (same i)
    where
      same : (n : ℕ) → 0 + n ≡ n
      same n = omega arith

  -- Strings

  abbrev pub string_mentions : List ℕ
  string_mentions = map (λ place. slice_index_or T.fields place 0) S.fields
      ++ (map (λ (kind : RecordType). kind.name) T.records
      ++ (map (λ place. (global_at T place).name) S.globals
      ++ (map (λ (entry : Proc). entry.name) procs ++ taken_by string_in procs)))

  field_names_there : Each (λ n. n < length T.strings) (map (λ place. slice_index_or T.fields place 0) S.fields)
  field_names_there = each_mapped (λ n. n < length T.strings) (λ place. place < length T.fields) (λ place. slice_index_or T.fields place 0)
      (λ place l. ltb-true (slice_index_or T.fields place 0) (length T.strings)
      (passes_at (λ name. nat_lt name (length T.strings)) T.fields 0 place r.fields l)) S.fields fields_within

  global_names_there : Each (λ n. n < length T.strings) (map (λ place. (global_at T place).name) S.globals)
  global_names_there = each_mapped (λ n. n < length T.strings) (λ place. place < length T.globals) (λ place. (global_at T place).name)
      (λ place l. ltb-true (global_at T place).name (length T.strings) (and_parts _ _ (passes_at
      (is_global (length T.strings) (length T.records) (length T.procs)) T.globals (record { name = 0; start = Null }) place r.globals l)).0) S.globals
      staying_within

  pub string_mentions_there : Each (λ n. n < length T.strings) string_mentions
  string_mentions_there =
      each_join (λ n. n < length T.strings) (map (λ place. slice_index_or T.fields place 0) S.fields) _ field_names_there
      (each_join (λ n. n < length T.strings) (map (λ (kind : RecordType). kind.name) T.records) _
      (names_of_records (length T.strings) (length T.fields) T.records r.records)
      (each_join (λ n. n < length T.strings) (map (λ place. (global_at T place).name) S.globals) _ global_names_there
      (each_join (λ n. n < length T.strings) (map (λ (entry : Proc). entry.name) procs) (taken_by string_in procs) (names_there T procs ruled)
      (strings_there T procs ruled))))

  pub strings_within : Each (λ n. n < length T.strings) S.strings
  strings_within = each_with (λ n. n < length T.strings) string_mentions [] tt string_mentions_there

  pub strings_found : Each (Finds S.strings) string_mentions
  strings_found = all_found (length T.strings) string_mentions strings_few string_mentions_there

  abbrev pub behind_fields : List ℕ
  behind_fields = map (λ (kind : RecordType). kind.name) T.records
      ++ (map (λ place. (global_at T place).name) S.globals ++ (map (λ (entry : Proc). entry.name) procs ++ taken_by string_in procs))

  abbrev pub behind_records : List ℕ
  behind_records = map (λ place. (global_at T place).name) S.globals ++ (map (λ (entry : Proc). entry.name) procs ++ taken_by string_in procs)

  abbrev pub behind_globals : List ℕ
  behind_globals = map (λ (entry : Proc). entry.name) procs ++ taken_by string_in procs

  pub found_behind_fields : Each (Finds S.strings) behind_fields
  found_behind_fields = each_second (Finds S.strings) (map (λ place. slice_index_or T.fields place 0) S.fields) behind_fields strings_found

  pub found_behind_records : Each (Finds S.strings) behind_records
  found_behind_records = each_second (Finds S.strings) (map (λ (kind : RecordType). kind.name) T.records) behind_records found_behind_fields

  pub found_behind_globals : Each (Finds S.strings) behind_globals
  found_behind_globals = each_second (Finds S.strings) (map (λ place. (global_at T place).name) S.globals) behind_globals found_behind_records

  -- Csets and integers

  pub csets_within : Each (λ n. n < length T.csets) S.csets
  csets_within = each_with (λ n. n < length T.csets) (taken_by cset_in procs) [] tt (csets_there T procs ruled)

  pub integers_within : Each (λ n. n < length T.integers) S.integers
  integers_within = each_with (λ n. n < length T.integers) (taken_by integer_in procs) [] tt (integers_there T procs ruled)

  pub csets_found : Each (Finds S.csets) (taken_by cset_in procs)
  csets_found = all_found (length T.csets) (taken_by cset_in procs) csets_few (csets_there T procs ruled)

  pub integers_found : Each (Finds S.integers) (taken_by integer_in procs)
  integers_found = all_found (length T.integers) (taken_by integer_in procs) integers_few (integers_there T procs ruled)

  -- Globals that kept procedures mention stay

  -- what a kept procedure mentions is kept
  closed_from : (ks : List Bool) (ps : List Proc)
      → ((i : ℕ) (numbers : List ℕ) → slice_get ks i ≡ Some true → slice_get (map (mentioned_in T) ps) i ≡ Some numbers → Each (IsIn keep) numbers)
      → Each (λ p. Each (IsIn keep) (mentioned_in T p)) (kept_procs ks ps)
  closed_from [] ps h = tt
  closed_from (true ∷ ks) [] h = tt
  closed_from (false ∷ ks) [] h = tt
  closed_from (true ∷ ks) (p ∷ ps) h = (h 0 (mentioned_in T p) refl refl, closed_from ks ps (λ i numbers a b. h (suc i) numbers a b))
  closed_from (false ∷ ks) (p ∷ ps) h = closed_from ks ps (λ i numbers a b. h (suc i) numbers a b)

  closed_procs : Each (λ p. Each (IsIn keep) (mentioned_in T p)) procs
  closed_procs = closed_from keep T.procs (λ i numbers a b. each_of (IsIn keep) numbers (k.closed.closed i numbers a b))

  -- what each procedure mentions, place by place
  kept_mentions : (places : List ℕ) → Each (IsIn keep) (flat_map (procedure_of_global T) places)
      → Each (λ place. Each (IsIn keep) (procedure_of_global T place)) places
  kept_mentions [] e = tt
  kept_mentions (place ∷ places) e = (
    each_first (IsIn keep) (procedure_of_global T place) (flat_map (procedure_of_global T) places) e,
    kept_mentions places (each_second (IsIn keep) (procedure_of_global T place) (flat_map (procedure_of_global T) places) e),
  )

  all_mentions : (ps : List Proc) → Each (λ p. Each (IsIn keep) (mentioned_in T p)) ps
      → Each (λ place. Each (IsIn keep) (procedure_of_global T place)) (flat_map globals_in ps)
  all_mentions [] e = tt
  all_mentions (p ∷ ps) e = each_join (λ place. Each (IsIn keep) (procedure_of_global T place)) (globals_in p) (flat_map globals_in ps)
      (kept_mentions (globals_in p) e.0) (all_mentions ps e.1)

  -- where a global that is mentioned begins with a procedure, that is kept
  start_kept_there : (place : ℕ) (o : Option Global) → slice_get T.globals place ≡ o → place < length T.globals → IsAmong mentioned place
      → Each (IsIn keep) (procedure_of_global T place) → start_stays keep (list_any (λ other. other == place) mentioned) (global_at T place).start ≡ true
  start_kept_there place None e l m h = absurd (omega (arith, l, slice_get_none T.globals place e))
  start_kept_there place (Some global) e l m h =
      by global.start (ap (λ (g : Global). g.start) (get_or_from_slice_get T.globals place global (record { name = 0; start = Null }) e))
      (subst (λ o. Each (IsIn keep) (number_in (option_and_then (λ (g : Global). procedure_at g.start) o))) e h)
    where
      by : (start : Start) → (global_at T place).start ≡ start → Each (IsIn keep) (number_in (procedure_at start))
          → start_stays keep (list_any (λ other. other == place) mentioned) (global_at T place).start ≡ true
      by Null is g = ap (start_stays keep (list_any (λ other. other == place) mentioned)) is
      by (Record number) is g = ap (start_stays keep (list_any (λ other. other == place) mentioned)) is
      by (Function func) is g = ap (start_stays keep (list_any (λ other. other == place) mentioned)) is ∙ m
      by (Procedure number) is g = ap (start_stays keep (list_any (λ other. other == place) mentioned)) is
          ∙ get_or_from_slice_get keep number true false g.0

  mention_found : (place : ℕ) → place < length T.globals → IsAmong mentioned place → Each (IsIn keep) (procedure_of_global T place) → Finds S.globals place
  mention_found place l m h = global_found place (subst (IsAmong S.globals) (same place)
      (stays_among keep mentioned (global_at T) 0 T.globals looks place l
      (subst (λ n. start_stays keep (list_any (λ other. other == n) mentioned) (global_at T n).start ≡ true) (sym (same place))
      (start_kept_there place (slice_get T.globals place) refl l m h))))
    where
      same : (n : ℕ) → 0 + n ≡ n
      same n = omega arith

  pub mentions_found : Each (Finds S.globals) mentioned
  mentions_found =
      each_so (λ place. ((place < length T.globals) × IsAmong mentioned place) × Each (IsIn keep) (procedure_of_global T place)) (Finds S.globals)
      (λ place h. mention_found place h.0.0 h.0.1 h.1) mentioned
      (each_both (λ place. (place < length T.globals) × IsAmong mentioned place) (λ place. Each (IsIn keep) (procedure_of_global T place)) mentioned
      (each_both (λ place. place < length T.globals) (IsAmong mentioned) mentioned (globals_there T procs ruled) (each_among mentioned))
      (all_mentions procs closed_procs))

  -- Numbers below the counts of what is left

  in_strings : (p : ℕ) → Finds S.strings p → nat_lt (new_place S.strings p) (length (pruned_tables keep T).strings) ≡ true
  in_strings p f = let same = length-map S.strings (λ place. slice_index_or T.strings place []) in let l = f.below in
      lt-ltb (new_place S.strings p) (length (pruned_tables keep T).strings) (omega (arith, same, l))

  in_csets : (p : ℕ) → Finds S.csets p → nat_lt (new_place S.csets p) (length (pruned_tables keep T).csets) ≡ true
  in_csets p f = let same = length-map S.csets (λ place. slice_index_or T.csets place no_cset) in let l = f.below in
      lt-ltb (new_place S.csets p) (length (pruned_tables keep T).csets) (omega (arith, same, l))

  in_integers : (p : ℕ) → Finds S.integers p → nat_lt (new_place S.integers p) (length (pruned_tables keep T).integers) ≡ true
  in_integers p f = let same = length-map S.integers (λ place. slice_index_or T.integers place (pos 0)) in let l = f.below in
      lt-ltb (new_place S.integers p) (length (pruned_tables keep T).integers) (omega (arith, same, l))

  in_fields : (p : ℕ) → Finds S.fields p → nat_lt (new_place S.fields p) (length (pruned_tables keep T).fields) ≡ true
  in_fields p f = let same = length-map S.fields (λ place. new_place S.strings (slice_index_or T.fields place 0)) in let l = f.below in
      lt-ltb (new_place S.fields p) (length (pruned_tables keep T).fields) (omega (arith, same, l))

  in_globals : (p : ℕ) → Finds S.globals p → nat_lt (new_place S.globals p) (length (pruned_tables keep T).globals) ≡ true
  in_globals p f = let same = length-map S.globals (λ place. global_left S (global_at T place)) in let l = f.below in
      lt-ltb (new_place S.globals p) (length (pruned_tables keep T).globals) (omega (arith, same, l))

  in_procs : (p : ℕ) → Finds S.procs p → nat_lt (new_place S.procs p) (length (pruned_tables keep T).procs) ≡ true
  in_procs p f =
      let same = length-map procs (proc_left S) in
      let many = as_many_kept 0 keep T.procs k.as_many in
      let l = f.below in
      lt-ltb (new_place S.procs p) (length (pruned_tables keep T).procs) (omega (arith, same, many, l))

  -- Each table

  records_kept : (ks : List RecordType) → list_all (is_record (length T.strings) (length T.fields)) ks ≡ true
      → Each (Finds S.strings) (map (λ (kind : RecordType). kind.name) ks) → Each (Finds S.fields) (flat_map (λ (kind : RecordType). kind.fields) ks)
      → list_all (is_record (length (pruned_tables keep T).strings) (length (pruned_tables keep T).fields)) (map (record_left S) ks) ≡ true
  records_kept [] h n f = refl
  records_kept (kind ∷ ks) h n f =
      let t = and_parts (is_record (length T.strings) (length T.fields) kind) (list_all (is_record (length T.strings) (length T.fields)) ks) h in
      let u = and_parts _ _ t.0 in
      and_from _ _
      (and_from _ _ (and_from _ _ (in_strings kind.name n.0)
      (within_most (length (map (new_place S.fields) kind.fields)) (length kind.fields) most_fields
      (mapped_few (new_place S.fields) kind.fields (length kind.fields) (omega arith)) (and_parts _ _ u.0).1))
      (all_indexed (λ field. nat_lt field (length (pruned_tables keep T).fields)) (new_place S.fields) (Finds S.fields) in_fields kind.fields
      (each_first (Finds S.fields) kind.fields (flat_map (λ (kind : RecordType). kind.fields) ks) f)))
      (records_kept ks t.1 n.1 (each_second (Finds S.fields) kind.fields (flat_map (λ (kind : RecordType). kind.fields) ks) f))

  start_kept : (held : Bool) (start : Start) → is_start (length T.records) (length T.procs) start ≡ true → start_stays keep held start ≡ true
      → is_start (length (pruned_tables keep T).records) (length (pruned_tables keep T).procs) (start_left S start) ≡ true
  start_kept held Null h s = refl
  start_kept held (Function func) h s = refl
  start_kept held (Record number) h s =
      let same = length-map T.records (record_left S) in let l = ltb-true number (length T.records) h in
      lt-ltb number (length (pruned_tables keep T).records) (omega (arith, same, l))
  start_kept held (Procedure number) h s = in_procs number (kept_found keep number procs_few s)

  abbrev pub BeginsSo : ℕ → Type 0
  BeginsSo place = start_stays keep (list_any (λ other. other == place) mentioned) (global_at T place).start ≡ true

  pub globals_begin : Each BeginsSo S.globals
  globals_begin = each_stays keep mentioned (global_at T) 0 T.globals looks

  pub global_names_found : Each (λ place. Finds S.strings (global_at T place).name) S.globals
  global_names_found = each_unmapped (Finds S.strings) (λ place. Finds S.strings (global_at T place).name) (λ place. (global_at T place).name) (λ place h. h)
      S.globals (each_first (Finds S.strings) (map (λ place. (global_at T place).name) S.globals) behind_globals found_behind_records)

  globals_kept : list_all (is_global (length (pruned_tables keep T).strings) (length (pruned_tables keep T).records) (length (pruned_tables keep T).procs))
      (pruned_tables keep T).globals ≡ true
  globals_kept =
      all_indexed (is_global (length (pruned_tables keep T).strings) (length (pruned_tables keep T).records) (length (pruned_tables keep T).procs))
      (λ place. global_left S (global_at T place))
      (λ place. ((place < length T.globals) × Finds S.strings (global_at T place).name) × BeginsSo place)
      (λ place h. and_from _ _ (in_strings (global_at T place).name h.0.1)
      (start_kept (list_any (λ other. other == place) mentioned) (global_at T place).start
      (and_parts _ _ (passes_at (is_global (length T.strings) (length T.records) (length T.procs)) T.globals (record { name = 0; start = Null }) place r.globals
      h.0.0)).1 h.1)) S.globals
      (each_both (λ place. (place < length T.globals) × Finds S.strings (global_at T place).name) BeginsSo S.globals
      (each_both (λ place. place < length T.globals) (λ place. Finds S.strings (global_at T place).name) S.globals staying_within global_names_found)
      globals_begin)

  same_names : (l : List ℕ) → Each (λ place. Finds S.strings (global_at T place).name) l
      → map (name_of (pruned_tables keep T).strings) (map (λ place. global_left S (global_at T place)) l) ≡ map (λ place. name_of T.strings (global_at T place)) l
  same_names [] e = refl
  same_names (place ∷ l) e =
      ap (λ name. name ∷ map (name_of (pruned_tables keep T).strings) (map (λ other. global_left S (global_at T other)) l))
      (looked_up (λ other. slice_index_or T.strings other []) S.strings [] (global_at T place).name e.0)
      ∙ ap (λ names. name_of T.strings (global_at T place) ∷ names) (same_names l e.1)

  names_kept : names_differ (map (name_of (pruned_tables keep T).strings) (pruned_tables keep T).globals) ≡ true
  names_kept = ap names_differ (same_names S.globals global_names_found)
      ∙ still_differ keep mentioned (global_at T) (name_of T.strings) 0 T.globals looks r.names

  -- Procedures

  label_kept : (p : Proc) (label : ℕ) → nat_le label (length p.instrs) ≡ true → nat_le label (length (proc_left S p).instrs) ≡ true
  label_kept p label h =
      let same = length-map p.instrs (instr_left S) in let l = leb-true label (length p.instrs) h in
      le-leb label (length (proc_left S p).instrs) (omega (arith, same, l))

  instr_kept : (p : Proc) (i : Instr) → is_instr T p i ≡ true → Each (Finds S.strings) (string_in i) → Each (Finds S.csets) (cset_in i)
      → Each (Finds S.integers) (integer_in i) → Each (Finds S.fields) (field_in i) → Each (Finds S.globals) (global_in i)
      → is_instr (pruned_tables keep T) (proc_left S p) (instr_left S i) ≡ true
  instr_kept p (I.Int place) h s c n f g = in_integers place n.0
  instr_kept p (I.Str place) h s c n f g = in_strings place s.0
  instr_kept p (I.Cset place) h s c n f g = in_csets place c.0
  instr_kept p (I.Global place) h s c n f g = in_globals place g.0
  instr_kept p (I.Field place) h s c n f g = in_fields place f.0
  instr_kept p (I.Local place) h s c n f g = h
  instr_kept p (I.Static place) h s c n f g = h
  instr_kept p (I.Llist count) h s c n f g = h
  instr_kept p (I.Invoke count) h s c n f g = h
  instr_kept p (I.Mark label) h s c n f g = label_kept p label h
  instr_kept p (I.Chfail label) h s c n f g = label_kept p label h
  instr_kept p (I.Goto label) h s c n f g = label_kept p label h
  instr_kept p (I.Loop label) h s c n f g = label_kept p label h
  instr_kept p (I.Init label) h s c n f g = label_kept p label h
  instr_kept p (I.Create label) h s c n f g = label_kept p label h
  instr_kept p i h s c n f g = refl

  instrs_kept : (p : Proc) (is : List Instr) → list_all (is_instr T p) is ≡ true → Each (Finds S.strings) (flat_map string_in is)
      → Each (Finds S.csets) (flat_map cset_in is) → Each (Finds S.integers) (flat_map integer_in is) → Each (Finds S.fields) (flat_map field_in is)
      → Each (Finds S.globals) (flat_map global_in is) → list_all (is_instr (pruned_tables keep T) (proc_left S p)) (map (instr_left S) is) ≡ true
  instrs_kept p [] h s c n f g = refl
  instrs_kept p (i ∷ is) h s c n f g =
      let t = and_parts (is_instr T p i) (list_all (is_instr T p) is) h in
      and_from _ _
      (instr_kept p i t.0 (each_first (Finds S.strings) (string_in i) (flat_map string_in is) s)
      (each_first (Finds S.csets) (cset_in i) (flat_map cset_in is) c)
      (each_first (Finds S.integers) (integer_in i) (flat_map integer_in is) n) (each_first (Finds S.fields) (field_in i) (flat_map field_in is) f)
      (each_first (Finds S.globals) (global_in i) (flat_map global_in is) g))
      (instrs_kept p is t.1 (each_second (Finds S.strings) (string_in i) (flat_map string_in is) s)
      (each_second (Finds S.csets) (cset_in i) (flat_map cset_in is) c) (each_second (Finds S.integers) (integer_in i) (flat_map integer_in is) n)
      (each_second (Finds S.fields) (field_in i) (flat_map field_in is) f) (each_second (Finds S.globals) (global_in i) (flat_map global_in is) g))

  head_kept : (p : Proc) → is_head (length T.strings) p ≡ true → Finds S.strings p.name → is_head (length (pruned_tables keep T).strings) (proc_left S p) ≡ true
  head_kept p h f =
      let a = and_parts _ _ h in
      let b = and_parts _ _ a.0 in
      let c = and_parts _ _ b.0 in
      let d = and_parts _ _ c.0 in
      and_from _ _ (and_from _ _ (and_from _ _ (and_from _ _ (in_strings p.name f) d.1) c.1) b.1)
      (below_limit (length (map (instr_left S) p.instrs)) (length p.instrs) (2 ^ 32) (mapped_few (instr_left S) p.instrs (length p.instrs) (omega arith)) a.1)

  procs_kept : (ps : List Proc) → list_all (is_proc T) ps ≡ true → Each (Finds S.strings) (map (λ (entry : Proc). entry.name) ps)
      → Each (Finds S.strings) (taken_by string_in ps) → Each (Finds S.csets) (taken_by cset_in ps) → Each (Finds S.integers) (taken_by integer_in ps)
      → Each (Finds S.fields) (taken_by field_in ps) → Each (Finds S.globals) (taken_by global_in ps)
      → list_all (is_proc (pruned_tables keep T)) (map (proc_left S) ps) ≡ true
  procs_kept [] h m s c n f g = refl
  procs_kept (p ∷ ps) h m s c n f g =
      let t = and_parts (is_proc T p) (list_all (is_proc T) ps) h in
      let u = and_parts (is_head (length T.strings) p) (list_all (is_instr T p) p.instrs) t.0 in
      and_from _ _
      (and_from _ _ (head_kept p u.0 m.0)
      (instrs_kept p p.instrs u.1 (each_first (Finds S.strings) (flat_map string_in p.instrs) (taken_by string_in ps) s)
      (each_first (Finds S.csets) (flat_map cset_in p.instrs) (taken_by cset_in ps) c)
      (each_first (Finds S.integers) (flat_map integer_in p.instrs) (taken_by integer_in ps) n)
      (each_first (Finds S.fields) (flat_map field_in p.instrs) (taken_by field_in ps) f)
      (each_first (Finds S.globals) (flat_map global_in p.instrs) (taken_by global_in ps) g)))
      (procs_kept ps t.1 m.1 (each_second (Finds S.strings) (flat_map string_in p.instrs) (taken_by string_in ps) s)
      (each_second (Finds S.csets) (flat_map cset_in p.instrs) (taken_by cset_in ps) c)
      (each_second (Finds S.integers) (flat_map integer_in p.instrs) (taken_by integer_in ps) n)
      (each_second (Finds S.fields) (flat_map field_in p.instrs) (taken_by field_in ps) f)
      (each_second (Finds S.globals) (flat_map global_in p.instrs) (taken_by global_in ps) g))

  -- All rules

  counts_kept : are_counts number_limit (pruned_tables keep T) ≡ true
  counts_kept =
      let t = and_parts _ _ are_few.6 in
      let u = and_parts _ _ t.0 in
      let many : length (pruned_tables keep T).procs ≤ length T.procs = mapped_few (proc_left S) procs (length T.procs) (fewer_kept keep T.procs) in
      and_from _ _ (and_from _ _ (and_from _ _ (and_from _ _ (and_from _ _ (and_from _ _
      (below_limit (length (pruned_tables keep T).strings) (length T.strings) number_limit
      (mapped_few (λ place. slice_index_or T.strings place []) S.strings (length T.strings)
      (few_left (length T.strings) string_mentions strings_few string_mentions_there)) are_few.0)
      (below_limit (length (pruned_tables keep T).csets) (length T.csets) number_limit
      (mapped_few (λ place. slice_index_or T.csets place no_cset) S.csets (length T.csets)
      (few_left (length T.csets) (taken_by cset_in procs) csets_few (csets_there T procs ruled))) are_few.1))
      (below_limit (length (pruned_tables keep T).integers) (length T.integers) number_limit
      (mapped_few (λ place. slice_index_or T.integers place (pos 0)) S.integers (length T.integers)
      (few_left (length T.integers) (taken_by integer_in procs) integers_few (integers_there T procs ruled))) are_few.2))
      (within_most (length (pruned_tables keep T).fields) (length T.fields) most_fields
      (mapped_few (λ place. new_place S.strings (slice_index_or T.fields place 0)) S.fields (length T.fields)
      (few_left (length T.fields) field_mentions fields_few field_mentions_there)) are_few.3))
      (within_most (length (pruned_tables keep T).records) (length T.records) most_fields
      (mapped_few (record_left S) T.records (length T.records) (omega arith)) are_few.4))
      (below_limit (length (pruned_tables keep T).globals) (length T.globals) number_limit
      (mapped_few (λ place. global_left S (global_at T place)) S.globals (length T.globals)
      (subst (λ l. length l ≤ length T.globals) globals_once (few_left (length T.globals) S.globals globals_few staying_within))) are_few.5))
      (and_from _ _ (and_from _ _ (below_limit (length (pruned_tables keep T).procs) (length T.procs) number_limit many u.0)
      (within_most (length (pruned_tables keep T).procs) (length T.procs) most_procedures many u.1))
      (within_most (sum_by (λ (p : Proc). p.statics) (pruned_tables keep T).procs) (sum_by (λ (p : Proc). p.statics) T.procs) most_statics
      (fewer_statics S keep T.procs) t.1))

  pub pruned_ruled : AreRuled (pruned_tables keep T)
  pruned_ruled = record {
    counts = counts_kept;
    strings = all_indexed (is_string_below number_limit) (λ place. slice_index_or T.strings place []) (λ n. n < length T.strings)
        (λ place l. passes_at (is_string_below number_limit) T.strings [] place r.strings l) S.strings strings_within;
    csets = all_indexed is_cset (λ place. slice_index_or T.csets place no_cset) (λ n. n < length T.csets)
        (λ place l. passes_at is_cset T.csets no_cset place r.csets l) S.csets csets_within;
    integers = all_indexed is_integer (λ place. slice_index_or T.integers place (pos 0)) (λ n. n < length T.integers)
        (λ place l. passes_at is_integer T.integers (pos 0) place r.integers l) S.integers integers_within;
    fields = all_indexed (λ name. nat_lt name (length (pruned_tables keep T).strings)) (λ place. new_place S.strings (slice_index_or T.fields place 0))
        (λ place. Finds S.strings (slice_index_or T.fields place 0)) (λ place h. in_strings (slice_index_or T.fields place 0) h) S.fields
        (each_unmapped (Finds S.strings) (λ place. Finds S.strings (slice_index_or T.fields place 0)) (λ place. slice_index_or T.fields place 0) (λ place h. h)
        S.fields (each_first (Finds S.strings) (map (λ place. slice_index_or T.fields place 0) S.fields) behind_fields strings_found));
    records = records_kept T.records r.records (each_first (Finds S.strings)
        (map (λ (kind : RecordType). kind.name) T.records) behind_records found_behind_fields)
        (each_first (Finds S.fields) (flat_map (λ (kind : RecordType). kind.fields) T.records) (taken_by field_in procs) fields_found);
    globals = globals_kept;
    names = names_kept;
    procs = procs_kept procs ruled (each_first (Finds S.strings) (map (λ (entry : Proc). entry.name) procs) (taken_by string_in procs) found_behind_globals)
        (each_second (Finds S.strings) (map (λ (entry : Proc). entry.name) procs) (taken_by string_in procs) found_behind_globals) csets_found integers_found
        (each_second (Finds S.fields) (flat_map (λ (kind : RecordType). kind.fields) T.records) (taken_by field_in procs) fields_found) mentions_found;
  }

pub pruned_keeps_rules : (T : Tables) (keep : List Bool) → keeps_rules T ≡ true → MayBeKept T keep → keeps_rules (pruned_tables keep T) ≡ true
pruned_keeps_rules T keep h k = all_rules (pruned_tables keep T) (pruned_ruled T keep (each_rule T h) k)
