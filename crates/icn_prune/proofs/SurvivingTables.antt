-- What stays of each table, and the code that is left, put together.
use Rattle.std.proofs.Common.{◌≡◌, ℕ, ◌+◌, ◌<◌, Bool, true, List, [], ◌++◌, length, map, refl, sym, ap, subst, ◌∙◌, arith, pos, suc, false, ◌∷◌, if◌then◌else◌, drop, get_or, append_assoc, append-nil, Result, IfOk}
use Rattle.std.specs.Prelude.{◌==◌, nat_lt, slice_index_or}
use Rattle.std.proofs.lemmas.Bool.{and_parts, ltb-true}
use Rattle.std.specs.List.{All, flat_map, list_all, list_any}
use Rattle.icn_code.specs.declared.code.Global.{Global}
use Rattle.icn_code.specs.declared.code.Start.TheVariants.{Null}
use Rattle.icn_code.specs.declared.instr.Instr.{Instr}
use Rattle.icn_code.specs.declared.instr.Instr.TheVariants as I
use Rattle.icn_code.specs.Codes.{Proc, RecordType, Tables}
use Rattle.icn_code.specs.Rules.{is_global, is_proc, keeps_rules}
use Rattle.icn_prune.specs.declared.places.Places.{Places}
use Rattle.icn_prune.specs.KeptCode.{MayBeKept, globals_in}
use Rattle.icn_prune.specs.PrunedCode.{Survivors, cset_in, field_in, fields_left, global_at, global_left, globals_from, instr_left, integer_in, kept_from_place, kept_procs, new_place, no_cset, proc_left, pruned_tables, record_left, start_stays, string_in, strings_left, survivors, tables_left, taken_by, with_places}
use Rattle.icn_prune.proofs.AscendingPlaces.{globals_ascend, globals_within, kept_within, with_ascending}
use Rattle.icn_prune.proofs.KeptEntries.{fields_there, kept_ruled, names_there, strings_there}
use Rattle.icn_prune.proofs.LeastSets.{Each, all_of, each_join, each_of, each_so, item_and_rest, slice_item}
use Rattle.icn_prune.proofs.StandingPlaces.{some_injective}
use Rattle.std.proofs.lemmas.Option.{slice_get-get_or}
use Rattle.icn_prune.proofs.PlacedEntries.{among_places, each_mapped, kept_once, passes_at}
use Rattle.icn_prune.proofs.PrunedRules.{csets_within, fields_of, fields_within, integers_within, names_of_records, staying_within}
use Rattle.icn_prune.proofs.StayingGlobals.{globals_alike}
use Rattle.icn_prune.proofs.TableRules.{each_rule}

-- Globals that stay

-- the places that were found to stay are those of the definition, each once
pub staying_left : (T : Tables) (keep : List Bool) (mentioned kept places left : List ℕ) → kept ≡ with_places [] mentioned
    → places ≡ globals_from keep kept 0 T.globals → left ≡ with_places [] places → left ≡ globals_from keep mentioned 0 T.globals
staying_left T keep mentioned kept places left k p l =
    let same : places ≡ globals_from keep mentioned 0 T.globals = p ∙ ap (λ (ms : List ℕ). globals_from keep ms 0 T.globals) k
    ∙ globals_alike keep (with_places [] mentioned) mentioned (λ q. among_places [] mentioned q) 0 T.globals in
    l ∙ ap (with_places []) same
    ∙ with_ascending [] (globals_from keep mentioned 0 T.globals) 0 tt (globals_ascend keep mentioned 0 T.globals)

pub staying_there : (T : Tables) (keep : List Bool) (kept places : List ℕ) → places ≡ globals_from keep kept 0 T.globals
    → All (λ place. place < length T.globals) places
staying_there T keep kept places p =
    subst (All (λ place. place < length T.globals)) (sym p) (all_of (λ place. place < length T.globals) (globals_from keep kept 0 T.globals)
    (each_so (λ n. n < 0 + length T.globals) (λ n. n < length T.globals) (λ n l. omega (arith, l)) (globals_from keep kept 0 T.globals)
    (globals_within keep kept 0 T.globals)))

-- Loops over those that stay

got_again : {A : Type 0} (xs : List A) (i : ℕ) (none : A) → i < length xs → get_or xs i none ≡ get_or xs i (get_or xs i none)
got_again xs i none l =
    some_injective (get_or xs i none) (get_or xs i (get_or xs i none))
    (sym (slice_get-get_or xs i none l) ∙ slice_get-get_or xs i (get_or xs i none) l)

-- the next item, as it is there behind
pub mapped_next : {A B : Type 0} (f : A → B) (xs slice : List A) (i : ℕ) (none : A) (done later all : List B) → slice ≡ xs → i < length slice
    → later ≡ done ++ f (get_or slice i none) ∷ [] → done ++ map f (drop i xs) ≡ all → later ++ map f (drop (i + 1) xs) ≡ all
mapped_next {A} f xs slice i none done later all e l added so =
    let item = get_or slice i none in
    let rest = map f (drop (i + 1) xs) in
    ap (λ l. l ++ rest) added ∙ append_assoc done (f item ∷ []) rest
    ∙ ap (λ l. done ++ map f l) (slice_item xs slice i item e l (got_again slice i none l)) ∙ so

added_if : (b : Bool) (n : ℕ) (done rest : List ℕ) → (done ++ (if b then n ∷ [] else [])) ++ rest ≡ done ++ (if b then n ∷ rest else rest)
added_if true n done rest = append_assoc done (n ∷ []) rest
added_if false n done rest = ap (λ l. l ++ rest) (append-nil done)

kept_first : (b : Bool) (n : ℕ) (keep : List Bool)
    → (if b then n ∷ kept_from_place (suc n) keep else kept_from_place (suc n) keep) ≡ kept_from_place n (b ∷ keep)
kept_first true n keep = refl
kept_first false n keep = refl

pub number_next : (keep : List Bool) (n : ℕ) (none : Bool) (done later all : List ℕ) → n < length keep
    → later ≡ done ++ (if get_or keep n none then n ∷ [] else []) → done ++ kept_from_place n (drop n keep) ≡ all
    → later ++ kept_from_place (n + 1) (drop (n + 1) keep) ≡ all
number_next keep n none done later all within added so =
    let b = get_or keep n none in
    let next : n + 1 ≡ suc n = omega arith in
    let behind = drop (n + 1) keep in
    let rest = kept_from_place (suc n) behind in
    ap (λ k. later ++ kept_from_place k behind) next ∙ ap (λ l. l ++ rest) added ∙ added_if b n done rest
    ∙ ap (λ l. done ++ l) (kept_first b n behind ∙ ap (kept_from_place n) (item_and_rest keep n b within (got_again keep n none within))) ∙ so

pub global_next : (keep : List Bool) (mentioned : List ℕ) (globals slice : List Global) (n : ℕ) (none : Global) (held b : Bool)
    (done later all : List ℕ) → n < length slice → slice ≡ globals → held ≡ list_any (λ other. other == n) mentioned
    → b ≡ start_stays keep held (get_or slice n none).start
    → later ≡ done ++ (if b then n ∷ [] else []) → done ++ globals_from keep mentioned n (drop n globals) ≡ all
    → later ++ globals_from keep mentioned (n + 1) (drop (n + 1) globals) ≡ all
global_next keep mentioned globals slice n none held b done later all within e h stays added so =
    let global = get_or slice n none in
    let next : n + 1 ≡ suc n = omega arith in
    let behind = drop (n + 1) globals in
    let rest = globals_from keep mentioned (suc n) behind in
    let item : global ∷ behind ≡ drop n globals =
    subst (λ (gs : List Global). global ∷ drop (n + 1) gs ≡ drop n gs) e (item_and_rest slice n global within (got_again slice n none within)) in
    ap (λ k. later ++ globals_from keep mentioned k behind) next ∙ ap (λ l. l ++ rest) added ∙ added_if b n done rest
    ∙ ap (λ t. done ++ (if t then n ∷ rest else rest)) (stays ∙ ap (λ m. start_stays keep m global.start) h)
    ∙ ap (λ gs. done ++ globals_from keep mentioned n gs) item ∙ so

pub staying_so : {E : Type 0} (T : Tables) (keep : List Bool) (mentioned kept places slice : List ℕ) (result : Result Places E)
    → kept ≡ with_places [] mentioned → places ≡ globals_from keep kept 0 T.globals → slice ≡ places
    → IfOk result (λ left. left.left.items ≡ with_places [] slice)
    → IfOk result (λ left. left.left.items ≡ globals_from keep mentioned 0 T.globals)
staying_so T keep mentioned kept places slice result k p s h =
    subst (λ (l : List ℕ). IfOk result (λ left. left.left.items ≡ l))
    (staying_left T keep mentioned kept places (with_places [] slice) k p (ap (with_places []) s)) h

-- The procedures that are kept

pub kept_are_ruled : (T : Tables) (keep : List Bool) (procs : List Proc) → keeps_rules T ≡ true → procs ≡ kept_procs keep T.procs
    → list_all (is_proc T) procs ≡ true
kept_are_ruled T keep procs h e = ap (list_all (is_proc T)) e ∙ kept_ruled (is_proc T) keep T.procs (each_rule T h).procs

-- What is gathered of a table

-- what was pushed onto nothing, as a slice
pub one_part : (slice pushed start a : List ℕ) → slice ≡ pushed → pushed ≡ start ++ a → start ≡ [] → slice ≡ a
one_part slice pushed start a s e n = s ∙ e ∙ ap (λ l. l ++ a) n

pub two_parts : (slice last first start a b : List ℕ) → slice ≡ last → last ≡ first ++ b → first ≡ start ++ a → start ≡ [] → slice ≡ a ++ b
two_parts slice last first start a b s e f n = s ∙ e ∙ ap (λ l. l ++ b) (f ∙ ap (λ l. l ++ a) n)

pub five_parts : (slice p5 p4 p3 p2 p1 start a b c d e : List ℕ) → slice ≡ p5 → p5 ≡ p4 ++ e → p4 ≡ p3 ++ d → p3 ≡ p2 ++ c → p2 ≡ p1 ++ b
    → p1 ≡ start ++ a → start ≡ [] → slice ≡ a ++ (b ++ (c ++ (d ++ e)))
five_parts slice p5 p4 p3 p2 p1 start a b c d e s h5 h4 h3 h2 h1 n =
    s ∙ h5 ∙ ap (λ l. l ++ e) (h4 ∙ ap (λ l. l ++ d) (h3 ∙ ap (λ l. l ++ c) (h2 ∙ ap (λ l. l ++ b) (h1 ∙ ap (λ l. l ++ a) n))))
    ∙ append_assoc ((a ++ b) ++ c) d e ∙ append_assoc (a ++ b) c (d ++ e) ∙ append_assoc a b (c ++ (d ++ e))

-- all of it is there
pub gathered_there : (most count : ℕ) (slice ms : List ℕ) → slice ≡ ms → count ≡ most → Each (λ n. n < most) ms → All (λ n. n < count) slice
gathered_there most count slice ms e c all =
    subst (λ l. All (λ n. n < count) l) (sym e) (subst (λ (k : ℕ). All (λ n. n < k) ms) (sym c) (all_of (λ n. n < most) ms all))

-- and what stays of it is told
pub gathered_left : {E : Type 0} (result : Result Places E) (slice ms : List ℕ) → slice ≡ ms
    → IfOk result (λ places. places.left.items ≡ with_places [] slice) → IfOk result (λ places. places.left.items ≡ with_places [] ms)
gathered_left result slice ms e h = subst (λ l. IfOk result (λ places. places.left.items ≡ with_places [] l)) e h

pub field_mentions_below : (T : Tables) (ps : List Proc) → keeps_rules T ≡ true → list_all (is_proc T) ps ≡ true
    → Each (λ n. n < length T.fields) (flat_map (λ (kind : RecordType). kind.fields) T.records ++ taken_by field_in ps)
field_mentions_below T ps h ruled =
    each_join (λ n. n < length T.fields) (flat_map (λ (kind : RecordType). kind.fields) T.records) (taken_by field_in ps)
    (fields_of (length T.strings) (length T.fields) T.records (each_rule T h).records) (fields_there T ps ruled)

pub string_mentions_below : (T : Tables) (ps : List Proc) (fields globals : List ℕ) → keeps_rules T ≡ true → list_all (is_proc T) ps ≡ true
    → All (λ n. n < length T.fields) fields → All (λ n. n < length T.globals) globals
    → Each (λ n. n < length T.strings) (map (λ place. slice_index_or T.fields place 0) fields
    ++ (map (λ (kind : RecordType). kind.name) T.records
    ++ (map (λ place. (global_at T place).name) globals
    ++ (map (λ (entry : Proc). entry.name) ps ++ taken_by string_in ps))))
string_mentions_below T ps fields globals h ruled f g =
    let r = each_rule T h in
    let below : ℕ → Type 0 = λ n. n < length T.strings in
    let field_names = each_mapped below (λ place. place < length T.fields) (λ place. slice_index_or T.fields place 0)
    (λ place l. ltb-true (slice_index_or T.fields place 0) (length T.strings)
    (passes_at (λ name. nat_lt name (length T.strings)) T.fields 0 place r.fields l)) fields (each_of (λ n. n < length T.fields) fields f) in
    let global_names = each_mapped below (λ place. place < length T.globals) (λ place. (global_at T place).name)
    (λ place l. ltb-true (global_at T place).name (length T.strings) (and_parts _ _ (passes_at
    (is_global (length T.strings) (length T.records) (length T.procs)) T.globals (record { name = 0; start = Null }) place r.globals l)).0) globals
    (each_of (λ n. n < length T.globals) globals g) in
    each_join below (map (λ place. slice_index_or T.fields place 0) fields) _ field_names
    (each_join below (map (λ (kind : RecordType). kind.name) T.records) _ (names_of_records (length T.strings) (length T.fields) T.records r.records)
    (each_join below (map (λ place. (global_at T place).name) globals) _ global_names
    (each_join below (map (λ (entry : Proc). entry.name) ps) (taken_by string_in ps) (names_there T ps ruled) (strings_there T ps ruled))))

-- kept procedures stay each once
pub kept_so : {E : Type 0} (keep : List Bool) (numbers slice : List ℕ) (result : Result Places E) → numbers ≡ kept_from_place 0 keep → slice ≡ numbers
    → IfOk result (λ left. left.left.items ≡ with_places [] slice) → IfOk result (λ left. left.left.items ≡ kept_from_place 0 keep)
kept_so keep numbers slice result n s h =
    subst (λ (l : List ℕ). IfOk result (λ left. left.left.items ≡ l)) (ap (with_places []) (s ∙ n) ∙ kept_once keep) h

pub kept_there : (keep : List Bool) (numbers slice : List ℕ) (count : ℕ) → numbers ≡ kept_from_place 0 keep → slice ≡ numbers → count ≡ length keep
    → All (λ place. place < count) slice
kept_there keep numbers slice count n s c =
    gathered_there (length keep) count slice (kept_from_place 0 keep) (s ∙ n) c
    (each_so (λ m. m < 0 + length keep) (λ m. m < length keep) (λ m l. omega (arith, l)) (kept_from_place 0 keep) (kept_within 0 keep))

-- What stays of all tables

-- what was found of each table, of these procedures
pub record Found (T : Tables) (keep : List Bool) (ps : List Proc) (S : Survivors) : Type 0 where
  pub kept : ps ≡ kept_procs keep T.procs
  pub strings : S.strings ≡ strings_left T ps S.fields S.globals
  pub csets : S.csets ≡ with_places [] (taken_by cset_in ps)
  pub integers : S.integers ≡ with_places [] (taken_by integer_in ps)
  pub fields : S.fields ≡ fields_left T ps
  pub globals : S.globals ≡ globals_from keep (flat_map globals_in ps) 0 T.globals
  pub procs : S.procs ≡ kept_from_place 0 keep

pub found_are : (T : Tables) (keep : List Bool) (ps : List Proc) (S : Survivors) → Found T keep ps S → S ≡ survivors T keep
found_are T keep ps S f =
    let P : List Proc = kept_procs keep T.procs in
    let fields : S.fields ≡ fields_left T P = f.fields ∙ ap (fields_left T) f.kept in
    let globals : S.globals ≡ globals_from keep (flat_map globals_in P) 0 T.globals =
    f.globals ∙ ap (λ (qs : List Proc). globals_from keep (flat_map globals_in qs) 0 T.globals) f.kept in
    let strings : S.strings ≡ strings_left T P (fields_left T P) (globals_from keep (flat_map globals_in P) 0 T.globals) =
    f.strings ∙ ap (λ (qs : List Proc). strings_left T qs S.fields S.globals) f.kept
    ∙ ap (λ (fs : List ℕ). strings_left T P fs S.globals) fields ∙ ap (λ (gs : List ℕ). strings_left T P (fields_left T P) gs) globals in
    let csets : S.csets ≡ with_places [] (taken_by cset_in P) = f.csets ∙ ap (λ (qs : List Proc). with_places [] (taken_by cset_in qs)) f.kept in
    let integers : S.integers ≡ with_places [] (taken_by integer_in P) =
    f.integers ∙ ap (λ (qs : List Proc). with_places [] (taken_by integer_in qs)) f.kept in
    λ i. record {
      strings = strings i;
      csets = csets i;
      integers = integers i;
      fields = fields i;
      globals = globals i;
      procs = f.procs i;
    }

-- Entries that stay are in their tables

module _ (T : Tables) (keep : List Bool) (rules : keeps_rules T ≡ true) (k : MayBeKept T keep) (S : Survivors) (e : S ≡ survivors T keep) where
  pub csets_there_left : All (λ place. place < length T.csets) S.csets
  csets_there_left = subst (λ (x : Survivors). All (λ place. place < length T.csets) x.csets) (sym e)
      (all_of (λ n. n < length T.csets) (survivors T keep).csets (csets_within T keep (each_rule T rules) k))

  pub integers_there_left : All (λ place. place < length T.integers) S.integers
  integers_there_left = subst (λ (x : Survivors). All (λ place. place < length T.integers) x.integers) (sym e)
      (all_of (λ n. n < length T.integers) (survivors T keep).integers (integers_within T keep (each_rule T rules) k))

  pub fields_there_left : All (λ place. place < length T.fields) S.fields
  fields_there_left = subst (λ (x : Survivors). All (λ place. place < length T.fields) x.fields) (sym e)
      (all_of (λ n. n < length T.fields) (survivors T keep).fields (fields_within T keep (each_rule T rules) k))

  pub globals_there_left : All (λ place. place < length T.globals) S.globals
  globals_there_left = subst (λ (x : Survivors). All (λ place. place < length T.globals) x.globals) (sym e)
      (all_of (λ n. n < length T.globals) (survivors T keep).globals (staying_within T keep (each_rule T rules) k))

-- the fields and the globals that were found of the kept procedures
module _ (T : Tables) (keep : List Bool) (rules : keeps_rules T ≡ true) (k : MayBeKept T keep) (ps : List Proc) (e : ps ≡ kept_procs keep T.procs) where
  pub found_fields_there : (fields : List ℕ) → fields ≡ fields_left T ps → All (λ place. place < length T.fields) fields
  found_fields_there fields f = subst (All (λ place. place < length T.fields)) (sym (f ∙ ap (fields_left T) e))
      (all_of (λ n. n < length T.fields) (survivors T keep).fields (fields_within T keep (each_rule T rules) k))

  pub found_globals_there : (globals : List ℕ) → globals ≡ globals_from keep (flat_map globals_in ps) 0 T.globals
      → All (λ place. place < length T.globals) globals
  found_globals_there globals g = staying_there T keep (flat_map globals_in ps) globals g

-- The code that is left

-- its tables
pub record Left (T : Tables) (keep : List Bool) (S : Survivors) (L : Tables) : Type 0 where
  pub strings : L.strings ≡ map (λ place. slice_index_or T.strings place []) S.strings
  pub csets : L.csets ≡ map (λ place. slice_index_or T.csets place no_cset) S.csets
  pub integers : L.integers ≡ map (λ place. slice_index_or T.integers place (pos 0)) S.integers
  pub fields : L.fields ≡ map (λ place. new_place S.strings (slice_index_or T.fields place 0)) S.fields
  pub records : L.records ≡ map (record_left S) T.records
  pub globals : L.globals ≡ map (λ place. global_left S (global_at T place)) S.globals
  pub procs : L.procs ≡ map (proc_left S) (kept_procs keep T.procs)

pub left_is : (T : Tables) (keep : List Bool) (S : Survivors) (L : Tables) → Left T keep S L → S ≡ survivors T keep → L ≡ pruned_tables keep T
left_is T keep S L l e =
    (λ i. record {
      strings = l.strings i;
      csets = l.csets i;
      integers = l.integers i;
      fields = l.fields i;
      records = l.records i;
      globals = l.globals i;
      procs = l.procs i;
    }) ∙ ap (tables_left T keep) e

-- an instruction that takes nothing from a table of the code stays as it is
pub others_stay : (S : Survivors) (i : Instr) → ((p : ℕ) → i ≡ I.Int p → ⊥) → ((p : ℕ) → i ≡ I.Str p → ⊥) → ((p : ℕ) → i ≡ I.Cset p → ⊥)
    → ((p : ℕ) → i ≡ I.Global p → ⊥) → ((p : ℕ) → i ≡ I.Field p → ⊥) → i ≡ instr_left S i
others_stay S (I.Int p) a b c d e = absurd (a p refl)
others_stay S (I.Str p) a b c d e = absurd (b p refl)
others_stay S (I.Cset p) a b c d e = absurd (c p refl)
others_stay S (I.Global p) a b c d e = absurd (d p refl)
others_stay S (I.Field p) a b c d e = absurd (e p refl)
others_stay S i a b c d e = refl
