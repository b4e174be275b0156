-- The whole image: what is read is spelled so and keeps the rules of codes, and what keeps them is read again.
use Rattle.std.proofs.Common.{◌≡◌, ℕ, ℤ, suc, ◌+◌, ◌^◌, ◌<◌, ◌≤◌, Bool, true, false, cond, eqb, ◌&&◌, List, [], ◌∷◌, ◌++◌, length, map, take, drop, Ok, Err, refl, sym, ap, subst, ◌∙◌, append_assoc, arith, inl, inr}
use Rattle.std.specs.Prelude.{nat_le, nat_lt, nat_eq, All}
use Rattle.std.specs.List.{flat_map, list_all, starts_with, sum_by}
use Rattle.std.specs.Str.{bytes_eq}
use Rattle.std.specs.Int.{Width, to_le_bytes}
use Rattle.std.proofs.lemmas.Bool.{cases_lt, ltb-true, lt-ltb, leb-true, le-leb, and_parts, and_from, eqb-true}
use Rattle.std.proofs.lemmas.List.{append-nil, nil_from_length, take-append-drop, get_or_past}
use Rattle.std.proofs.lemmas.List.Sums.{sum_by-cons}
use Rattle.std.proofs.lemmas.Slice.Eq.{bytes_eq-Decides}
use Rattle.icn_tree.specs.declared.rule.Rule.TheVariants.{I1, I5}
use Rattle.icn_value.specs.declared.cset.Cset.{Cset as ByteSet}
use Rattle.icn_code.specs.declared.instr.Instr.{Instr}
use Rattle.icn_code.specs.declared.instr.Instr.TheVariants.{Pnull, Int, Str, Cset, Local, Static, Global, Keywd, Pop, Dup, Op as Apply, Llist, Field, Invoke, Appl, Mark, Mark0, Unmark, Eret, Esusp, Limit, Lsusp, Efail, Chfail, Goto, Loop, Bscan, Escan, Ccase, Init, Psusp, Pret, Pfail, Create, Coact, Coret, Cofail}
use Rattle.icn_code.specs.declared.code.Global.{Global as GlobalVariable}
use Rattle.icn_code.specs.declared.code.Start.{Start}
use Rattle.icn_code.specs.declared.code.Start.TheVariants.{Null, Procedure, Record as RecordStart, Function}
use Rattle.icn_code.specs.Codes.{RecordType, Proc, Tables}
use Rattle.icn_code.specs.Rules.{is_byte, is_string_below, is_cset, is_integer, is_record, is_global, name_of, names_differ, is_instr_below, is_head, is_proc_below, are_counts, are_procs, keeps_rules_below, keeps_rules}
use Rattle.icn_image.specs.declared.head.ImageHead.{ImageHead}
use Rattle.icn_image.specs.Fronts.{FrontTables, with_procs, head_of, scope_of}
use Rattle.icn_image.specs.declared.scope.TableSizes.{TableSizes}
use Rattle.icn_image.specs.declared.version.Version.{Version}
use Rattle.icn_image.specs.declared.version.Version.TheVariants.{First, Second}
use Rattle.icn_image.specs.Versions.{width_of, limit_of, image_head, can_hold}
use Rattle.icn_image.specs.Readers.{◌>>=◌, index_at, table_at, bounded_table_at}
use Rattle.icn_image.specs.Reading.{string_at, cset_at, integer_at, record_at, globals_at, front_at, has_proc, heads_at, procs_at, tables_at, version_at, image_read}
use Rattle.icn_image.specs.Spelling.{table, string, cset, integer, record_type, global, head, body, front, procs, front_of, image_in, image_of}
use Rattle.icn_image.proofs.SpelledFields.{IsBytes, bind_parts, done, done_injective, passed_parts, Takes, takes_then, Reads, IsWide, wide16, wide32, place_reads, all_keep, table_reads, few_keep, bounded_reads}
use Rattle.icn_image.proofs.TableEntries.{string_reads, cset_reads, integer_reads, record_reads}
use Rattle.icn_image.proofs.SpelledGlobals.{start_fits, global_fits}
use Rattle.icn_image.proofs.DistinctGlobals.{global_table_takes, global_table_again, globals_are, globals_parts}
use Rattle.icn_image.proofs.SpelledHeads.{head_fits, head_statics}
use Rattle.icn_image.proofs.SpelledInstructions.{names_below}
use Rattle.icn_image.proofs.SpelledProcedures.{FrontIsBounded, heads_take, heads_again, body_fits, procs_take, procs_again}

-- ---- the tables in front

pub record FrontFits (limit : ℕ) (tables : FrontTables) : Type 0 where
  pub bounded : FrontIsBounded limit tables
  pub strings : list_all (is_string_below limit) tables.strings ≡ true
  pub csets : list_all is_cset tables.csets ≡ true
  pub integers : list_all is_integer tables.integers ≡ true
  pub fields : list_all (λ n. nat_lt n (length tables.strings)) tables.fields ≡ true
  pub records : list_all (is_record (length tables.strings) (length tables.fields)) tables.records ≡ true
  pub globals : list_all (global_fits limit (length tables.strings) (length tables.records)) tables.globals ≡ true
  pub differ : names_differ (map (name_of tables.strings) tables.globals) ≡ true

front_whole : (w : Width) (limit : ℕ) (tables : FrontTables) (bytes a b c d f g : List ℕ) (x : FrontTables × List ℕ) → Takes bytes (table w (string w) tables.strings) a
    → Takes a (table w cset tables.csets) b → Takes b (table w integer tables.integers) c
    → Takes c (table w (to_le_bytes w) tables.fields) d → Takes d (table w (record_type w) tables.records) f → Takes f (table w (global w) tables.globals) g
    → FrontFits limit tables → done (tables, g) ≡ Ok x → Takes bytes (front w x.0) x.1 × FrontFits limit x.0
front_whole w limit tables bytes a b c d f g x ta tb tc td tf tg fit e =
    let s : List ℕ = table w (string w) tables.strings in
    let edg = takes_then d (table w (record_type w) tables.records) f (table w (global w) tables.globals) g tf tg in
    let ecg = takes_then c (table w (to_le_bytes w) tables.fields) d (table w (record_type w) tables.records ++ table w (global w) tables.globals) g td edg in
    let ebg = takes_then b (table w integer tables.integers) c
    (table w (to_le_bytes w) tables.fields ++ (table w (record_type w) tables.records ++ table w (global w) tables.globals)) g tc ecg in
    let eag = takes_then a (table w cset tables.csets) b (table w integer tables.integers
    ++ (table w (to_le_bytes w) tables.fields ++ (table w (record_type w) tables.records ++ table w (global w) tables.globals))) g tb ebg in
    let all = takes_then bytes s a (table w cset tables.csets ++ (table w integer tables.integers
    ++ (table w (to_le_bytes w) tables.fields ++ (table w (record_type w) tables.records ++ table w (global w) tables.globals)))) g ta eag in
    subst (λ (y : FrontTables × List ℕ). Takes bytes (front w y.0) y.1 × FrontFits limit y.0) (done_injective (tables, g) x e) (all, fit)

few : {A : Type 0} (limit : ℕ) (keeps : A → Bool) (xs : List A) → all_keep limit keeps xs ≡ true → (length xs < limit) × (list_all keeps xs ≡ true)
few limit keeps xs all = let p = and_parts (nat_lt (length xs) limit) (list_all keeps xs) all in (ltb-true _ _ p.0, p.1)

many : {A : Type 0} (limit : ℕ) (keeps : A → Bool) (xs : List A) → length xs < limit → list_all keeps xs ≡ true → all_keep limit keeps xs ≡ true
many limit keeps xs short all = and_from (nat_lt (length xs) limit) (list_all keeps xs) (lt-ltb _ _ short) all

few_of : {A : Type 0} (keeps : A → Bool) (xs : List A) → few_keep 65535 keeps xs ≡ true → (length xs ≤ 65535) × (list_all keeps xs ≡ true)
few_of keeps xs all = let p = and_parts (nat_le (length xs) 65535) (list_all keeps xs) all in (leb-true _ _ p.0, p.1)

many_of : {A : Type 0} (keeps : A → Bool) (xs : List A) → length xs ≤ 65535 → list_all keeps xs ≡ true → few_keep 65535 keeps xs ≡ true
many_of keeps xs short all = and_from (nat_le (length xs) 65535) (list_all keeps xs) (le-leb _ _ short) all

strings_read : (w : Width) (limit : ℕ) → IsWide w limit
    → Reads (List (List ℕ)) (table_at w (string_at w)) (table w (string w)) (all_keep limit (is_string_below limit))
strings_read w limit wide = table_reads w limit wide (List ℕ) (string_at w) (string w) (is_string_below limit) (string_reads w limit wide)

csets_read : (w : Width) (limit : ℕ) → IsWide w limit → Reads (List ByteSet) (table_at w cset_at) (table w cset) (all_keep limit is_cset)
csets_read w limit wide = table_reads w limit wide ByteSet cset_at cset is_cset cset_reads

integers_read : (w : Width) (limit : ℕ) → IsWide w limit → Reads (List ℤ) (table_at w integer_at) (table w integer) (all_keep limit is_integer)
integers_read w limit wide = table_reads w limit wide ℤ integer_at integer is_integer integer_reads

fields_read : (w : Width) (limit : ℕ) → IsWide w limit → (strings : ℕ) → strings < limit
    → Reads (List ℕ) (bounded_table_at w 65535 (index_at w strings)) (table w (to_le_bytes w)) (few_keep 65535 (λ n. nat_lt n strings))
fields_read w limit wide strings short =
    bounded_reads w limit wide 65535 (omega (arith, wide.room)) ℕ (index_at w strings) (to_le_bytes w) (λ n. nat_lt n strings)
    (place_reads w limit wide strings (omega (arith, short)))

records_read : (w : Width) (limit : ℕ) → IsWide w limit → (strings fields : ℕ) → strings < limit → fields ≤ 65535
    → Reads (List RecordType) (bounded_table_at w 65535 (record_at w strings fields)) (table w (record_type w)) (few_keep 65535 (is_record strings fields))
records_read w limit wide strings fields short_strings short_fields =
    bounded_reads w limit wide 65535 (omega (arith, wide.room)) RecordType (record_at w strings fields) (record_type w)
    (is_record strings fields) (record_reads w limit wide strings fields (omega (arith, short_strings)) short_fields)

front_takes : (w : Width) (limit : ℕ) → IsWide w limit → (bytes : List ℕ) (x : FrontTables × List ℕ) → IsBytes bytes → front_at w bytes ≡ Ok x
    → Takes bytes (front w x.0) x.1 × FrontFits limit x.0
unfolding front_at
front_takes w limit wide bytes x fits e =
    let a = bind_parts (table_at w (string_at w) bytes) (λ strings. table_at w cset_at strings.1 >>= λ csets. table_at w integer_at csets.1
    >>= λ integers. bounded_table_at w 65535 (index_at w (length strings.0)) integers.1 >>= λ fields. bounded_table_at w 65535 (record_at w (length strings.0) (length fields.0)) fields.1
    >>= λ records. globals_at w strings.0 (length records.0) records.1 >>= λ globals.
    Ok (record { strings = strings.0; csets = csets.0; integers = integers.0; fields = fields.0; records = records.0; globals = globals.0 }, globals.1)) x e in
    let b = bind_parts (table_at w cset_at a.0.1) (λ csets. table_at w integer_at csets.1
    >>= λ integers. bounded_table_at w 65535 (index_at w (length a.0.0)) integers.1 >>= λ fields. bounded_table_at w 65535 (record_at w (length a.0.0) (length fields.0)) fields.1
    >>= λ records. globals_at w a.0.0 (length records.0) records.1 >>= λ globals.
    Ok (record { strings = a.0.0; csets = csets.0; integers = integers.0; fields = fields.0; records = records.0; globals = globals.0 }, globals.1)) x a.2 in
    let c = bind_parts (table_at w integer_at b.0.1) (λ integers. bounded_table_at w 65535 (index_at w (length a.0.0)) integers.1 >>= λ fields.
    bounded_table_at w 65535 (record_at w (length a.0.0) (length fields.0)) fields.1 >>= λ records. globals_at w a.0.0 (length records.0) records.1 >>= λ globals.
    Ok (record { strings = a.0.0; csets = b.0.0; integers = integers.0; fields = fields.0; records = records.0; globals = globals.0 }, globals.1)) x b.2 in
    let d = bind_parts (bounded_table_at w 65535 (index_at w (length a.0.0)) c.0.1)
    (λ fields. bounded_table_at w 65535 (record_at w (length a.0.0) (length fields.0)) fields.1 >>= λ records. globals_at w a.0.0 (length records.0) records.1 >>= λ globals.
    Ok (record { strings = a.0.0; csets = b.0.0; integers = c.0.0; fields = fields.0; records = records.0; globals = globals.0 }, globals.1)) x c.2 in
    let f = bind_parts (bounded_table_at w 65535 (record_at w (length a.0.0) (length d.0.0)) d.0.1) (λ records. globals_at w a.0.0 (length records.0) records.1 >>= λ globals.
    Ok (record { strings = a.0.0; csets = b.0.0; integers = c.0.0; fields = d.0.0; records = records.0; globals = globals.0 }, globals.1)) x d.2 in
    let g = bind_parts (globals_at w a.0.0 (length f.0.0) f.0.1)
    (λ globals. Ok (record { strings = a.0.0; csets = b.0.0; integers = c.0.0; fields = d.0.0; records = f.0.0; globals = globals.0 }, globals.1)) x f.2 in
    let ta = (strings_read w limit wide).takes bytes a.0 fits a.1 in
    let tb = (csets_read w limit wide).takes a.0.1 b.0 ta.0.rest_fits b.1 in
    let tc = (integers_read w limit wide).takes b.0.1 c.0 tb.0.rest_fits c.1 in
    let fa = few limit (is_string_below limit) a.0.0 ta.1 in
    let fb = few limit is_cset b.0.0 tb.1 in
    let fc = few limit is_integer c.0.0 tc.1 in
    let td = (fields_read w limit wide (length a.0.0) fa.0).takes c.0.1 d.0 tc.0.rest_fits d.1 in
    let fd = few_of (λ n. nat_lt n (length a.0.0)) d.0.0 td.1 in
    let tf = (records_read w limit wide (length a.0.0) (length d.0.0) fa.0 fd.0).takes d.0.1 f.0 td.0.rest_fits f.1 in
    let ff = few_of (is_record (length a.0.0) (length d.0.0)) f.0.0 tf.1 in
    let tg = global_table_takes w limit wide a.0.0 (length f.0.0) (omega (arith, fa.0)) (omega (arith, ff.0, wide.room)) f.0.1 g.0 tf.0.rest_fits g.1 in
    front_whole w limit (record { strings = a.0.0; csets = b.0.0; integers = c.0.0; fields = d.0.0; records = f.0.0; globals = g.0.0 }) bytes a.0.1 b.0.1 c.0.1 d.0.1
    f.0.1 g.0.1 x ta.0 tb.0 tc.0 td.0 tf.0 tg.took
    (record {
      bounded = record { strings = fa.0; csets = fb.0; integers = fc.0; fields = fd.0; records = ff.0; globals = tg.count };
      strings = fa.1;
      csets = fb.1;
      integers = fc.1;
      fields = fd.1;
      records = ff.1;
      globals = tg.fit;
      differ = tg.differ;
    }) g.2

regroup : (a b c d f g rest : List ℕ) → (a ++ (b ++ (c ++ (d ++ (f ++ g))))) ++ rest ≡ a ++ (b ++ (c ++ (d ++ (f ++ (g ++ rest)))))
regroup a b c d f g rest = simp append_assoc

front_again : (w : Width) (limit : ℕ) → IsWide w limit → (tables : FrontTables) (rest : List ℕ) → FrontFits limit tables → front_at w (front w tables ++ rest) ≡ Ok (tables, rest)
unfolding front_at
front_again w limit wide tables rest fit =
    let b = fit.bounded in
    let tg : List ℕ = table w (global w) tables.globals ++ rest in
    let tf : List ℕ = table w (record_type w) tables.records ++ tg in
    let td : List ℕ = table w (to_le_bytes w) tables.fields ++ tf in
    let tc : List ℕ = table w integer tables.integers ++ td in
    let tb : List ℕ = table w cset tables.csets ++ tc in
    let regrouped : front w tables ++ rest
    ≡ table w (string w) tables.strings ++ tb = regroup (table w (string w) tables.strings) (table w cset tables.csets) (table w integer tables.integers)
    (table w (to_le_bytes w) tables.fields) (table w (record_type w) tables.records) (table w (global w) tables.globals) rest in
    ap (front_at w) regrouped ∙ rw (
      (strings_read w limit wide).again tables.strings tb (many limit (is_string_below limit) tables.strings b.strings fit.strings),
      (csets_read w limit wide).again tables.csets tc (many limit is_cset tables.csets b.csets fit.csets),
      (integers_read w limit wide).again tables.integers td (many limit is_integer tables.integers b.integers fit.integers),
      (fields_read w limit wide (length tables.strings) b.strings).again tables.fields tf
          (many_of (λ n. nat_lt n (length tables.strings)) tables.fields b.fields fit.fields),
      (records_read w limit wide (length tables.strings) (length tables.fields) b.strings b.fields).again tables.records tg
          (many_of (is_record (length tables.strings) (length tables.fields)) tables.records b.records fit.records),
      global_table_again w limit wide tables.strings (length tables.records) (omega (arith, b.strings)) (omega (arith, b.records, wide.room)) tables.globals rest b.globals fit.globals fit.differ,
    ) refl

-- ---- the rules

same_test : (limit : ℕ) (tables : Tables) (proc : Proc) (instr : Instr) → is_instr_below limit tables proc instr ≡ names_below limit (scope_of (front_of tables) (head_of proc)) instr
same_test limit tables proc Pnull = refl
same_test limit tables proc (Int k) = refl
same_test limit tables proc (Str k) = refl
same_test limit tables proc (Cset k) = refl
same_test limit tables proc (Local k) = refl
same_test limit tables proc (Static k) = refl
same_test limit tables proc (Global k) = refl
same_test limit tables proc (Keywd k) = refl
same_test limit tables proc Pop = refl
same_test limit tables proc Dup = refl
same_test limit tables proc (Apply k) = refl
same_test limit tables proc (Llist k) = refl
same_test limit tables proc (Field k) = refl
same_test limit tables proc (Invoke k) = refl
same_test limit tables proc Appl = refl
same_test limit tables proc (Mark k) = refl
same_test limit tables proc Mark0 = refl
same_test limit tables proc Unmark = refl
same_test limit tables proc Eret = refl
same_test limit tables proc Esusp = refl
same_test limit tables proc Limit = refl
same_test limit tables proc Lsusp = refl
same_test limit tables proc Efail = refl
same_test limit tables proc (Chfail k) = refl
same_test limit tables proc (Goto k) = refl
same_test limit tables proc (Loop k) = refl
same_test limit tables proc Bscan = refl
same_test limit tables proc Escan = refl
same_test limit tables proc Ccase = refl
same_test limit tables proc (Init k) = refl
same_test limit tables proc Psusp = refl
same_test limit tables proc Pret = refl
same_test limit tables proc Pfail = refl
same_test limit tables proc (Create k) = refl
same_test limit tables proc Coact = refl
same_test limit tables proc Coret = refl
same_test limit tables proc Cofail = refl

all_agree : {A : Type 0} (p q : A → Bool) (xs : List A) → ((x : A) → p x ≡ q x) → list_all p xs ≡ list_all q xs
all_agree p q [] agree = refl
all_agree {A} p q (x ∷ xs) agree = ap (λ (t : Bool). t && list_all p xs) (agree x) ∙ ap (λ (t : Bool). q x && t) (all_agree p q xs agree)

procs_are : (limit : ℕ) (tables : Tables) (all : List Proc) → list_all (head_fits (length tables.strings)) (map head_of all) ≡ true
    → list_all (body_fits limit (front_of tables)) all ≡ true → list_all (is_proc_below limit tables) all ≡ true
procs_are limit tables [] heads bodies = refl
procs_are limit tables (proc ∷ all) heads bodies =
    let p = and_parts (head_fits (length tables.strings) (head_of proc)) (list_all (head_fits (length tables.strings)) (map head_of all)) heads in
    let q = and_parts (body_fits limit (front_of tables) proc) (list_all (body_fits limit (front_of tables)) all) bodies in
    and_from (is_proc_below limit tables proc) (list_all (is_proc_below limit tables) all)
    (and_from (is_head (length tables.strings) proc) (list_all (is_instr_below limit tables proc) proc.instrs) p.0
    (all_agree (is_instr_below limit tables proc) (names_below limit (scope_of (front_of tables) (head_of proc))) proc.instrs (same_test limit tables proc) ∙ q.0))
    (procs_are limit tables all p.1 q.1)

procs_parts : (limit : ℕ) (tables : Tables) (all : List Proc) → list_all (is_proc_below limit tables) all ≡ true
    → (list_all (head_fits (length tables.strings)) (map head_of all) ≡ true) × (list_all (body_fits limit (front_of tables)) all ≡ true)
procs_parts limit tables [] are = (refl, refl)
procs_parts limit tables (proc ∷ all) are =
    let p = and_parts (is_proc_below limit tables proc) (list_all (is_proc_below limit tables) all) are in
    let q = and_parts (is_head (length tables.strings) proc) (list_all (is_instr_below limit tables proc) proc.instrs) p.0 in
    let others = procs_parts limit tables all p.1 in (
      and_from (head_fits (length tables.strings) (head_of proc)) (list_all (head_fits (length tables.strings)) (map head_of all)) q.0 others.0,
      and_from (body_fits limit (front_of tables) proc) (list_all (body_fits limit (front_of tables)) all)
          (sym (all_agree (is_instr_below limit tables proc) (names_below limit (scope_of (front_of tables) (head_of proc))) proc.instrs (same_test limit tables proc)) ∙ q.1) others.1,
    )

nine : (a b c d e f g h i : Bool) → a ≡ true → b ≡ true → c ≡ true → d ≡ true → e ≡ true → f ≡ true → g ≡ true → h ≡ true → i ≡ true
    → (a && b && c && d && e && f && g && h && i) ≡ true
nine a b c d e f g h i ea eb ec ed ee ef eg eh ei =
    and_from (a && b && c && d && e && f && g && h) i (and_from (a && b && c && d && e && f && g) h (and_from (a && b && c && d && e && f) g (and_from (a && b
    && c && d && e) f (and_from (a && b && c && d) e (and_from (a && b && c) d (and_from (a && b) c (and_from a b ea eb) ec) ed) ee) ef) eg) eh) ei

nine_parts : (a b c d e f g h i : Bool) → (a && b && c && d && e && f && g && h && i) ≡ true
    → (a ≡ true) × (b ≡ true) × (c ≡ true) × (d ≡ true) × (e ≡ true) × (f ≡ true) × (g ≡ true) × (h ≡ true) × (i ≡ true)
nine_parts a b c d e f g h i all =
    let p8 = and_parts (a && b && c && d && e && f && g && h) i all in
    let p7 = and_parts (a && b && c && d && e && f && g) h p8.0 in
    let p6 = and_parts (a && b && c && d && e && f) g p7.0 in
    let p5 = and_parts (a && b && c && d && e) f p6.0 in
    let p4 = and_parts (a && b && c && d) e p5.0 in
    let p3 = and_parts (a && b && c) d p4.0 in
    let p2 = and_parts (a && b) c p3.0 in
    let p1 = and_parts a b p2.0 in
    (p1.0, p1.1, p2.1, p3.1, p4.1, p5.1, p6.1, p7.1, p8.1)

seven : (a b c d e f g : Bool) → a ≡ true → b ≡ true → c ≡ true → d ≡ true → e ≡ true → f ≡ true → g ≡ true → (a && b && c && d && e && f && g) ≡ true
seven a b c d e f g ea eb ec ed ee ef eg = and_from (a && b && c && d && e && f) g
    (and_from (a && b && c && d && e) f (and_from (a && b && c && d) e (and_from (a && b && c) d (and_from (a && b) c (and_from a b ea eb) ec) ed) ee) ef) eg

seven_parts : (a b c d e f g : Bool) → (a && b && c && d && e && f && g) ≡ true
    → (a ≡ true) × (b ≡ true) × (c ≡ true) × (d ≡ true) × (e ≡ true) × (f ≡ true) × (g ≡ true)
seven_parts a b c d e f g all =
    let p6 = and_parts (a && b && c && d && e && f) g all in
    let p5 = and_parts (a && b && c && d && e) f p6.0 in
    let p4 = and_parts (a && b && c && d) e p5.0 in
    let p3 = and_parts (a && b && c) d p4.0 in
    let p2 = and_parts (a && b) c p3.0 in
    let p1 = and_parts a b p2.0 in
    (p1.0, p1.1, p2.1, p3.1, p4.1, p5.1, p6.1)

-- how many statics the procedures have together
abbrev static_sum : List Proc → ℕ
static_sum procs = sum_by (λ proc. proc.statics) procs

same_sum : (procs : List Proc) → head_statics (map head_of procs) ≡ static_sum procs
same_sum [] = refl
same_sum (proc ∷ procs) =
    sum_by-cons (λ (h : ImageHead). h.statics) (head_of proc) (map head_of procs)
    ∙ (ap (λ (n : ℕ). proc.statics + n) (same_sum procs) ∙ sym (sum_by-cons (λ (p : Proc). p.statics) proc procs))

pub record TablesFit (limit : ℕ) (tables : Tables) : Type 0 where
  pub front : FrontFits limit (front_of tables)
  pub procs : length tables.procs < limit
  pub within : length tables.procs ≤ 16777216
  pub together : static_sum tables.procs ≤ 4294967295
  pub have : list_all (λ g. has_proc (length tables.procs) g.start) tables.globals ≡ true
  pub heads : list_all (head_fits (length tables.strings)) (map head_of tables.procs) ≡ true
  pub bodies : list_all (body_fits limit (front_of tables)) tables.procs ≡ true

counts_kept : (limit : ℕ) (tables : Tables) → FrontIsBounded limit (front_of tables) → are_procs limit tables.procs ≡ true → are_counts limit tables ≡ true
counts_kept limit tables b p =
    seven (nat_lt (length tables.strings) limit) (nat_lt (length tables.csets) limit) (nat_lt (length tables.integers) limit)
    (nat_le (length tables.fields) 65535) (nat_le (length tables.records) 65535) (nat_lt (length tables.globals) limit) (are_procs limit tables.procs)
    (lt-ltb _ _ b.strings) (lt-ltb _ _ b.csets) (lt-ltb _ _ b.integers) (le-leb _ _ b.fields) (le-leb _ _ b.records) (lt-ltb _ _ b.globals) p

procs_counted : (limit : ℕ) (tables : Tables) → TablesFit limit tables → are_procs limit tables.procs ≡ true
procs_counted limit tables fit =
    and_from (nat_lt (length tables.procs) limit && nat_le (length tables.procs) 16777216) (nat_le (static_sum tables.procs) 4294967295)
    (and_from (nat_lt (length tables.procs) limit) (nat_le (length tables.procs) 16777216) (lt-ltb _ _ fit.procs) (le-leb _ _ fit.within))
    (le-leb _ _ fit.together)

pub rules_kept : (limit : ℕ) (tables : Tables) → TablesFit limit tables → keeps_rules_below limit tables ≡ true
rules_kept limit tables fit =
    nine (are_counts limit tables) (list_all (is_string_below limit) tables.strings) (list_all is_cset tables.csets) (list_all is_integer tables.integers)
    (list_all (λ name. nat_lt name (length tables.strings)) tables.fields)
    (list_all (is_record (length tables.strings) (length tables.fields)) tables.records)
    (list_all (is_global (length tables.strings) (length tables.records) (length tables.procs)) tables.globals)
    (names_differ (map (name_of tables.strings) tables.globals)) (list_all (is_proc_below limit tables) tables.procs)
    (counts_kept limit tables fit.front.bounded (procs_counted limit tables fit)) fit.front.strings fit.front.csets fit.front.integers fit.front.fields fit.front.records
    (globals_are limit (length tables.strings) (length tables.records) (length tables.procs) tables.globals fit.front.globals fit.have) fit.front.differ
    (procs_are limit tables tables.procs fit.heads fit.bodies)

pub tables_fit : (limit : ℕ) (tables : Tables) → keeps_rules_below limit tables ≡ true → TablesFit limit tables
tables_fit limit tables keeps =
    let p = nine_parts (are_counts limit tables) (list_all (is_string_below limit) tables.strings) (list_all is_cset tables.csets) (list_all is_integer tables.integers)
    (list_all (λ name. nat_lt name (length tables.strings)) tables.fields)
    (list_all (is_record (length tables.strings) (length tables.fields)) tables.records)
    (list_all (is_global (length tables.strings) (length tables.records) (length tables.procs)) tables.globals)
    (names_differ (map (name_of tables.strings) tables.globals)) (list_all (is_proc_below limit tables) tables.procs) keeps in
    let c = seven_parts (nat_lt (length tables.strings) limit) (nat_lt (length tables.csets) limit) (nat_lt (length tables.integers) limit)
    (nat_le (length tables.fields) 65535) (nat_le (length tables.records) 65535) (nat_lt (length tables.globals) limit)
    (are_procs limit tables.procs) p.0 in
    let n = and_parts (nat_lt (length tables.procs) limit && nat_le (length tables.procs) 16777216) (nat_le (static_sum tables.procs) 4294967295) c.6 in
    let m = and_parts (nat_lt (length tables.procs) limit) (nat_le (length tables.procs) 16777216) n.0 in
    let few_procs : length tables.procs < limit = ltb-true _ _ m.0 in
    let gs = globals_parts limit (length tables.strings) (length tables.records) (length tables.procs) tables.globals (omega (arith, few_procs)) p.6 in
    let ps = procs_parts limit tables tables.procs p.8 in
    record {
      front = record {
        bounded = record {
          strings = ltb-true _ _ c.0;
          csets = ltb-true _ _ c.1;
          integers = ltb-true _ _ c.2;
          fields = leb-true _ _ c.3;
          records = leb-true _ _ c.4;
          globals = ltb-true _ _ c.5;
        };
        strings = p.1;
        csets = p.2;
        integers = p.3;
        fields = p.4;
        records = p.5;
        globals = gs.0;
        differ = p.7;
      };
      procs = few_procs;
      within = leb-true _ _ m.1;
      together = leb-true _ _ n.1;
      have = gs.1;
      heads = ps.0;
      bodies = ps.1;
    }

-- ---- all tables

tables_whole : (w : Width) (limit : ℕ) (tables : FrontTables) (all : List Proc) (bytes a b c : List ℕ) (x : Tables × List ℕ) → Takes bytes (front w tables) a
    → Takes a (table w (head w) (map head_of all)) b → Takes b (flat_map (body w) all) c → TablesFit limit (with_procs tables all)
    → done (with_procs tables all, c) ≡ Ok x
    → Takes bytes (front w (front_of x.0) ++ procs w x.0.procs) x.1 × TablesFit limit x.0
tables_whole w limit tables all bytes a b c x ta tb tc fit e =
    let eac = takes_then a (table w (head w) (map head_of all)) b (flat_map (body w) all) c tb tc in
    let whole = takes_then bytes (front w tables) a (procs w all) c ta eac in
    subst (λ (y : Tables × List ℕ). Takes bytes (front w (front_of y.0) ++ procs w y.0.procs) y.1 × TablesFit limit y.0)
    (done_injective (with_procs tables all, c) x e)
    (whole, fit)

same_length : {A B : Type 0} (f : A → B) (xs : List A) → length (map f xs) ≡ length xs
same_length f [] = refl
same_length f (x ∷ xs) = ap suc (same_length f xs)

tables_take : (w : Width) (limit : ℕ) → IsWide w limit → (bytes : List ℕ) (x : Tables × List ℕ) → IsBytes bytes → tables_at w bytes ≡ Ok x
    → Takes bytes (front w (front_of x.0) ++ procs w x.0.procs) x.1 × TablesFit limit x.0
unfolding tables_at
tables_take w limit wide bytes x fits e =
    let a = bind_parts (front_at w bytes)
    (λ tables. heads_at w tables.0 tables.1 >>= λ heads. procs_at w tables.0 heads.0 heads.1 >>= λ all. Ok (with_procs tables.0 all.0, all.1)) x e in
    let b = bind_parts (heads_at w a.0.0 a.0.1) (λ heads. procs_at w a.0.0 heads.0 heads.1 >>= λ all. Ok (with_procs a.0.0 all.0, all.1)) x a.2 in
    let c = bind_parts (procs_at w a.0.0 b.0.0 b.0.1) (λ all. Ok (with_procs a.0.0 all.0, all.1)) x b.2 in
    let ta = front_takes w limit wide bytes a.0 fits a.1 in
    let tb = heads_take w limit wide a.0.0 (omega (arith, ta.1.bounded.strings)) a.0.1 b.0 ta.0.rest_fits b.1 in
    let tc = procs_take w limit wide a.0.0 ta.1.bounded b.0.0 tb.fit b.0.1 c.0 tb.took.rest_fits c.1 in
    let count : length b.0.0 ≡ length c.0.0 = ap (λ (hs : List ImageHead). length hs) (sym tc.same) ∙ same_length head_of c.0.0 in
    tables_whole w limit a.0.0 c.0.0 bytes a.0.1 b.0.1 c.0.1 x ta.0
    (subst (λ (hs : List ImageHead). Takes a.0.1 (table w (head w) hs) b.0.1) (sym tc.same) tb.took) tc.took
    (record {
      front = ta.1;
      procs = omega (arith, count, tb.few);
      within = omega (arith, count, tb.within);
      together = omega (arith, tb.together, ap head_statics (sym tc.same), same_sum c.0.0);
      have = subst (λ (n : ℕ). list_all (λ g. has_proc n g.start) a.0.0.globals ≡ true) count tb.have;
      heads = subst (λ (hs : List ImageHead). list_all (head_fits (length a.0.0.strings)) hs ≡ true) (sym tc.same) tb.fit;
      bodies = tc.fit;
    }) c.2

tables_again : (w : Width) (limit : ℕ) → IsWide w limit → (tables : Tables) (rest : List ℕ) → TablesFit limit tables
    → tables_at w ((front w (front_of tables) ++ procs w tables.procs) ++ rest) ≡ Ok (tables, rest)
unfolding tables_at
tables_again w limit wide tables rest fit =
    let bodies : List ℕ = flat_map (body w) tables.procs ++ rest in
    let heads : List ℕ = table w (head w) (map head_of tables.procs) ++ bodies in
    let regrouped : (front w (front_of tables) ++ procs w tables.procs) ++ rest ≡ front w (front_of tables) ++ heads =
    append_assoc (front w (front_of tables)) (procs w tables.procs) rest
    ∙ ap (λ (t : List ℕ). front w (front_of tables) ++ t) (append_assoc (table w (head w) (map head_of tables.procs)) (flat_map (body w) tables.procs) rest) in
    let count : length tables.procs ≡ length (map head_of tables.procs) = sym (same_length head_of tables.procs) in
    ap (tables_at w) regrouped
    ∙ (ap (λ s. s >>= λ t. heads_at w t.0 t.1 >>= λ hs. procs_at w t.0 hs.0 hs.1 >>= λ all. Ok (with_procs t.0 all.0, all.1))
    (front_again w limit wide (front_of tables) heads fit.front)
    ∙ (ap (λ s. s >>= λ hs. procs_at w (front_of tables) hs.0 hs.1 >>= λ all. Ok (with_procs (front_of tables) all.0, all.1))
    (heads_again w limit wide (front_of tables) (omega (arith, fit.front.bounded.strings)) (map head_of tables.procs) bodies (omega (arith, count, fit.procs))
    (omega (arith, count, fit.within)) (omega (arith, fit.together, same_sum tables.procs))
    (subst (λ (n : ℕ). list_all (λ g. has_proc n g.start) tables.globals ≡ true) count fit.have) fit.heads)
    ∙ ap (λ s. s >>= λ all. Ok (with_procs (front_of tables) all.0, all.1))
    (procs_again w limit wide (front_of tables) fit.front.bounded tables.procs rest fit.heads fit.bodies)))

-- ---- the versions

pub wide_of : (version : Version) → IsWide (width_of version) (limit_of version)
wide_of First = wide16
wide_of Second = wide32

-- what holds below a limit holds below a greater one

longer_strings : (limit more : ℕ) → limit ≤ more → (strings : List (List ℕ)) → list_all (is_string_below limit) strings ≡ true
    → list_all (is_string_below more) strings ≡ true
longer_strings limit more le [] all = refl
longer_strings limit more le (x ∷ xs) all =
    let p = and_parts (is_string_below limit x) (list_all (is_string_below limit) xs) all in
    let q = and_parts (nat_lt (length x) limit) (list_all is_byte x) p.0 in
    and_from (is_string_below more x) (list_all (is_string_below more) xs)
    (and_from (nat_lt (length x) more) (list_all is_byte x) (lt-ltb _ _ (omega (arith, ltb-true _ _ q.0, le))) q.1) (longer_strings limit more le xs p.1)

more_starts : (limit more records : ℕ) → limit ≤ more → (start : Start) → start_fits limit records start ≡ true → start_fits more records start ≡ true
more_starts limit more records le Null e = refl
more_starts limit more records le (Procedure place) e = lt-ltb _ _ (omega (arith, ltb-true place limit e, le))
more_starts limit more records le (RecordStart place) e = e
more_starts limit more records le (Function func) e = refl

more_globals : (limit more strings records : ℕ) → limit ≤ more → (gs : List GlobalVariable) → list_all (global_fits limit strings records) gs ≡ true
    → list_all (global_fits more strings records) gs ≡ true
more_globals limit more strings records le [] all = refl
more_globals limit more strings records le (g ∷ gs) all =
    let p = and_parts (global_fits limit strings records g) (list_all (global_fits limit strings records) gs) all in
    let q = and_parts (nat_lt g.name strings) (start_fits limit records g.start) p.0 in
    and_from (global_fits more strings records g) (list_all (global_fits more strings records) gs)
    (and_from (nat_lt g.name strings) (start_fits more records g.start) q.0 (more_starts limit more records le g.start q.1))
    (more_globals limit more strings records le gs p.1)

more_names : (limit more : ℕ) (scope : TableSizes) → limit ≤ more → (instr : Instr) → names_below limit scope instr ≡ true
    → names_below more scope instr ≡ true
more_names limit more scope le Pnull e = e
more_names limit more scope le (Int n) e = e
more_names limit more scope le (Str n) e = e
more_names limit more scope le (Cset n) e = e
more_names limit more scope le (Local n) e = e
more_names limit more scope le (Static n) e = e
more_names limit more scope le (Global n) e = e
more_names limit more scope le (Keywd n) e = e
more_names limit more scope le Pop e = e
more_names limit more scope le Dup e = e
more_names limit more scope le (Apply n) e = e
more_names limit more scope le (Llist n) e = lt-ltb _ _ (omega (arith, ltb-true n limit e, le))
more_names limit more scope le (Field n) e = e
more_names limit more scope le (Invoke n) e = lt-ltb _ _ (omega (arith, ltb-true n limit e, le))
more_names limit more scope le Appl e = e
more_names limit more scope le (Mark n) e = e
more_names limit more scope le Mark0 e = e
more_names limit more scope le Unmark e = e
more_names limit more scope le Eret e = e
more_names limit more scope le Esusp e = e
more_names limit more scope le Limit e = e
more_names limit more scope le Lsusp e = e
more_names limit more scope le Efail e = e
more_names limit more scope le (Chfail n) e = e
more_names limit more scope le (Goto n) e = e
more_names limit more scope le (Loop n) e = e
more_names limit more scope le Bscan e = e
more_names limit more scope le Escan e = e
more_names limit more scope le Ccase e = e
more_names limit more scope le (Init n) e = e
more_names limit more scope le Psusp e = e
more_names limit more scope le Pret e = e
more_names limit more scope le Pfail e = e
more_names limit more scope le (Create n) e = e
more_names limit more scope le Coact e = e
more_names limit more scope le Coret e = e
more_names limit more scope le Cofail e = e

more_instrs : (limit more : ℕ) (scope : TableSizes) → limit ≤ more → (instrs : List Instr) → list_all (names_below limit scope) instrs ≡ true
    → list_all (names_below more scope) instrs ≡ true
more_instrs limit more scope le [] all = refl
more_instrs limit more scope le (x ∷ xs) all =
    let p = and_parts (names_below limit scope x) (list_all (names_below limit scope) xs) all in
    and_from (names_below more scope x) (list_all (names_below more scope) xs) (more_names limit more scope le x p.0) (more_instrs limit more scope le xs p.1)

more_bodies : (limit more : ℕ) (front : FrontTables) → limit ≤ more → (procs : List Proc) → list_all (body_fits limit front) procs ≡ true
    → list_all (body_fits more front) procs ≡ true
more_bodies limit more front le [] all = refl
more_bodies limit more front le (x ∷ xs) all =
    let p = and_parts (body_fits limit front x) (list_all (body_fits limit front) xs) all in
    and_from (body_fits more front x) (list_all (body_fits more front) xs) (more_instrs limit more (scope_of front (head_of x)) le x.instrs p.0)
    (more_bodies limit more front le xs p.1)

more_room : (limit more : ℕ) (tables : Tables) → limit ≤ more → TablesFit limit tables → TablesFit more tables
more_room limit more tables le fit =
    let b = fit.front.bounded in
    record {
      front = record {
        bounded = record {
          strings = omega (arith, b.strings, le);
          csets = omega (arith, b.csets, le);
          integers = omega (arith, b.integers, le);
          fields = b.fields;
          records = b.records;
          globals = omega (arith, b.globals, le);
        };
        strings = longer_strings limit more le tables.strings fit.front.strings;
        csets = fit.front.csets;
        integers = fit.front.integers;
        fields = fit.front.fields;
        records = fit.front.records;
        globals = more_globals limit more (length tables.strings) (length tables.records) le tables.globals fit.front.globals;
        differ = fit.front.differ;
      };
      procs = omega (arith, fit.procs, le);
      within = fit.within;
      together = fit.together;
      have = fit.have;
      heads = fit.heads;
      bodies = more_bodies limit more (front_of tables) le tables.procs fit.bodies;
    }

-- no version has numbers of more than 32 bits
few_numbers : (version : Version) → limit_of version ≤ 2 ^ 32
few_numbers First = omega arith
few_numbers Second = omega arith

-- what a version can hold keeps the rules
pub kept_by : (version : Version) (tables : Tables) → can_hold version tables ≡ true → keeps_rules tables ≡ true
unfolding keeps_rules can_hold
kept_by version tables holds =
    rules_kept (2 ^ 32) tables (more_room (limit_of version) (2 ^ 32) tables (few_numbers version) (tables_fit (limit_of version) tables holds))

-- ---- the image

head_is : (bytes front : List ℕ) → length front ≡ 8 → starts_with nat_eq bytes front ≡ true → bytes ≡ front ++ drop 8 bytes
head_is bytes front eight e =
    let same : front ≡ take 8 bytes = (bytes_eq-Decides front (take 8 bytes)).0 (ap (λ n. bytes_eq front (take n bytes)) (sym eight) ∙ e) in
    sym (take-append-drop 8 bytes) ∙ ap (λ (t : List ℕ). t ++ drop 8 bytes) (sym same)

IsBytes-from_all : (bytes : List ℕ) → All (λ byte. byte < 256) bytes → IsBytes bytes
IsBytes-from_all bytes all i =
    elim (cases_lt i (length bytes)) [
      | inl lt ↦ all i 0 lt
      | inr le ↦ rw (get_or_past bytes i 0 le) (omega arith)
    ]

IsBytes-behind : (front rest : List ℕ) → IsBytes (front ++ rest) → IsBytes rest
IsBytes-behind [] rest h = h
IsBytes-behind (b ∷ front) rest h = IsBytes-behind front rest (λ i. h (suc i))

-- the version of an image, and its head
pub record IsVersion (bytes : List ℕ) (x : Version × List ℕ) : Type 0 where
  pub begun : bytes ≡ image_head x.0 ++ x.1

version_of : (bytes : List ℕ) (x : Version × List ℕ) (t u : Bool) → starts_with nat_eq bytes (image_head First) ≡ t
    → starts_with nat_eq bytes (image_head Second) ≡ u
    → cond t (Ok (First, drop 8 bytes)) (cond u (Ok (Second, drop 8 bytes)) (Err I1)) ≡ Ok x → IsVersion bytes x
version_of bytes x true u first second e =
    subst (λ (y : Version × List ℕ). IsVersion bytes y) (done_injective (First, drop 8 bytes) x e)
    (record { begun = head_is bytes (image_head First) refl first })
version_of bytes x false true first second e =
    subst (λ (y : Version × List ℕ). IsVersion bytes y) (done_injective (Second, drop 8 bytes) x e)
    (record { begun = head_is bytes (image_head Second) refl second })
version_of bytes x false false first second e = absurd cc

version_takes : (bytes : List ℕ) (x : Version × List ℕ) → version_at bytes ≡ Ok x → IsVersion bytes x
version_takes bytes x e =
    version_of bytes x (starts_with nat_eq bytes (image_head First)) (starts_with nat_eq bytes (image_head Second)) refl refl e

version_again : (version : Version) (rest : List ℕ) → version_at (image_head version ++ rest) ≡ Ok (version, rest)
version_again First rest = refl
version_again Second rest = refl

pub image_takes : (bytes : List ℕ) (tables : Tables) → IsBytes bytes → image_read bytes ≡ Ok tables
    → (version : Version) × ((can_hold version tables ≡ true) × (bytes ≡ image_in version tables))
unfolding image_read image_in can_hold
image_takes bytes tables fits e =
    let a = bind_parts (version_at bytes) (λ v. tables_at (width_of v.0) v.1 >>= λ x. cond (eqb (length x.1) 0) (Ok x.0) (Err I5)) tables e in
    let v = a.0.0 in
    let b = bind_parts (tables_at (width_of v) a.0.1) (λ x. cond (eqb (length x.1) 0) (Ok x.0) (Err I5)) tables a.2 in
    let g = passed_parts (eqb (length b.0.1) 0) I5 b.0.0 tables b.2 in
    let begun : bytes ≡ image_head v ++ a.0.1 = (version_takes bytes a.0 a.1).begun in
    let t = tables_take (width_of v) (limit_of v) (wide_of v) a.0.1 b.0 (IsBytes-behind (image_head v) a.0.1 (subst IsBytes begun fits)) b.1 in
    let nothing : b.0.1 ≡ [] = nil_from_length b.0.1 (eqb-true _ _ g.0) in
    let spelling : List ℕ = front (width_of v) (front_of b.0.0) ++ procs (width_of v) b.0.0.procs in
    let whole : a.0.1 ≡ spelling = t.0.parts ∙ (ap (λ (r : List ℕ). spelling ++ r) nothing ∙ append-nil spelling) in (
      v,
      subst (λ (y : Tables). (can_hold v y ≡ true) × (bytes ≡ image_head v ++ (front (width_of v) (front_of y) ++ procs (width_of v) y.procs))) g.1
          (rules_kept (limit_of v) b.0.0 t.1, begun ∙ ap (λ (r : List ℕ). image_head v ++ r) whole),
    )

pub image_again : (version : Version) (tables : Tables) → can_hold version tables ≡ true → image_read (image_in version tables) ≡ Ok tables
unfolding image_read image_in can_hold
image_again version tables holds =
    let w = width_of version in
    let spelling : List ℕ = front w (front_of tables) ++ procs w tables.procs in
    let read : tables_at w spelling ≡ Ok (tables, []) = ap (tables_at w) (sym (append-nil spelling))
    ∙ tables_again w (limit_of version) (wide_of version) tables [] (tables_fit (limit_of version) tables holds) in
    ap (λ r. r >>= λ v. tables_at (width_of v.0) v.1 >>= λ x. cond (eqb (length x.1) 0) (Ok x.0) (Err I5)) (version_again version spelling)
    ∙ ap (λ s. s >>= λ x. cond (eqb (length x.1) 0) (Ok x.0) (Err I5)) read

-- two codes with one image are equal
pub one_code : (version : Version) (a b : Tables) → can_hold version a ≡ true → can_hold version b ≡ true → image_in version a ≡ image_in version b → a ≡ b
one_code version a b holds_a holds_b same =
    done_injective a b (sym (image_again version a holds_a) ∙ (ap image_read same ∙ image_again version b holds_b))

pub spelled_all : (bytes : List ℕ) (tables : Tables) → All (λ byte. byte < 256) bytes → image_read bytes ≡ Ok tables
    → (version : Version) × ((can_hold version tables ≡ true) × (bytes ≡ image_in version tables))
spelled_all bytes tables all e = image_takes bytes tables (IsBytes-from_all bytes all) e

pub whole_held : (tables : Tables) → keeps_rules tables ≡ true → can_hold Second tables ≡ true
unfolding keeps_rules can_hold
whole_held tables keeps = keeps

pub written_again : (tables : Tables) → keeps_rules tables ≡ true → image_read (image_of tables) ≡ Ok tables
written_again tables keeps = image_again Second tables (whole_held tables keeps)

pub kept_all : (bytes : List ℕ) (tables : Tables) → All (λ byte. byte < 256) bytes → image_read bytes ≡ Ok tables → keeps_rules tables ≡ true
kept_all bytes tables all e = let s = spelled_all bytes tables all e in kept_by s.0 tables s.1.0
