-- The joined code of joinable units that are not too large keeps the rules of codes.
use Rattle.std.proofs.Common.{◌≡◌, ℕ, ℤ, pos, negsuc, zero, suc, ◌+◌, ◌≤◌, Bool, true, false, cond, ◌||◌, not, List, [], ◌∷◌, ◌++◌, length, map, if◌then◌else◌, Option, Some, None, refl, sym, ap, ◌∙◌, arith}
use Rattle.std.specs.Prelude.{nat_lt, nat_le, find}
use Rattle.std.specs.List.{flat_map, list_all, list_any, sum_by}
use Rattle.std.specs.Option.{option_map}
use Rattle.std.specs.Str.{bytes_eq}
use Rattle.std.proofs.lemmas.Bool.{and_parts, le-leb, lt-ltb, leb-true, ltb-true, ltb-false, false≢true}
use Rattle.std.proofs.lemmas.List.{length-map}
use Rattle.std.proofs.lemmas.List.Folds.{list_all-append, list_any-append}
use Rattle.std.proofs.lemmas.List.Sums.{sum_by-cons}
use Rattle.std.proofs.lemmas.Option.{none-some, same_Some}
use Rattle.icn_profile.specs.Numbers.{number_limit}
use Rattle.icn_text.specs.declared.func.Func.{Func}
use Rattle.icn_code.specs.Codes.{Proc as ProcEntry, Tables}
use Rattle.icn_code.specs.Rules as Rules
use Rattle.icn_code.specs.Rules.{keeps_rules}
use Rattle.icn_unit.specs.declared.unit.UnitInstr.{UnitInstr}
use Rattle.icn_unit.specs.PlainUnits.{PlainProc, PlainDecl, Global as GlobalDecl, Procedure, Link, Invocable, Record, proc_names}
use Rattle.icn_unit.specs.UnitRules.{is_integer}
use Rattle.icn_link.specs.FirstMentions.{with_text, with_texts, text_index}
use Rattle.icn_link.specs.Joined.{cset_of, global_entry, is_among, joined_of, index_of, proc_entry, records_in, start_by, statics_in}
use Rattle.icn_link.specs.JoinableUnits.{is_joinable_proc}
use Rattle.icn_link.specs.LinkFaults.{all_statics, over, count_fault, field_counts, record_sizes, size_of, local_counts, static_counts}
use Rattle.icn_link.specs.Mentions.{Mention, NoMention, AnInteger, AText, ASet, AField, Operands, AllMentions, declared_names, field_in, fields, fields_in, function_named, functions_in, functions_used, global_in, globals, integer_in, mention_of, all_mentions, mentioned_by, mentioned_in, record_name_in, record_names, set_in, string_mentions, strings, text_in, used_globals}
use Rattle.icn_link.specs.Views.{Joinable}
use Rattle.icn_link.proofs.EachOnce.{all_in_flat, all_mapped, all_then, and_intro, has_integer, has_integer_index, has_index, has_text, integer_placed, integers_there, text_at, text_placed, texts_there}
use Rattle.icn_link.proofs.KeptCsets.{cset_kept}
use Rattle.icn_link.proofs.KeptMentions.{integers_kept, strings_kept}
use Rattle.icn_link.proofs.KeptProcs.{Long, has_mention, proc_fits}

-- Numbers that are none above a bound

no_fault : (most n : ℕ) (test : Bool) (rest : Option ℕ) → nat_lt most n ≡ test
    → option_map count_fault (cond test (Some n) rest) ≡ None → (n ≤ most) × (option_map count_fault rest ≡ None)
no_fault most n true rest e h = absurd (none-some (count_fault n) (sym h))
no_fault most n false rest e h = (ltb-false most n e, h)

pub within : (most n : ℕ) (counts : List ℕ) → over most (n ∷ counts) ≡ None → (n ≤ most) × (over most counts ≡ None)
within most n counts h = no_fault most n (nat_lt most n) (find (λ count. nat_lt most count) counts) refl h

pub all_within : (most : ℕ) (counts : List ℕ) → over most counts ≡ None → list_all (λ n. nat_le n most) counts ≡ true
all_within most [] h = refl
all_within most (n ∷ counts) h = let t = within most n counts h in and_intro (le-leb _ _ t.0) (all_within most counts t.1)

-- a part of a sum
pub sizes_within : (most : ℕ) (procs : List PlainProc) → sum_by size_of procs ≤ most → list_all (λ proc. nat_le (size_of proc) most) procs ≡ true
sizes_within most [] h = refl
sizes_within most (proc ∷ procs) h =
    let sum = sum_by-cons size_of proc procs in
    and_intro (le-leb _ _ (omega (arith, sum, h))) (sizes_within most procs (omega (arith, sum, h)))

-- Names that differ

not_true : (b : Bool) → not b ≡ true → b ≡ false
not_true true e = sym e
not_true false e = refl

both_false : (a b : Bool) → a ≡ false → b ≡ false → (a || b) ≡ false
both_false true b e f = e
both_false false b e f = f

parts_false : (a b : Bool) → (a || b) ≡ false → (a ≡ false) × (b ≡ false)
parts_false true b f = (f, absurd (false≢true (sym f)))
parts_false false b f = (refl, f)

differ_last : (names : List (List ℕ)) (name : List ℕ) → Rules.names_differ names ≡ true → list_any (bytes_eq name) names ≡ false
    → Rules.names_differ (names ++ name ∷ []) ≡ true
differ_last [] name h k = refl
differ_last (other ∷ names) name h k =
    let t = and_parts (not (Rules.has_name names other)) (Rules.names_differ names) h in
    let u = parts_false (bytes_eq name other) (list_any (bytes_eq name) names) k in
    and_intro (ap not (list_any-append (λ x. bytes_eq x other) names (name ∷ [])
    ∙ both_false _ _ (not_true (Rules.has_name names other) t.0) (both_false (bytes_eq name other) false u.0 refl)))
    (differ_last names name t.1 u.1)

differ_more : (names : List (List ℕ)) (name : List ℕ) → Rules.names_differ names ≡ true → Rules.names_differ (with_text names name) ≡ true
differ_more names name h = by (list_any (bytes_eq name) names) refl
  where
    by : (test : Bool) → list_any (bytes_eq name) names ≡ test → Rules.names_differ (if test then names else names ++ name ∷ []) ≡ true
    by true e = h
    by false e = differ_last names name h e

texts_differ : (known xs : List (List ℕ)) → Rules.names_differ known ≡ true → Rules.names_differ (with_texts known xs) ≡ true
texts_differ known [] h = h
texts_differ known (x ∷ xs) h = texts_differ (with_text known x) xs (differ_more known x h)

all_true : {A : Type 0} (xs : List A) → list_all (λ x. true) xs ≡ true
all_true [] = refl
all_true (x ∷ xs) = all_true xs

-- Integers

unit_integer : (n : ℤ) → is_integer n ≡ true → Rules.is_integer n ≡ true
unit_integer (pos n) h = lt-ltb _ _ (omega (arith, leb-true _ _ h))
unit_integer (negsuc n) h = absurd (false≢true h)

-- Starts

started : (procs records : ℕ) (p r : Option ℕ) (declared : Bool) (function : Option Func)
    → ((n : ℕ) → p ≡ Some n → nat_lt n procs ≡ true) → ((n : ℕ) → r ≡ Some n → nat_lt n records ≡ true)
    → Rules.is_start records procs (start_by p r declared function) ≡ true
started procs records (Some n) r declared function f g = f n refl
started procs records None (Some n) declared function f g = g n refl
started procs records None None true function f g = refl
started procs records None None false (Some function) f g = refl
started procs records None None false None f g = refl

next_place : (p : Option ℕ) (n k : ℕ) → ((m : ℕ) → p ≡ Some m → nat_lt m k ≡ true) → option_map suc p ≡ Some n → nat_lt n (suc k) ≡ true
next_place None n k f e = absurd (none-some n e)
next_place (Some m) n k f e = let w = ltb-true _ _ (f m refl) in lt-ltb _ _ (omega (arith, w, same_Some (suc m) n e))

place_by : (name other : List ℕ) (names : List (List ℕ)) (test : Bool) (n : ℕ)
    → ((m : ℕ) → index_of names name ≡ Some m → nat_lt m (length names) ≡ true)
    → (if test then Some zero else option_map suc (index_of names name)) ≡ Some n → nat_lt n (suc (length names)) ≡ true
place_by name other names true n f e = lt-ltb _ _ (omega (arith, same_Some zero n e))
place_by name other names false n f e = next_place (index_of names name) n (length names) f e

place_within : (names : List (List ℕ)) (name : List ℕ) (n : ℕ) → index_of names name ≡ Some n → nat_lt n (length names) ≡ true
place_within [] name n e = absurd (none-some n e)
place_within (other ∷ names) name n e = place_by name other names (bytes_eq name other) n (place_within names name) e

-- Records, by the declarations

pub records_long : (M : AllMentions) (decls : List PlainDecl) → length (flat_map (records_in M) decls) ≡ length (record_sizes decls)
records_long M [] = refl
records_long M (GlobalDecl name ∷ decls) = records_long M decls
records_long M (Procedure name ∷ decls) = records_long M decls
records_long M (Link text ∷ decls) = records_long M decls
records_long M (Invocable text ∷ decls) = records_long M decls
records_long M (Record name fields ∷ decls) = ap suc (records_long M decls)

pub names_long : (M : AllMentions) (decls : List PlainDecl) → length (flat_map (records_in M) decls) ≡ length (record_names decls)
names_long M [] = refl
names_long M (GlobalDecl name ∷ decls) = names_long M decls
names_long M (Procedure name ∷ decls) = names_long M decls
names_long M (Link text ∷ decls) = names_long M decls
names_long M (Invocable text ∷ decls) = names_long M decls
names_long M (Record name fields ∷ decls) = ap suc (names_long M decls)

field_fits : (M : AllMentions) (strings : ℕ) (fields : ℕ) → fields ≡ length M.fields → (names : List (List ℕ))
    → list_all (has_index M.fields) names ≡ true → list_all (λ field. nat_lt field fields) (map (text_index M.fields) names) ≡ true
field_fits M strings fields e [] h = refl
field_fits M strings fields e (name ∷ names) h =
    let t = and_parts _ _ h in and_intro (ap (nat_lt (text_index M.fields name)) e ∙ t.0) (field_fits M strings fields e names t.1)

record_fits : (M : AllMentions) (fields : ℕ) → fields ≡ length M.fields → (decl : PlainDecl)
    → list_all (has_index M.strings) (record_name_in decl) ≡ true → list_all (has_index M.fields) (fields_in decl) ≡ true
    → list_all (λ n. nat_le n 65535) (field_counts decl) ≡ true
    → list_all (Rules.is_record (length M.strings) fields) (records_in M decl) ≡ true
record_fits M fields e (GlobalDecl name) a b c = refl
record_fits M fields e (Procedure name) a b c = refl
record_fits M fields e (Link text) a b c = refl
record_fits M fields e (Invocable text) a b c = refl
record_fits M fields e (Record name names) a b c =
    and_intro (and_intro (and_intro (and_parts _ _ a).0 (ap (λ n. nat_le n 65535) (length-map names (text_index M.fields)) ∙ (and_parts _ _ c).0))
    (field_fits M (length M.strings) fields e names b)) refl

-- What instructions mention is in the tables

one_mention : (M : AllMentions) (m : Mention) → list_all (has_integer_index M.integers) (integer_in m) ≡ true
    → list_all (has_index M.strings) (text_in m) ≡ true → list_all (has_index M.sets) (set_in m) ≡ true
    → list_all (has_index M.fields) (field_in m) ≡ true
    → has_mention M m ≡ true
unfolding has_mention
one_mention M NoMention a b c d = refl
one_mention M (AnInteger n) a b c d = (and_parts _ _ a).0
one_mention M (AText text) a b c d = (and_parts _ _ b).0
one_mention M (ASet members) a b c d = (and_parts _ _ c).0
one_mention M (AField name) a b c d = (and_parts _ _ d).0
one_mention M (Operands count) a b c d = refl

instrs_mention : (M : AllMentions) (instrs : List UnitInstr)
    → list_all (λ i. list_all (has_integer_index M.integers) (integer_in (mention_of i))) instrs ≡ true
    → list_all (λ i. list_all (has_index M.strings) (text_in (mention_of i))) instrs ≡ true
    → list_all (λ i. list_all (has_index M.sets) (set_in (mention_of i))) instrs ≡ true
    → list_all (λ i. list_all (has_index M.fields) (field_in (mention_of i))) instrs ≡ true
    → list_all (λ i. has_mention M (mention_of i)) instrs ≡ true
instrs_mention M [] a b c d = refl
instrs_mention M (i ∷ instrs) a b c d =
    let p = and_parts _ _ a in let q = and_parts _ _ b in let r = and_parts _ _ c in let s = and_parts _ _ d in
    and_intro (one_mention M (mention_of i) p.0 q.0 r.0 s.0) (instrs_mention M instrs p.1 q.1 r.1 s.1)

procs_mention : (M : AllMentions) (procs : List PlainProc)
    → list_all (λ proc. list_all (has_integer_index M.integers) (mentioned_in integer_in proc)) procs ≡ true
    → list_all (λ proc. list_all (has_index M.strings) (mentioned_in text_in proc)) procs ≡ true
    → list_all (λ proc. list_all (has_index M.sets) (mentioned_in set_in proc)) procs ≡ true
    → list_all (λ proc. list_all (has_index M.fields) (mentioned_in field_in proc)) procs ≡ true
    → list_all (λ (proc : PlainProc). list_all (λ i. has_mention M (mention_of i)) proc.instrs) procs ≡ true
procs_mention M [] a b c d = refl
procs_mention M (proc ∷ procs) a b c d =
    let p = and_parts _ _ a in let q = and_parts _ _ b in let r = and_parts _ _ c in let s = and_parts _ _ d in
    and_intro (instrs_mention M proc.instrs
    (all_in_flat _ (λ i. integer_in (mention_of i)) proc.instrs p.0) (all_in_flat _ (λ i. text_in (mention_of i)) proc.instrs q.0)
    (all_in_flat _ (λ i. set_in (mention_of i)) proc.instrs r.0) (all_in_flat _ (λ i. field_in (mention_of i)) proc.instrs s.0))
    (procs_mention M procs p.1 q.1 r.1 s.1)

procs_fit : (M : AllMentions) (T : Tables) → Long M T → (procs : List PlainProc) → list_all is_joinable_proc procs ≡ true
    → list_all (λ (proc : PlainProc). list_all (λ i. has_mention M (mention_of i)) proc.instrs) procs ≡ true
    → list_all (has_index M.strings) (proc_names procs) ≡ true
    → list_all (λ n. nat_le n 65535) (local_counts M.globals procs) ≡ true
    → list_all (λ n. nat_le n 65535) (static_counts M.globals procs) ≡ true
    → list_all (λ proc. nat_le (size_of proc) 16777216) procs ≡ true
    → list_all (Rules.is_proc T) (map (proc_entry M) procs) ≡ true
procs_fit M T F [] a b c d e f = refl
procs_fit M T F (proc ∷ procs) a b c d e f =
    let p = and_parts _ _ a in let q = and_parts _ _ b in let r = and_parts _ _ c in
    let s = and_parts _ _ d in let t = and_parts _ _ e in let u = and_parts _ _ f in
    and_intro (proc_fits M T F proc p.0 q.0 r.0 (leb-true _ _ s.0) (leb-true _ _ t.0) (leb-true _ _ u.0))
    (procs_fit M T F procs p.1 q.1 r.1 s.1 t.1 u.1)

records_fit : (M : AllMentions) (fields : ℕ) → fields ≡ length M.fields → (decls : List PlainDecl)
    → list_all (λ decl. list_all (has_index M.strings) (record_name_in decl)) decls ≡ true
    → list_all (λ decl. list_all (has_index M.fields) (fields_in decl)) decls ≡ true
    → list_all (λ decl. list_all (λ n. nat_le n 65535) (field_counts decl)) decls ≡ true
    → list_all (Rules.is_record (length M.strings) fields) (flat_map (records_in M) decls) ≡ true
records_fit M fields e [] a b c = refl
records_fit M fields e (decl ∷ decls) a b c =
    let p = and_parts _ _ a in let q = and_parts _ _ b in let r = and_parts _ _ c in
    list_all-append (Rules.is_record (length M.strings) fields) (records_in M decl) (flat_map (records_in M) decls)
    ∙ and_intro (record_fits M fields e decl p.0 q.0 r.0) (records_fit M fields e decls p.1 q.1 r.1)

-- Globals

global_fits : (M : AllMentions) (ps rs : List (List ℕ)) (procs records : ℕ) → procs ≡ length ps → records ≡ length rs
    → (name : List ℕ) → has_index M.strings name ≡ true
    → Rules.is_global (length M.strings) records procs (global_entry M ps rs name) ≡ true
global_fits M ps rs procs records a b name h =
    and_intro h (started procs records (index_of ps name) (index_of rs name) (is_among M.declared name) (function_named name)
    (λ n e. ap (λ k. nat_lt n k) a ∙ place_within ps name n e) (λ n e. ap (λ k. nat_lt n k) b ∙ place_within rs name n e))

names_back : (M : AllMentions) (ps rs : List (List ℕ)) (names : List (List ℕ)) → list_all (has_text M.strings) names ≡ true
    → map (Rules.name_of M.strings) (map (global_entry M ps rs) names) ≡ names
names_back M ps rs [] h = refl
names_back M ps rs (name ∷ names) h =
    let t = and_parts _ _ h in
    ap (λ x. x ∷ map (Rules.name_of M.strings) (map (global_entry M ps rs) names)) (text_at M.strings name t.0)
    ∙ ap (λ xs. name ∷ xs) (names_back M ps rs names t.1)

-- how many statics the procedures have together
statics_sum : (M : AllMentions) (procs : List PlainProc)
    → sum_by (λ (entry : ProcEntry). entry.statics) (map (proc_entry M) procs) ≡ all_statics M.globals procs
statics_sum M [] = refl
statics_sum M (proc ∷ procs) =
    sum_by-cons (λ (entry : ProcEntry). entry.statics) (proc_entry M proc) (map (proc_entry M) procs)
    ∙ (ap (λ n. statics_in M.globals proc.names + n) (statics_sum M procs)
    ∙ sym (sum_by-cons (λ (p : PlainProc). statics_in M.globals p.names) proc procs))

-- All tables

pub joined_kept : (decls : List PlainDecl) (procs : List PlainProc) → Joinable decls procs → keeps_rules (joined_of decls procs) ≡ true
unfolding keeps_rules
joined_kept decls procs J =
    let M : AllMentions = all_mentions decls procs in
    let T : Tables = joined_of decls procs in
    let k7 : List ℕ = length procs ∷ [] in
    let k6 : List ℕ = length M.globals ∷ k7 in
    let k5 : List ℕ = length (record_sizes decls) ∷ k6 in
    let k4 : List ℕ = length M.fields ∷ k5 in
    let k3 : List ℕ = length M.integers ∷ k4 in
    let k2 : List ℕ = length M.sets ∷ k3 in
    let s1 = within 16777216 (length M.strings) k2 J.tables in
    let s2 = within 16777216 (length M.sets) k3 s1.1 in
    let s3 = within 16777216 (length M.integers) k4 s2.1 in
    let s4 = within 16777216 (length M.fields) k5 s3.1 in
    let s5 = within 16777216 (length (record_sizes decls)) k6 s4.1 in
    let s6 = within 16777216 (length M.globals) k7 s5.1 in
    let s7 = within 16777216 (length procs) [] s6.1 in
    let f1 = within 65535 (length M.fields) (length (record_sizes decls) ∷ []) J.kinds in
    let f2 = within 65535 (length (record_sizes decls)) [] f1.1 in
    let g1 = within 4294967295 (all_statics (globals decls procs) procs) [] J.together in
    let n2 = length-map M.sets cset_of in
    let n4 = length-map M.fields (text_index M.strings) in
    let n5 = records_long M decls in
    let n6 = length-map M.globals (global_entry M (proc_names procs) (record_names decls)) in
    let n7 = length-map procs (proc_entry M) in
    let long : Long M T = record { strings = refl; integers = refl; sets = n2; fields = n4; globals = n6 } in
    let there : list_all (has_text M.strings) (string_mentions decls procs) ≡ true = texts_there [] (string_mentions decls procs) in
    let r4 : List (List ℕ) = mentioned_by text_in procs in
    let r3 : List (List ℕ) = proc_names procs ++ r4 in
    let r2 : List (List ℕ) = globals decls procs ++ r3 in
    let r1 : List (List ℕ) = record_names decls ++ r2 in
    let parts : (xs ys : List (List ℕ)) → list_all (has_text M.strings) (xs ++ ys) ≡ true
    → (list_all (has_text M.strings) xs ≡ true) × (list_all (has_text M.strings) ys ≡ true) =
    λ xs ys h. and_parts (list_all (has_text M.strings) xs) (list_all (has_text M.strings) ys) (sym (list_all-append (has_text M.strings) xs ys) ∙ h) in
    let t1 = parts (fields decls procs) r1 there in
    let t2 = parts (record_names decls) r2 t1.1 in
    let t3 = parts (globals decls procs) r3 t2.1 in
    let t4 = parts (proc_names procs) r4 t3.1 in
    let placed : (names : List (List ℕ)) → list_all (has_text M.strings) names ≡ true → list_all (has_index M.strings) names ≡ true =
    λ names h. all_then (has_text M.strings) (has_index M.strings) (text_placed M.strings) names h in
    let own = flat_map fields_in decls in
    let used = mentioned_by field_in procs in
    let f = and_parts (list_all (has_text M.fields) own) (list_all (has_text M.fields) used)
    (sym (list_all-append (has_text M.fields) own used) ∙ texts_there [] (own ++ used)) in
    let fielded : (names : List (List ℕ)) → list_all (has_text M.fields) names ≡ true → list_all (has_index M.fields) names ≡ true =
    λ names h. all_then (has_text M.fields) (has_index M.fields) (text_placed M.fields) names h in
    let counts : Rules.are_counts number_limit T ≡ true =
    and_intro (and_intro (and_intro (and_intro (and_intro (and_intro
    (lt-ltb (length T.strings) 4294967296 (omega (arith, s1.0))) (lt-ltb (length T.csets) 4294967296 (omega (arith, n2, s2.0))))
    (lt-ltb (length T.integers) 4294967296 (omega (arith, s3.0)))) (le-leb _ _ (omega (arith, n4, f1.0))))
    (le-leb _ _ (omega (arith, n5, f2.0)))) (lt-ltb (length T.globals) 4294967296 (omega (arith, n6, s6.0))))
    (and_intro (and_intro (lt-ltb (length T.procs) 4294967296 (omega (arith, n7, s7.0))) (le-leb _ _ (omega (arith, n7, s7.0))))
    (le-leb _ _ (omega (arith, g1.0, statics_sum M procs)))) in
    let mention = procs_mention M procs
    (all_in_flat (has_integer_index M.integers) (mentioned_in integer_in) procs (all_then (has_integer M.integers) (has_integer_index M.integers)
    (integer_placed M.integers) (mentioned_by integer_in procs) (integers_there [] (mentioned_by integer_in procs))))
    (all_in_flat (has_index M.strings) (mentioned_in text_in) procs (placed r4 t4.1))
    (all_in_flat (has_index M.sets) (mentioned_in set_in) procs (all_then (has_text M.sets) (has_index M.sets) (text_placed M.sets)
    (mentioned_by set_in procs) (texts_there [] (mentioned_by set_in procs))))
    (all_in_flat (has_index M.fields) (mentioned_in field_in) procs (fielded used f.1)) in
    let csets : list_all Rules.is_cset T.csets ≡ true =
    all_mapped Rules.is_cset cset_of M.sets (all_then (λ x. true) (λ x. Rules.is_cset (cset_of x)) (λ x h. cset_kept x) M.sets (all_true M.sets)) in
    let integers : list_all Rules.is_integer T.integers ≡ true =
    all_then is_integer Rules.is_integer unit_integer M.integers (integers_kept decls procs J.joinable_decls J.joinable_procs) in
    let named : list_all (λ name. nat_lt name (length T.strings)) T.fields ≡ true =
    all_mapped (λ name. nat_lt name (length M.strings)) (text_index M.strings) M.fields (placed M.fields t1.0) in
    let records : list_all (Rules.is_record (length T.strings) (length T.fields)) T.records ≡ true =
    records_fit M (length T.fields) n4 decls (all_in_flat (has_index M.strings) record_name_in decls (placed (record_names decls) t2.0))
    (all_in_flat (has_index M.fields) fields_in decls (fielded own f.0))
    (all_in_flat (λ n. nat_le n 65535) field_counts decls (all_within 65535 (record_sizes decls) J.records)) in
    let is_global = Rules.is_global (length T.strings) (length T.records) (length T.procs) in
    let entries : list_all is_global T.globals ≡ true =
    all_mapped is_global (global_entry M (proc_names procs) (record_names decls)) M.globals
    (all_then (has_index M.strings) (λ name. is_global (global_entry M (proc_names procs) (record_names decls) name))
    (global_fits M (proc_names procs) (record_names decls) (length T.procs) (length T.records)
    (n7 ∙ sym (length-map procs (λ (proc : PlainProc). proc.name))) (names_long M decls)) M.globals (placed M.globals t3.0)) in
    let differ : Rules.names_differ (map (Rules.name_of T.strings) T.globals) ≡ true =
    ap Rules.names_differ (names_back M (proc_names procs) (record_names decls) M.globals t3.0)
    ∙ texts_differ (used_globals decls procs) (flat_map functions_in procs)
    (texts_differ (declared_names decls) (flat_map functions_used procs) (texts_differ [] (flat_map global_in decls) refl)) in
    let fit : list_all (Rules.is_proc T) T.procs ≡ true =
    procs_fit M T long procs J.joinable_procs mention (placed (proc_names procs) t4.0)
    (all_within 65535 (local_counts (globals decls procs) procs) J.locals) (all_within 65535 (static_counts (globals decls procs) procs) J.statics)
    (sizes_within 16777216 procs (within 16777216 (sum_by size_of procs) [] J.instrs).0) in
    and_intro (and_intro (and_intro
    (and_intro (and_intro (and_intro (and_intro (and_intro counts (strings_kept decls procs J.joinable_decls J.joinable_procs)) csets) integers) named) records)
    entries) differ) fit
