-- How long the image of a code is.
use Rattle.std.proofs.Common.{◌≡◌, ℕ, suc, ◌+◌, ◌*◌, true, List, [], ◌∷◌, ◌++◌, length, map, refl, sym, ap, ◌∙◌, arith, length-append}
use Rattle.std.specs.Prelude.{◌==◌}
use Rattle.std.specs.Int.{w32, w64, to_le_bytes}
use Rattle.std.specs.List.{flat_map, list_all, sum_by}
use Rattle.std.proofs.lemmas.Bool.{and_parts}
use Rattle.std.proofs.lemmas.Bool.Decides.{nat_tests}
use Rattle.std.proofs.lemmas.List.{length-map}
use Rattle.std.proofs.lemmas.List.Sums.{sum_by-cons}
use Rattle.icn_value.specs.declared.cset.Cset.{Cset}
use Rattle.icn_code.specs.declared.code.Global.{Global}
use Rattle.icn_code.specs.declared.code.Start.{Start}
use Rattle.icn_code.specs.declared.code.Start.TheVariants as Starts
use Rattle.icn_code.specs.declared.instr.Instr.{Instr}
use Rattle.icn_code.specs.declared.instr.Instr.TheVariants as I
use Rattle.icn_code.specs.Codes.{Proc, RecordType, Tables}
use Rattle.icn_code.specs.Rules.{is_word, is_cset, keeps_rules}
use Rattle.icn_image.specs.Fronts.{head_of}
use Rattle.icn_image.specs.Spelling.{image_in, image_of, front, front_of, procs, table, string, cset, integer, record_type, global, kind_and_number, head, body, instruction}
use Rattle.icn_image.specs.declared.version.Version.TheVariants.{Second}
use Rattle.icn_image.specs.Versions.{image_head}
use Rattle.icn_link.specs.ImageSizes.{instr_size, body_size, bodies_size, strings_size, records_size}

each_sum : {A : Type 0} (f : A → List ℕ) (g : A → ℕ) → ((x : A) → length (f x) ≡ g x) → (xs : List A)
    → length (flat_map f xs) ≡ sum_by g xs
each_sum f g e [] = refl
each_sum f g e (x ∷ xs) =
    let sum = sum_by-cons g x xs in let one = e x in let rest = each_sum f g e xs in
    length-append (f x) (flat_map f xs) ∙ omega (arith, sum, one, rest)

each_same : {A : Type 0} (f : A → List ℕ) (n : ℕ) → ((k : ℕ) → suc k * n ≡ n + k * n) → 0 ≡ 0 * n → ((x : A) → length (f x) ≡ n)
    → (xs : List A) → length (flat_map f xs) ≡ length xs * n
each_same f n m z e [] = z
each_same f n m z e (x ∷ xs) =
    length-append (f x) (flat_map f xs) ∙ ap (λ k. k + length (flat_map f xs)) (e x)
    ∙ ap (λ k. n + k) (each_same f n m z e xs) ∙ sym (m (length xs))

words_length : (words : List ℕ) → length (flat_map (to_le_bytes w64) words) ≡ length words * 8
words_length words = each_same (to_le_bytes w64) 8 (λ k. omega arith) refl (λ word. refl) words

cset_length : (set : Cset) → is_cset set ≡ true → length (cset set) ≡ 32
cset_length set h =
    let t = (and_parts (length set.words == 4) (list_all is_word set.words) h).0 in
    let four : length set.words ≡ 4 = grind (arith, nat_tests) in
    words_length set.words ∙ ap (λ n. n * 8) four

csets_length : (sets : List Cset) → list_all is_cset sets ≡ true → length (flat_map cset sets) ≡ length sets * 32
csets_length [] h = refl
csets_length (set ∷ sets) h =
    let t = and_parts _ _ h in let one = cset_length set t.0 in let rest = csets_length sets t.1 in
    length-append (cset set) (flat_map cset sets) ∙ omega (arith, one, rest)

instr_length : (instr : Instr) → length (instruction w32 instr) ≡ instr_size instr
instr_length I.Pnull = refl
instr_length (I.Int k) = refl
instr_length (I.Str k) = refl
instr_length (I.Cset k) = refl
instr_length (I.Local k) = refl
instr_length (I.Static k) = refl
instr_length (I.Global k) = refl
instr_length (I.Keywd keyword) = refl
instr_length I.Pop = refl
instr_length I.Dup = refl
instr_length (I.Op op) = refl
instr_length (I.Llist n) = refl
instr_length (I.Field k) = refl
instr_length (I.Invoke n) = refl
instr_length I.Appl = refl
instr_length (I.Mark l) = refl
instr_length I.Mark0 = refl
instr_length I.Unmark = refl
instr_length I.Eret = refl
instr_length I.Esusp = refl
instr_length I.Limit = refl
instr_length I.Lsusp = refl
instr_length I.Efail = refl
instr_length (I.Chfail l) = refl
instr_length (I.Goto l) = refl
instr_length (I.Loop l) = refl
instr_length I.Bscan = refl
instr_length I.Escan = refl
instr_length I.Ccase = refl
instr_length (I.Init l) = refl
instr_length I.Psusp = refl
instr_length I.Pret = refl
instr_length I.Pfail = refl
instr_length (I.Create l) = refl
instr_length I.Coact = refl
instr_length I.Coret = refl
instr_length I.Cofail = refl

start_length : (start : Start) → length (kind_and_number w32 start) ≡ 5
start_length Starts.Null = refl
start_length (Starts.Procedure place) = refl
start_length (Starts.Record place) = refl
start_length (Starts.Function func) = refl

global_length : (entry : Global) → length (global w32 entry) ≡ 9
global_length entry = length-append (to_le_bytes w32 entry.name) (kind_and_number w32 entry.start) ∙ ap (λ n. 4 + n) (start_length entry.start)

string_length : (bytes : List ℕ) → length (string w32 bytes) ≡ length bytes + 4
string_length bytes = length-append (to_le_bytes w32 (length bytes)) bytes ∙ omega arith

record_length : (kind : RecordType) → length (record_type w32 kind) ≡ length kind.fields * 4 + 8
record_length kind =
    let fields = each_same (to_le_bytes w32) 4 (λ k. omega arith) refl (λ x. refl) kind.fields in
    length-append (to_le_bytes w32 kind.name) (table w32 (to_le_bytes w32) kind.fields)
    ∙ ap (λ n. 4 + n) (length-append (to_le_bytes w32 (length kind.fields)) (flat_map (to_le_bytes w32) kind.fields))
    ∙ omega (arith, fields)

table_length : {A : Type 0} (f : A → List ℕ) (xs : List A) → length (table w32 f xs) ≡ 4 + length (flat_map f xs)
table_length f xs = length-append (to_le_bytes w32 (length xs)) (flat_map f xs)

body_length : (proc : Proc) → length (body w32 proc) ≡ body_size proc.instrs
body_length proc = each_sum (instruction w32) instr_size instr_length proc.instrs

-- all that rules say of csets
csets_ruled : (T : Tables) → keeps_rules T ≡ true → list_all is_cset T.csets ≡ true
unfolding keeps_rules
csets_ruled T h =
    (and_parts _ _ (and_parts _ _ (and_parts _ _ (and_parts _ _ (and_parts _ _ (and_parts _ _ (and_parts _ _ h).0).0).0).0).0).0).1

pub image_length : (T : Tables) → keeps_rules T ≡ true → length (image_of T)
    ≡ 36 + strings_size T.strings + length T.csets * 32 + length T.integers * 8 + length T.fields * 4 + records_size T.records
    + length T.globals * 9 + length T.procs * 21 + bodies_size T.procs
unfolding image_in
image_length T h =
    let a = table_length (string w32) T.strings in
    let a' = each_sum (string w32) (λ bytes. length bytes + 4) string_length T.strings in
    let b = table_length cset T.csets in
    let b' = csets_length T.csets (csets_ruled T h) in
    let c = table_length integer T.integers in
    let c' = each_same integer 8 (λ k. omega arith) refl (λ x. refl) T.integers in
    let d = table_length (to_le_bytes w32) T.fields in
    let d' = each_same (to_le_bytes w32) 4 (λ k. omega arith) refl (λ x. refl) T.fields in
    let e = table_length (record_type w32) T.records in
    let e' = each_sum (record_type w32) (λ kind. length kind.fields * 4 + 8) record_length T.records in
    let f = table_length (global w32) T.globals in
    let f' = each_same (global w32) 9 (λ k. omega arith) refl global_length T.globals in
    let g = table_length (head w32) (map head_of T.procs) in
    let g' = each_same (head w32) 21 (λ k. omega arith) refl (λ x. refl) (map head_of T.procs) in
    let g'' = length-map T.procs head_of in
    let k = each_sum (body w32) (λ (proc : Proc). body_size proc.instrs) body_length T.procs in
    let s = table w32 (string w32) T.strings in
    let s1 = length-append (image_head Second) (front w32 (front_of T) ++ procs w32 T.procs) in
    let s2 = length-append (front w32 (front_of T)) (procs w32 T.procs) in
    let s3 = length-append s (table w32 cset T.csets ++ (table w32 integer T.integers ++ (table w32 (to_le_bytes w32) T.fields
    ++ (table w32 (record_type w32) T.records ++ table w32 (global w32) T.globals)))) in
    let s4 = length-append (table w32 cset T.csets) (table w32 integer T.integers ++ (table w32 (to_le_bytes w32) T.fields
    ++ (table w32 (record_type w32) T.records ++ table w32 (global w32) T.globals))) in
    let s5 = length-append (table w32 integer T.integers) (table w32 (to_le_bytes w32) T.fields
    ++ (table w32 (record_type w32) T.records ++ table w32 (global w32) T.globals)) in
    let s6 = length-append (table w32 (to_le_bytes w32) T.fields) (table w32 (record_type w32) T.records ++ table w32 (global w32) T.globals) in
    let s7 = length-append (table w32 (record_type w32) T.records) (table w32 (global w32) T.globals) in
    let s8 = length-append (table w32 (head w32) (map head_of T.procs)) (flat_map (body w32) T.procs) in
    omega (arith, a, a', b, b', c, c', d, d', e, e', f, f', g, g', ap (λ n. n * 21) g'', k, s1, s2, s3, s4, s5, s6, s7, s8)
