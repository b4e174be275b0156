-- The entries of the tables of strings, csets, integers and records.
use Rattle.std.proofs.Common.{◌≡◌, ℕ, ℤ, pos, negsuc, suc, ◌-◌, ◌^◌, ◌<◌, ◌≤◌, Bool, true, false, cond, ltb, eqb, ◌&&◌, List, ◌++◌, length, Ok, refl, sym, ap, subst, ◌∙◌, append_assoc, arith}
use Rattle.std.specs.Prelude.{nat_le, nat_lt}
use Rattle.std.specs.List.{flat_map, list_all}
use Rattle.std.specs.Int.{Width, w64, to_le_bytes, cast_signed, cast_unsigned}
use Rattle.std.specs.Int.RustNames.{FitsSigned}
use Rattle.std.proofs.lemmas.Bool.{ltb-true, ltb-false, lt-ltb, and_parts, and_from, eq-eqb, eqb-true}
use Rattle.std.proofs.lemmas.Int.{to_z-of_z, of_z-to_z}
use Rattle.icn_value.specs.declared.cset.Cset.{Cset}
use Rattle.icn_code.specs.Codes.{RecordType}
use Rattle.icn_code.specs.Rules.{is_byte, is_string_below, is_cset, is_word, is_integer, is_record}
use Rattle.icn_image.specs.Readers.{◌>>=◌, bytes_at, number_at, index_at, times, bounded_table_at}
use Rattle.icn_image.specs.Reading.{string_at, cset_at, integer_at, record_at}
use Rattle.icn_image.specs.Spelling.{table, string, cset, integer, record_type}
use Rattle.icn_image.proofs.SpelledFields.{IsBytes, all_bytes, bind_parts, done_injective, Takes, takes_then, Reads, bytes_take, bytes_again, IsWide, wide64, number_reads, place_reads, times_takes, times_again, bounded_reads}

-- ---- strings

string_takes : (w : Width) (limit : ℕ) → IsWide w limit → (bytes : List ℕ) (x : List ℕ × List ℕ) → IsBytes bytes → string_at w bytes ≡ Ok x
    → Takes bytes (string w x.0) x.1 × (is_string_below limit x.0 ≡ true)
unfolding string_at
string_takes w limit wide bytes x fits e =
    let a = bind_parts (number_at w bytes) (λ n. bytes_at n.0 n.1) x e in
    let t = (number_reads w limit wide).takes bytes a.0 fits a.1 in
    let s = bytes_take a.0.0 a.0.1 x t.0.rest_fits a.2 in
    let both = takes_then bytes (to_le_bytes w a.0.0) a.0.1 x.0 x.1 t.0 s.0 in
    (rw s.1 both, and_from (nat_lt (length x.0) limit) (list_all is_byte x.0) (lt-ltb _ _ (omega (arith, s.1, ltb-true _ _ t.1))) (all_bytes x.0 s.2))

string_again : (w : Width) (limit : ℕ) → IsWide w limit → (text rest : List ℕ) → is_string_below limit text ≡ true → string_at w (string w text ++ rest) ≡ Ok (text, rest)
unfolding string_at
string_again w limit wide text rest keeps =
    let p = and_parts (nat_lt (length text) limit) (list_all is_byte text) keeps in
    ap (string_at w) (append_assoc (to_le_bytes w (length text)) text rest)
    ∙ rw ((number_reads w limit wide).again (length text) (text ++ rest) p.0) (bytes_again text rest (length text) refl)

pub string_reads : (w : Width) (limit : ℕ) → IsWide w limit → Reads (List ℕ) (string_at w) (string w) (is_string_below limit)
string_reads w limit wide = record { takes = string_takes w limit wide; again = string_again w limit wide }

-- ---- csets

words_read : Reads ℕ (number_at w64) (to_le_bytes w64) is_word
words_read = number_reads w64 (2 ^ 64) wide64

cset_takes : (bytes : List ℕ) (x : Cset × List ℕ) → IsBytes bytes → cset_at bytes ≡ Ok x → Takes bytes (cset x.0) x.1 × (is_cset x.0 ≡ true)
unfolding cset_at
cset_takes bytes x fits e =
    let a = bind_parts (times (number_at w64) 4 bytes) (λ words. Ok (record { words = words.0 }, words.1)) x e in
    let t = times_takes ℕ (number_at w64) (to_le_bytes w64) is_word words_read 4 bytes a.0 fits a.1 in
    subst (λ (y : Cset × List ℕ). Takes bytes (cset y.0) y.1 × (is_cset y.0 ≡ true)) (done_injective (record { words = a.0.0 }, a.0.1) x a.2)
    (t.0, and_from (eqb (length a.0.0) 4) (list_all is_word a.0.0) (eq-eqb _ _ t.1) t.2)

cset_again : (set : Cset) (rest : List ℕ) → is_cset set ≡ true → cset_at (cset set ++ rest) ≡ Ok (set, rest)
unfolding cset_at
cset_again set rest keeps =
    let p = and_parts (eqb (length set.words) 4) (list_all is_word set.words) keeps in
    let read = times_again ℕ (number_at w64) (to_le_bytes w64) is_word words_read set.words rest p.1 in
    let four : times (number_at w64) 4 (flat_map (to_le_bytes w64) set.words ++ rest) ≡ Ok (set.words, rest) =
    subst (λ (n : ℕ). times (number_at w64) n (flat_map (to_le_bytes w64) set.words ++ rest) ≡ Ok (set.words, rest)) (eqb-true _ _ p.0) read in
    rw four refl

pub cset_reads : Reads Cset cset_at cset is_cset
cset_reads = record { takes = cset_takes; again = cset_again }

-- ---- integers

-- the half of the numbers of 64 bits that stand for integers from 0 on, and the other
signed_fits : (n : ℕ) (t : Bool) → ltb n (2 ^ 63) ≡ t → n < 2 ^ 64 → is_integer (cond t (pos n) (negsuc (2 ^ 64 - suc n))) ≡ true
signed_fits n true e lt = e
signed_fits n false e lt = lt-ltb _ _ (omega (arith, ltb-false n (2 ^ 63) e))

integer_fits : (z : ℤ) → is_integer z ≡ true → FitsSigned w64 z
integer_fits (pos n) e = record { sfits = ltb-true _ _ e }
integer_fits (negsuc n) e = record { sfits = ltb-true _ _ e }

unsigned_fits : (z : ℤ) → is_integer z ≡ true → cast_unsigned w64 z < 2 ^ 64
unsigned_fits (pos n) e = omega (arith, ltb-true n (2 ^ 63) e)
unsigned_fits (negsuc n) e = omega (arith, ltb-true n (2 ^ 63) e)

integer_takes : (bytes : List ℕ) (x : ℤ × List ℕ) → IsBytes bytes → integer_at bytes ≡ Ok x → Takes bytes (integer x.0) x.1 × (is_integer x.0 ≡ true)
unfolding integer_at
integer_takes bytes x fits e =
    let a = bind_parts (number_at w64 bytes) (λ n. Ok (cast_signed w64 n.0, n.1)) x e in
    let t = (number_reads w64 (2 ^ 64) wide64).takes bytes a.0 fits a.1 in
    let lt : a.0.0 < 2 ^ 64 = ltb-true _ _ t.1 in
    let same : to_le_bytes w64 (cast_unsigned w64 (cast_signed w64 a.0.0)) ≡ to_le_bytes w64 a.0.0 = ap (to_le_bytes w64) (of_z-to_z w64 a.0.0 lt) in
    let took : Takes bytes (integer (cast_signed w64 a.0.0)) a.0.1 = subst (λ (text : List ℕ). Takes bytes text a.0.1) (sym same) t.0 in
    subst (λ (y : ℤ × List ℕ). Takes bytes (integer y.0) y.1 × (is_integer y.0 ≡ true)) (done_injective (cast_signed w64 a.0.0, a.0.1) x a.2)
    (took, signed_fits a.0.0 (ltb a.0.0 (2 ^ 63)) refl lt)

integer_again : (z : ℤ) (rest : List ℕ) → is_integer z ≡ true → integer_at (integer z ++ rest) ≡ Ok (z, rest)
unfolding integer_at
integer_again z rest keeps =
    let read : number_at w64 (to_le_bytes w64 (cast_unsigned w64 z) ++ rest)
    ≡ Ok (cast_unsigned w64 z, rest) = (number_reads w64 (2 ^ 64) wide64).again (cast_unsigned w64 z) rest (lt-ltb _ _ (unsigned_fits z keeps)) in
    ap (λ r. r >>= λ n. Ok (cast_signed w64 n.0, n.1)) read ∙ ap (λ (y : ℤ). Ok (y, rest)) (to_z-of_z w64 z (integer_fits z keeps))

pub integer_reads : Reads ℤ integer_at integer is_integer
integer_reads = record { takes = integer_takes; again = integer_again }

-- ---- records

record_takes : (w : Width) (limit : ℕ) → IsWide w limit → (strings fields : ℕ) → strings ≤ limit → fields ≤ 65535 → (bytes : List ℕ) (x : RecordType × List ℕ)
    → IsBytes bytes → record_at w strings fields bytes ≡ Ok x
    → Takes bytes (record_type w x.0) x.1 × (is_record strings fields x.0 ≡ true)
unfolding record_at
record_takes w limit wide strings fields few_strings few_fields bytes x fits e =
    let a = bind_parts (index_at w strings bytes)
    (λ name. bounded_table_at w 65535 (index_at w fields) name.1 >>= λ places. Ok (record { name = name.0; fields = places.0 }, places.1)) x e in
    let b = bind_parts (bounded_table_at w 65535 (index_at w fields) a.0.1) (λ places. Ok (record { name = a.0.0; fields = places.0 }, places.1)) x a.2 in
    let t = (place_reads w limit wide strings few_strings).takes bytes a.0 fits a.1 in
    let s = (bounded_reads w limit wide 65535 (omega (arith, wide.room)) ℕ (index_at w fields) (to_le_bytes w) (λ n. nat_lt n fields) (place_reads w limit wide fields (omega (arith, few_fields, wide.room)))).takes a.0.1 b.0
    t.0.rest_fits b.1 in
    let both = takes_then bytes (to_le_bytes w a.0.0) a.0.1 (table w (to_le_bytes w) b.0.0) b.0.1 t.0 s.0 in
    let p = and_parts (nat_le (length b.0.0) 65535) (list_all (λ n. nat_lt n fields) b.0.0) s.1 in
    let keeps : is_record strings fields (record { name = a.0.0; fields = b.0.0 }) ≡ true =
    and_from (nat_lt a.0.0 strings && nat_le (length b.0.0) 65535) (list_all (λ n. nat_lt n fields) b.0.0)
    (and_from (nat_lt a.0.0 strings) (nat_le (length b.0.0) 65535) t.1 p.0) p.1 in
    subst (λ (y : RecordType × List ℕ). Takes bytes (record_type w y.0) y.1 × (is_record strings fields y.0 ≡ true))
    (done_injective (record { name = a.0.0; fields = b.0.0 }, b.0.1) x b.2) (both, keeps)

record_again : (w : Width) (limit : ℕ) → IsWide w limit → (strings fields : ℕ) → strings ≤ limit → fields ≤ 65535 → (kind : RecordType) (rest : List ℕ)
    → is_record strings fields kind ≡ true → record_at w strings fields (record_type w kind ++ rest) ≡ Ok (kind, rest)
unfolding record_at
record_again w limit wide strings fields few_strings few_fields kind rest keeps =
    let p = and_parts (nat_lt kind.name strings && nat_le (length kind.fields) 65535) (list_all (λ n. nat_lt n fields) kind.fields) keeps in
    let q = and_parts (nat_lt kind.name strings) (nat_le (length kind.fields) 65535) p.0 in
    let all = and_from (nat_le (length kind.fields) 65535) (list_all (λ n. nat_lt n fields) kind.fields) q.1 p.1 in
    ap (record_at w strings fields) (append_assoc (to_le_bytes w kind.name) (table w (to_le_bytes w) kind.fields) rest)
    ∙ rw (
      (place_reads w limit wide strings few_strings).again kind.name (table w (to_le_bytes w) kind.fields ++ rest) q.0,
      (bounded_reads w limit wide 65535 (omega (arith, wide.room)) ℕ (index_at w fields) (to_le_bytes w) (λ n. nat_lt n fields) (place_reads w limit wide fields (omega (arith, few_fields, wide.room)))).again kind.fields rest all,
    ) refl

pub record_reads : (w : Width) (limit : ℕ) → IsWide w limit → (strings fields : ℕ) → strings ≤ limit → fields ≤ 65535
    → Reads RecordType (record_at w strings fields) (record_type w) (is_record strings fields)
record_reads w limit wide strings fields few_strings few_fields =
    record { takes = record_takes w limit wide strings fields few_strings few_fields; again = record_again w limit wide strings fields few_strings few_fields }
