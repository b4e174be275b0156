-- What is called by a number, and arguments for places.
use Rattle.std.specs.Option.{option_map}
use Rattle.std.proofs.Common.{true, nat_le}
use Rattle.std.proofs.lemmas.Bool.Decides.{nat_tests}
use Rattle.std.proofs.lemmas.List.{length-map}
use Rattle.std.proofs.lemmas.Option.{slice_get-map, slice_get-get_or}
use Rattle.std.proofs.Common.{◌≡◌, ℕ, zero, suc, map, get_or, ◌+◌, ◌-◌, ◌<◌, ◌≤◌, List, [], ◌∷◌, ◌++◌, length, take, replicate, slice_get, Option, Some, refl, sym, ap, ◌∙◌, arith, append_assoc}
use Rattle.icn_text.specs.declared.func.Func.{Func}
use Rattle.icn_value.specs.declared.val.Val.{Val}
use Rattle.icn_value.specs.declared.val.Val.TheVariants.{Null}
use Rattle.icn_defs.specs.Numbers.{func_of}
use Rattle.icn_code.specs.Codes.{Proc, RecordType, Tables}
use Rattle.icn_run.specs.Step.{IsProc, IsRecord, callee_among, callee_of, func_callee, record_among}
use Rattle.icn_calls.specs.Calling.{IsCallee, values_for}
use Rattle.icn_calls.specs.declared.callees.Callee.TheVariants as Callees

-- Callees

pub record AtProc (n : ℕ) (procs : List Proc) (records : List RecordType) : Type 0 where
  pub entry : Proc
  pub there : slice_get procs n ≡ Some entry
  pub is : callee_among n procs records ≡ IsProc entry

pub proc_at : (n : ℕ) (procs : List Proc) (records : List RecordType) → n < length procs → AtProc n procs records
proc_at n [] records p = absurd (omega arith)
proc_at zero (entry ∷ procs) records p = record { entry = entry; there = refl; is = refl }
proc_at (suc n) (entry ∷ procs) records p =
    let rest = proc_at n procs records (omega arith) in
    record { entry = rest.entry; there = rest.there; is = rest.is }

pub past_procs : (n : ℕ) (procs : List Proc) (records : List RecordType) → length procs ≤ n
    → callee_among n procs records ≡ record_among (n - length procs) zero records
past_procs n [] records p = let e : n ≡ n - 0 = omega arith in ap (λ (k : ℕ). record_among k zero records) e
past_procs zero (entry ∷ procs) records p = absurd (omega arith)
past_procs (suc n) (entry ∷ procs) records p =
    let e : n - length procs ≡ suc n - suc (length procs) = omega arith in
    past_procs n procs records (omega arith) ∙ ap (λ (k : ℕ). record_among k zero records) e

pub record AtRecord (n from : ℕ) (records : List RecordType) : Type 0 where
  pub entry : RecordType
  pub there : slice_get records n ≡ Some entry
  pub is : record_among n from records ≡ IsRecord (from + n) entry

pub record_at : (n from : ℕ) (records : List RecordType) → n < length records → AtRecord n from records
record_at n from [] p = absurd (omega arith)
record_at zero from (entry ∷ records) p =
    let e : from ≡ from + 0 = omega arith in
    record { entry = entry; there = refl; is = ap (λ (k : ℕ). IsRecord k entry) e }
record_at (suc n) from (entry ∷ records) p =
    let rest = record_at n (suc from) records (omega arith) in
    let e : suc from + n ≡ from + suc n = omega arith in
    record { entry = rest.entry; there = rest.there; is = rest.is ∙ ap (λ (k : ℕ). IsRecord k rest.entry) e }

pub past_records : (n from : ℕ) (records : List RecordType) → length records ≤ n → record_among n from records ≡ func_callee (func_of (n - length records + 1))
past_records n from [] p = let e : suc n ≡ n - 0 + 1 = omega arith in ap (λ (k : ℕ). func_callee (func_of k)) e
past_records zero from (entry ∷ records) p = absurd (omega arith)
past_records (suc n) from (entry ∷ records) p =
    let e : n - length records + 1 ≡ suc n - suc (length records) + 1 = omega arith in
    past_records n (suc from) records (omega arith) ∙ ap (λ (k : ℕ). func_callee (func_of k)) e

-- What a number names

pub at_proc : (tables : Tables) (n : ℕ) → n < length tables.procs → IsCallee tables n Callees.Proc
at_proc tables n p = let at = proc_at n tables.procs tables.records p in (at.entry, (at.there, at.is))

pub at_record : (tables : Tables) (n : ℕ) → length tables.procs ≤ n → n - length tables.procs < length tables.records
    → IsCallee tables n (Callees.Rec (n - length tables.procs))
at_record tables n p q =
    let at = record_at (n - length tables.procs) zero tables.records q in
    let e : zero + (n - length tables.procs) ≡ n - length tables.procs = omega arith in
    (at.entry, (at.there, past_procs n tables.procs tables.records p ∙ at.is ∙ ap (λ (k : ℕ). IsRecord k at.entry) e))

pub at_func : (tables : Tables) (n : ℕ) (func : Option Func) → length tables.procs ≤ n → length tables.records ≤ n - length tables.procs
    → func ≡ func_of (n - length tables.procs - length tables.records + 1) → callee_of tables n ≡ func_callee func
at_func tables n func p q e = past_procs n tables.procs tables.records p ∙ past_records (n - length tables.procs) zero tables.records q ∙ ap func_callee (sym e)

-- Arguments

replicate_more : (n : ℕ) → replicate n Null ++ Null ∷ [] ≡ replicate (suc n) Null
replicate_more zero = refl
replicate_more (suc n) = ap (λ (r : List Val). Null ∷ r) (replicate_more n)

-- one null more is put behind
pub nulls_more : (old now more : List Val) (n : ℕ) → more ≡ now ++ Null ∷ [] → now ≡ old ++ replicate n Null → more ≡ old ++ replicate (n + 1) Null
nulls_more old now more n e f =
    let again : (old ++ replicate n Null) ++ Null ∷ [] ≡ old ++ (replicate n Null ++ Null ∷ []) = simp append_assoc in
    let one : suc n ≡ n + 1 = omega arith in
    e ∙ ap (λ (r : List Val). r ++ Null ∷ []) f ∙ again ∙ ap (λ (r : List Val). old ++ r) (replicate_more n) ∙ ap (λ (k : ℕ). old ++ replicate k Null) one

take_more : (n k : ℕ) (xs : List Val) → n ≤ length xs + k → take n (xs ++ replicate (suc k) Null) ≡ take n (xs ++ replicate k Null)
take_more zero k xs p = refl
take_more (suc n) zero [] p = absurd (omega arith)
take_more (suc n) (suc k) [] p = ap (λ (r : List Val). Null ∷ r) (take_more n k [] (omega arith))
take_more (suc n) k (x ∷ xs) p = ap (λ (r : List Val). x ∷ r) (take_more n k xs (omega arith))

-- one null more behind them changes nothing
pub values_for_more : (n : ℕ) (xs : List Val) → values_for n (xs ++ Null ∷ []) ≡ values_for n xs
values_for_more n xs =
    let one : (xs ++ Null ∷ []) ++ replicate n Null ≡ xs ++ replicate (suc n) Null = simp append_assoc in
    ap (take n) one ∙ take_more n n xs (omega arith)

take_whole : (xs ys : List Val) → take (length xs) (xs ++ ys) ≡ xs
take_whole [] ys = refl
take_whole (x ∷ xs) ys = ap (λ (r : List Val). x ∷ r) (take_whole xs ys)

pub values_for_whole : (n : ℕ) (xs : List Val) → length xs ≡ n → values_for n xs ≡ xs
values_for_whole n xs e = ap (λ (k : ℕ). take k (xs ++ replicate n Null)) (sym e) ∙ take_whole xs (replicate n Null)

take_taken : (n k : ℕ) (xs : List Val) → n ≤ k → take n (take n xs ++ replicate k Null) ≡ take n (xs ++ replicate k Null)
take_taken zero k xs p = refl
take_taken (suc n) k [] p = refl
take_taken (suc n) k (x ∷ xs) p = ap (λ (r : List Val). x ∷ r) (take_taken n k xs (omega arith))

pub values_for_cut : (n : ℕ) (xs : List Val) → values_for n (take n xs) ≡ values_for n xs
values_for_cut n xs = take_taken n n xs (omega arith)

pub cut_short : (n : ℕ) (xs : List Val) → length (take n xs) ≤ n
cut_short zero xs = omega arith
cut_short (suc n) [] = omega arith
cut_short (suc n) (x ∷ xs) = let less : length (take n xs) ≤ n = cut_short n xs in omega (arith, less)

-- an entry of a table, by its place
pub entry_at : {X Y : Type 0} (f : X → Y) (xs : List X) (n : ℕ) (x : X) → n < length (map f xs) → x ≡ get_or xs n x → slice_get (map f xs) n ≡ Some (f x)
entry_at f xs n x within is =
    let there = simp length-map at within in
    slice_get-map f xs n ∙ ap (option_map f) (slice_get-get_or xs n x there ∙ ap Some (sym is))

-- whether a call is within the limit of levels

pub may_call : (level limit seen : ℕ) → seen ≡ level → seen < limit → nat_le (suc level) limit ≡ true
may_call level limit seen e p =
    let q : suc level ≤ limit = omega (arith, e, p) in
    grind (arith, nat_tests)
