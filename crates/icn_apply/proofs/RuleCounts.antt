-- What the rules of a code say of how many procedures and records it has, and of how many arguments these take.
use Rattle.std.proofs.Common.{◌≡◌, ◌∙◌, ℕ, zero, suc, ◌+◌, ◌<◌, ◌≤◌, ◌^◌, ℤ, pos, negsuc, ◌-ℤ◌, Bool, true, false, ◌&&◌, List, [], ◌∷◌, length, slice_get, Some, refl, ap, subst, arith, leb-true, to_z, of_z, w64}
use Rattle.std.specs.List.{list_all}
use Rattle.std.specs.Prelude.{neg_ℤ}
use Rattle.std.proofs.lemmas.Int.{fits_signed_from_abs, ints, to_z-of_z, to_z_pos}
use Rattle.std.proofs.lemmas.List.{length-map}
use Rattle.std.proofs.lemmas.Option.{same_Some}
use Rattle.icn_defs.specs.NamedValues.{arguments_taken}
use Rattle.icn_code.specs.declared.code.Code.{Code}
use Rattle.icn_code.specs.Codes.{Proc, RecordType, Tables, proc_of, record_of}
use Rattle.icn_code.specs.CodeTables.{tables_of}
use Rattle.icn_code.specs.Rules.{is_proc, is_record, keeps_rules}

left : (a b : Bool) → (a && b) ≡ true → a ≡ true
left true b e = refl
left false b e = e

right : (a b : Bool) → (a && b) ≡ true → b ≡ true
right true b e = e
right false b e = cc

at_place : {X : Type 0} (p : X → Bool) (xs : List X) (n : ℕ) (x : X) → list_all p xs ≡ true → slice_get xs n ≡ Some x → p x ≡ true
at_place p [] n x h e = cc
at_place p (y ∷ xs) zero x h e = subst (λ z. p z ≡ true) (same_Some _ _ e) (left (p y) (list_all p xs) h)
at_place p (y ∷ xs) (suc n) x h e = at_place p xs n x (right (p y) (list_all p xs) h) e

procs_counted : (tables : Tables) → keeps_rules tables ≡ true → length tables.procs ≤ 16777216
unfolding keeps_rules
procs_counted tables e =
    let counted = right _ _ (left _ _ (left _ _ (left _ _ (left _ _ (left _ _ (left _ _ (left _ _ (left _ _ e)))))))) in
    leb-true _ _ (right _ _ (left _ _ counted))

records_counted : (tables : Tables) → keeps_rules tables ≡ true → length tables.records ≤ 65535
unfolding keeps_rules
records_counted tables e =
    leb-true _ _ (right _ _ (left _ _ (left _ _ (left _ _ (left _ _ (left _ _ (left _ _ (left _ _ (left _ _ (left _ _ (left _ _ e)))))))))))

procs_fit : (tables : Tables) → keeps_rules tables ≡ true → list_all (is_proc tables) tables.procs ≡ true
unfolding keeps_rules
procs_fit tables e = right _ _ e

records_fit : (tables : Tables) → keeps_rules tables ≡ true → list_all (is_record (length tables.strings) (length tables.fields)) tables.records ≡ true
unfolding keeps_rules
records_fit tables e = right _ _ (left _ _ (left _ _ (left _ _ e)))

-- Of a code

pub few_procs : (code : Code) → length code.procs.items ≤ 16777216
few_procs code = subst (λ (n : ℕ). n ≤ 16777216) (length-map code.procs.items proc_of) (procs_counted (tables_of code) code.rules)

pub few_records : (code : Code) → length code.records.items ≤ 65535
few_records code = subst (λ (n : ℕ). n ≤ 65535) (length-map code.records.items record_of) (records_counted (tables_of code) code.rules)

pub few_parameters : (tables : Tables) (n : ℕ) (entry : Proc) → keeps_rules tables ≡ true → slice_get tables.procs n ≡ Some entry
    → entry.parameters ≤ 65535
few_parameters tables n entry rules at =
    let head = left _ _ (at_place (is_proc tables) tables.procs n entry (procs_fit tables rules) at) in
    let few : entry.parameters + entry.locals ≤ 65535 = leb-true _ _ (right _ _ (left _ _ (left _ _ head))) in
    omega (arith, few)

pub few_fields : (tables : Tables) (kind : ℕ) (entry : RecordType) → keeps_rules tables ≡ true → slice_get tables.records kind ≡ Some entry
    → length entry.fields ≤ 65535
few_fields tables kind entry rules at =
    leb-true _ _
    (right _ _ (left _ _ (at_place (is_record (length tables.strings) (length tables.fields)) tables.records kind entry (records_fit tables rules) at)))

-- Numbers of arguments, as 64 bits

pub counted : (n : ℕ) → n ≤ 65535 → to_z w64 n ≡ pos n
counted n few = let small : n < 2 ^ 63 = omega (arith, few) in to_z_pos w64 n small

-- as many as there are parameters
pub as_many : (p : ℕ) (r : ℤ) → r ≡ pos p → p ≤ 65535 → to_z w64 (of_z w64 r) ≡ pos p
as_many p r e few =
    let small : p < 2 ^ 63 = omega (arith, few) in
    ap (λ (z : ℤ). to_z w64 (of_z w64 z)) e ∙ to_z-of_z w64 (pos p) (fits_signed_from_abs w64 (pos p) small)

negated : (p : ℕ) → p ≤ 65535 → to_z w64 (of_z w64 (pos 0 -ℤ pos p)) ≡ arguments_taken p true
negated zero few = refl
negated (suc n) few =
    let small : suc n < 2 ^ 63 = omega (arith, few) in
    let back : pos 0 -ℤ pos (suc n) ≡ neg_ℤ (pos (suc n)) = omega (arith, ints) in
    ap (λ (z : ℤ). to_z w64 (of_z w64 z)) back ∙ to_z-of_z w64 (negsuc n) (fits_signed_from_abs w64 (negsuc n) small)

-- where the last one collects, below 0
pub collecting : (p : ℕ) (r : ℤ) → r ≡ pos p → p ≤ 65535 → to_z w64 (of_z w64 (pos 0 -ℤ to_z w64 (of_z w64 r))) ≡ arguments_taken p true
collecting p r e few = ap (λ (z : ℤ). to_z w64 (of_z w64 (pos 0 -ℤ z))) (as_many p r e few) ∙ negated p few
