-- What the rules of a code's tables say of its procedures and its records.
use Rattle.std.proofs.Common.{◌≡◌, ℕ, zero, suc, ◌<◌, ◌≤◌, Bool, true, false, ◌&&◌, ◌||◌, not, List, [], ◌∷◌, length, slice_get, Some, None, refl, ap, subst, arith, leb-true, ltb-true}
use Rattle.std.specs.List.{list_all}
use Rattle.std.proofs.lemmas.Option.{same_Some}
use Rattle.icn_defs.specs.Numbers.{func_of}
use Rattle.icn_code.specs.Codes.{Proc, RecordType, Tables}
use Rattle.icn_code.specs.Rules.{is_proc, is_record, keeps_rules}

left : (a b : Bool) → (a && b) ≡ true → a ≡ true
left true b e = refl
left false b e = e

right : (a b : Bool) → (a && b) ≡ true → b ≡ true
right true b e = e
right false b e = cc

second : (a b : Bool) → a ≡ true → (not a || b) ≡ true → b ≡ true
second true b e f = f
second false b e f = cc

at_place : {X : Type 0} (p : X → Bool) (xs : List X) (n : ℕ) (x : X) → list_all p xs ≡ true → slice_get xs n ≡ Some x → p x ≡ true
at_place p [] n x h e = cc
at_place p (y ∷ xs) zero x h e = subst (λ z. p z ≡ true) (same_Some _ _ e) (left (p y) (list_all p xs) h)
at_place p (y ∷ xs) (suc n) x h e = at_place p xs n x (right (p y) (list_all p xs) h) e

procs_fit : (tables : Tables) → keeps_rules tables ≡ true → list_all (is_proc tables) tables.procs ≡ true
unfolding keeps_rules
procs_fit tables e = right _ _ e

records_fit : (tables : Tables) → keeps_rules tables ≡ true → list_all (is_record (length tables.strings) (length tables.fields)) tables.records ≡ true
unfolding keeps_rules
records_fit tables e = right _ _ (left _ _ (left _ _ (left _ _ e)))

few_records : (tables : Tables) → keeps_rules tables ≡ true → length tables.records ≤ 65535
unfolding keeps_rules
few_records tables e = leb-true _ _ (right _ _ (left _ _ (left _ _ (left _ _ (left _ _ (left _ _ (left _ _ (left _ _ (left _ _ (left _ _ (left _ _ e)))))))))))

-- a last parameter collects only where there is one
pub collects_one : (tables : Tables) (n : ℕ) (entry : Proc) → keeps_rules tables ≡ true → slice_get tables.procs n ≡ Some entry → entry.collects ≡ true
    → 0 < entry.parameters
collects_one tables n entry rules at e =
    let head = left _ _ (at_place (is_proc tables) tables.procs n entry (procs_fit tables rules) at) in
    ltb-true 0 entry.parameters (second entry.collects _ e (right _ _ (left _ _ (left _ _ (left _ _ head)))))

-- a kind has 16 bits, and so has the place of a field
pub kind_within : (tables : Tables) (kind : ℕ) → keeps_rules tables ≡ true → kind < length tables.records → kind < 65536
kind_within tables kind rules p = let few : length tables.records ≤ 65535 = few_records tables rules in omega (arith, few, p)

pub few_fields : (tables : Tables) (kind : ℕ) (entry : RecordType) → keeps_rules tables ≡ true → slice_get tables.records kind ≡ Some entry
    → length entry.fields ≤ 65535
few_fields tables kind entry rules at =
    leb-true _ _
    (right _ _ (left _ _ (at_place (is_record (length tables.strings) (length tables.fields)) tables.records kind entry (records_fit tables rules) at)))

-- no function has a number of more than 32 bits
pub none_past : (n : ℕ) → n ≡ 4294967296 → func_of n ≡ None
none_past n e = ap func_of e
