-- Lists of what differs, is in order, or passes a test, one item after the other.
use Rattle.std.proofs.Common.{◌≡◌, ℕ, ◌-◌, suc, Bool, true, false, cond, not, ◌&&◌, ◌||◌, nat_le, List, [], ◌∷◌, ◌++◌, length, refl, sym, ◌∙◌, ap, arith}
use Rattle.std.specs.Prelude.{slice_get}
use Rattle.std.specs.List.{list_all, list_any}
use Rattle.std.specs.Option.{option_map_or}
use Rattle.std.specs.Str.{bytes_eq}
use Rattle.std.proofs.lemmas.Bool.{false≢true}
use Rattle.std.proofs.lemmas.Bool.Decides.{nat_tests}
use Rattle.icn_unit.specs.declared.unit.UnitName.{UnitName}
use Rattle.icn_unit.specs.UnitRules.{all_differ, in_order, is_among, rank}
use Rattle.icn_ucode.specs.UnitReading.{last_rank}
use Rattle.icn_ucode.proofs.KnownNames.{any_last}

-- both parts of a conjunction that is true are true
pub and_parts : (x y : Bool) → (x && y) ≡ true → (x ≡ true) × (y ≡ true)
and_parts true y h = (refl, h)
and_parts false y h = absurd (false≢true h)

-- a conjunction of what is true is true
pub and_intro : (x y : Bool) → x ≡ true → y ≡ true → (x && y) ≡ true
and_intro true y h g = g
and_intro false y h g = absurd (false≢true h)

pub neither : (x y : Bool) → (x || y) ≡ false → (x ≡ false) × (y ≡ false)
neither true y h = absurd (false≢true (sym h))
neither false y h = (refl, h)

pub nor : (x y : Bool) → x ≡ false → y ≡ false → (x || y) ≡ false
nor true y h g = absurd (false≢true (sym h))
nor false y h g = g

pub not_true : (x : Bool) → not x ≡ true → x ≡ false
not_true true h = absurd (false≢true h)
not_true false h = refl

pub not_of_false : (x : Bool) → x ≡ false → not x ≡ true
not_of_false x h = ap not h

-- Tests

pub all_at : {A : Type 0} (p : A → Bool) (done : List A) (x : A) (rest : List A) → list_all p (done ++ x ∷ rest) ≡ true → p x ≡ true
all_at p [] x rest h = (and_parts (p x) (list_all p rest) h).0
all_at p (y ∷ done) x rest h = all_at p done x rest (and_parts (p y) (list_all p (done ++ x ∷ rest)) h).1

pub all_last : {A : Type 0} (p : A → Bool) (xs : List A) (x : A) → list_all p xs ≡ true → p x ≡ true → list_all p (xs ++ x ∷ []) ≡ true
all_last p [] x h g = and_intro (p x) true g refl
all_last p (y ∷ xs) x h g = let parts = and_parts (p y) (list_all p xs) h in and_intro (p y) (list_all p (xs ++ x ∷ [])) parts.0 (all_last p xs x parts.1 g)

-- What differs

none_at : {A : Type 0} (p : A → Bool) (done : List A) (x : A) (rest : List A) → list_any p (done ++ x ∷ rest) ≡ false → p x ≡ false
none_at p [] x rest h = (neither (p x) (list_any p rest) h).0
none_at p (y ∷ done) x rest h = none_at p done x rest (neither (p y) (list_any p (done ++ x ∷ rest)) h).1

pub differs_at : {A : Type 0} (same : A → A → Bool) → ((x y : A) → same x y ≡ same y x) → (done : List A) (x : A) (rest : List A)
    → all_differ same (done ++ x ∷ rest) ≡ true → is_among same done x ≡ false
differs_at same turned [] x rest h = refl
differs_at same turned (y ∷ done) x rest h =
    let parts = and_parts (not (is_among same (done ++ x ∷ rest) y)) (all_differ same (done ++ x ∷ rest)) h in
    let other = none_at (λ z. same y z) done x rest (not_true (is_among same (done ++ x ∷ rest) y) parts.0) in
    nor (same x y) (is_among same done x) (turned x y ∙ other) (differs_at same turned done x rest parts.1)

pub differs_behind : (done : List (List ℕ)) (x : List ℕ) (rest : List (List ℕ)) → all_differ bytes_eq (done ++ x ∷ rest) ≡ true
    → is_among bytes_eq rest x ≡ false
differs_behind [] x rest h = not_true (is_among bytes_eq rest x) (and_parts (not (is_among bytes_eq rest x)) (all_differ bytes_eq rest) h).0
differs_behind (y ∷ done) x rest h =
    differs_behind done x rest (and_parts (not (is_among bytes_eq (done ++ x ∷ rest) y)) (all_differ bytes_eq (done ++ x ∷ rest)) h).1

pub differ_last : {A : Type 0} (same : A → A → Bool) → ((x y : A) → same x y ≡ same y x) → (xs : List A) (x : A) → all_differ same xs ≡ true
    → is_among same xs x ≡ false → all_differ same (xs ++ x ∷ []) ≡ true
differ_last same turned [] x h g = refl
differ_last same turned (y ∷ xs) x h g =
    let parts = and_parts (not (is_among same xs y)) (all_differ same xs) h in
    let others = neither (same x y) (is_among same xs x) g in
    let among : is_among same (xs ++ x ∷ []) y ≡ false =
    any_last (λ z. same y z) xs x ∙ (ap (λ test. cond test true (is_among same xs y)) (turned y x ∙ others.0) ∙ not_true (is_among same xs y) parts.0) in
    and_intro (not (is_among same (xs ++ x ∷ []) y)) (all_differ same (xs ++ x ∷ [])) (not_of_false (is_among same (xs ++ x ∷ []) y) among)
    (differ_last same turned xs x parts.1 others.1)

-- The order of names

at_least_zero : (n : ℕ) → nat_le 0 n ≡ true
at_least_zero n = grind (arith, nat_tests)

rank_behind : (a b : UnitName) (rest : List UnitName) → last_rank (a ∷ b ∷ rest) ≡ last_rank (b ∷ rest)
rank_behind a b rest =
    let one_less : length (a ∷ b ∷ rest) - 1 ≡ suc (length (b ∷ rest) - 1) = omega arith in
    ap (λ i. option_map_or (λ (name : UnitName). rank name.kind) (slice_get (a ∷ b ∷ rest) i) 0) one_less

pub in_order_at : (done : List UnitName) (x : UnitName) (rest : List UnitName) → in_order (done ++ x ∷ rest) ≡ true
    → nat_le (last_rank done) (rank x.kind) ≡ true
in_order_at [] x rest h = at_least_zero (rank x.kind)
in_order_at (a ∷ []) x rest h = (and_parts (nat_le (rank a.kind) (rank x.kind)) (in_order (x ∷ rest)) h).0
in_order_at (a ∷ b ∷ done) x rest h =
    ap (λ r. nat_le r (rank x.kind)) (rank_behind a b done)
    ∙ in_order_at (b ∷ done) x rest (and_parts (nat_le (rank a.kind) (rank b.kind)) (in_order ((b ∷ done) ++ x ∷ rest)) h).1

pub in_order_last : (xs : List UnitName) (x : UnitName) → in_order xs ≡ true → nat_le (last_rank xs) (rank x.kind) ≡ true → in_order (xs ++ x ∷ []) ≡ true
in_order_last [] x h g = refl
in_order_last (a ∷ []) x h g = and_intro (nat_le (rank a.kind) (rank x.kind)) true g refl
in_order_last (a ∷ b ∷ xs) x h g =
    let parts = and_parts (nat_le (rank a.kind) (rank b.kind)) (in_order (b ∷ xs)) h in
    and_intro (nat_le (rank a.kind) (rank b.kind)) (in_order ((b ∷ xs) ++ x ∷ [])) parts.0
    (in_order_last (b ∷ xs) x parts.1 (ap (λ r. nat_le r (rank x.kind)) (sym (rank_behind a b xs)) ∙ g))
