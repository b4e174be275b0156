-- Lemmas on the members of a set.
use Rattle.std.proofs.Common.{zero, suc, ◌≡◌, ◌≢◌, ◌==◌, ◌<◌, ◌+◌, ◌||◌, ◌++◌, ◌∷◌, [], ℕ, List, Bool, true, false, cond, refl, ap, sym, ◌∙◌, length, take, get_or, set, add-one, get_or-set_other, Fits, w8, arith, get_or-set_same, subst}
use Rattle.std.proofs.lemmas.Bool.{eqb-false, eqb-true}
use Rattle.std.proofs.lemmas.List.{append-nil}
use Rattle.std.proofs.Math.Bool.{or-true, or-false}
use Rattle.std.proofs.lemmas.List.Folds.{list_any_more}
use Rattle.std.specs.List.{list_any}
use Rattle.std.specs.Prelude.{◌&&◌, nat_lt}
use Rattle.std.specs.List.{list_all}
use Rattle.std.proofs.lemmas.Bool.{false≢true}
use Rattle.std.proofs.lemmas.Bool.Decides.{nat_tests}
use Rattle.icn_tree.specs.ByteSets.{members_below, members_of}
use Rattle.icn_tree.specs.TokenBounds.{ascends, is_byte}

pub members_below-zero : (bytes : List ℕ) → members_below 0 bytes ≡ []
unfolding members_below
members_below-zero bytes = refl

members_below-one : (n : ℕ) (bytes : List ℕ) → members_below (n + 1) bytes ≡ members_below n bytes ++ cond (list_any (λ b. b == n) bytes) (n ∷ []) []
unfolding members_below
members_below-one n bytes = rw add-one refl

-- a member comes in, as at a step of a loop
pub member_joins : (n : ℕ) (bytes members : List ℕ) → members ≡ members_below n bytes → list_any (λ b. b == n) bytes ≡ true
    → members ++ n ∷ [] ≡ members_below (n + 1) bytes
member_joins n bytes members so found = ap (λ m. m ++ n ∷ []) so ∙ sym (members_below-one n bytes ∙ ap (λ b. members_below n bytes ++ cond b (n ∷ []) []) found)

-- another byte does not
pub other_stays : (n : ℕ) (bytes members : List ℕ) → members ≡ members_below n bytes → list_any (λ b. b == n) bytes ≡ false
    → members ≡ members_below (n + 1) bytes
other_stays n bytes members so found =
    so ∙ sym (members_below-one n bytes ∙ ap (λ b. members_below n bytes ++ cond b (n ∷ []) []) found ∙ append-nil (members_below n bytes))

marked : (present : List Bool) (byte k : ℕ) (before : Bool) (same : Bool) → (byte == k) ≡ same → byte < length present → get_or present k false ≡ before
    → get_or (set present byte true) k false ≡ (before || same)
marked present byte k before true is within was = subst (λ q. get_or (set present byte true) q false ≡ (before || true)) (eqb-true byte k is)
    (get_or-set_same present byte true false within ∙ sym (or-true before))
marked present byte k before false is within was =
    let other : k ≢ byte = λ e. eqb-false byte k is (sym e) in get_or-set_other present byte k true false other ∙ was ∙ sym (or-false before)

-- of each byte whether it stands in the first bytes of a list, as the next one is marked
pub mark_more : (present : List Bool) (bytes : List ℕ) (i byte : ℕ) → byte ≡ get_or bytes i 0 → i < length bytes → Fits w8 byte → length present ≡ 256
    → ((k : ℕ) → k < 256 → get_or present k false ≡ list_any (λ b. b == k) (take i bytes))
    → (k : ℕ) → k < 256 → get_or (set present byte true) k false ≡ list_any (λ b. b == k) (take (i + 1) bytes)
mark_more present bytes i byte is within fits size before k below =
    let inside : byte < length present = rw size (grind (arith, fits)) in
    marked present byte k (list_any (λ b. b == k) (take i bytes)) (byte == k) refl inside (before k below)
    ∙ ap (λ b. list_any (λ b. b == k) (take i bytes) || (b == k)) is
    ∙ sym (list_any_more (λ b. b == k) bytes i 0 within)

-- The members ascend

are_both : (x y : Bool) → (x && y) ≡ true → (x ≡ true) × (y ≡ true)
are_both true y h = (refl, h)
are_both false y h = absurd (false≢true h)

join : (x y : Bool) → x ≡ true → y ≡ true → (x && y) ≡ true
join true y h g = g
join false y h g = absurd (false≢true h)

ascends_more : (n : ℕ) (xs : List ℕ) → ascends xs ≡ true → list_all (λ b. nat_lt b n) xs ≡ true → ascends (xs ++ n ∷ []) ≡ true
ascends_more n [] h below = refl
ascends_more n (a ∷ []) h below = join (nat_lt a n) true (are_both (nat_lt a n) true below).0 refl
ascends_more n (a ∷ b ∷ rest) h below =
    let parts = are_both (nat_lt a b) (ascends (b ∷ rest)) h in
    join (nat_lt a b) (ascends (b ∷ (rest ++ n ∷ []))) parts.0
    (ascends_more n (b ∷ rest) parts.1 (are_both (nat_lt a n) (list_all (λ b. nat_lt b n) (b ∷ rest)) below).1)

less_than_more : (a n : ℕ) → nat_lt a n ≡ true → nat_lt a (n + 1) ≡ true
less_than_more a n h = grind (arith, nat_tests)

less_than_next : (n : ℕ) → nat_lt n (n + 1) ≡ true
less_than_next n = grind (arith, nat_tests)

below_more : (n : ℕ) (xs : List ℕ) → list_all (λ b. nat_lt b n) xs ≡ true → list_all (λ b. nat_lt b (n + 1)) (xs ++ n ∷ []) ≡ true
below_more n [] h = join (nat_lt n (n + 1)) true (less_than_next n) refl
below_more n (a ∷ rest) h =
    let parts = are_both (nat_lt a n) (list_all (λ b. nat_lt b n) rest) h in
    join (nat_lt a (n + 1)) (list_all (λ b. nat_lt b (n + 1)) (rest ++ n ∷ [])) (less_than_more a n parts.0) (below_more n rest parts.1)

below_same : (n : ℕ) (xs : List ℕ) → list_all (λ b. nat_lt b n) xs ≡ true → list_all (λ b. nat_lt b (n + 1)) xs ≡ true
below_same n [] h = refl
below_same n (a ∷ rest) h =
    let parts = are_both (nat_lt a n) (list_all (λ b. nat_lt b n) rest) h in
    join (nat_lt a (n + 1)) (list_all (λ b. nat_lt b (n + 1)) rest) (less_than_more a n parts.0) (below_same n rest parts.1)

abbrev AscendBelow : ℕ → List ℕ → Type 0
AscendBelow n xs = (ascends xs ≡ true) × (list_all (λ b. nat_lt b n) xs ≡ true)

ascend_step : (found : Bool) (n : ℕ) (xs : List ℕ) → AscendBelow n xs → AscendBelow (n + 1) (xs ++ cond found (n ∷ []) [])
ascend_step true n xs h = (ascends_more n xs h.0 h.1, below_more n xs h.1)
ascend_step false n xs h = subst (AscendBelow (n + 1)) (sym (append-nil xs)) (h.0, below_same n xs h.1)

ascend_below : (n : ℕ) (bytes : List ℕ) → AscendBelow n (members_below n bytes)
ascend_below zero bytes = subst (AscendBelow zero) (sym (members_below-zero bytes)) (refl, refl)
ascend_below (suc n) bytes =
    rw (← add-one) (subst (AscendBelow (n + 1)) (sym (members_below-one n bytes))
    (ascend_step (list_any (λ b. b == n) bytes) n (members_below n bytes) (ascend_below n bytes)))

pub members_ascend : (bytes : List ℕ) → (ascends (members_of bytes) ≡ true) × (list_all is_byte (members_of bytes) ≡ true)
members_ascend bytes = ascend_below 256 bytes
