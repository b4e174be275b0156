-- What the scanner finds at a place is the longest token there.
use Rattle.std.proofs.Common.{◌≡◌, ℕ, ◌+◌, ◌<◌, ◌≤◌, zero, suc, Bool, true, false, cond, ◌&&◌, List, [], ◌∷◌, length, take, drop, get_or, Option, None, Some, Result, Ok, Err, refl, sym, ap, ◌∙◌, arith, ◌⊎◌, inl, inr}
use Rattle.std.specs.List.{prefix_len, list_all}
use Rattle.std.proofs.lemmas.Bool.{false≢true, cases_lt}
use Rattle.std.proofs.lemmas.List.{length-take-le, get_or-take, drop-take}
use Rattle.std.proofs.lemmas.Option.{none-some, same_Some}
use Rattle.std.proofs.lemmas.List.Folds.{list_all_at}
use Rattle.std.proofs.lemmas.List.Sums.{prefix_len_stops}
use Rattle.icn_tree.specs.declared.rule.Rule.{Rule}
use Rattle.icn_tree.specs.declared.token.Kind.{Kind}
use Rattle.icn_tree.specs.Tokens.{longer, longest, front_token}

abbrev Sense : Type 0
Sense = List ℕ → Option (Result Kind Rule)

longer_some : (found : Option (Result Kind Rule)) (x : Result Kind Rule) (count : ℕ) (shorter : Option (Result Kind Rule × ℕ)) → found ≡ Some x
    → longer found count shorter ≡ Some (x, count)
longer_some found x count shorter e = rw e refl

longer_none : (found : Option (Result Kind Rule)) (count : ℕ) (shorter : Option (Result Kind Rule × ℕ)) → found ≡ None → longer found count shorter ≡ shorter
longer_none found count shorter e = rw e refl

longest_step : (sense : Sense) (n count : ℕ) (bytes : List ℕ) (x : Result Kind Rule) → 0 < count → sense (take count bytes) ≡ Some x
    → ((m : ℕ) → count < m → m ≤ suc n → sense (take m bytes) ≡ None) → (count < suc n) ⊎ (suc n ≤ count) → count ≤ suc n
    → (count ≤ n → longest sense n bytes ≡ Some (x, count)) → longest sense (suc n) bytes ≡ Some (x, count)
longest_step sense n count bytes x p is none (inl l) h below =
    longer_none (sense (take (suc n) bytes)) (suc n) (longest sense n bytes) (none (suc n) l (omega arith)) ∙ below (omega arith)
longest_step sense n count bytes x p is none (inr l) h below =
    let same : count ≡ suc n = omega arith in
    let here : sense (take (suc n) bytes) ≡ Some x = ap (λ k. sense (take k bytes)) (sym same) ∙ is in
    longer_some (sense (take (suc n) bytes)) x (suc n) (longest sense n bytes) here ∙ ap (λ k. Some (x, k)) (sym same)

-- a front that is something, and no longer one is
pub longest_is : (sense : Sense) (n count : ℕ) (bytes : List ℕ) (x : Result Kind Rule) → 0 < count → count ≤ n → sense (take count bytes) ≡ Some x
    → ((m : ℕ) → count < m → m ≤ n → sense (take m bytes) ≡ None) → longest sense n bytes ≡ Some (x, count)
longest_is sense zero count bytes x p h is none = absurd (omega arith)
longest_is sense (suc n) count bytes x p h is none =
    longest_step sense n count bytes x p is none (cases_lt count (suc n)) h (λ l. longest_is sense n count bytes x p l is (λ m g k. none m g (omega arith)))

pub longest_none : (sense : Sense) (n : ℕ) (bytes : List ℕ) → ((m : ℕ) → 0 < m → m ≤ n → sense (take m bytes) ≡ None) → longest sense n bytes ≡ None
longest_none sense zero bytes none = refl
longest_none sense (suc n) bytes none =
    longer_none (sense (take (suc n) bytes)) (suc n) (longest sense n bytes) (none (suc n) (omega arith) (omega arith))
    ∙ longest_none sense n bytes (λ m g k. none m g (omega arith))

-- two senses of the same fronts
pub longest_same : (f g : Sense) (n : ℕ) (bytes : List ℕ) → ((m : ℕ) → 0 < m → m ≤ n → f (take m bytes) ≡ g (take m bytes))
    → longest f n bytes ≡ longest g n bytes
longest_same f g zero bytes same = refl
longest_same f g (suc n) bytes same =
    ap (λ found. longer found (suc n) (longest f n bytes)) (same (suc n) (omega arith) (omega arith))
    ∙ ap (longer (g (take (suc n) bytes)) (suc n)) (longest_same f g n bytes (λ m p h. same m p (omega arith)))

within_step : (found : Option (Result Kind Rule)) (n : ℕ) (shorter : Option (Result Kind Rule × ℕ)) (x : Result Kind Rule) (count : ℕ)
    → longer found (suc n) shorter ≡ Some (x, count)
    → (shorter ≡ Some (x, count) → (0 < count) × (count ≤ n)) → (0 < count) × (count ≤ suc n)
within_step (Some k) n shorter x count e below =
    let same : suc n ≡ count = ap (λ (p : Result Kind Rule × ℕ). p.1) (same_Some (k, suc n) (x, count) e) in (omega arith, omega arith)
within_step None n shorter x count e below = (omega (arith, (below e).0), omega (arith, (below e).1))

-- the longest is one of the fronts
pub longest_within : (sense : Sense) (n : ℕ) (bytes : List ℕ) (x : Result Kind Rule) (count : ℕ) → longest sense n bytes ≡ Some (x, count)
    → (0 < count) × (count ≤ n)
longest_within sense zero bytes x count e = absurd (none-some _ e)
longest_within sense (suc n) bytes x count e =
    within_step (sense (take (suc n) bytes)) n (longest sense n bytes) x count e (longest_within sense n bytes x count)

count_of : Result (Kind × ℕ) Rule → ℕ
count_of (Ok found) = found.1
count_of (Err rule) = 0

same_count : (k kind : Kind) (m count : ℕ) → ◌≡◌ {A = Result (Kind × ℕ) Rule} (Ok (k, m)) (Ok (kind, count)) → m ≡ count
unfolding count_of
same_count k kind m count e = ap count_of e

judged_within : (sense : Sense) (n : ℕ) (bytes : List ℕ) (kind : Kind) (count : ℕ) (found : Option (Result Kind Rule × ℕ)) → longest sense n bytes ≡ found
    → front_token found ≡ Ok (kind, count)
    → (0 < count) × (count ≤ n)
judged_within sense n bytes kind count None is e = absurd (cc)
judged_within sense n bytes kind count (Some (Ok k, m)) is e =
    let same : m ≡ count = same_count k kind m count e in
    let within = longest_within sense n bytes (Ok k) m is in
    (omega (arith, within.0, same), omega (arith, within.1, same))
judged_within sense n bytes kind count (Some (Err rule, m)) is e = absurd (cc)

pub first_within : (sense : Sense) (n : ℕ) (bytes : List ℕ) (kind : Kind) (count : ℕ) → front_token (longest sense n bytes) ≡ Ok (kind, count)
    → (0 < count) × (count ≤ n)
first_within sense n bytes kind count e = judged_within sense n bytes kind count (longest sense n bytes) refl e

-- Runs of bytes

front_step : (p : ℕ → Bool) (x : ℕ) (xs : List ℕ) (k : ℕ) (passes : Bool) → p x ≡ passes → suc k ≤ cond passes (1 + prefix_len p xs) 0
    → (k ≤ prefix_len p xs → list_all p (take k xs) ≡ true)
    → (p x && list_all p (take k xs)) ≡ true
front_step p x xs k true e h rest = rw (e, rest (omega arith)) refl
front_step p x xs k false e h rest = absurd (omega arith)

-- the bytes up to the first that fails pass
pub front_passes : (p : ℕ → Bool) (xs : List ℕ) (k : ℕ) → k ≤ prefix_len p xs → list_all p (take k xs) ≡ true
front_passes p xs zero h = refl
front_passes p [] (suc k) h = refl
front_passes p (x ∷ xs) (suc k) h = front_step p x xs k (p x) refl h (front_passes p xs k)

-- a front with the first byte that fails does not
pub front_fails : (p : ℕ → Bool) (xs : List ℕ) (k : ℕ) → prefix_len p xs < k → k ≤ length xs → list_all p (take k xs) ≡ false
front_fails p xs k l h =
    let n = prefix_len p xs in
    let fails : p (get_or (take k xs) n 0) ≡ false = rw get_or-take (prefix_len_stops p xs 0 (omega arith)) in
    list_all_at p (take k xs) n 0 (omega (arith, length-take-le k xs h)) fails

run_step : (p : ℕ → Bool) (x : ℕ) (xs ys : List ℕ) (passes : Bool) → p x ≡ passes → (passes ≡ true → prefix_len p ys ≡ prefix_len p xs)
    → cond passes (1 + prefix_len p ys) 0 ≡ cond passes (1 + prefix_len p xs) 0
run_step p x xs ys true e same = ap (λ n. 1 + n) (same refl)
run_step p x xs ys false e same = refl

room : (n m : ℕ) (passes : Bool) → passes ≡ true → cond passes (1 + n) 0 ≤ suc m → n ≤ m
room n m true e h = omega arith
room n m false e h = absurd (false≢true e)

-- the run at the front of a front that has all of it
pub run_of_front : (p : ℕ → Bool) (xs : List ℕ) (m : ℕ) → prefix_len p xs ≤ m → prefix_len p (take m xs) ≡ prefix_len p xs
run_of_front p [] zero h = refl
run_of_front p [] (suc m) h = refl
run_of_front p (x ∷ xs) zero h = let none : prefix_len p (x ∷ xs) ≡ 0 = omega arith in sym none
run_of_front p (x ∷ xs) (suc m) h = run_step p x xs (take m xs) (p x) refl (λ e. run_of_front p xs m (room (prefix_len p xs) m (p x) e h))

pub take_front : (n m : ℕ) (xs : List ℕ) → n ≤ m → take n (take m xs) ≡ take n xs
take_front zero m xs h = refl
take_front (suc n) zero xs h = absurd (omega arith)
take_front (suc n) (suc m) [] h = refl
take_front (suc n) (suc m) (x ∷ xs) h = ap (λ ys. x ∷ ys) (take_front n m xs (omega arith))

pub drop_front : (n k : ℕ) (xs : List ℕ) → drop n (take (n + k) xs) ≡ take k (drop n xs)
drop_front n k xs = drop-take n k xs
