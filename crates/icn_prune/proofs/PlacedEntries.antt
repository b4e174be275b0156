-- Entries that are mentioned have a place among those that stay, at which they stand.
use Rattle.std.proofs.Common.{◌≡◌, ◌⊎◌, inl, inr, ◌||◌, ℕ, zero, suc, ◌+◌, ◌<◌, ◌≤◌, ◌^◌, Bool, true, false, List, [], ◌∷◌, ◌++◌, length, map, replicate, Option, None, Some, if◌then◌else◌, refl, sym, ap, ◌∙◌, subst, arith, get_or}
use Rattle.std.specs.Prelude.{◌==◌, slice_get, slice_set}
use Rattle.std.specs.List.{list_all, list_any}
use Rattle.std.proofs.lemmas.Bool.{and_from, and_parts, eq-eqb, or_left, or_right}
use Rattle.std.proofs.lemmas.Bool.Decides.{eqb_tells}
use Rattle.std.proofs.lemmas.List.Folds.{list_any-append}
use Rattle.std.proofs.lemmas.Option.{slice_get_within}
use Rattle.icn_prune.specs.PrunedCode.{kept_from_place, new_place, with_place, with_places}
use Rattle.icn_prune.specs.Renumbering.{ArePlaces}
use Rattle.icn_prune.proofs.LeastSets.{Each, each_join, each_so}
use Rattle.icn_prune.proofs.StandingPlaces.{at_any, new_told, nothing_stays, one_more, set_long, with_away, with_there}
use Rattle.icn_prune.proofs.AscendingPlaces.{kept_ascend, kept_within, with_ascending}

-- it is among these
abbrev pub IsAmong : List ℕ → ℕ → Type 0
IsAmong left p = list_any (λ other. other == p) left ≡ true

-- it has a place among these, at which it stands
pub record Finds (left : List ℕ) (p : ℕ) : Type 0 where
  pub below : new_place left p < length left
  pub stands : slice_get left (new_place left p) ≡ Some p

-- What is mentioned is among what stays

one_stays : (table : List ℕ) (q p : ℕ) → IsAmong table p → IsAmong (with_place table q) p
one_stays table q p h = by (list_any (λ other. other == q) table)
  where
    by : (held : Bool) → IsAmong (if held then table else table ++ q ∷ []) p
    by true = h
    by false = list_any-append (λ other. other == p) table (q ∷ []) ∙ or_left _ _ h

one_there : (table : List ℕ) (p : ℕ) → IsAmong (with_place table p) p
one_there table p = by (list_any (λ other. other == p) table) refl
  where
    by : (held : Bool) → list_any (λ other. other == p) table ≡ held → IsAmong (if held then table else table ++ p ∷ []) p
    by true e = e
    by false e = list_any-append (λ other. other == p) table (p ∷ []) ∙ or_right _ _ (or_left (p == p) false (eq-eqb p p refl))

stays : (ms table : List ℕ) (p : ℕ) → IsAmong table p → IsAmong (with_places table ms) p
stays [] table p h = h
stays (m ∷ ms) table p h = stays ms (with_place table m) p (one_stays table m p h)

among_all : (ms table : List ℕ) → Each (IsAmong (with_places table ms)) ms
among_all [] table = tt
among_all (m ∷ ms) table = (stays ms (with_place table m) m (one_there table m), among_all ms (with_place table m))

-- whatever holds of a table and of what is mentioned holds of what stays
each_one : (P : ℕ → Type 0) (table : List ℕ) (p : ℕ) → Each P table → P p → Each P (with_place table p)
each_one P table p e h = by (list_any (λ other. other == p) table)
  where
    by : (held : Bool) → Each P (if held then table else table ++ p ∷ [])
    by true = e
    by false = each_join P table (p ∷ []) e (h, tt)

or_false : (b : Bool) → (b || false) ≡ b
or_false true = refl
or_false false = refl

or_assoc : (a b c : Bool) → ((a || b) || c) ≡ (a || (b || c))
or_assoc true b c = refl
or_assoc false b c = refl

-- what is among the places with one more
one_among : (table : List ℕ) (q p : ℕ) → list_any (λ other. other == p) (with_place table q) ≡ (list_any (λ other. other == p) table || (q == p))
one_among table q p = by (list_any (λ other. other == q) table) refl
  where
    same : IsAmong table q → (((q == p) ≡ true) × (q ≡ p)) ⊎ (((q == p) ≡ false) × (q ≡ p → ⊥))
        → list_any (λ other. other == p) table ≡ (list_any (λ other. other == p) table || (q == p))
    same h (inl e) = let there = subst (IsAmong table) e.1 h in there ∙ sym (or_left (list_any (λ other. other == p) table) (q == p) there)
    same h (inr e) = sym (or_false (list_any (λ other. other == p) table)) ∙ ap (λ b. list_any (λ other. other == p) table || b) (sym e.0)

    by : (held : Bool) → list_any (λ other. other == q) table ≡ held
        → list_any (λ other. other == p) (if held then table else table ++ q ∷ []) ≡ (list_any (λ other. other == p) table || (q == p))
    by true e = same e (eqb_tells q p)
    by false e = list_any-append (λ other. other == p) table (q ∷ [])
        ∙ ap (λ b. list_any (λ other. other == p) table || b) (or_false (q == p))

-- what is among the places with others is among one of both
pub among_places : (table ms : List ℕ) (p : ℕ)
    → list_any (λ other. other == p) (with_places table ms) ≡ (list_any (λ other. other == p) table || list_any (λ other. other == p) ms)
among_places table [] p = sym (or_false (list_any (λ other. other == p) table))
among_places table (m ∷ ms) p =
    among_places (with_place table m) ms p ∙ ap (λ b. b || list_any (λ other. other == p) ms) (one_among table m p)
    ∙ or_assoc (list_any (λ other. other == p) table) (m == p) (list_any (λ other. other == p) ms)

pub each_with : (P : ℕ → Type 0) (ms table : List ℕ) → Each P table → Each P ms → Each P (with_places table ms)
each_with P [] table e f = e
each_with P (m ∷ ms) table e f = each_with P ms (with_place table m) (each_one P table m e f.0) f.1

-- What stays stands each once

-- so many entries a table has, and what stays of it has new places
abbrev Stands : ℕ → List ℕ → Type 0
Stands n left = (new : List (Option ℕ)) × (ArePlaces left new) × (length new ≡ n)

one_stands : (n : ℕ) (left : List ℕ) (p : ℕ) → Stands n left → p < n → Stands n (with_place left p)
one_stands n left p s l = by (list_any (λ other. other == p) left) refl
  where
    by : (held : Bool) → list_any (λ other. other == p) left ≡ held → Stands n (with_place left p)
    by true e = subst (Stands n) (sym (with_there left p e)) s
    by false e =
        let size = s.2 in
        let within : p < length s.0 = omega (arith, l, size) in
        subst (Stands n) (sym (with_away left p e))
        (slice_set s.0 p (Some (length left)), one_more left s.0 s.1 p within e, set_long s.0 p (Some (length left)) ∙ size)

all_stand : (n : ℕ) (ms left : List ℕ) → Stands n left → Each (λ p. p < n) ms → Stands n (with_places left ms)
all_stand n [] left s e = s
all_stand n (m ∷ ms) left s e = all_stand n ms (with_place left m) (one_stands n left m s e.0) e.1

none_stand : (n : ℕ) → n < 2 ^ 32 → Stands n []
none_stand n few = (replicate n None, nothing_stays n few, none_long n)
  where
    none_long : (k : ℕ) → length (replicate {A = Option ℕ} k None) ≡ k
    none_long zero = refl
    none_long (suc k) = ap suc (none_long k)

pub mentioned_stand : (n : ℕ) (ms : List ℕ) → n < 2 ^ 32 → Each (λ p. p < n) ms → Stands n (with_places [] ms)
mentioned_stand n ms few e = all_stand n ms [] (none_stand n few) e

-- there are no more of them than entries
few_stand : (n : ℕ) (left : List ℕ) → Stands n left → length left ≤ n
few_stand n left s = let all = s.1.counted in let size = s.2 in omega (arith, all, size)

finds_one : (n : ℕ) (left : List ℕ) (p : ℕ) → Stands n left → IsAmong left p → Finds left p
finds_one n left p s h =
    let found = at_any left p h in
    let place : new_place left p ≡ found.0 = new_told left s.0 s.1 p found.0 (s.1.stands found.0 p found.1) in
    let within = slice_get_within left found.0 p found.1 in
    record { below = omega (arith, place, within); stands = ap (slice_get left) place ∙ found.1 }

pub few_left : (n : ℕ) (ms : List ℕ) → n < 2 ^ 32 → Each (λ p. p < n) ms → length (with_places [] ms) ≤ n
few_left n ms few e = few_stand n (with_places [] ms) (mentioned_stand n ms few e)

pub all_found : (n : ℕ) (ms : List ℕ) → n < 2 ^ 32 → Each (λ p. p < n) ms → Each (Finds (with_places [] ms)) ms
all_found n ms few e =
    each_so (IsAmong (with_places [] ms)) (Finds (with_places [] ms)) (λ p h. finds_one n (with_places [] ms) p (mentioned_stand n ms few e) h) ms
    (among_all ms [])

-- those that ascend stay as they are
pub ascending_found : (n : ℕ) (l : List ℕ) → n < 2 ^ 32 → Each (λ p. p < n) l → with_places [] l ≡ l → (p : ℕ) → IsAmong l p → Finds l p
ascending_found n l few e same p h = finds_one n l p (subst (Stands n) same (mentioned_stand n l few e)) h

-- Kept procedures

kept_among : (n : ℕ) (keep : List Bool) (k : ℕ) → get_or keep k false ≡ true → IsAmong (kept_from_place n keep) (n + k)
kept_among n [] k h = absurd (cc)
kept_among n (true ∷ keep) zero h = let same : n ≡ n + 0 = omega arith in
    or_left (n == n + 0) (list_any (λ other. other == n + 0) (kept_from_place (suc n) keep)) (eq-eqb n (n + 0) same)
kept_among n (false ∷ keep) zero h = absurd (cc)
kept_among n (true ∷ keep) (suc k) h =
    or_right (n == n + suc k) (list_any (λ other. other == n + suc k) (kept_from_place (suc n) keep))
    (subst (IsAmong (kept_from_place (suc n) keep)) (next n k) (kept_among (suc n) keep k h))
  where
    next : (a b : ℕ) → suc a + b ≡ a + suc b
    next a b = omega arith
kept_among n (false ∷ keep) (suc k) h = subst (IsAmong (kept_from_place (suc n) keep)) (next n k) (kept_among (suc n) keep k h)
  where
    next : (a b : ℕ) → suc a + b ≡ a + suc b
    next a b = omega arith

pub kept_once : (keep : List Bool) → with_places [] (kept_from_place 0 keep) ≡ kept_from_place 0 keep
kept_once keep = with_ascending [] (kept_from_place 0 keep) 0 tt (kept_ascend 0 keep)

pub kept_found : (keep : List Bool) (k : ℕ) → length keep < 2 ^ 32 → get_or keep k false ≡ true → Finds (kept_from_place 0 keep) k
kept_found keep k few h =
    ascending_found (length keep) (kept_from_place 0 keep) few
    (each_so (λ m. m < 0 + length keep) (λ m. m < length keep) (λ m l. omega (arith, l)) (kept_from_place 0 keep) (kept_within 0 keep)) (kept_once keep) k
    (subst (IsAmong (kept_from_place 0 keep)) (zero_less k) (kept_among 0 keep k h))
  where
    zero_less : (n : ℕ) → 0 + n ≡ n
    zero_less n = omega arith

-- Lists of what was looked up

pub each_unmapped : {A B : Type 0} (P : B → Type 0) (Q : A → Type 0) (f : A → B) → ((x : A) → P (f x) → Q x) → (xs : List A) → Each P (map f xs) → Each Q xs
each_unmapped P Q f g [] e = tt
each_unmapped P Q f g (x ∷ xs) e = (g x e.0, each_unmapped P Q f g xs e.1)

pub all_indexed : {A B : Type 0} (test : B → Bool) (f : A → B) (P : A → Type 0) → ((x : A) → P x → test (f x) ≡ true) → (xs : List A) → Each P xs
    → list_all test (map f xs) ≡ true
all_indexed test f P g [] e = refl
all_indexed test f P g (x ∷ xs) e = and_from (test (f x)) (list_all test (map f xs)) (g x e.0) (all_indexed test f P g xs e.1)

-- an entry of a table of which all pass
pub passes_at : {A : Type 0} (test : A → Bool) (xs : List A) (d : A) (p : ℕ) → list_all test xs ≡ true → p < length xs → test (get_or xs p d) ≡ true
passes_at test [] d p h l = absurd (omega (arith, l))
passes_at test (x ∷ xs) d zero h l = (and_parts (test x) (list_all test xs) h).0
passes_at test (x ∷ xs) d (suc p) h l = passes_at test xs d p (and_parts (test x) (list_all test xs) h).1 (omega (arith, l))

-- both at once
pub each_both : {A : Type 0} (P Q : A → Type 0) (xs : List A) → Each P xs → Each Q xs → Each (λ x. P x × Q x) xs
each_both P Q [] e f = tt
each_both P Q (x ∷ xs) e f = ((e.0, f.0), each_both P Q xs e.1 f.1)

-- what passes a test, as each
pub each_passing : {A : Type 0} (test : A → Bool) (xs : List A) → list_all test xs ≡ true → Each (λ x. test x ≡ true) xs
each_passing test [] h = tt
each_passing test (x ∷ xs) h = let t = and_parts (test x) (list_all test xs) h in (t.0, each_passing test xs t.1)

pub each_mapped : {A B : Type 0} (P : B → Type 0) (Q : A → Type 0) (f : A → B) → ((x : A) → Q x → P (f x)) → (xs : List A) → Each Q xs → Each P (map f xs)
each_mapped P Q f g [] e = tt
each_mapped P Q f g (x ∷ xs) e = (g x e.0, each_mapped P Q f g xs e.1)

-- each of a list is among it
each_of_rest : (l rest : List ℕ) → ((p : ℕ) → IsAmong rest p → IsAmong l p) → Each (IsAmong l) rest
each_of_rest l [] h = tt
each_of_rest l (p ∷ rest) h = (
  h p (or_left (p == p) (list_any (λ other. other == p) rest) (eq-eqb p p refl)),
  each_of_rest l rest (λ q g. h q (or_right (p == q) (list_any (λ other. other == q) rest) g)),
)

pub each_among : (l : List ℕ) → Each (IsAmong l) l
each_among l = each_of_rest l l (λ p h. h)
