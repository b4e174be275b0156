-- Numbers of procedures, constructors and functions in a whole code, and in the pruned one.
use Rattle.std.proofs.Common.{◌≡◌, ◌⊎◌, inl, inr, ℕ, suc, ◌+◌, ◌<◌, ◌≤◌, Bool, true, false, ◌&&◌, not, List, [], ◌∷◌, length, Option, None, Some, ◌||◌, if◌then◌else◌, refl, ap, ◌∙◌, arith}
use Rattle.std.specs.Prelude.{◌==◌}
use Rattle.std.specs.Str.{bytes_eq}
use Rattle.std.proofs.lemmas.Bool.Decides.{eqb_tells}
use Rattle.icn_defs.specs.KeptProcedures.{dropped_from}
use Rattle.icn_defs.specs.NamedValues.{is_hidden, number_from}

-- A number of the whole code, from this one on, and that of the pruned code for the same, from another one on: those that are kept follow
-- one another, and behind all procedures both go on alike. A number that is dropped has none.
abbrev pub NumberTo : ℕ → ℕ → List Bool → ℕ → ℕ → Type 0
NumberTo n m [] x y = (i : ℕ) × ((x ≡ n + i) × (y ≡ m + i))
NumberTo n m (true ∷ keep) x y = ((x ≡ n) × (y ≡ m)) ⊎ NumberTo (suc n) (suc m) keep x y
NumberTo n m (false ∷ keep) x y = NumberTo (suc n) m keep x y

-- what is kept of a list that has an entry for each
abbrev pub kept_of_list : {A : Type 0} → List Bool → List A → List A
kept_of_list [] xs = xs
kept_of_list (truth ∷ keep) [] = []
kept_of_list (true ∷ keep) (x ∷ xs) = x ∷ kept_of_list keep xs
kept_of_list (false ∷ keep) (x ∷ xs) = kept_of_list keep xs

-- Bounds

pub not_below : (n m : ℕ) (keep : List Bool) (x y : ℕ) → NumberTo n m keep x y → (n ≤ x) × (m ≤ y)
not_below n m [] x y t = let e = t.1.0 in let f = t.1.1 in (omega (arith, e), omega (arith, f))
not_below n m (true ∷ keep) x y (inl t) = let e = t.0 in let f = t.1 in (omega (arith, e), omega (arith, f))
not_below n m (true ∷ keep) x y (inr t) = let b = not_below (suc n) (suc m) keep x y t in let l = b.0 in let k = b.1 in (omega (arith, l), omega (arith, k))
not_below n m (false ∷ keep) x y t = let b = not_below (suc n) m keep x y t in let l = b.0 in (omega (arith, l), b.1)

-- What a text names

-- which numbers are hidden: those of the dropped ones
hidden_here : (n : ℕ) (keep : List Bool) (b : Bool) (hidden : List ℕ) → ((x : ℕ) → n ≤ x → is_hidden hidden x ≡ is_hidden (dropped_from n (b ∷ keep)) x)
    → is_hidden hidden n ≡ not b
hidden_here n keep true hidden h = h n (omega arith) ∙ none (suc n) keep (omega arith)
  where
    none : (k : ℕ) (ks : List Bool) → n < k → is_hidden (dropped_from k ks) n ≡ false
    none k [] l = refl
    none k (true ∷ ks) l = none (suc k) ks (omega (arith, l))
    none k (false ∷ ks) l = apart (eqb_tells k n) (none (suc k) ks (omega (arith, l)))
      where
        apart : (((k == n) ≡ true) × (k ≡ n)) ⊎ (((k == n) ≡ false) × (k ≡ n → ⊥)) → is_hidden (dropped_from (suc k) ks) n ≡ false
            → is_hidden (k ∷ dropped_from (suc k) ks) n ≡ false
        apart (inl e) f = let same = e.1 in absurd (omega (arith, l, same))
        apart (inr e) f = ap (λ t. t || is_hidden (dropped_from (suc k) ks) n) e.0 ∙ f
hidden_here n keep false hidden h = h n (omega arith) ∙ first (eqb_tells n n)
  where
    first : (((n == n) ≡ true) × (n ≡ n)) ⊎ (((n == n) ≡ false) × (n ≡ n → ⊥)) → is_hidden (n ∷ dropped_from (suc n) keep) n ≡ true
    first (inl e) = ap (λ t. t || is_hidden (dropped_from (suc n) keep) n) e.0
    first (inr e) = absurd (e.1 refl)

-- behind one entry the same are hidden
hidden_next : (n : ℕ) (keep : List Bool) (b : Bool) (hidden : List ℕ) → ((x : ℕ) → n ≤ x → is_hidden hidden x ≡ is_hidden (dropped_from n (b ∷ keep)) x)
    → (x : ℕ) → suc n ≤ x → is_hidden hidden x ≡ is_hidden (dropped_from (suc n) keep) x
hidden_next n keep true hidden h x l = h x (omega (arith, l))
hidden_next n keep false hidden h x l = h x (omega (arith, l)) ∙ apart (eqb_tells n x)
  where
    apart : (((n == x) ≡ true) × (n ≡ x)) ⊎ (((n == x) ≡ false) × (n ≡ x → ⊥))
        → is_hidden (n ∷ dropped_from (suc n) keep) x ≡ is_hidden (dropped_from (suc n) keep) x
    apart (inl e) = let same = e.1 in absurd (omega (arith, l, same))
    apart (inr e) = ap (λ t. t || is_hidden (dropped_from (suc n) keep) x) e.0

-- what is found on both sides
abbrev pub FoundTo : (ℕ → ℕ → Type 0) → Option ℕ → Option ℕ → Type 0
FoundTo To None None = Unit {0}
FoundTo To None (Some y) = ⊥
FoundTo To (Some x) None = ⊥
FoundTo To (Some x) (Some y) = To x y

found_as : (To Other : ℕ → ℕ → Type 0) → ((x y : ℕ) → To x y → Other x y) → (o p : Option ℕ) → FoundTo To o p → FoundTo Other o p
found_as To Other f None None t = tt
found_as To Other f None (Some y) t = t
found_as To Other f (Some x) None t = t
found_as To Other f (Some x) (Some y) t = f x y t

-- behind all procedures both sides look alike
names_behind : (n m : ℕ) (hidden : List ℕ) (names : List (List ℕ)) (text : List ℕ) → ((x : ℕ) → n ≤ x → is_hidden hidden x ≡ false)
    → FoundTo (NumberTo n m []) (number_from hidden n names text) (number_from [] m names text)
names_behind n m hidden [] text h = tt
names_behind n m hidden (name ∷ names) text h =
    by (bytes_eq text name) (is_hidden hidden n) (h n (omega arith))
    (names_behind (suc n) (suc m) hidden names text (λ x l. h x (omega (arith, l))))
  where
    later : (x y : ℕ) → NumberTo (suc n) (suc m) [] x y → NumberTo n m [] x y
    later x y t = let e = t.1.0 in let f = t.1.1 in (suc t.0, (omega (arith, e), omega (arith, f)))

    here : NumberTo n m [] n m
    here = (0, (omega arith, omega arith))

    by : (equal held : Bool) → held ≡ false
        → FoundTo (NumberTo (suc n) (suc m) []) (number_from hidden (suc n) names text) (number_from [] (suc m) names text)
        → FoundTo (NumberTo n m []) (if equal && not held then Some n else number_from hidden (suc n) names text)
        (if equal && true then Some m else number_from [] (suc m) names text)
    by true false e f = here
    by true true e f = absurd (cc)
    by false held e f =
        found_as (NumberTo (suc n) (suc m) []) (NumberTo n m []) later (number_from hidden (suc n) names text) (number_from [] (suc m) names text) f

-- a text that names a kept one, a constructor or a function names the same in the pruned code, and else nothing
pub names_alike : (n m : ℕ) (keep : List Bool) (hidden : List ℕ) (names : List (List ℕ)) (text : List ℕ) → length keep ≤ length names
    → ((x : ℕ) → n ≤ x → is_hidden hidden x ≡ is_hidden (dropped_from n keep) x)
    → FoundTo (NumberTo n m keep) (number_from hidden n names text) (number_from [] m (kept_of_list keep names) text)
names_alike n m [] hidden names text l h = names_behind n m hidden names text h
names_alike n m (true ∷ keep) hidden [] text l h = absurd (omega (arith, l))
names_alike n m (false ∷ keep) hidden [] text l h = absurd (omega (arith, l))
names_alike n m (true ∷ keep) hidden (name ∷ names) text l h =
    by (bytes_eq text name) (is_hidden hidden n) (hidden_here n keep true hidden h)
    (names_alike (suc n) (suc m) keep hidden names text (omega (arith, l)) (hidden_next n keep true hidden h))
  where
    by : (equal held : Bool) → held ≡ false
        → FoundTo (NumberTo (suc n) (suc m) keep) (number_from hidden (suc n) names text) (number_from [] (suc m) (kept_of_list keep names) text)
        → FoundTo (NumberTo n m (true ∷ keep)) (if equal && not held then Some n else number_from hidden (suc n) names text)
        (if equal && true then Some m else number_from [] (suc m) (kept_of_list keep names) text)
    by true false e f = inl (refl, refl)
    by true true e f = absurd (cc)
    by false held e f = found_as (NumberTo (suc n) (suc m) keep) (NumberTo n m (true ∷ keep)) (λ x y t. inr t) (number_from hidden (suc n) names text)
        (number_from [] (suc m) (kept_of_list keep names) text) f
names_alike n m (false ∷ keep) hidden (name ∷ names) text l h =
    by (bytes_eq text name) (is_hidden hidden n) (hidden_here n keep false hidden h)
    (names_alike (suc n) m keep hidden names text (omega (arith, l)) (hidden_next n keep false hidden h))
  where
    by : (equal held : Bool) → held ≡ true
        → FoundTo (NumberTo (suc n) m keep) (number_from hidden (suc n) names text) (number_from [] m (kept_of_list keep names) text)
        → FoundTo (NumberTo (suc n) m keep) (if equal && not held then Some n else number_from hidden (suc n) names text)
        (number_from [] m (kept_of_list keep names) text)
    by true true e f = f
    by true false e f = absurd (cc)
    by false held e f = f
