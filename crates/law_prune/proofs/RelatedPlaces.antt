-- Where the entries for kept procedures stand, of which a list has one for each; and where their static variables do.
use Rattle.std.proofs.Common.{◌≡◌, ◌⊎◌, inl, inr, ℕ, zero, suc, ◌+◌, ◌<◌, ◌≤◌, Bool, true, false, List, [], ◌∷◌, ◌++◌, length, map, Option, None, Some, refl, sym, ap, ◌∙◌, subst, arith}
use Rattle.std.specs.Prelude.{◌-◌, nat_lt, replicate, slice_get, take}
use Rattle.std.specs.List.{sum_by}
use Rattle.std.proofs.lemmas.Bool.{lt-ltb, ltb-true}
use Rattle.std.proofs.lemmas.List.Sums.{sum_by-cons}
use Rattle.icn_code.specs.Codes.{Proc}
use Rattle.icn_prune.specs.PrunedCode.{kept_from_place, kept_procs}
use Rattle.icn_prune.proofs.StandingPlaces.{some_injective}
use Rattle.law_prune.proofs.RelatedNumbers.{FoundTo, NumberTo, kept_of_list, not_below}
use Rattle.law_prune.proofs.RelatedValues.{InOrder, OneForOne}
use Rattle.law_prune.proofs.RelatedLists.{OptionTo, PlacesTo, each_to, neither}

-- A place of a list that has an entry for each, and that of the same entry in what is kept of it; behind them both go on alike.
pub data PlaceTo : List Bool → ℕ → ℕ → Type 0 where
  behind : (i : ℕ) → PlaceTo [] i i
  here : {keep : List Bool} → PlaceTo (true ∷ keep) zero zero
  kept_next : {keep : List Bool} {i j : ℕ} → PlaceTo keep i j → PlaceTo (true ∷ keep) (suc i) (suc j)
  dropped_next : {keep : List Bool} {i j : ℕ} → PlaceTo keep i j → PlaceTo (false ∷ keep) (suc i) j

-- how many are kept
abbrev pub kept_count : List Bool → ℕ
kept_count [] = zero
kept_count (true ∷ keep) = suc (kept_count keep)
kept_count (false ∷ keep) = kept_count keep

-- One for one, and in order

place_after : (keep : List Bool) (x y z : ℕ) → PlaceTo keep x y → PlaceTo keep x z → y ≡ z
place_after keep x y z (behind i) (behind _) = refl
place_after keep x y z here here = refl
place_after keep x y z (kept_next s) (kept_next t) = ap suc (place_after _ _ _ _ s t)
place_after keep x y z (dropped_next s) (dropped_next t) = place_after _ _ _ _ s t

place_before : (keep : List Bool) (x w y : ℕ) → PlaceTo keep x y → PlaceTo keep w y → x ≡ w
place_before keep x w y (behind i) (behind _) = refl
place_before keep x w y here here = refl
place_before keep x w y (kept_next s) (kept_next t) = ap suc (place_before _ _ _ _ s t)
place_before keep x w y (dropped_next s) (dropped_next t) = ap suc (place_before _ _ _ _ s t)

place_ordered : (keep : List Bool) (x y w z : ℕ) → PlaceTo keep x y → PlaceTo keep w z → x < w → y < z
place_ordered keep x y w z (behind i) (behind j) l = l
place_ordered keep x y w z here here l = absurd (omega (arith, l))
place_ordered keep x y w z here (kept_next t) l = omega arith
place_ordered keep x y w z (kept_next s) here l = absurd (omega (arith, l))
place_ordered keep x y w z (kept_next s) (kept_next t) l = let k = place_ordered _ _ _ _ _ s t (omega (arith, l)) in omega (arith, k)
place_ordered keep x y w z (dropped_next s) (dropped_next t) l = place_ordered _ _ _ _ _ s t (omega (arith, l))

pub places_one : (keep : List Bool) → OneForOne (PlaceTo keep)
places_one keep = record { after = place_after keep; before = place_before keep }

pub places_ordered : (keep : List Bool) → InOrder (PlaceTo keep)
places_ordered keep = record { ordered = place_ordered keep }

-- Numbers

place_of : (n m : ℕ) (keep : List Bool) (x y : ℕ) → NumberTo n m keep x y → PlaceTo keep (x - n) (y - m)
place_of n m [] x y t = subst (λ (j : ℕ). PlaceTo [] (x - n) j) (same t.0 t.1.0 t.1.1) (behind (x - n))
  where
    same : (i : ℕ) → x ≡ n + i → y ≡ m + i → x - n ≡ y - m
    same i e f = omega (arith, e, f)
place_of n m (true ∷ keep) x y (inl t) =
    subst (λ (i : ℕ). PlaceTo (true ∷ keep) i (y - m)) (none x n t.0) (subst (PlaceTo (true ∷ keep) zero) (none y m t.1) here)
  where
    none : (a b : ℕ) → a ≡ b → zero ≡ a - b
    none a b e = omega (arith, e)
place_of n m (true ∷ keep) x y (inr t) =
    let b = not_below (suc n) (suc m) keep x y t in
    subst (λ (i : ℕ). PlaceTo (true ∷ keep) i (y - m)) (next x n b.0)
    (subst (PlaceTo (true ∷ keep) (suc (x - suc n))) (next y m b.1) (kept_next (place_of (suc n) (suc m) keep x y t)))
  where
    next : (a b : ℕ) → suc b ≤ a → suc (a - suc b) ≡ a - b
    next a b l = omega (arith, l)
place_of n m (false ∷ keep) x y t =
    let b = not_below (suc n) m keep x y t in
    subst (λ (i : ℕ). PlaceTo (false ∷ keep) i (y - m)) (next x n b.0) (dropped_next (place_of (suc n) m keep x y t))
  where
    next : (a b : ℕ) → suc b ≤ a → suc (a - suc b) ≡ a - b
    next a b l = omega (arith, l)

pub found_place : (keep : List Bool) (o p : Option ℕ) → FoundTo (NumberTo 0 0 keep) o p → OptionTo (PlaceTo keep) o p
found_place keep None None t = neither
found_place keep None (Some y) t = absurd t
found_place keep (Some x) None t = absurd t
found_place keep (Some x) (Some y) t =
    each_to (subst (λ (i : ℕ). PlaceTo keep i y) (less x) (subst (PlaceTo keep (x - 0)) (less y) (place_of 0 0 keep x y t)))
  where
    less : (a : ℕ) → a - 0 ≡ a
    less a = omega arith

-- Entries

pub kept_get : {A : Type 0} (keep : List Bool) (xs : List A) (i j : ℕ) → length keep ≤ length xs → PlaceTo keep i j
    → slice_get xs i ≡ slice_get (kept_of_list keep xs) j
kept_get keep xs i j l (behind k) = refl
kept_get keep [] i j l here = absurd (omega (arith, l))
kept_get keep (x ∷ xs) i j l here = refl
kept_get keep [] i j l (kept_next t) = absurd (omega (arith, l))
kept_get keep (x ∷ xs) i j l (kept_next t) = kept_get _ xs _ _ (omega (arith, l)) t
kept_get keep [] i j l (dropped_next t) = absurd (omega (arith, l))
kept_get keep (x ∷ xs) i j l (dropped_next t) = kept_get _ xs _ _ (omega (arith, l)) t

pub kept_append : {A : Type 0} (keep : List Bool) (xs ys : List A) → length keep ≤ length xs → kept_of_list keep (xs ++ ys) ≡ kept_of_list keep xs ++ ys
kept_append [] xs ys l = refl
kept_append (true ∷ keep) [] ys l = absurd (omega (arith, l))
kept_append (false ∷ keep) [] ys l = absurd (omega (arith, l))
kept_append (true ∷ keep) (x ∷ xs) ys l = ap (λ (zs : List _). x ∷ zs) (kept_append keep xs ys (omega (arith, l)))
kept_append (false ∷ keep) (x ∷ xs) ys l = kept_append keep xs ys (omega (arith, l))

pub kept_map : {A : Type 0} (f : Proc → A) (keep : List Bool) (ps : List Proc) → length keep ≡ length ps
    → kept_of_list keep (map f ps) ≡ map f (kept_procs keep ps)
kept_map f [] [] e = refl
kept_map f [] (p ∷ ps) e = absurd (omega (arith, e))
kept_map f (true ∷ keep) [] e = refl
kept_map f (false ∷ keep) [] e = refl
kept_map {A} f (true ∷ keep) (p ∷ ps) e = ap (λ (zs : List A). f p ∷ zs) (kept_map f keep ps (omega (arith, e)))
kept_map f (false ∷ keep) (p ∷ ps) e = kept_map f keep ps (omega (arith, e))

pub count_is : (keep : List Bool) (ps : List Proc) → length keep ≡ length ps → length (kept_procs keep ps) ≡ kept_count keep
count_is [] ps e = refl
count_is (true ∷ keep) [] e = absurd (omega (arith, e))
count_is (false ∷ keep) [] e = absurd (omega (arith, e))
count_is (true ∷ keep) (p ∷ ps) e = ap suc (count_is keep ps (omega (arith, e)))
count_is (false ∷ keep) (p ∷ ps) e = count_is keep ps (omega (arith, e))

-- Before and behind the procedures

split : (keep : List Bool) (n k : ℕ) → PlaceTo keep n k
    → ((n < length keep) × (k < kept_count keep)) ⊎ ((i : ℕ) × ((n ≡ length keep + i) × (k ≡ kept_count keep + i)))
split keep n k (behind i) = inr (i, (omega arith, omega arith))
split keep n k here = inl (omega arith, omega arith)
split keep n k (kept_next {keep = ks} {i} {j} t) = by (split ks i j t)
  where
    by : ((i < length ks) × (j < kept_count ks)) ⊎ ((a : ℕ) × ((i ≡ length ks + a) × (j ≡ kept_count ks + a)))
        → ((suc i < suc (length ks)) × (suc j < suc (kept_count ks)))
        ⊎ ((a : ℕ) × ((suc i ≡ suc (length ks) + a) × (suc j ≡ suc (kept_count ks) + a)))
    by (inl s) = let l = s.0 in let r = s.1 in inl (omega (arith, l), omega (arith, r))
    by (inr s) = let e = s.1.0 in let f = s.1.1 in inr (s.0, (omega (arith, e), omega (arith, f)))
split keep n k (dropped_next {keep = ks} {i} {j} t) = by (split ks i j t)
  where
    by : ((i < length ks) × (j < kept_count ks)) ⊎ ((a : ℕ) × ((i ≡ length ks + a) × (j ≡ kept_count ks + a)))
        → ((suc i < suc (length ks)) × (j < kept_count ks)) ⊎ ((a : ℕ) × ((suc i ≡ suc (length ks) + a) × (j ≡ kept_count ks + a)))
    by (inl s) = let l = s.0 in inl (omega (arith, l), s.1)
    by (inr s) = let e = s.1.0 in inr (s.0, (omega (arith, e), s.1.1))

same_test : (a b c d : ℕ) → (a < b → c < d) → (c < d → a < b) → nat_lt a b ≡ nat_lt c d
same_test a b c d f g = by (nat_lt a b) (nat_lt c d) refl refl
  where
    by : (t u : Bool) → nat_lt a b ≡ t → nat_lt c d ≡ u → nat_lt a b ≡ nat_lt c d
    by true u e h = e ∙ sym (lt-ltb c d (f (ltb-true a b e)))
    by false true e h = lt-ltb a b (g (ltb-true c d h)) ∙ sym h
    by false false e h = e ∙ sym h

-- so many behind the procedures, a number is below on one side where it is on the other
pub less_to : (keep : List Bool) (n k r : ℕ) → PlaceTo keep n k → nat_lt n (length keep + r) ≡ nat_lt k (kept_count keep + r)
less_to keep n k r t = by (split keep n k t)
  where
    by : ((n < length keep) × (k < kept_count keep)) ⊎ ((i : ℕ) × ((n ≡ length keep + i) × (k ≡ kept_count keep + i)))
        → nat_lt n (length keep + r) ≡ nat_lt k (kept_count keep + r)
    by (inl s) = let l = s.0 in let m = s.1 in
        same_test n (length keep + r) k (kept_count keep + r) (λ h. omega (arith, m)) (λ h. omega (arith, l))
    by (inr s) = let e = s.1.0 in let f = s.1.1 in
        same_test n (length keep + r) k (kept_count keep + r) (λ h. omega (arith, e, f, h)) (λ h. omega (arith, e, f, h))

pub behind_to : (keep : List Bool) (i : ℕ) → PlaceTo keep (length keep + i) (kept_count keep + i)
behind_to [] i = subst (λ (j : ℕ). PlaceTo [] j j) (same i) (behind i)
  where
    same : (a : ℕ) → a ≡ 0 + a
    same a = omega arith
behind_to (true ∷ keep) i = subst (λ (a : ℕ). PlaceTo (true ∷ keep) a (suc (kept_count keep) + i)) (next (length keep) i)
    (subst (PlaceTo (true ∷ keep) (suc (length keep + i))) (next (kept_count keep) i) (kept_next (behind_to keep i)))
  where
    next : (a b : ℕ) → suc (a + b) ≡ suc a + b
    next a b = omega arith
behind_to (false ∷ keep) i =
    subst (λ (a : ℕ). PlaceTo (false ∷ keep) a (kept_count keep + i)) (next (length keep) i) (dropped_next (behind_to keep i))
  where
    next : (a b : ℕ) → suc (a + b) ≡ suc a + b
    next a b = omega arith

-- what stands among the kept ones is the place of one
kept_place : (n : ℕ) (keep : List Bool) (j p : ℕ) → slice_get (kept_from_place n keep) j ≡ Some p → (i : ℕ) × ((p ≡ n + i) × PlaceTo keep i j)
kept_place n [] j p e = absurd (cc)
kept_place n (true ∷ keep) zero p e = (0, (first (some_injective n p e), here))
  where
    first : n ≡ p → p ≡ n + 0
    first f = omega (arith, f)
kept_place n (true ∷ keep) (suc j) p e = let t = kept_place (suc n) keep j p e in let f = t.1.0 in (suc t.0, (omega (arith, f), kept_next t.1.1))
kept_place n (false ∷ keep) j p e = let t = kept_place (suc n) keep j p e in let f = t.1.0 in (suc t.0, (omega (arith, f), dropped_next t.1.1))

pub place_kept : (keep : List Bool) (j p : ℕ) → slice_get (kept_from_place 0 keep) j ≡ Some p → PlaceTo keep p j
place_kept keep j p e = let t = kept_place 0 keep j p e in subst (λ (i : ℕ). PlaceTo keep i j) (same p t.0 t.1.0) t.1.1
  where
    same : (a b : ℕ) → a ≡ 0 + b → b ≡ a
    same a b f = omega (arith, f)

-- none of them began
pub none_begun : (keep : List Bool) → PlacesTo (PlaceTo keep) (λ (a b : Bool). a ≡ b) (replicate (length keep) false) (replicate (kept_count keep) false)
none_begun keep = record { at = at keep }
  where
    at : (ks : List Bool) (k j : ℕ) → PlaceTo ks k j
        → OptionTo (λ (a b : Bool). a ≡ b) (slice_get (replicate (length ks) false) k) (slice_get (replicate (kept_count ks) false) j)
    at ks k j (behind i) = neither
    at ks k j here = each_to refl
    at ks k j (kept_next t) = at _ _ _ t
    at ks k j (dropped_next t) = at _ _ _ t

-- Static variables

-- a static variable of a kept procedure among all, and among those of kept procedures
pub data StaticAt : List Bool → List Proc → ℕ → ℕ → Type 0 where
  here_static : {keep : List Bool} {ps : List Proc} {x y : ℕ} (p : Proc) (i : ℕ) → i < p.statics → x ≡ i → y ≡ i → StaticAt (true ∷ keep) (p ∷ ps) x y
  kept_static : {keep : List Bool} {ps : List Proc} {x y a b : ℕ} (p : Proc) → StaticAt keep ps a b → x ≡ p.statics + a → y ≡ p.statics + b
      → StaticAt (true ∷ keep) (p ∷ ps) x y
  dropped_static : {keep : List Bool} {ps : List Proc} {x y a : ℕ} (p : Proc) → StaticAt keep ps a y → x ≡ p.statics + a
      → StaticAt (false ∷ keep) (p ∷ ps) x y

static_after : (keep : List Bool) (ps : List Proc) (x y z : ℕ) → StaticAt keep ps x y → StaticAt keep ps x z → y ≡ z
static_after keep ps x y z (here_static p i l e f) (here_static _ j m g h) = omega (arith, e, f, g, h)
static_after keep ps x y z (here_static p i l e f) (kept_static _ t g h) = absurd (omega (arith, l, e, g))
static_after keep ps x y z (kept_static p s e f) (here_static _ i l g h) = absurd (omega (arith, l, e, g))
static_after keep ps x y z (kept_static {keep = ks} {ps = qs} {a = a} {b = b} p s e f) (kept_static {a = c} {b = d} _ t g h) =
    let same : c ≡ a = omega (arith, e, g) in
    let equal : b ≡ d = static_after ks qs a b d s (subst (λ (k : ℕ). StaticAt ks qs k d) same t) in
    omega (arith, f, h, equal)
static_after keep ps x y z (dropped_static {keep = ks} {ps = qs} {a = a} p s e) (dropped_static {a = c} _ t g) =
    let same : c ≡ a = omega (arith, e, g) in
    static_after ks qs a y z s (subst (λ (k : ℕ). StaticAt ks qs k z) same t)

static_before : (keep : List Bool) (ps : List Proc) (x w y : ℕ) → StaticAt keep ps x y → StaticAt keep ps w y → x ≡ w
static_before keep ps x w y (here_static p i l e f) (here_static _ j m g h) = omega (arith, e, f, g, h)
static_before keep ps x w y (here_static p i l e f) (kept_static _ t g h) = absurd (omega (arith, l, f, h))
static_before keep ps x w y (kept_static p s e f) (here_static _ i l g h) = absurd (omega (arith, l, f, h))
static_before keep ps x w y (kept_static {keep = ks} {ps = qs} {a = a} {b = b} p s e f) (kept_static {a = c} {b = d} _ t g h) =
    let same : d ≡ b = omega (arith, f, h) in
    let equal : a ≡ c = static_before ks qs a c b s (subst (λ (k : ℕ). StaticAt ks qs c k) same t) in
    omega (arith, e, g, equal)
static_before keep ps x w y (dropped_static {keep = ks} {ps = qs} {a = a} p s e) (dropped_static {a = c} _ t g) =
    let equal : a ≡ c = static_before ks qs a c y s t in omega (arith, e, g, equal)

pub statics_one : (keep : List Bool) (ps : List Proc) → OneForOne (StaticAt keep ps)
statics_one keep ps = record { after = static_after keep ps; before = static_before keep ps }

abbrev pub statics : Proc → ℕ
statics p = p.statics

-- all of them are there
pub static_below : (keep : List Bool) (ps : List Proc) (x y : ℕ) → StaticAt keep ps x y → (x < sum_by statics ps) × (y < sum_by statics (kept_procs keep ps))
static_below keep ps x y (here_static {keep = ks} {ps = qs} p i l e f) =
    let all = sum_by-cons statics p qs in
    let left = sum_by-cons statics p (kept_procs ks qs) in
    (omega (arith, l, e, all), omega (arith, l, f, left))
static_below keep ps x y (kept_static {keep = ks} {ps = qs} {a = a} {b = b} p s e f) =
    let all = sum_by-cons statics p qs in
    let left = sum_by-cons statics p (kept_procs ks qs) in
    let below = static_below ks qs a b s in
    let l = below.0 in
    let m = below.1 in
    (omega (arith, l, e, all), omega (arith, m, f, left))
static_below keep ps x y (dropped_static {keep = ks} {ps = qs} {a = a} p s e) =
    let all = sum_by-cons statics p qs in
    let below = static_below ks qs a y s in
    let l = below.0 in
    (omega (arith, l, e, all), below.1)

-- a static variable of a kept procedure stands behind those of the procedures before it, on both sides
pub static_at : (f : Proc → Proc) → ((e : Proc) → (f e).statics ≡ e.statics) → (keep : List Bool) (ps : List Proc) (p q k : ℕ) (entry : Proc)
    → length keep ≡ length ps
    → PlaceTo keep p q → slice_get ps p ≡ Some entry → k < entry.statics
    → StaticAt keep ps (sum_by statics (take p ps) + k) (sum_by statics (take q (map f (kept_procs keep ps))) + k)
static_at f same keep [] p q k entry e t g l = absurd (cc)
static_at f same keep (a ∷ ps) p q k entry e (behind i) g l = absurd (omega (arith, e))
static_at f same keep (a ∷ ps) p q k entry e here g l =
    here_static a k (subst (λ (x : Proc). k < x.statics) (sym (some_injective a entry g)) l) (omega arith) (omega arith)
static_at f same keep (a ∷ ps) p q k entry e (kept_next {keep = ks} {i} {j} t) g l =
    let first = sum_by-cons statics a (take i ps) in
    let second = sum_by-cons statics (f a) (take j (map f (kept_procs ks ps))) in
    let equal = same a in
    kept_static a (static_at f same ks ps i j k entry (omega (arith, e)) t g l) (omega (arith, first)) (omega (arith, second, equal))
static_at f same keep (a ∷ ps) p q k entry e (dropped_next {keep = ks} {i} {j} t) g l =
    let first = sum_by-cons statics a (take i ps) in
    dropped_static a (static_at f same ks ps i j k entry (omega (arith, e)) t g l) (omega (arith, first))
