-- What is kept is the least set that has some procedures, and with each one all that it mentions.
use Rattle.std.proofs.Common.{◌≡◌, ◌⊎◌, inl, inr, ℕ, zero, suc, ◌<◌, ◌≤◌, Bool, true, false, List, [], ◌∷◌, ◌++◌, length, get_or, replicate, slice_get, slice_set, Some, refl, sym, ap, ◌∙◌, subst, arith, ◌+◌, drop}
use Rattle.std.specs.Prelude.{unwrap_or}
use Rattle.std.specs.List.{All}
use Rattle.std.proofs.lemmas.List.{at_drop_more}
use Rattle.icn_prune.specs.Marks.{missing}
use Rattle.icn_defs.specs.KeptProcedures.{IsClosed, IsIn, IsLeast, MentionLists, after_rounds, kept_from, mentioned_by_kept, with_kept}

-- Each of a list

abbrev pub Each : {A : Type 0} → (A → Type 0) → List A → Type 0
Each P [] = Unit {0}
Each P (x ∷ xs) = P x × Each P xs

pub each_of : {A : Type 0} (P : A → Type 0) (xs : List A) → All P xs → Each P xs
each_of P [] h = tt
each_of P (x ∷ xs) h = (h 0 x (omega arith), each_of P xs (λ k d l. h (suc k) d (omega (arith, l))))

pub all_of : {A : Type 0} (P : A → Type 0) (xs : List A) → Each P xs → All P xs
all_of P [] e k d l = absurd (omega (arith, l))
all_of P (x ∷ xs) e zero d l = e.0
all_of P (x ∷ xs) e (suc k) d l = all_of P xs e.1 k d (omega (arith, l))

pub all_at : {A : Type 0} (P : A → Type 0) (xs : List A) (k : ℕ) (x : A) → All P xs → slice_get xs k ≡ Some x → P x
all_at P [] k x a g = absurd (cc)
all_at P (y ∷ ys) zero x a g = subst P (ap (λ o. unwrap_or o y) g) (a 0 y (omega arith))
all_at P (y ∷ ys) (suc k) x a g = all_at P ys k x (λ i d l. a (suc i) d (omega (arith, l))) g

-- what holds of all holds of an item
pub all_item : {A : Type 0} (P : A → Type 0) (xs : List A) (i : ℕ) (x : A) → All P xs → i < length xs → x ≡ get_or xs i x → P x
all_item P xs i x h within is = subst P (sym is) (h i x within)

-- an item, and those behind it
pub item_and_rest : {A : Type 0} (xs : List A) (i : ℕ) (x : A) → i < length xs → x ≡ get_or xs i x → x ∷ drop (i + 1) xs ≡ drop i xs
item_and_rest xs i x within is = ap (λ y. y ∷ drop (i + 1) xs) is ∙ sym (at_drop_more (λ l. l) xs i x within)

-- the same in a slice of them
pub slice_item : {A : Type 0} (xs slice : List A) (i : ℕ) (x : A) → slice ≡ xs → i < length slice → x ≡ get_or slice i x
    → x ∷ drop (i + 1) xs ≡ drop i xs
slice_item {A} xs slice i x e within is = subst (λ (l : List A). x ∷ drop (i + 1) l ≡ drop i l) e (item_and_rest slice i x within is)

pub each_so : {A : Type 0} (P Q : A → Type 0) → ((x : A) → P x → Q x) → (xs : List A) → Each P xs → Each Q xs
each_so P Q f [] e = tt
each_so P Q f (x ∷ xs) e = (f x e.0, each_so P Q f xs e.1)

pub each_join : {A : Type 0} (P : A → Type 0) (xs ys : List A) → Each P xs → Each P ys → Each P (xs ++ ys)
each_join P [] ys e f = f
each_join P (x ∷ xs) ys e f = (e.0, each_join P xs ys e.1 f)

pub each_first : {A : Type 0} (P : A → Type 0) (xs ys : List A) → Each P (xs ++ ys) → Each P xs
each_first P [] ys e = tt
each_first P (x ∷ xs) ys e = (e.0, each_first P xs ys e.1)

pub each_second : {A : Type 0} (P : A → Type 0) (xs ys : List A) → Each P (xs ++ ys) → Each P ys
each_second P [] ys e = e
each_second P (x ∷ xs) ys e = each_second P xs ys e.1

-- One more that is kept

pub long_set : (keep : List Bool) (k : ℕ) → length (slice_set keep k true) ≡ length keep
long_set [] k = refl
long_set (b ∷ keep) zero = refl
long_set (b ∷ keep) (suc k) = ap suc (long_set keep k)

pub set_here : (keep : List Bool) (k : ℕ) → k < length keep → IsIn (slice_set keep k true) k
set_here [] k l = absurd (omega (arith, l))
set_here (b ∷ keep) zero l = refl
set_here (b ∷ keep) (suc k) l = set_here keep k (omega (arith, l))

pub set_stays : (keep : List Bool) (k i : ℕ) → IsIn keep i → IsIn (slice_set keep k true) i
set_stays [] k i h = absurd (cc)
set_stays (b ∷ keep) zero zero h = refl
set_stays (b ∷ keep) zero (suc i) h = h
set_stays (b ∷ keep) (suc k) zero h = h
set_stays (b ∷ keep) (suc k) (suc i) h = set_stays keep k i h

pub set_least : (P : ℕ → Type 0) (keep : List Bool) (k i : ℕ) → ((j : ℕ) → IsIn keep j → P j) → P k
    → IsIn (slice_set keep k true) i → P i
set_least P [] k i f p h = absurd (cc)
set_least P (b ∷ keep) zero zero f p h = p
set_least P (b ∷ keep) zero (suc i) f p h = f (suc i) h
set_least P (b ∷ keep) (suc k) zero f p h = f zero h
set_least P (b ∷ keep) (suc k) (suc i) f p h = set_least (λ j. P (suc j)) keep k i (λ j g. f (suc j) g) p h

-- Several more

pub long_kept : (ns : List ℕ) (keep : List Bool) → length (with_kept ns keep) ≡ length keep
long_kept [] keep = refl
long_kept (n ∷ ns) keep = long_kept ns (slice_set keep n true) ∙ long_set keep n

pub kept_stays : (ns : List ℕ) (keep : List Bool) (i : ℕ) → IsIn keep i → IsIn (with_kept ns keep) i
kept_stays [] keep i h = h
kept_stays (n ∷ ns) keep i h = kept_stays ns (slice_set keep n true) i (set_stays keep n i h)

pub kept_there : (ns : List ℕ) (keep : List Bool) → Each (λ n. n < length keep) ns → Each (IsIn (with_kept ns keep)) ns
kept_there [] keep b = tt
kept_there (n ∷ ns) keep b =
    let more = slice_set keep n true in (
      kept_stays ns more n (set_here keep n b.0),
      kept_there ns more (each_so (λ m. m < length keep) (λ m. m < length more)
          (λ m l. subst (λ s. m < s) (sym (long_set keep n)) l) ns b.1),
    )

pub kept_least : (P : ℕ → Type 0) (ns : List ℕ) (keep : List Bool) → ((j : ℕ) → IsIn keep j → P j) → Each P ns
    → (i : ℕ) → IsIn (with_kept ns keep) i → P i
kept_least P [] keep f e i h = f i h
kept_least P (n ∷ ns) keep f e i h =
    kept_least P ns (slice_set keep n true) (λ j g. set_least P keep n j f e.0 g) e.1 i h

-- What those that are kept mention

-- whatever a kept one mentions is so
abbrev pub EachMentioned : (ℕ → Type 0) → MentionLists → List Bool → Type 0
EachMentioned P mentioned keep = (number : ℕ) (numbers : List ℕ) → IsIn keep number → slice_get mentioned number ≡ Some numbers
    → Each P numbers

mentioned_so : (P : ℕ → Type 0) (mentioned : MentionLists) (keep : List Bool) → EachMentioned P mentioned keep
    → Each P (mentioned_by_kept mentioned keep)
mentioned_so P [] keep f = tt
mentioned_so P (ns ∷ others) [] f = tt
mentioned_so P (ns ∷ others) (true ∷ keep) f =
    each_join P ns (mentioned_by_kept others keep) (f 0 ns refl refl) (mentioned_so P others keep (λ k l h g. f (suc k) l h g))
mentioned_so P (ns ∷ others) (false ∷ keep) f = mentioned_so P others keep (λ k l h g. f (suc k) l h g)

so_mentioned : (P : ℕ → Type 0) (mentioned : MentionLists) (keep : List Bool) → Each P (mentioned_by_kept mentioned keep)
    → EachMentioned P mentioned keep
so_mentioned P [] keep e number numbers h g = absurd (cc)
so_mentioned P (ns ∷ others) [] e number numbers h g = absurd (cc)
so_mentioned P (ns ∷ others) (true ∷ keep) e zero numbers h g =
    subst (Each P) (ap (λ o. unwrap_or o ns) g) (each_first P ns (mentioned_by_kept others keep) e)
so_mentioned P (ns ∷ others) (true ∷ keep) e (suc number) numbers h g =
    so_mentioned P others keep (each_second P ns (mentioned_by_kept others keep) e) number numbers h g
so_mentioned P (ns ∷ others) (false ∷ keep) e zero numbers h g = absurd (cc)
so_mentioned P (ns ∷ others) (false ∷ keep) e (suc number) numbers h g = so_mentioned P others keep e number numbers h g

-- Rounds

pub rounds_long : (n : ℕ) (mentioned : MentionLists) (keep : List Bool) → length (after_rounds n mentioned keep) ≡ length keep
rounds_long zero mentioned keep = refl
rounds_long (suc n) mentioned keep =
    rounds_long n mentioned (with_kept (mentioned_by_kept mentioned keep) keep) ∙ long_kept (mentioned_by_kept mentioned keep) keep

pub rounds_keep : (n : ℕ) (mentioned : MentionLists) (keep : List Bool) (i : ℕ) → IsIn keep i → IsIn (after_rounds n mentioned keep) i
rounds_keep zero mentioned keep i h = h
rounds_keep (suc n) mentioned keep i h =
    rounds_keep n mentioned (with_kept (mentioned_by_kept mentioned keep) keep) i (kept_stays (mentioned_by_kept mentioned keep) keep i h)

pub rounds_least : (n : ℕ) (mentioned : MentionLists) (keep other : List Bool) → IsClosed mentioned other
    → ((j : ℕ) → IsIn keep j → IsIn other j) → (i : ℕ) → IsIn (after_rounds n mentioned keep) i → IsIn other i
rounds_least zero mentioned keep other c f i h = f i h
rounds_least (suc n) mentioned keep other c f i h =
    let more = mentioned_by_kept mentioned keep in
    let all = mentioned_so (IsIn other) mentioned keep (λ k l a b. each_of (IsIn other) l (c.closed k l (f k a) b)) in
    rounds_least n mentioned (with_kept more keep) other c (λ j g. kept_least (IsIn other) more keep f all j g) i h

rounds_stay : (n : ℕ) (mentioned : MentionLists) (keep : List Bool) → with_kept (mentioned_by_kept mentioned keep) keep ≡ keep
    → after_rounds n mentioned keep ≡ keep
rounds_stay zero mentioned keep e = refl
rounds_stay (suc n) mentioned keep e = ap (after_rounds n mentioned) e ∙ rounds_stay n mentioned keep e

-- How many are not kept

none_missing : (keep : List Bool) (i : ℕ) → missing keep ≤ 0 → i < length keep → IsIn keep i
none_missing [] i h l = absurd (omega (arith, l))
none_missing (true ∷ keep) zero h l = refl
none_missing (true ∷ keep) (suc i) h l = none_missing keep i h (omega (arith, l))
none_missing (false ∷ keep) i h l = absurd (omega (arith, h))

fewer : (b : Bool) (keep more : List Bool) → (more ≡ keep) ⊎ (suc (missing more) ≡ missing keep)
    → (b ∷ more ≡ b ∷ keep) ⊎ (suc (missing (b ∷ more)) ≡ missing (b ∷ keep))
fewer b keep more (inl e) = inl (ap (λ l. b ∷ l) e)
fewer true keep more (inr e) = inr e
fewer false keep more (inr e) = inr (ap suc e)

set_fewer : (keep : List Bool) (k : ℕ)
    → (slice_set keep k true ≡ keep) ⊎ (suc (missing (slice_set keep k true)) ≡ missing keep)
set_fewer [] k = inl refl
set_fewer (true ∷ keep) zero = inl refl
set_fewer (false ∷ keep) zero = inr refl
set_fewer (b ∷ keep) (suc k) = fewer b keep (slice_set keep k true) (set_fewer keep k)

both_fewer : (keep more all : List Bool) → (more ≡ keep) ⊎ (suc (missing more) ≡ missing keep)
    → (all ≡ more) ⊎ (missing all < missing more) → (all ≡ keep) ⊎ (missing all < missing keep)
both_fewer keep more all (inl e) (inl f) = inl (f ∙ e)
both_fewer keep more all (inl e) (inr f) = let same = ap missing e in inr (omega (arith, f, same))
both_fewer keep more all (inr e) (inl f) = let same = ap missing f in inr (omega (arith, e, same))
both_fewer keep more all (inr e) (inr f) = inr (omega (arith, e, f))

kept_fewer : (ns : List ℕ) (keep : List Bool) → (with_kept ns keep ≡ keep) ⊎ (missing (with_kept ns keep) < missing keep)
kept_fewer [] keep = inl refl
kept_fewer (n ∷ ns) keep = both_fewer keep (slice_set keep n true) (with_kept ns (slice_set keep n true)) (set_fewer keep n)
    (kept_fewer ns (slice_set keep n true))

-- Enough rounds

-- only procedures are mentioned
abbrev pub Within : ℕ → MentionLists → Type 0
Within most mentioned = (number : ℕ) (numbers : List ℕ) → slice_get mentioned number ≡ Some numbers → Each (λ n. n < most) numbers

pub rounds_closed : (n : ℕ) (mentioned : MentionLists) (keep : List Bool) → missing keep ≤ n → Within (length keep) mentioned
    → EachMentioned (IsIn (after_rounds n mentioned keep)) mentioned (after_rounds n mentioned keep)
rounds_closed zero mentioned keep h w = λ number numbers a b.
    each_so (λ m. m < length keep) (IsIn keep) (λ m l. none_missing keep m h l) numbers (w number numbers b)
rounds_closed (suc n) mentioned keep h w = by (kept_fewer (mentioned_by_kept mentioned keep) keep)
    (λ g v. rounds_closed n mentioned (with_kept (mentioned_by_kept mentioned keep) keep) g v)
  where
    here : (with_kept (mentioned_by_kept mentioned keep) keep) ≡ keep → EachMentioned (IsIn keep) mentioned keep
    here e = so_mentioned (IsIn keep) mentioned keep
        (subst (λ all. Each (IsIn all) (mentioned_by_kept mentioned keep)) e
        (kept_there (mentioned_by_kept mentioned keep) keep
        (mentioned_so (λ m. m < length keep) mentioned keep (λ k l a b. w k l b))))

    by : ((with_kept (mentioned_by_kept mentioned keep) keep) ≡ keep) ⊎ (missing (with_kept (mentioned_by_kept mentioned keep) keep) < missing keep)
        → (missing (with_kept (mentioned_by_kept mentioned keep) keep) ≤ n → Within (length (with_kept (mentioned_by_kept mentioned keep) keep)) mentioned
        → EachMentioned (IsIn (after_rounds n mentioned (with_kept (mentioned_by_kept mentioned keep) keep))) mentioned
        (after_rounds n mentioned (with_kept (mentioned_by_kept mentioned keep) keep)))
        → EachMentioned (IsIn (after_rounds n mentioned (with_kept (mentioned_by_kept mentioned keep) keep))) mentioned
        (after_rounds n mentioned (with_kept (mentioned_by_kept mentioned keep) keep))
    by (inl e) next = subst (λ all. EachMentioned (IsIn all) mentioned all)
        (sym (ap (after_rounds n mentioned) e ∙ rounds_stay n mentioned keep e)) (here e)
    by (inr l) next = next (omega (arith, l, h))
        (subst (λ most. Within most mentioned) (sym (long_kept (mentioned_by_kept mentioned keep) keep)) w)

-- The least set

pub long_none : (n : ℕ) → length (replicate n false) ≡ n
long_none zero = refl
long_none (suc n) = ap suc (long_none n)

pub missing_none : (n : ℕ) → missing (replicate n false) ≡ n
missing_none zero = refl
missing_none (suc n) = ap suc (missing_none n)

none_in : (n i : ℕ) → IsIn (replicate n false) i → ⊥
none_in zero i h = absurd (cc)
none_in (suc n) zero h = absurd (cc)
none_in (suc n) (suc i) h = none_in n i h

fewer_missing : (keep all : List Bool) → (all ≡ keep) ⊎ (missing all < missing keep) → missing all ≤ missing keep
fewer_missing keep all (inl e) = let same = ap missing e in omega (arith, same)
fewer_missing keep all (inr l) = omega (arith, l)

pub least_set : (mentioned : MentionLists) (own : List ℕ) → All (λ number. number < length mentioned) own
    → ((number : ℕ) (numbers : List ℕ) → slice_get mentioned number ≡ Some numbers → All (λ n. n < length mentioned) numbers)
    → IsLeast mentioned own (kept_from mentioned own)
least_set mentioned own o w =
    let most = length mentioned in
    let none = replicate most false in
    let first = with_kept own none in
    let long : length first ≡ most = long_kept own none ∙ long_none most in
    let few : missing first ≤ most =
    let less = fewer_missing none first (kept_fewer own none) in let all = missing_none most in omega (arith, less, all) in
    let within : Within (length first) mentioned =
    λ number numbers g. subst (λ m. Each (λ n. n < m) numbers) (sym long) (each_of (λ n. n < most) numbers (w number numbers g)) in
    let closed = rounds_closed most mentioned first few within in
    let there = kept_there own none (subst (λ m. Each (λ n. n < m) own) (sym (long_none most)) (each_of (λ n. n < most) own o)) in
    let kept = after_rounds most mentioned first in
    record {
      as_many = rounds_long most mentioned first ∙ long;
      own_kept = all_of (IsIn kept) own (each_so (IsIn first) (IsIn kept) (λ n h. rounds_keep most mentioned first n h) own there);
      closed = record { closed = λ number numbers a b. all_of (IsIn kept) numbers (closed number numbers a b) };
      least = λ other long_other mine c i h. rounds_least most mentioned first other c
          (λ j g. kept_least (IsIn other) own none (λ k z. absurd (none_in most k z)) (each_of (IsIn other) own mine) j g) i h;
    }
