-- All texts of so many bytes, and how many texts of a list are not met yet.
use Rattle.std.proofs.Common.{◌≡◌, ◌⊎◌, inl, inr, ℕ, zero, suc, ◌≤◌, ◌<◌, Bool, true, false, ◌&&◌, ◌||◌, List, [], ◌∷◌, ◌++◌, map, nat_lt, length, refl, sym, ap, subst, ◌∙◌, true≢false, arith}
use Rattle.std.specs.List.{list_all, list_any}
use Rattle.std.specs.Str.{bytes_eq}
use Rattle.std.proofs.lemmas.Bool.{cases_lt}
use Rattle.std.proofs.lemmas.Bool.Decides.{nat_tests}
use Rattle.std.proofs.lemmas.Slice.Eq.{bytes_eq-Decides}

-- Tests

pub both_first : (a b : Bool) → (a && b) ≡ true → a ≡ true
both_first true b e = refl
both_first false b e = e

pub and_second : (a b : Bool) → (a && b) ≡ true → b ≡ true
and_second true b e = e
and_second false b e = absurd (true≢false (sym e))

pub and_intro : (a b : Bool) → a ≡ true → b ≡ true → (a && b) ≡ true
and_intro true b e f = f
and_intro false b e f = e

pub or_of_first : (a b : Bool) → a ≡ true → (a || b) ≡ true
or_of_first true b e = refl
or_of_first false b e = absurd (true≢false (sym e))

pub or_of_second : (a b : Bool) → b ≡ true → (a || b) ≡ true
or_of_second true b e = refl
or_of_second false b e = e

pub either : (a b c d : Bool) → (a ≡ true → c ≡ true) → (b ≡ true → d ≡ true) → (a || b) ≡ true → (c || d) ≡ true
either true b c d f g h = or_of_first c d (f refl)
either false b c d f g h = or_of_second c d (g h)

pub all_as : {A : Type 0} (p q : A → Bool) → ((x : A) → p x ≡ true → q x ≡ true) → (xs : List A) → list_all p xs ≡ true → list_all q xs ≡ true
all_as p q f [] h = refl
all_as p q f (x ∷ xs) h =
    and_intro (q x) (list_all q xs) (f x (both_first (p x) (list_all p xs) h)) (all_as p q f xs (and_second (p x) (list_all p xs) h))

pub all_both : {A : Type 0} (p : A → Bool) (xs ys : List A) → list_all p xs ≡ true → list_all p ys ≡ true → list_all p (xs ++ ys) ≡ true
all_both p [] ys h k = k
all_both p (x ∷ xs) ys h k =
    and_intro (p x) (list_all p (xs ++ ys)) (both_first (p x) (list_all p xs) h) (all_both p xs ys (and_second (p x) (list_all p xs) h) k)

pub any_front : {A : Type 0} (p : A → Bool) (xs ys : List A) → list_any p xs ≡ true → list_any p (xs ++ ys) ≡ true
any_front p [] ys h = absurd (true≢false (sym h))
any_front p (x ∷ xs) ys h = either (p x) (list_any p xs) (p x) (list_any p (xs ++ ys)) (λ e. e) (any_front p xs ys) h

pub any_back : {A : Type 0} (p : A → Bool) (xs ys : List A) → list_any p ys ≡ true → list_any p (xs ++ ys) ≡ true
any_back p [] ys h = h
any_back p (x ∷ xs) ys h = or_of_second (p x) (list_any p (xs ++ ys)) (any_back p xs ys h)

-- Texts of a list

abbrev pub is_listed : List (List ℕ) → List ℕ → Bool
is_listed texts text = list_any (bytes_eq text) texts

same_text : (text : List ℕ) → bytes_eq text text ≡ true
same_text text = (bytes_eq-Decides text text).1 refl

pub has_all : (texts more : List (List ℕ)) → list_all (is_listed (texts ++ more)) texts ≡ true
has_all [] more = refl
has_all (text ∷ texts) more =
    and_intro (is_listed (text ∷ (texts ++ more)) text) (list_all (is_listed (text ∷ (texts ++ more))) texts)
    (or_of_first (bytes_eq text text) (is_listed (texts ++ more) text) (same_text text))
    (all_as (is_listed (texts ++ more)) (is_listed (text ∷ (texts ++ more))) (λ x e. or_of_second (bytes_eq x text) (is_listed (texts ++ more) x) e) texts
    (has_all texts more))

-- All texts

-- those that begin with a number below this one, and go on as these
headed : ℕ → List (List ℕ) → List (List ℕ)
headed zero texts = []
headed (suc k) texts = map (λ text. k ∷ text) texts ++ headed k texts

-- those of at most so many numbers, each below the first number
pub texts_of : ℕ → ℕ → List (List ℕ)
texts_of most zero = [] ∷ []
texts_of most (suc n) = [] ∷ headed most (texts_of most n)

same_behind : (k : ℕ) (text other : List ℕ) → bytes_eq text other ≡ true → bytes_eq (k ∷ text) (k ∷ other) ≡ true
same_behind k text other e = (bytes_eq-Decides (k ∷ text) (k ∷ other)).1 (ap (λ t. k ∷ t) ((bytes_eq-Decides text other).0 e))

has_behind : (k : ℕ) (texts : List (List ℕ)) (text : List ℕ) → is_listed texts text ≡ true → is_listed (map (λ t. k ∷ t) texts) (k ∷ text) ≡ true
has_behind k [] text h = h
has_behind k (other ∷ texts) text h =
    either (bytes_eq text other) (is_listed texts text) (bytes_eq (k ∷ text) (k ∷ other)) (is_listed (map (λ t. k ∷ t) texts) (k ∷ text))
    (same_behind k text other)
    (has_behind k texts text) h

has_headed : (k b : ℕ) (texts : List (List ℕ)) (text : List ℕ) → b < k → is_listed texts text ≡ true → is_listed (headed k texts) (b ∷ text) ≡ true
unfolding headed
has_headed zero b texts text l h = absurd (omega (arith, l))
has_headed (suc k) b texts text l h = by_place (λ less. has_headed k b texts text less h) (cases_lt b k) where
  by_place : (b < k → is_listed (headed k texts) (b ∷ text) ≡ true) → (b < k) ⊎ (k ≤ b) → is_listed (headed (suc k) texts) (b ∷ text) ≡ true
  by_place below (inl less) = any_back (bytes_eq (b ∷ text)) (map (λ t. k ∷ t) texts) (headed k texts) (below less)
  by_place below (inr least) =
      let same : k ≡ b = omega (arith, l, least) in
      subst (λ n. is_listed (headed (suc k) texts) (n ∷ text) ≡ true) same
      (any_front (bytes_eq (k ∷ text)) (map (λ t. k ∷ t) texts) (headed k texts) (has_behind k texts text h))

less_than : (b most : ℕ) → nat_lt b most ≡ true → b < most
less_than b most e = grind (arith, nat_tests)

pub has_text : (most n : ℕ) (text : List ℕ) → list_all (λ b. nat_lt b most) text ≡ true → length text ≤ n → is_listed (texts_of most n) text ≡ true
unfolding texts_of
has_text most zero [] h l = or_of_first (bytes_eq [] []) false (same_text [])
has_text most zero (b ∷ text) h l = absurd (omega (arith, l))
has_text most (suc n) [] h l = or_of_first (bytes_eq [] []) (is_listed (headed most (texts_of most n)) []) (same_text [])
has_text most (suc n) (b ∷ text) h l = or_of_second (bytes_eq (b ∷ text) []) (is_listed (headed most (texts_of most n)) (b ∷ text))
    (has_headed most b (texts_of most n) text (less_than b most (both_first (nat_lt b most) (list_all (λ c. nat_lt c most) text) h))
    (has_text most n text (and_second (nat_lt b most) (list_all (λ c. nat_lt c most) text) h) (omega (arith, l))))

-- Texts that wait

abbrev one_more : Bool → ℕ → ℕ
one_more true n = n
one_more false n = suc n

-- how many are not met
pub waiting : (List ℕ → Bool) → List (List ℕ) → ℕ
waiting met [] = 0
waiting met (text ∷ texts) = one_more (met text) (waiting met texts)

more_or_same : (a b : Bool) (n m : ℕ) → (a ≡ true → b ≡ true) → n ≤ m → one_more b n ≤ one_more a m
more_or_same true true n m f l = l
more_or_same true false n m f l = absurd (true≢false (sym (f refl)))
more_or_same false true n m f l = omega (arith, l)
more_or_same false false n m f l = omega (arith, l)

more_less : (a b : Bool) (n m : ℕ) → (a ≡ true → b ≡ true) → n < m → one_more b n < one_more a m
more_less true true n m f l = l
more_less true false n m f l = absurd (true≢false (sym (f refl)))
more_less false true n m f l = omega (arith, l)
more_less false false n m f l = omega (arith, l)

now_less : (a b : Bool) (n m : ℕ) → a ≡ false → b ≡ true → n ≤ m → one_more b n < one_more a m
now_less false true n m e f l = omega (arith, l)
now_less true b n m e f l = absurd (true≢false e)
now_less false false n m e f l = absurd (true≢false (sym f))

module _ (before after : List ℕ → Bool) (kept : (text : List ℕ) → before text ≡ true → after text ≡ true) where
  no_more_wait : (texts : List (List ℕ)) → waiting after texts ≤ waiting before texts
  unfolding waiting
  no_more_wait [] = omega arith
  no_more_wait (text ∷ texts) = more_or_same (before text) (after text) (waiting after texts) (waiting before texts) (kept text) (no_more_wait texts)

  -- where one more is met fewer wait
  pub fewer_wait : (met : List ℕ) → before met ≡ false → after met ≡ true → (texts : List (List ℕ)) → is_listed texts met ≡ true
      → waiting after texts < waiting before texts
  unfolding waiting
  fewer_wait met e f [] h = absurd (true≢false (sym h))
  fewer_wait met e f (text ∷ texts) h = by_text (λ k. fewer_wait met e f texts k) (bytes_eq met text) refl h where
    by_text : (is_listed texts met ≡ true → waiting after texts < waiting before texts) → (same : Bool) → bytes_eq met text ≡ same
        → (same || is_listed texts met) ≡ true
        → waiting after (text ∷ texts) < waiting before (text ∷ texts)
    by_text rest true is k =
        let here : met ≡ text = (bytes_eq-Decides met text).0 is in
        now_less (before text) (after text) (waiting after texts) (waiting before texts) (sym (ap before here) ∙ e) (sym (ap after here) ∙ f)
        (no_more_wait texts)
    by_text rest false is k = more_less (before text) (after text) (waiting after texts) (waiting before texts) (kept text) (rest k)
