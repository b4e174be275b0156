-- Names by their places in lists that stand one behind another.
use Rattle.std.proofs.Common.{◌≡◌, ◌∙◌, sym, ap, ℕ, zero, suc, ◌+◌, ◌-◌, ◌<◌, ◌≤◌, List, [], ◌∷◌, ◌++◌, length, map, get_or, Some, arith, length-append}
use Rattle.std.specs.Prelude.{slice_get, unwrap_or}
use Rattle.std.specs.Option.{option_map}
use Rattle.std.proofs.lemmas.List.{length-map}
use Rattle.std.proofs.lemmas.Option.{slice_get-map, slice_get-get_or}

-- what stands behind the first list
pub behind : {X : Type 0} (xs ys : List X) (k : ℕ) → length xs ≤ k → slice_get (xs ++ ys) k ≡ slice_get ys (k - length xs)
behind [] ys k past = ap (slice_get ys) (let same : k ≡ k - 0 = omega arith in same)
behind (x ∷ xs) ys zero past = absurd (omega arith)
behind (x ∷ xs) ys (suc k) past = behind xs ys k (omega arith) ∙ ap (slice_get ys) (let same : k - length xs ≡ suc k - suc (length xs) = omega arith in same)

-- what stands behind two lists
pub behind_two : {X : Type 0} (ps rs fs : List X) (number p r : ℕ) (x d : X) → length ps ≡ p → length rs ≡ r → p + r ≤ number
    → slice_get fs (number - p - r) ≡ Some x
    → x ≡ unwrap_or (slice_get (ps ++ (rs ++ fs)) number) d
behind_two ps rs fs number p r x d first second past is =
    sym (ap (λ o. unwrap_or o d)
    (behind ps (rs ++ fs) number (omega arith) ∙ (behind rs fs (number - length ps) (omega arith)
    ∙ (ap (slice_get fs) (let same : number - length ps - length rs ≡ number - p - r = omega arith in same) ∙ is))))

-- a list that is seen as another
pub seen_once : {X Y : Type 0} (f : X → Y) (xs : List X) (place : ℕ) (x : X) → place < length (map f xs) → x ≡ get_or xs place x
    → slice_get (map f xs) place ≡ Some (f x)
seen_once f xs place x within is =
    let there = simp length-map at within in
    slice_get-map f xs place ∙ ap (option_map f) (slice_get-get_or xs place x there ∙ ap Some (sym is))

-- a list that is seen twice
pub seen_twice : {X Y Z : Type 0} (f : X → Y) (g : Y → Z) (xs : List X) (place : ℕ) (x : X) → place < length (map f xs) → x ≡ get_or xs place x
    → slice_get (map g (map f xs)) place ≡ Some (g (f x))
seen_twice f g xs place x within is = slice_get-map g (map f xs) place ∙ ap (option_map g) (seen_once f xs place x within is)

pub seen_at : {X Y : Type 0} (f : X → Y) (xs : List X) (place : ℕ) (d : X) → place < length xs → slice_get (map f xs) place ≡ Some (f (get_or xs place d))
seen_at f xs place d within = slice_get-map f xs place ∙ ap (option_map f) (slice_get-get_or xs place d within)

front : {X : Type 0} (xs ys : List X) (k : ℕ) (x : X) → slice_get xs k ≡ Some x → slice_get (xs ++ ys) k ≡ Some x
front [] ys zero x is = absurd (cc)
front [] ys (suc k) x is = absurd (cc)
front (y ∷ xs) ys zero x is = is
front (y ∷ xs) ys (suc k) x is = front xs ys k x is

-- what stands in the first, the second and the third of three lists, the first two of which are one
pub first_of_three : {X : Type 0} (ps rs fs : List X) (number : ℕ) (x d : X) → slice_get ps number ≡ Some x
    → x ≡ unwrap_or (slice_get ((ps ++ rs) ++ fs) number) d
first_of_three ps rs fs number x d is = sym (ap (λ o. unwrap_or o d) (front (ps ++ rs) fs number x (front ps rs number x is)))

pub second_of_three : {X : Type 0} (ps rs fs : List X) (number p : ℕ) (x d : X) → length ps ≡ p → p ≤ number → slice_get rs (number - p) ≡ Some x
    → x ≡ unwrap_or (slice_get ((ps ++ rs) ++ fs) number) d
second_of_three ps rs fs number p x d first past is =
    let same : number - length ps ≡ number - p = omega (arith, first) in
    sym (ap (λ o. unwrap_or o d) (front (ps ++ rs) fs number x (behind ps rs number (omega (arith, first, past)) ∙ (ap (slice_get rs) same ∙ is))))

pub third_of_three : {X : Type 0} (ps rs fs : List X) (number p r : ℕ) (x d : X) → length ps ≡ p → length rs ≡ r → p + r ≤ number
    → slice_get fs (number - p - r) ≡ Some x → x ≡ unwrap_or (slice_get ((ps ++ rs) ++ fs) number) d
third_of_three ps rs fs number p r x d first second past is =
    let both = length-append ps rs in
    let same : number - length (ps ++ rs) ≡ number - p - r = omega (arith, both, first, second) in
    sym (ap (λ o. unwrap_or o d) (behind (ps ++ rs) fs number (omega (arith, both, first, second, past)) ∙ (ap (slice_get fs) same ∙ is)))
