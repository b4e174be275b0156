-- Values that are taken out of a structure, place by place.
use Rattle.std.proofs.Common.{◌≡◌, ◌∙◌, sym, ap, ℕ, ◌+◌, ◌-◌, ◌<◌, ◌≤◌, List, [], ◌∷◌, ◌++◌, map, take, drop, length, slice_get, get_or, Option, Some, None, inl, inr, arith, length-drop}
use Rattle.std.specs.List.{slice_range}
use Rattle.std.proofs.lemmas.List.{map-append, take_more, get_or-drop, take_all}
use Rattle.std.proofs.lemmas.Slice.{between_from_start}
use Rattle.std.proofs.lemmas.Option.{slice_get_within, get_or_from_slice_get, slice_get_cases}

-- a part with the item behind it
range_more : {X : Type 0} (xs : List X) (from place : ℕ) (x : X) → from ≤ place → slice_get xs place ≡ Some x
    → slice_range xs from (place + 1) ≡ slice_range xs from place ++ x ∷ []
range_more xs from place x order at =
    let there : place < length xs = slice_get_within xs place x at in
    let more : place + 1 - from ≡ place - from + 1 = omega arith in
    let inside : place - from < length (drop from xs) = rw length-drop (omega arith) in
    let same : from + (place - from) ≡ place = omega arith in
    let read : get_or (drop from xs) (place - from) x ≡ x = get_or-drop from xs (place - from) x
    ∙ (ap (λ n. get_or xs n x) same ∙ get_or_from_slice_get xs place x x at) in
    ap (λ n. take n (drop from xs)) more ∙ (take_more (drop from xs) (place - from) x inside ∙ ap (λ y. take (place - from) (drop from xs) ++ y ∷ []) read)

-- one more is taken out
pub gathers : {X Y : Type 0} (f : X → Y) (xs : List X) (ys : List Y) (from place : ℕ) (x : X) → from ≤ place
    → map f xs ≡ slice_range ys from place → (let found : Option Y = Some (f x) in found) ≡ slice_get ys place
    → map f (xs ++ x ∷ []) ≡ slice_range ys from (place + 1)
gathers f xs ys from place x order so_far found =
    map-append f xs (x ∷ []) ∙ (ap (λ zs. zs ++ f x ∷ []) so_far ∙ sym (range_more ys from place (f x) order (sym found)))

-- all are
pub gathered : {Y : Type 0} (ys : List Y) (n : ℕ) → n ≡ length ys → slice_range ys 0 n ≡ ys
gathered ys n all = between_from_start ys n ∙ take_all n ys (let more : length ys ≤ n = omega arith in more)

-- something stands at each place
pub none_there : {X : Type 0} (xs : List X) (place : ℕ) → place < length xs → (let found : Option X = None in found) ≡ slice_get xs place → ⊥
none_there xs place there none =
    elim (slice_get_cases xs place).1 [ inl some ↦ (let is = none ∙ some.2 in cc) | inr past ↦ omega (arith, past.0) ]
