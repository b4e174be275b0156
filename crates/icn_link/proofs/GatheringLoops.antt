-- Loops over lists whose items each give several things.
use Rattle.std.proofs.Common.{◌≡◌, ℕ, ℤ, ◌+◌, ◌<◌, List, [], ◌∷◌, ◌++◌, length, get_or, drop, map, append_assoc, refl, sym, ap, ◌∙◌}
use Rattle.std.specs.List.{flat_map}
use Rattle.std.proofs.lemmas.List.{at_drop_more}
use Rattle.icn_link.specs.LinkFaults.{over}
use Rattle.icn_link.specs.FirstMentions.{with_text, with_texts, with_integer, with_integers}

pub texts_append : (known xs ys : List (List ℕ)) → with_texts known (xs ++ ys) ≡ with_texts (with_texts known xs) ys
texts_append known [] ys = refl
texts_append known (x ∷ xs) ys = texts_append (with_text known x) xs ys

pub integers_append : (known xs ys : List ℤ) → with_integers known (xs ++ ys) ≡ with_integers (with_integers known xs) ys
integers_append known [] ys = refl
integers_append known (x ∷ xs) ys = integers_append (with_integer known x) xs ys

-- what is known of the next item and those behind it is known of the rest
pub next_item : {A B : Type 0} (g : List A → B) (xs : List A) (i : ℕ) (x : A) (now : B) → i < length xs → x ≡ get_or xs i x
    → now ≡ g (x ∷ drop (i + 1) xs) → now ≡ g (drop i xs)
next_item g xs i x now within is h = h ∙ ap (λ y. g (y ∷ drop (i + 1) xs)) is ∙ sym (at_drop_more g xs i x within)

-- one more item, with the texts that it gives
pub texts_step : {A C : Type 0} (seen : A → C) (gives : C → List (List ℕ)) (xs : List A) (i : ℕ) (x : A) (known later : List (List ℕ))
    → i < length xs → x ≡ get_or xs i x → later ≡ with_texts known (gives (seen x))
    → with_texts later (flat_map gives (map seen (drop (i + 1) xs))) ≡ with_texts known (flat_map gives (map seen (drop i xs)))
texts_step seen gives xs i x known later within is e =
    let rest = flat_map gives (map seen (drop (i + 1) xs)) in
    next_item (λ all. with_texts known (flat_map gives (map seen all))) xs i x (with_texts later rest) within is
    (ap (λ texts. with_texts texts rest) e ∙ sym (texts_append known (gives (seen x)) rest))

pub own_texts_step : {A : Type 0} (gives : A → List (List ℕ)) (xs : List A) (i : ℕ) (x : A) (known later : List (List ℕ))
    → i < length xs → x ≡ get_or xs i x → later ≡ with_texts known (gives x)
    → with_texts later (flat_map gives (drop (i + 1) xs)) ≡ with_texts known (flat_map gives (drop i xs))
own_texts_step gives xs i x known later within is e =
    let rest = flat_map gives (drop (i + 1) xs) in
    next_item (λ all. with_texts known (flat_map gives all)) xs i x (with_texts later rest) within is
    (ap (λ texts. with_texts texts rest) e ∙ sym (texts_append known (gives x) rest))

pub integers_step : {A C : Type 0} (seen : A → C) (gives : C → List ℤ) (xs : List A) (i : ℕ) (x : A) (known later : List ℤ)
    → i < length xs → x ≡ get_or xs i x → later ≡ with_integers known (gives (seen x))
    → with_integers later (flat_map gives (map seen (drop (i + 1) xs))) ≡ with_integers known (flat_map gives (map seen (drop i xs)))
integers_step seen gives xs i x known later within is e =
    let rest = flat_map gives (map seen (drop (i + 1) xs)) in
    next_item (λ all. with_integers known (flat_map gives (map seen all))) xs i x (with_integers later rest) within is
    (ap (λ numbers. with_integers numbers rest) e ∙ sym (integers_append known (gives (seen x)) rest))

pub own_integers_step : {A : Type 0} (gives : A → List ℤ) (xs : List A) (i : ℕ) (x : A) (known later : List ℤ)
    → i < length xs → x ≡ get_or xs i x → later ≡ with_integers known (gives x)
    → with_integers later (flat_map gives (drop (i + 1) xs)) ≡ with_integers known (flat_map gives (drop i xs))
own_integers_step gives xs i x known later within is e =
    let rest = flat_map gives (drop (i + 1) xs) in
    next_item (λ all. with_integers known (flat_map gives all)) xs i x (with_integers later rest) within is
    (ap (λ numbers. with_integers numbers rest) e ∙ sym (integers_append known (gives x) rest))

-- five rows of texts, entered one after the other
pub five_rows : (k0 k1 k2 k3 k4 k5 a b c d e : List (List ℕ)) → k0 ≡ [] → k1 ≡ with_texts k0 a → k2 ≡ with_texts k1 b → k3 ≡ with_texts k2 c
    → k4 ≡ with_texts k3 d → k5 ≡ with_texts k4 e → k5 ≡ with_texts [] (a ++ (b ++ (c ++ (d ++ e))))
five_rows k0 k1 k2 k3 k4 k5 a b c d e h0 h1 h2 h3 h4 h5 =
    h5 ∙ ap (λ k. with_texts k e) (h4
    ∙ ap (λ k. with_texts k d) (h3 ∙ ap (λ k. with_texts k c) (h2 ∙ ap (λ k. with_texts k b) (h1 ∙ ap (λ k. with_texts k a) h0))))
    ∙ sym (texts_append [] a (b ++ (c ++ (d ++ e))) ∙ texts_append (with_texts [] a) b (c ++ (d ++ e))
    ∙ texts_append (with_texts (with_texts [] a) b) c (d ++ e) ∙ texts_append (with_texts (with_texts (with_texts [] a) b) c) d e)

-- two rows
pub two_rows : (k0 k1 a b : List (List ℕ)) → k0 ≡ [] → k1 ≡ with_texts k0 a → with_texts k1 b ≡ with_texts [] (a ++ b)
two_rows k0 k1 a b h0 h1 = ap (λ k. with_texts k b) (h1 ∙ ap (λ k. with_texts k a) h0) ∙ sym (texts_append [] a b)

-- one more item, with what a function makes of it
pub mapped_step : {A B C : Type 0} (seen : A → C) (f : C → B) (xs : List A) (i : ℕ) (none : A) (done later : List B)
    → i < length xs → later ≡ done ++ f (seen (get_or xs i none)) ∷ []
    → later ++ map f (map seen (drop (i + 1) xs)) ≡ done ++ map f (map seen (drop i xs))
mapped_step seen f xs i none done later within e =
    let rest = map f (map seen (drop (i + 1) xs)) in
    ap (λ items. items ++ rest) e ∙ append_assoc done (f (seen (get_or xs i none)) ∷ []) rest
    ∙ sym (at_drop_more (λ all. done ++ map f (map seen all)) xs i none within)
