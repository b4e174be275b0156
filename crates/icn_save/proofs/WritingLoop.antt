-- Putting the spelling of one entry behind that of the others, as a loop does.
use Rattle.std.proofs.Common.{◌≡◌, ℕ, ◌+◌, ◌<◌, List, [], ◌∷◌, ◌++◌, length, get_or, take, map, refl, sym, ap, ◌∙◌, append_assoc}
use Rattle.std.specs.List.{flat_map}
use Rattle.std.proofs.lemmas.List.{take_more, flat_map_more}
use Rattle.std.proofs.lemmas.List.Concat.{flat_map-cons}

pub put_more : {A : Type 0} (f : A → List ℕ) (old front : List ℕ) (xs : List A) (i : ℕ) (d : A) (before after : List ℕ) → i < length xs
    → before ≡ old ++ (front ++ flat_map f (take i xs)) → after ≡ before ++ f (get_or xs i d)
    → after ≡ old ++ (front ++ flat_map f (take (i + 1) xs))
put_more {A} f old front xs i d before after lt h e =
    let more : take (i + 1) xs ≡ take i xs ++ get_or xs i d ∷ [] = take_more xs i d lt in
    e ∙ (ap (λ (t : List ℕ). t ++ f (get_or xs i d)) h ∙ (append_assoc old (front ++ flat_map f (take i xs)) (f (get_or xs i d))
    ∙ ap (λ (t : List ℕ). old ++ t) (flat_map_more f front (take i xs) (get_or xs i d) ∙ ap (λ (t : List A). front ++ flat_map f t) (sym more))))

-- of entries that are seen so: their spelling at once
pub mapped_at_once : {A B : Type 0} (f : B → List ℕ) (view : A → B) (xs : List A) → flat_map f (map view xs) ≡ flat_map (λ x. f (view x)) xs
mapped_at_once f view [] = refl
mapped_at_once f view (x ∷ xs) =
    flat_map-cons f (view x) (map view xs) ∙ (ap (λ (t : List ℕ). f (view x) ++ t) (mapped_at_once f view xs) ∙ sym (flat_map-cons (λ x. f (view x)) x xs))

-- the same loop over entries that are seen so
pub put_mapped_more : {A B : Type 0} (f : B → List ℕ) (view : A → B) (old front : List ℕ) (xs : List A) (i : ℕ) (d : A) (before after : List ℕ) → i < length xs
    → before ≡ old ++ (front ++ flat_map f (map view (take i xs))) → after ≡ before ++ f (view (get_or xs i d))
    → after ≡ old ++ (front ++ flat_map f (map view (take (i + 1) xs)))
put_mapped_more {A} f view old front xs i d before after lt h e =
    let at : (n : ℕ) → old ++ (front ++ flat_map f (map view (take n xs))) ≡ old ++ (front ++ flat_map (λ x. f (view x)) (take n xs)) =
    λ n. ap (λ (t : List ℕ). old ++ (front ++ t)) (mapped_at_once f view (take n xs)) in
    put_more (λ x. f (view x)) old front xs i d before after lt (h ∙ at i) e ∙ sym (at (i + 1))
