-- What is found passes the test by which it was looked for.
use Rattle.std.proofs.Common.{◌≡◌, ℕ, Bool, true, false, cond, List, [], ◌∷◌, Option, Some, refl, sym, ◌∙◌, ap, eqb}
use Rattle.std.specs.Prelude.{find}
use Rattle.std.proofs.lemmas.Bool.{eqb-true}

chosen : {A : Type 0} (p : A → Bool) (x y : A) (rest : Option A) (t : Bool) → p x ≡ t → cond t (Some x) rest ≡ Some y → (rest ≡ Some y → p y ≡ true)
    → p y ≡ true
chosen p x y rest true e h more = let same : x ≡ y = cc in ap p (sym same) ∙ e
chosen p x y rest false e h more = more h

passes : {A : Type 0} (p : A → Bool) (xs : List A) (y : A) → find p xs ≡ Some y → p y ≡ true
passes p [] y h = cc
passes p (x ∷ xs) y h = chosen p x y (find p xs) (p x) refl h (passes p xs y)

-- looked for by its number
pub found_number : {A : Type 0} (number : A → ℕ) (xs : List A) (n : ℕ) (y : A) → find (λ x. eqb (number x) n) xs ≡ Some y → number y ≡ n
found_number number xs n y h = eqb-true (number y) n (passes (λ x. eqb (number x) n) xs y h)
