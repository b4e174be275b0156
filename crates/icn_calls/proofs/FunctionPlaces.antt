-- The function at a place is the one of the number behind it.
use Rattle.std.proofs.Common.{◌≡◌, ◌∙◌, ℕ, zero, suc, ◌+◌, Bool, true, false, cond, List, [], ◌∷◌, Some, refl, sym, ap, arith, eqb}
use Rattle.std.specs.Prelude.{find, slice_get}
use Rattle.std.proofs.lemmas.Bool.{eq-eqb, eqb-true, ne_eqb}
use Rattle.icn_text.specs.Funcs.{func_number}
use Rattle.icn_text.specs.declared.func.Func.{Func}
use Rattle.icn_text.specs.declared.func.TheConstants.Func.{ALL}
use Rattle.icn_defs.specs.Numbers.{func_of}

-- the numbers go on from this one, each by one
numbered : ℕ → List Func → Bool
numbered n [] = true
numbered n (x ∷ xs) = cond (eqb (func_number x) (suc n)) (numbered (suc n) xs) false

its_number : (n : ℕ) (x : Func) (xs : List Func) → numbered n (x ∷ xs) ≡ true → func_number x ≡ suc n
unfolding numbered
its_number n x xs h = eqb-true (func_number x) (suc n) (first (eqb (func_number x) (suc n)) h)
  where
    first : (t : Bool) → cond t (numbered (suc n) xs) false ≡ true → t ≡ true
    first true e = refl
    first false e = absurd (let wrong : false ≡ true = e in cc)

others : (n : ℕ) (x : Func) (xs : List Func) → numbered n (x ∷ xs) ≡ true → numbered (suc n) xs ≡ true
unfolding numbered
others n x xs h = rest (eqb (func_number x) (suc n)) h
  where
    rest : (t : Bool) → cond t (numbered (suc n) xs) false ≡ true → numbered (suc n) xs ≡ true
    rest true e = e
    rest false e = absurd (let wrong : false ≡ true = e in cc)

found_at : (k n : ℕ) (xs : List Func) → numbered k xs ≡ true → find (λ f. eqb (func_number f) (suc (k + n))) xs ≡ slice_get xs n
found_at k n [] h = refl
found_at k zero (x ∷ xs) h =
    ap (λ (t : Bool). cond t (Some x) (find (λ f. eqb (func_number f) (suc (k + zero))) xs))
    (eq-eqb (func_number x) (suc (k + zero)) (omega (arith, its_number k x xs h)))
found_at k (suc n) (x ∷ xs) h =
    ap (λ (t : Bool). cond t (Some x) (find (λ f. eqb (func_number f) (suc (k + suc n))) xs))
    (ne_eqb (func_number x) (suc (k + suc n)) (λ (e : func_number x ≡ suc (k + suc n)). omega (arith, e, its_number k x xs h)))
    ∙ (ap (λ (m : ℕ). find (λ f. eqb (func_number f) m) xs) (let same : suc (k + suc n) ≡ suc (suc k + n) = omega arith in same)
    ∙ found_at (suc k) n xs (others k x xs h))

-- the one at a place
pub function_there : (n : ℕ) → slice_get ALL n ≡ func_of (n + 1)
unfolding numbered
function_there n =
    sym (found_at zero n ALL refl) ∙ ap func_of (let same : suc (zero + n) ≡ n + 1 = omega arith in same)
