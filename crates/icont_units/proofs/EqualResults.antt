-- Values of results that are equal.
use Rattle.std.proofs.Common.{◌≡◌, Result, Ok, Err, ap}

-- equal results have equal values
pub ok_injective : {A E : Type 0} (a b : A) → ◌≡◌ {A = Result A E} (Ok a) (Ok b) → a ≡ b
ok_injective a b e = ap (λ r. elim r [ Ok x ↦ x | Err f ↦ a ]) e

-- equal results have equal errors
pub err_injective : {A E : Type 0} (a b : E) → ◌≡◌ {A = Result A E} (Err a) (Err b) → a ≡ b
err_injective a b e = ap (λ r. elim r [ Ok x ↦ a | Err f ↦ f ]) e

-- no result is both `Ok` and `Err`
pub ok_is_not_err : {A E : Type 0} (a : A) (f : E) → ◌≡◌ {A = Result A E} (Ok a) (Err f) → ⊥
ok_is_not_err a f e = cc
