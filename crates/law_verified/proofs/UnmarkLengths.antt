-- Two small things that many forms want.
use Rattle.std.proofs.Common.{◌≡◌, ℕ, zero, suc, true, false, length, refl, ap, subst}
use Rattle.law_verified.specs.Noted.{NotedShape, unmarks, without_mark}

-- `false` is not `true`
pub false_is_not_true : false ≡ true → ⊥
false_is_not_true e = subst (λ b. elim b as (λ x. Type 0) [ true ↦ ⊥ | false ↦ Unit {0} ]) e tt

-- dropping marks takes one instruction a mark
pub none_unmarks : (n : ℕ) (s : NotedShape) → length (unmarks n s) ≡ n
none_unmarks zero s = refl
none_unmarks (suc n) s = ap suc (none_unmarks n (without_mark s))
