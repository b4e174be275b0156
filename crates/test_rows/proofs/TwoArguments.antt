-- Lists of two.
use Rattle.std.proofs.Common.{ℕ, zero, suc, ◌<◌, [], ◌∷◌, arith}
use Rattle.std.specs.Prelude.{slice_index_or}

pub all_two : {A : Type 0} (P : A → Type 0) (x y : A) → P x → P y → (k : ℕ) (d : A) → k < 2 → P (slice_index_or (x ∷ y ∷ []) k d)
all_two P x y first second zero d below = first
all_two P x y first second (suc zero) d below = second
all_two P x y first second (suc (suc k)) d below = absurd (omega arith)
