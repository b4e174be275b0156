-- Bytes of a slice.
use Rattle.std.proofs.Common.{◌≡◌, ℕ, suc, true, List, [], ◌∷◌, refl, Fits, w8}
use Rattle.std.specs.List.{list_all}
use Rattle.std.proofs.Common.{get_or, arith}
use Rattle.icn_unit.specs.UnitRules.{is_byte}
use Rattle.icn_units.proofs.WrittenTrees.{and_intro, nat_le_of_le}

pub all_bytes : (bytes : List ℕ) → ((i : ℕ) → Fits w8 (get_or bytes i 0)) → list_all is_byte bytes ≡ true
all_bytes [] h = refl
all_bytes (b ∷ bytes) h = let k : Fits w8 b = h 0 in and_intro (nat_le_of_le (suc b) 256 (omega arith)) (all_bytes bytes (λ i. h (suc i)))
