-- What the functions that move do where their place is found.
use Rattle.std.proofs.Common.{◌≡◌, ◌∙◌, sym, ap, ℕ, ℤ, pos, FitsSigned, length, Some}
use mir.Val.{of_z, to_z}
use Rattle.std.specs.Int.{w64}
use Rattle.std.specs.Prelude.{◌+ℤ◌}
use Rattle.std.proofs.lemmas.Int.{to_z-of_z}
use Rattle.icn_value.specs.Store.{Setting}
use Rattle.icn_defs.specs.Conversions.{position_of}
use Rattle.icn_defs.specs.Rows.{thing_or_failure}
use Rattle.icn_defs.specs.Scanning.{plain_position, tabs_to}
use Rattle.icn_scanfn.specs.Moves.{moves_by, tabs_by}

pub tab_found : (n : ℤ) (place size : ℕ) (setting : Setting) → Some place ≡ position_of n size → size ≡ length setting.world.subject
    → tabs_by n setting ≡ tabs_to place setting
tab_found n place size setting is same = ap (λ p. thing_or_failure p tabs_to setting) (ap (position_of n) (sym same) ∙ sym is)

pub move_found : (n : ℤ) (place size : ℕ) (setting : Setting) → Some place ≡ plain_position (pos setting.world.position +ℤ n) size
    → size ≡ length setting.world.subject → moves_by n setting ≡ tabs_to place setting
move_found n place size setting is same = ap (λ p. thing_or_failure p tabs_to setting) (ap (plain_position (pos setting.world.position +ℤ n)) (sym same) ∙ sym is)

-- an integer of 64 bits is what it was before it was held
pub held_integer : {A : Type 0} (f : ℤ → A) (n : ℤ) → FitsSigned w64 n → f (to_z w64 (of_z w64 n)) ≡ f n
held_integer f n fits = ap f (to_z-of_z w64 n fits)
