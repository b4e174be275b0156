-- What is taken back without memory is an assignment, an exchange or a move.
use Rattle.std.proofs.Common.{◌≡◌, Bool, true, false, refl}
use Rattle.std.specs.Prelude.{◌&&◌}
use Rattle.icn_value.specs.Values.{Value, Variable}
use Rattle.icn_value.specs.declared.residual.Mover.{Mover}
use Rattle.icn_value.specs.declared.residual.Mover.TheVariants.{Neither, Left, Right}
use Rattle.icn_defs.specs.Rows.{UndoExchange}
use Rattle.icn_vars.specs.Assignments.{takes_no_memory}
use Rattle.icn_vars.specs.Outcomes.{mover_of}
use Rattle.icn_apply.specs.Undoing.{undoes_in_place}

pub never : {P : Type 0} → false ≡ true → P
never same = let none : ⊥ = cc in absurd none

first_holds : (a b : Bool) → (a && b) ≡ true → a ≡ true
first_holds true b e = refl
first_holds false b e = e

second_holds : (a b : Bool) → (a && b) ≡ true → b ≡ true
second_holds true b e = e
second_holds false b e = never e

-- an exchange of two variables, of which neither moves the other and neither takes memory
pub exchanged_in_place : {P : Type 0} (mover : Mover) (left right : Variable) (old_left old_right : Value)
    → undoes_in_place (UndoExchange (mover_of mover) left right old_left old_right) ≡ true
    → (mover ≡ Neither → takes_no_memory left ≡ true → takes_no_memory right ≡ true → P) → P
exchanged_in_place Neither left right old_left old_right e f =
    f refl (first_holds (takes_no_memory left) (takes_no_memory right) e) (second_holds (takes_no_memory left) (takes_no_memory right) e)
exchanged_in_place Left left right old_left old_right e f = never e
exchanged_in_place Right left right old_left old_right e f = never e
