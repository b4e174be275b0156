-- What an error leaves that is none of a limit.
use Rattle.std.specs.Prelude.{◌≡◌, ◌⊎◌, ℕ, Bool, true, false}
use Rattle.icn_text.specs.declared.op.Op.{Op}
use Rattle.icn_text.specs.declared.op.Op.TheVariants.{Swap, ReversibleSwap}
use Rattle.icn_value.specs.Store.{Setting}
use Rattle.icn_defs.specs.Rows.{Outcome, Fails, Gives, Suspends, Error, Ends, Residual, UndoExchange}

-- the sum of string bytes, or that of cells, would pass its limit
abbrev pub IsLimit : ℕ → Type 0
IsLimit number = (number ≡ 306) ⊎ (number ≡ 307)

-- where the row is an error, it is one of a limit, or nothing was charged or changed
abbrev pub UnchangedByError : Setting → Outcome → Type 0
UnchangedByError before (Fails after) = Unit {0}
UnchangedByError before (Gives item after) = Unit {0}
UnchangedByError before (Suspends item rest after) = Unit {0}
UnchangedByError before (Error number offending after) = IsLimit number ⊎ (after ≡ before)
UnchangedByError before (Ends status after) = Unit {0}

-- an exchange assigns one side after the other, and so does its undo
abbrev pub is_exchange : Op → Bool
is_exchange Swap = true
is_exchange ReversibleSwap = true
is_exchange op = false

-- resuming takes back an exchange
abbrev pub undoes_exchange : Residual → Bool
undoes_exchange (UndoExchange mover x y old_x old_y) = true
undoes_exchange residual = false
