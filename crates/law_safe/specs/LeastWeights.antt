-- What a flat stack weighs, as a number: the labels and the addresses of return that it leads to, and what failing has to go through before the next turn.
use Rattle.std.specs.Prelude.{ℕ, zero, suc, ◌+◌, max, List, [], ◌∷◌, length, Option, Some, None}
use Rattle.icn_run.specs.Calls.{Why, Alt, Op, Scan, Escan, Proc}
use Rattle.icn_run.specs.Stacks.{Cell, base, call, local, mark, limit, suspension, operand, Registers, Frames, cut}
use Rattle.law_stacks.specs.Measure.{worth}
use Rattle.law_stacks.specs.StackWeights.{label_weight}

-- what a suspension weighs, by what comes back with it; nothing, where to resume it is a turn
abbrev pub back_weight : Why → ℕ → ℕ
back_weight Alt inside = suc inside
back_weight (Op residual) inside = 0
back_weight (Scan pair) inside = suc inside
back_weight Escan inside = suc inside
back_weight Proc inside = 0

-- what a mark, a limit or a frame weighs with all outside of it, by what the cells below it weigh
abbrev pub outer_weight : ℕ → (List Cell → Registers → ℕ) → List Cell → ℕ
outer_weight N below_weight [] = 0
outer_weight N below_weight (base proc locals ∷ below) = 0
outer_weight N below_weight (call proc locals level registers address ∷ below) =
    suc (worth N address) + below_weight below registers
outer_weight N below_weight (local value ∷ below) = 0
outer_weight N below_weight (mark label changed registers ∷ below) =
    suc (label_weight N label changed) + below_weight below registers
outer_weight N below_weight (limit count registers ∷ below) = suc (below_weight below registers)
outer_weight N below_weight (suspension why registers address ∷ below) = 0
outer_weight N below_weight (operand item ∷ below) = 0

-- the same of a suspension
abbrev pub newest_weight : (List Cell → Registers → ℕ) → List Cell → ℕ
newest_weight below_weight [] = 0
newest_weight below_weight (base proc locals ∷ below) = 0
newest_weight below_weight (call proc locals level registers address ∷ below) = 0
newest_weight below_weight (local value ∷ below) = 0
newest_weight below_weight (mark label changed registers ∷ below) = 0
newest_weight below_weight (limit count registers ∷ below) = 0
newest_weight below_weight (suspension why registers address ∷ below) =
    back_weight why (below_weight below registers)
newest_weight below_weight (operand item ∷ below) = 0

-- the cells up to a height, if there is one
abbrev pub weight_up_to : (List Cell → ℕ) → List Cell → Option ℕ → ℕ
weight_up_to weight cells None = 0
weight_up_to weight cells (Some height) = weight (cut height cells)

-- cells with their registers, so many levels deep: the innermost mark, or its newest suspension if that weighs more
abbrev pub weight_to_depth : ℕ → ℕ → List Cell → Registers → ℕ
weight_to_depth N zero cells registers = 0
weight_to_depth N (suc n) cells registers =
    max (outer_weight N (weight_to_depth N n) (cut registers.mark cells))
    (weight_up_to (newest_weight (weight_to_depth N n)) cells registers.newest)

-- a stack, where no procedure has more than N instructions
abbrev pub stack_weight : ℕ → Frames → ℕ
stack_weight N m = weight_to_depth N (suc (length m.cells)) m.cells m.registers
