-- The shapes that reach the addresses of a procedure.
use Rattle.std.specs.Prelude.{◌≡◌, ℕ, ◌<◌, false, true, ◌⊎◌, List, Some, length, slice_get}
use Rattle.icn_code.specs.declared.instr.Instr.{Instr}
use Rattle.icn_verify.specs.Shapes.{PlainShape, start_shape}
use Rattle.icn_verify.specs.Rows.{fits, next, forward, is_within}

-- a shape at an address is carried by the instruction there to another address: to the next instruction, or to a label that lies
-- after it. A label that leads back carries nothing, and neither does an instruction that doesn't fit.
pub record Carries (instrs : List Instr) (address : ℕ) (shape : PlainShape) (to : ℕ)
    (carried : PlainShape) : Type 0 where
  pub instr : Instr
  pub stands : slice_get instrs address ≡ Some instr
  pub fit : fits shape instr ≡ true
  pub later : address < to
  pub leads : (next instr address shape ≡ Some (to, carried)) ⊎ (forward instr shape ≡ Some (to, carried))

-- the least shapes that hold at the start and are carried on
pub data Reaches (instrs : List Instr) : ℕ → PlainShape → Type 0 where
  starts : Reaches instrs 0 (start_shape false)
  goes : (address : ℕ) (shape : PlainShape) (to : ℕ) (carried : PlainShape) → Reaches instrs address shape
      → Carries instrs address shape to carried → Reaches instrs to carried

-- each label is an address of the instructions, or their end
pub record AreWithin (instrs : List Instr) : Type 0 where
  pub each : (address : ℕ) (instr : Instr) → slice_get instrs address ≡ Some instr
      → is_within (length instrs) instr ≡ true
