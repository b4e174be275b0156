-- What verified code gives to whoever runs it.
use Rattle.std.specs.Prelude.{◌≡◌, ℕ, ◌<◌, ◌≤◌, false, true, List, Option, Some, IfSome, slice_get}
use Rattle.icn_code.specs.declared.instr.Instr.{Instr}
use Rattle.icn_code.specs.Codes.{Proc, Tables}
use Rattle.icn_verify.specs.Shapes.{PlainShape, start_shape}
use Rattle.icn_verify.specs.Rows.{fits, next, forward, back}

-- an instruction stands at the address, finds what it takes and asks for in the shape, and each address to which it leads has the
-- shape that it leaves there
pub record IsFine (instrs : List Instr) (shapes : ℕ → Option PlainShape) (address : ℕ)
    (shape : PlainShape) : Type 0 where
  pub instr : Instr
  pub stands : slice_get instrs address ≡ Some instr
  pub fit : fits shape instr ≡ true
  pub on : IfSome (next instr address shape) (λ to. shapes to.0 ≡ Some to.1)
  pub onward : IfSome (forward instr shape) (λ to. (address < to.0) × (shapes to.0 ≡ Some to.1))
  pub backward : IfSome (back instr shape) (λ to. (to.0 ≤ address) × (shapes to.0 ≡ Some to.1))

-- each reached address has its one shape: the start has the base alone, and so on from address to address
pub record HasShapes (instrs : List Instr) (shapes : ℕ → Option PlainShape) : Type 0 where
  pub start : shapes 0 ≡ Some (start_shape false)
  pub each : (address : ℕ) (shape : PlainShape) → shapes address ≡ Some shape
      → IsFine instrs shapes address shape

-- each procedure has shapes
abbrev pub HaveShapes : Tables → Type 0
HaveShapes tables = (number : ℕ) (proc : Proc) → slice_get tables.procs number ≡ Some proc
    → (shapes : ℕ → Option PlainShape) × HasShapes proc.instrs shapes
