-- How large the counts of a shape get: by one with each instruction at most, so that they are numbers of 32 bits.
use Rattle.std.specs.Prelude.{ℕ, ◌+◌, ◌^◌, ◌<◌, ◌≤◌, List, [], ◌∷◌}
use Rattle.icn_code.specs.declared.instr.Instr.{Instr}
use Rattle.icn_verify.specs.declared.shape.Level.{Level}
use Rattle.icn_verify.specs.declared.rows.StackEffect.{StackEffect}
use Rattle.icn_verify.specs.Shapes.{PlainShape}
use Rattle.icn_verify.specs.Rows.{after, row_of}
use Rattle.icn_verify.specs.Passing.{Arrival, unseen, one, several}

-- a level has at most so many operands, and at most so many open scans
pub record IsLow (most : ℕ) (level : Level) : Type 0 where
  pub operands : level.operands ≤ most
  pub scans : level.scans ≤ most

-- each level has at most so many operands, and at most so many open scans
abbrev pub AreLow : ℕ → List Level → Type 0
AreLow most [] = Unit {0}
AreLow most (level ∷ levels) = IsLow most level × AreLow most levels

-- each level of a shape
pub record IsLowShape (most : ℕ) (shape : PlainShape) : Type 0 where
  pub inner : IsLow most shape.inner
  pub outer : AreLow most shape.outer

-- the one shape that was seen, if it is one, has levels with at most so many
abbrev pub IsLowSeen : ℕ → Arrival → Type 0
IsLowSeen most unseen = Unit {0}
IsLowSeen most (one shape) = IsLowShape most shape
IsLowSeen most (several fewest) = Unit {0}

-- each level of what came to each address
abbrev pub IsLowTable : ℕ → List Arrival → Type 0
IsLowTable most [] = Unit {0}
IsLowTable most (seen ∷ table) = IsLowSeen most seen × IsLowTable most table

-- an instruction of this row has room for one open scan more, and for the operands that it leaves
pub record HasRoom (row : StackEffect) (shape : PlainShape) : Type 0 where
  pub scans : shape.inner.scans + 1 < 2 ^ 32
  pub operands : (after row shape).inner.operands < 2 ^ 32

-- where one shape came, the instruction has room there
abbrev pub FindsRoom : Instr → Arrival → Type 0
FindsRoom instr unseen = Unit {0}
FindsRoom instr (one shape) = HasRoom (row_of instr) shape
FindsRoom instr (several fewest) = Unit {0}
