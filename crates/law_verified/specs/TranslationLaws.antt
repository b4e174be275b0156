-- The laws of the translation.
use Rattle.std.specs.Prelude.{◌≡◌, ℕ, true, false, List, [], Option, Some, slice_get}
use Rattle.icn_tree.specs.Trees.{Trees, Initial, NoInitial, Initially}
use Rattle.law_simulation.specs.Translation.{SymbolTable}
use Rattle.law_simulation.specs.Translation as C
use Rattle.law_simulation.specs.Linkage.{Linkage}
use Rattle.std.specs.Option.{option_map}
use Rattle.icn_code.specs.declared.instr.Instr.{Instr}
use Rattle.law_verified.specs.Noted.{Note, NotedShape, start, procedure}
use Rattle.law_verified.specs.Verified.{Fine}
use Rattle.law_verified.specs.FittingTrees.{Fit, FitAll}

-- the expression of `initial` fits
abbrev pub FitInitial : Linkage → ℕ → SymbolTable → Initial → Type 0
FitInitial L j N NoInitial = Unit {0}
FitInitial L j N (Initially place e) = Fit L j N [] true e

-- the shape of a place, and what the verifier asks of each place that has one
abbrev pub shape_at : List Note → ℕ → Option NotedShape
shape_at xs p = option_map (λ (x : Note). x.shape) (slice_get xs p)

-- the place is reached with this shape
abbrev pub At : List Note → ℕ → NotedShape → Type 0
At xs p s = shape_at xs p ≡ Some s

-- The code has shapes: at the start there is the base alone, and at each place stands an instruction that finds what it takes and asks for, and leads to
-- places that have the shape that it leaves there. So no run of the verifier leaves these shapes, and V1 to V5 hold wherever it comes.
pub record HasNotedShapes (instrs : List Instr) (xs : List Note) : Type 0 where
  pub begins : At xs 0 (start false)
  pub each : (p : ℕ) (s : NotedShape) → At xs p s
      → (i : Instr) × (slice_get instrs p ≡ Some i) × Fine (At xs) p i s

-- the code of a procedure is verified
abbrev pub CodesVerified : Type 0
CodesVerified = (L : Linkage) (j : ℕ) (N : SymbolTable) (i : Initial) (es : Trees) → FitInitial L j N i
    → FitAll L j N [] true es → HasNotedShapes (C.procedure N i es) (procedure N i es)
