-- The shapes as the verifier has them.
use Rattle.std.specs.Prelude.{◌≡◌, ℕ, true, List, [], map, Option, Some}
use Rattle.std.specs.Option.{option_map}
use Rattle.icn_tree.specs.Trees.{Trees, Initial}
use Rattle.icn_verify.specs.declared.shape.Level.{Level as PlainLevel}
use Rattle.icn_verify.specs.declared.shape.LevelKind.{LevelKind}
use Rattle.icn_verify.specs.declared.shape.LevelKind.TheVariants as K
use Rattle.icn_verify.specs.Shapes.{PlainShape}
use Rattle.icn_verify.specs.Given as V
use Rattle.icn_verify.specs.ReachingShapes.{Reaches}
use Rattle.icn_verify.specs.Faults.{Breaks, LacksShape, IsSound}
use Rattle.icn_tree.specs.declared.rule.Rule.{Rule}
use Rattle.law_simulation.specs.Translation.{SymbolTable}
use Rattle.law_simulation.specs.Translation as C
use Rattle.law_simulation.specs.Linkage.{Linkage}
use Rattle.law_verified.specs.FittingTrees.{FitAll}
use Rattle.law_verified.specs.Noted.{NotedKind, Base, Marked, Limited, NotedLevel, NotedShape, Note, procedure}
use Rattle.law_verified.specs.TranslationLaws.{FitInitial, shape_at}

-- the kind of a level as the verifier has it
abbrev pub kind_of : NotedKind → LevelKind
kind_of Base = K.Base
kind_of Marked = K.Plain
kind_of Limited = K.Limit

-- a level as the verifier has it
abbrev pub plain_level : NotedLevel → PlainLevel
plain_level l = record { kind = kind_of l.kind; operands = l.operands; scans = l.scans }

-- a shape as the verifier has it
abbrev pub plain : NotedShape → PlainShape
plain s = record { in_create = s.in_create; inner = plain_level s.inner; outer = map plain_level s.outer }

-- the shape of a place, as the verifier has it
abbrev pub plain_at : List Note → ℕ → Option PlainShape
plain_at xs p = option_map plain (shape_at xs p)

-- the code of a procedure has the shapes that the verifier wants
abbrev pub CodesHaveShapes : Type 0
CodesHaveShapes = (L : Linkage) (j : ℕ) (N : SymbolTable) (i : Initial) (es : Trees) → FitInitial L j N i
    → FitAll L j N [] true es → V.HasShapes (C.procedure N i es) (plain_at (procedure N i es))

-- each shape that reaches a place of the code is the noted one
abbrev pub ReachedAsNoted : Type 0
ReachedAsNoted = (L : Linkage) (j : ℕ) (N : SymbolTable) (i : Initial) (es : Trees) → FitInitial L j N i
    → FitAll L j N [] true es → (p : ℕ) (t : PlainShape) → Reaches (C.procedure N i es) p t
    → plain_at (procedure N i es) p ≡ Some t

-- no rule is broken by the code, but for the second half of V2: that the shape that a backward label wants reaches the label
abbrev pub NearlySound : Type 0
NearlySound = (L : Linkage) (j : ℕ) (N : SymbolTable) (i : Initial) (es : Trees) → FitInitial L j N i
    → FitAll L j N [] true es → (p : ℕ) (rule : Rule) → Breaks (C.procedure N i es) p rule
    → LacksShape (C.procedure N i es) p

-- the code of a procedure keeps V1 to V5
abbrev pub CodesSound : Type 0
CodesSound = (L : Linkage) (j : ℕ) (N : SymbolTable) (i : Initial) (es : Trees) → FitInitial L j N i
    → FitAll L j N [] true es → IsSound (C.procedure N i es)
