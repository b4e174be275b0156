-- What every stack keeps: its registers and those that its cells saved are heights of cells of the right kind.
use Rattle.std.specs.Prelude.{◌≡◌, ℕ, suc, ◌+◌, ◌==◌, ◌≤◌, ◌<◌, Bool, true, false, List, [], ◌∷◌, length, map, Option, Some, None}
use Rattle.icn_frames.specs.Heights.{cell_at}
use Rattle.icn_frames.specs.declared.layout.Why.{Why}
use Rattle.icn_frames.specs.declared.layout.Why.TheVariants.{Scan}
use Rattle.icn_frames.specs.declared.layout.Registers.{Registers}
use Rattle.icn_frames.specs.declared.layout.Cell.{Cell}
use Rattle.icn_frames.specs.declared.layout.Cell.TheVariants.{Base, Call, Local, Mark, Limit, Suspension, Operand}
use Rattle.icn_frames.specs.Stacks.{FlatStack}

-- what callers see: the flat stack, and for how many more cells there is room
pub record SeenStack : Type 0 where
  pub flat : FlatStack
  pub spare : ℕ

-- a cell without what may change in its place; a frame has its number of locals
pub data CellKind : Type 0 where
  AFrame : ℕ → Option Registers → CellKind
  AMark : Registers → CellKind
  ASuspension : Bool → Registers → CellKind
  ALocal : CellKind
  AnOperand : CellKind

-- the suspension of an open scan
abbrev pub is_scan : Why → Bool
is_scan (Scan pair) = true
is_scan why = false

-- a cell without what may change in its place
abbrev pub shape : Cell → CellKind
shape (Base proc locals) = AFrame locals None
shape (Call proc locals level registers address) = AFrame locals (Some registers)
shape (Local value) = ALocal
shape (Mark label changed registers) = AMark registers
shape (Limit count registers) = AMark registers
shape (Suspension why registers address) = ASuspension (is_scan why) registers
shape (Operand item) = AnOperand

-- the registers that a cell saved, if it saved some
abbrev pub outer_of : CellKind → Option Registers
outer_of (AFrame locals registers) = registers
outer_of (AMark registers) = Some registers
outer_of (ASuspension scan registers) = Some registers
outer_of ALocal = None
outer_of AnOperand = None

-- how many operands are on top
abbrev pub operand_count : List CellKind → ℕ
operand_count (AnOperand ∷ shapes) = suc (operand_count shapes)
operand_count shapes = 0

-- a frame, of a call or the base
abbrev pub IsFramed : Option CellKind → Type 0
IsFramed (Some (AFrame locals registers)) = Unit {0}
IsFramed shape = ⊥

-- a mark, plain or of a limit
abbrev pub IsMarked : Option CellKind → Type 0
IsMarked (Some (AMark registers)) = Unit {0}
IsMarked shape = ⊥

-- a suspension, whatever it is for
abbrev pub IsSuspended : Option CellKind → Type 0
IsSuspended (Some (ASuspension scan registers)) = Unit {0}
IsSuspended shape = ⊥

-- the suspension of an open scan
abbrev pub IsScan : Option CellKind → Type 0
IsScan (Some (ASuspension true registers)) = Unit {0}
IsScan shape = ⊥

-- the number of locals of a frame, and 0 of anything else
abbrev pub count_of : Option CellKind → ℕ
count_of (Some (AFrame locals registers)) = locals
count_of shape = 0

-- the height of the highest cell below the operands of the innermost mark
abbrev pub bottom_from : Option ℕ → Bool → ℕ → ℕ → ℕ
bottom_from (Some height) at_base mark frame = height
bottom_from None true mark frame = frame
bottom_from None false mark frame = mark

-- the height of the highest cell below the operands of the innermost mark, by these registers
abbrev pub bottom : List CellKind → Registers → ℕ
bottom shapes r = bottom_from r.newest (r.mark == r.base) r.mark (r.base + count_of (cell_at r.base shapes))

-- a height at which there is something of a kind
pub record KindAt (Kind : Option CellKind → Type 0) (shapes : List CellKind) (height : ℕ) : Type 0 where
  pub from : 1 ≤ height
  pub to : height ≤ length shapes
  pub is : Kind (cell_at height shapes)

-- at this height, if one is given, there is something of a kind
abbrev pub MayBeAt : (Option CellKind → Type 0) → List CellKind → Option ℕ → Type 0
MayBeAt Kind shapes None = Unit {0}
MayBeAt Kind shapes (Some height) = KindAt Kind shapes height

-- a frame with its locals above it
pub record FrameAt (shapes : List CellKind) (height : ℕ) : Type 0 where
  pub from : 1 ≤ height
  pub to : height + count_of (cell_at height shapes) ≤ length shapes
  pub is : IsFramed (cell_at height shapes)
  pub locals : (k : ℕ) → k < count_of (cell_at height shapes) → cell_at (height + k + 1) shapes ≡ Some ALocal

-- the outermost mark is the frame
abbrev pub MarkOr : Bool → Option CellKind → Type 0
MarkOr true shape = Unit {0}
MarkOr false shape = IsMarked shape

-- where registers lead to
pub record RegistersLead (shapes : List CellKind) (r : Registers) : Type 0 where
  pub base : FrameAt shapes r.base
  pub mark : KindAt (MarkOr (r.mark == r.base)) shapes r.mark
  pub newest : MayBeAt IsSuspended shapes r.newest
  pub scan : MayBeAt IsScan shapes r.scan

-- and all above are operands of the innermost mark
pub record RegistersFit (shapes : List CellKind) (r : Registers) : Type 0 where
  pub leads : RegistersLead shapes r
  pub top : operand_count shapes + bottom shapes r ≡ length shapes

-- registers that were saved, if some were, fit the cells below
abbrev pub MaySave : List CellKind → Option Registers → Type 0
MaySave shapes None = Unit {0}
MaySave shapes (Some r) = RegistersFit shapes r

-- the registers that a cell has saved stand on the cells below it
abbrev pub Fit : List CellKind → Type 0
Fit [] = Unit {0}
Fit (x ∷ shapes) = MaySave shapes (outer_of x) × Fit shapes

-- the registers and all that cells saved are in order
pub record Sound (cells : List Cell) (r : Registers) : Type 0 where
  pub stands : RegistersFit (map shape cells) r
  pub fit : Fit (map shape cells)
